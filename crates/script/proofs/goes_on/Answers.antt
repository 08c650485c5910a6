-- `script::goes_on` meets its contract: by whether the line has ended. Assumes nothing.
use native.Mathlib.Omega.{arith}
use Rattle.lines.proofs.Ends.{line_order, ended_end}
use Rattle.script.proofs.Goings.{goes_unended}
use Rattle.script.proofs.goes_on.Goals as goal

pub command_in-command-requires : goal.command_in-command-requires
command_in-command-requires c =
    (line_order _ _ _ c.requires.0, omega (arith, (ended_end _ _ _ c.requires.0 c.if-line.true).0))

pub rest-requires : goal.rest-requires
rest-requires c = (line_order _ _ _ c.requires.0, c.requires.2)

pub returns : goal.returns
returns c = goes_unended _ _ _ _ _ _ _ _ _ c.requires.0 c.requires.1 c.if-line.false c.rest.ensures.inside c.rest.ensures.rests
