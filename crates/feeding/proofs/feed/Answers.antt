-- `feeding::feed` keeps what its rounds require: there is room behind what is kept. Assumes nothing.
use native.Mathlib.Omega.{arith}
use Rattle.line.specs.Line.{longest as longest_line}
use Rattle.reply.specs.Reply.{longest as longest_answer}
use Rattle.feeding.proofs.feed.Goals as goal

pub round-f-requires : goal.round-f-requires
unfolding longest_line longest_answer
round-f-requires g c =
    (omega (arith, c.loop.invariant.0, c.loop.invariant.1), omega (arith, c.loop.invariant.1), omega (arith, c.loop.invariant.2))
