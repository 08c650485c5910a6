-- `numeral::put_body` meets its contract. Assumes nothing.
use mathlib.Core.Path.{sym, ◌∙◌}
use Rattle.numeral.proofs.Bodies.{sets_hex_of, sets_hex_of_end}
use Rattle.numeral.proofs.put_body.Goals as goal

pub loop-i-preserved : goal.loop-i-preserved
loop-i-preserved c = sets_hex_of _ _ _ _ c.loop-i-test.true c.glyph.ensures c.glyph-in-loop-i.ensures ∙ c.loop-i.invariant

pub returns : goal.returns
returns c = sym (sets_hex_of_end _ _ _ _ c.loop-i-test.false) ∙ c.loop-i.invariant
