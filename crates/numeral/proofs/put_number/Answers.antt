-- `numeral::put_number` meets its contract. Assumes nothing.
use mathlib.Core.Path.{sym, ap, ◌∙◌}
use native.Mathlib.Omega.{arith}
use lib.Seq.{sets}
use Rattle.numeral.proofs.Numbers.{lasts_numeral_of, sets_lasts, sets_lasts_end}
use Rattle.numeral.proofs.put_number.Goals as goal

pub loop-i-init : goal.loop-i-init
loop-i-init c = ap (sets _ _) (lasts_numeral_of _ c.places-n.ensures.0)

pub loop-i-preserved : goal.loop-i-preserved
loop-i-preserved c = sets_lasts _ _ _ _ (omega (arith, c.loop-i-test.true)) ∙ c.loop-i.invariant

pub returns-clause-leaves : goal.returns-clause-leaves
returns-clause-leaves c = sym (sets_lasts_end _ _ _ _ c.loop-i-test.false) ∙ c.loop-i.invariant
