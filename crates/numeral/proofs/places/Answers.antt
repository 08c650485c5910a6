-- `numeral::places` meets its contract. Assumes nothing.
use mathlib.Core.Path.{sym}
use native.Mathlib.Omega.{arith}
use Rattle.numeral.proofs.Numbers.{numeral_long, numeral_zero}
use Rattle.numeral.proofs.places.Goals as goal

pub returns-in-Some : goal.returns-in-Some
returns-in-Some c =
    let power = c.in-Some.ensures in
    (sym (numeral_long _ _ power.bound power.power_le power.next_power_gt), omega (arith, power.bound))

pub returns-in-None : goal.returns-in-None
returns-in-None c = (sym (numeral_zero _ (c.in-None.ensures).none), omega arith)
