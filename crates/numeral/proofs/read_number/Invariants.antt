-- `numeral::read_number` meets its contract. The invariant: the number from here on, behind digits that said so much, is that of the
-- whole field. Assumes nothing.
use mathlib.Core.Path.{◌≡◌}
use Prim.Native.Nat.{◌<◌, ◌^◌}
use lib.ListN.{drop}
use Rattle.numeral.specs.Numeral.{number_in}
use Rattle.numeral.proofs.Numbers.{number_from}
use Rattle.numeral.proofs.read_number.Given as goal

abbrev pub invariant-loop-b : goal.invariant-loop-b
invariant-loop-b l = (l.said < 2 ^ 64) × (number_from l.said (drop l.b-index l.field) ≡ number_in l.field)
