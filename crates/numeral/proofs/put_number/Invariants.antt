-- `numeral::put_number` meets its contract. The invariant: the digits left, those of `rest`, are all that is yet to be stored. Assumes nothing.
use mathlib.Core.Path.{◌≡◌}
use lib.Seq.{sets}
use Rattle.numeral.specs.Numeral.{numeral_of}
use Rattle.numeral.proofs.Numbers.{lasts}
use Rattle.numeral.proofs.put_number.Given as goal

abbrev pub invariant-loop-i : goal.invariant-loop-i
invariant-loop-i l = sets l.out l.at (lasts l.i l.rest) ≡ sets l.initial.out l.at (numeral_of l.v)
