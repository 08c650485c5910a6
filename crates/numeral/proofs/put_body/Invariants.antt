-- `numeral::put_body` meets its contract. The invariant: the digits of the bytes from here on are all that is yet to be stored. Assumes nothing.
use mathlib.Core.Path.{◌≡◌}
use Prim.Native.Nat.{◌+◌, ◌*◌}
use lib.ListN.{drop}
use lib.Seq.{sets}
use Rattle.numeral.specs.Numeral.{hex_of}
use Rattle.numeral.proofs.put_body.Given as goal

abbrev pub invariant-loop-i : goal.invariant-loop-i
invariant-loop-i l = sets l.out (l.at + 2 * l.i) (hex_of (drop l.i l.body)) ≡ sets l.initial.out l.at (hex_of l.body)
