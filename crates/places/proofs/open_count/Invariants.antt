-- `places::open_count` meets its contract. The loop's invariant: `n` is the count of the places passed. Assumes nothing.
use mathlib.Core.Path.{◌≡◌}
use mathlib.Core.Bool.{not}
use Prim.Native.Nat.{ℕ}
use lib.Dec.{eqb}
use lib.ListN.{take}
use Rattle.std.specs.List.{count_by}
use Rattle.places.proofs.open_count.Given as goal

abbrev pub invariant-loop-number : goal.invariant-loop-number
invariant-loop-number l = l.n ≡ count_by (λ (x : ℕ). not (eqb x 0)) (take l.number-index l.numbers)
