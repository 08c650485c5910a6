-- `page::count::items` meets its contract. The invariant: n records of the first i are in use. Assumes nothing.
use mathlib.Core.Path.{◌≡◌}
use Prim.Native.Nat.{◌≤◌}
use Rattle.ground.specs.Range.{count_below}
use Rattle.page.specs.Count.{in_use}
use Rattle.page.proofs.count.items.Given as goal

abbrev pub invariant-loop-i : goal.invariant-loop-i
invariant-loop-i l = (l.n ≤ l.i) × (l.n ≡ count_below (in_use l.k.size l.page) l.i)
