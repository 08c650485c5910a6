-- `vacant::lowest_in` meets its contract. The invariant: the search from record i on is that of the whole page. Assumes nothing.
use mathlib.Core.Path.{◌≡◌}
use Prim.Native.Nat.{◌-◌}
use Rattle.ground.specs.Range.{first_from}
use Rattle.vacant.proofs.Vacants.{idle}
use Rattle.vacant.proofs.lowest_in.Given as goal

abbrev pub invariant-loop-i : goal.invariant-loop-i
invariant-loop-i l =
    first_from (idle l.k.size l.page) l.i (l.k.count - l.i) ≡ first_from (idle l.k.size l.page) 0 l.k.count
