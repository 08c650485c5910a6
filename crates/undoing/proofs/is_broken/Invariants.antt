-- `undoing::is_broken` meets its contract. The outer loop's invariant: in no row before this one is a break met. The inner loop's: from
-- here on the walk that counts says whether one is met in this row. Assumes nothing.
use mathlib.Core.Path.{◌≡◌}
use mathlib.Core.Bool.{true}
use Prim.Native.Nat.{suc, ◌-◌, ◌≤◌}
use Rattle.ground.specs.Range.{all_below}
use Rattle.kind.specs.Kind.{entries}
use Rattle.chain.specs.Chain.{link_of}
use Rattle.seeking.specs.Seeking.{is_broken}
use Rattle.undoing.specs.Undoing.{broken_row}
use Rattle.undoing.proofs.Breaks.{fine, walked}
use Rattle.undoing.proofs.is_broken.Given as goal

abbrev pub invariant-loop-n : goal.invariant-loop-n
invariant-loop-n l =
    (1 ≤ l.looked)
    × (l.looked ≤ suc l.most)
    × (is_broken (walked l.since.number l.since.statement l.undo l.r (entries l.undo) l.looked (link_of l.undo l.r l.ptr)) ≡ broken_row l.since.number l.since.statement l.data l.undo l.r)

abbrev pub decreases-loop-n : goal.decreases-loop-n
decreases-loop-n l = suc l.most - l.looked

abbrev pub invariant-rows : goal.invariant-rows
invariant-rows l = (l.r ≤ l.rows) × (all_below (fine l.since.number l.since.statement l.data l.undo) l.r ≡ true)

abbrev pub decreases-rows : goal.decreases-rows
decreases-rows l = l.rows - l.r
