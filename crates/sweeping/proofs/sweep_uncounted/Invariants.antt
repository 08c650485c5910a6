-- `sweeping::sweep_uncounted` meets its contract. The loop's invariant: from here on the rule does what it does from the first row on, of
-- the areas tallied; that the rows to come still have no break is the independence of rows. Assumes nothing.
use Prim.Native.Nat.{◌≤◌, ◌-◌, ◌*◌}
use Rattle.freeing.specs.Tally.{tallied_both}
use Rattle.sweeping.proofs.Treats.{Upto}
use Rattle.sweeping.proofs.sweep_uncounted.Given as goal

abbrev pub invariant-loop-r : goal.invariant-loop-r
invariant-loop-r l =
    (l.removed ≤ (l.r - l.first) * 6465)
    × Upto l.sweep.mark l.sweep.status.bytes.now l.first l.n (tallied_both l.initial.data_due l.initial.data l.initial.undo_due l.initial.undo) (tallied_both l.data_due l.data l.undo_due l.undo) l.r l.removed
