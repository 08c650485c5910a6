-- `trimming::sweep_behind` meets its contract. The loop's invariant: what goes behind the version at which the walk stands is what goes
-- behind the slot, of the areas tallied, and nothing is written yet. Assumes nothing.
use Prim.Native.Nat.{◌-◌}
use Rattle.kind.specs.Kind.{data_kind, undo_kind}
use Rattle.freeing.specs.Tally.{tallied}
use Rattle.trimming.proofs.Behinds.{Stays}
use Rattle.trimming.proofs.sweep_behind.Given as goal

abbrev pub invariant-loop : goal.invariant-loop
invariant-loop l =
    Stays l.sweep.mark l.sweep.status.bytes.now (tallied data_kind l.initial.data_due l.initial.data) (tallied undo_kind l.initial.undo_due l.initial.undo) l.r l.initial.newer (tallied data_kind l.data_due l.data)
    (tallied undo_kind l.undo_due l.undo) (l.end - l.counter) l.at l.newer
