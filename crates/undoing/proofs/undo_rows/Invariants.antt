-- `undoing::undo_rows` meets its contract. The loop's invariant: the rule from here on, in the areas as they are, is the rule from the
-- start. Assumes nothing.
use mathlib.Core.Path.{◌≡◌}
use Prim.Native.Nat.{◌-◌}
use Rattle.kind.specs.Kind.{rows}
use Rattle.kind.specs.Areas.{both}
use Rattle.undoing.specs.Undoing.{undone_from}
use Rattle.undoing.proofs.undo_rows.Given as goal

abbrev pub invariant-loop-r : goal.invariant-loop-r
invariant-loop-r l =
    undone_from l.since.number l.since.statement l.r (l.r-end - l.r) (both l.data l.undo)
    ≡ undone_from l.since.number l.since.statement 0 (rows l.initial.data) (both l.initial.data l.initial.undo)
