-- `undoing::undo_rows` meets its contract. The loop's invariant: the rule from here on, in the areas as they are, is the rule from the
-- start. Assumes nothing.
use mathlib.Core.Path.{◌∙◌}
use native.Mathlib.Omega.{arith}
use Rattle.undoing.proofs.Rounds.{rows_start, rows_on, rows_end}
use Rattle.undoing.proofs.undo_rows.Goals as goal

pub loop-r-init : goal.loop-r-init
loop-r-init c = rows_start _ _ _ _ c.rows-r-end.ensures

pub undo_row-requires : goal.undo_row-requires
undo_row-requires c =
    (omega (arith, c.loop-r-test.true, c.loop-r.auto.«data», c.rows-r-end.ensures), c.requires)

pub loop-r-preserved : goal.loop-r-preserved
loop-r-preserved c = rows_on _ _ _ _ _ _ c.loop-r-test.true c.undo_row.ensures ∙ c.loop-r.invariant

pub returns : goal.returns
returns c = rows_end _ _ _ _ _ _ c.loop-r-test.false ∙ c.loop-r.invariant
