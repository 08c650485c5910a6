-- `undoing::is_broken` meets its contract. The outer loop's invariant: in no row before this one is a break met. The inner loop's: from
-- here on the walk that counts says whether one is met in this row. Assumes nothing.
use borrow.Author.Rules.{rules}
use mathlib.Core.Path.{◌≡◌}
use mathlib.Core.Bool.{true}
use Prim.Native.Nat.{◌+◌, ◌<◌, ◌^◌}
use native.Mathlib.Omega.{arith}
use Rattle.ground.proofs.Ranges.{all_more}
use Rattle.kind.specs.Kind.{entries}
use Rattle.undoing.specs.Undoing.{broken_row, some_broken}
use Rattle.undoing.proofs.Breaks.{none_looked, none_broken, one_broken, row_other, row_start, row_end, row_break, row_out, row_found, row_on}
use Rattle.undoing.proofs.is_broken.Goals as goal
use Rattle.undoing.proofs.is_broken.Goals.{then-own+in-End, then-own+in-To+else-looked-most+then-not-still, else-own, After-entries-most, After-is-own}

-- an area is so short that its entries can be counted
countable : (c : goal.After-entries-most) → entries c.args.undo.now + 1 < 2 ^ 64
countable c = search rules

-- ---- the answer

-- where a break is met in the row
met : (c : goal.After-is-own)
    →
    broken_row c.args.since.number c.args.since.statement c.args.«data».now c.args.undo.now c.rows.r ≡ true
    → true ≡ some_broken c.args.since.number c.args.since.statement c.args.«data».now c.args.undo.now
met c h = one_broken _ _ _ _ _ (omega arith) h

pub rows-init : goal.rows-init
rows-init c = (omega arith, none_looked _ _ _ _)

pub loop-n-init : goal.loop-n-init
loop-n-init c =
    (omega arith, omega arith, row_start _ _ _ _ _ c.read_slot-m.ensures c.is-own.ensures c.if-own.true c.requires)

pub overflow_add-looked : goal.overflow_add-looked
overflow_add-looked c =
    let few = countable (goal.at.overflow_add-looked c).After-entries-most in
    search (rules, few, c.if-looked-most.false)

pub loop-n-preserved : goal.loop-n-preserved
loop-n-preserved c = (
  omega arith,
  omega arith,
  row_on _ _ _ _ _ _ _ c.loop-n.invariant.2 c.follow-l.ensures _ _ c.in-To.is (omega (arith, c.if-looked-most.false, c.entries-most.ensures)) c.is-still.ensures (c.if-not-still.false),
)

pub rows-preserved : goal.rows-preserved
rows-preserved c = (
  omega arith,
  all_more _ _ c.rows.invariant.1
      (elim c.if-own.branch [
        | then-own+in-End w ↦ row_end _ _ _ _ _ _ _ w.loop-n.invariant.2 w.follow-l.ensures w.in-End.is
        | then-own+in-To+else-looked-most+then-not-still w ↦
            row_found _ _ _ _ _ _ _ w.loop-n.invariant.2 w.follow-l.ensures _ _ w.in-To.is (omega (arith, w.if-looked-most.false)) w.is-still.ensures w.if-not-still.true
        | else-own w ↦ row_other _ _ _ _ _ c.read_slot-m.ensures c.is-own.ensures w.if-own.false
      ]),
)

pub returns-then-r-rows : goal.returns-then-r-rows
returns-then-r-rows c = none_broken _ _ _ _ _ (omega (arith, c.rows.invariant.0, c.if-r-rows.true)) c.rows.invariant.1

pub returns-in-Break : goal.returns-in-Break
returns-in-Break c =
    met (goal.at.returns-in-Break c).After-is-own (row_break _ _ _ _ _ _ _ c.loop-n.invariant.2 c.follow-l.ensures c.in-Break.is)

pub returns-then-looked-most : goal.returns-then-looked-most
returns-then-looked-most c =
    met (goal.at.returns-then-looked-most c).After-is-own (row_out _ _ _ _ _ _ _ c.loop-n.invariant.2 c.follow-l.ensures _ _ c.in-To.is (omega (arith, c.if-looked-most.true)))
