-- `trimming::sweep_row` meets its contract, by the cases of the slot, which is that of the area tallied. Assumes nothing.
use borrow.Author.Rules.{rules}
use mathlib.Core.Path.{◌≡◌, sym, ◌∙◌}
use Prim.Native.Nat.{◌≤◌}
use native.Mathlib.Omega.{arith}
use Rattle.kind.specs.Kind.{data_kind, undo_kind, entries}
use Rattle.records.specs.Slot.{slot_at}
use Rattle.freeing.specs.Tally.{tallied}
use Rattle.freeing.proofs.Tallies.{length_tallied, slot_at_tallied}
use Rattle.trimming.proofs.Sweeps.{rest_few, row_empty, row_whole, row_dead, row_behind}
use Rattle.ground.proofs.Once.{by_halves}
use Rattle.trimming.proofs.sweep_row.Goals as goal
use Rattle.trimming.proofs.sweep_row.Goals.{After-read_slot-m}

-- the slot read
slot : (c : goal.After-read_slot-m)
    →
    c.read_slot-m.result ≡ slot_at c.args.r (tallied data_kind c.args.data_due.now c.args.«data».now)
slot c =
    c.read_slot-m.ensures ∙ sym (slot_at_tallied data_kind c.args.data_due.now c.args.«data».now c.args.r)

pub returns-then-m-eq0 : goal.returns-then-m-eq0
returns-then-m-eq0 c =
    by_halves (λ p q. record { counts = p; leaves = q })
    (row_empty _ _ _ _ _ (slot (goal.at.returns-then-m-eq0 c).After-read_slot-m) c.if-m-eq0.true)

pub overflow_add-result : goal.overflow_add-result
overflow_add-result c =
    let long = length_tallied undo_kind c.args.undo_due.now c.args.undo.now in
    let few : c.free_rest-n.result ≤ entries c.args.undo.now = omega (arith, long, rest_few _ _ _ c.free_rest-n.ensures.counts) in
    search rules

pub returns-then-is_dead : goal.returns-then-is_dead
returns-then-is_dead c =
    by_halves (λ p q. record { counts = p; leaves = q })
    (row_dead _ _ _ _ _ (slot (goal.at.returns-then-is_dead c).After-read_slot-m) c.if-m-eq0.false c.is_dead.ensures c.if-is_dead.true
    c.free_rest-n.ensures.counts c.free_rest-n.ensures.leaves c.sweep_slot.ensures)

pub sweep_behind-requires : goal.sweep_behind-requires
sweep_behind-requires c = (
  c.requires.0,
  c.requires.1,
  c.requires.2,
  row_whole _ _ _ (slot (goal.at.sweep_behind-requires c).After-read_slot-m) c.if-m-eq0.false c.requires.3,
)

pub returns : goal.returns
returns c =
    by_halves (λ p q. record { counts = p; leaves = q })
    (row_behind _ _ _ _ _ (slot (goal.at.returns c).After-read_slot-m) c.if-m-eq0.false c.is_dead.ensures c.if-is_dead.false c.sweep_behind.ensures.counts
    c.sweep_behind.ensures.leaves)
