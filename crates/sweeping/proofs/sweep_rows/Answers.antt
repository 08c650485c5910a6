-- `sweeping::sweep_rows` meets its contract: no count is due at first, and at last each that is due is counted. Assumes nothing.
use borrow.Author.Rules.{rules}
use Prim.Native.Nat.{◌≤◌, ◌/◌}
use lib.ListN.{length}
use Rattle.kind.specs.Kind.{data_kind, undo_kind}
use Rattle.kind.proofs.Lengths.{all_lent}
use Rattle.sweeping.proofs.Dues.{none_due, starts_whole, ends}
use Rattle.ground.proofs.Once.{by_halves}
use Rattle.sweeping.proofs.sweep_rows.Goals as goal
use Rattle.sweeping.proofs.sweep_rows.Goals.{Start}

-- how many pages the areas have
module _ (c : goal.Start) where
  data_few : length c.args.«data».now / 8192 ≤ 64
  data_few = (all_lent (length c.args.«data».now) (length c.args.undo.now) (length c.args.sweep.status.bytes.now) c.requires.1).in_data.few

  undo_few : length c.args.undo.now / 8192 ≤ 64
  undo_few = (all_lent (length c.args.«data».now) (length c.args.undo.now) (length c.args.sweep.status.bytes.now) c.requires.1).in_undo.few

pub sweep_uncounted-removed-requires : goal.sweep_uncounted-removed-requires
sweep_uncounted-removed-requires c =
    (c.requires.0, c.requires.1, data_few (goal.at.sweep_uncounted-removed-requires c).Start, undo_few (goal.at.sweep_uncounted-removed-requires c).Start, starts_whole _ _ _ _ _ _ (none_due data_kind.most) (none_due undo_kind.most) c.requires.2)

pub tally-requires : goal.tally-requires
tally-requires c =
    let few = data_few (goal.at.tally-requires c).Start in
    (search rules, search rules)

pub tally-requires-2 : goal.tally-requires-2
tally-requires-2 c =
    let few = undo_few (goal.at.tally-requires-2 c).Start in
    (search rules, search rules)

pub returns : goal.returns
returns c =
    by_halves (λ p q. record { counts = p; leaves = q })
    (ends _ _ _ _ _ _ (none_due data_kind.most) (none_due undo_kind.most) _ _ c.sweep_uncounted-removed.ensures.counts c.sweep_uncounted-removed.ensures.leaves
    c.tally.ensures c.tally-2.ensures)
