-- `sweeping::sweep_uncounted` meets its contract. The loop's invariant: from here on the rule does what it does from the first row on, of
-- the areas tallied; that the rows to come still have no break is the independence of rows. Assumes nothing.
use Prim.Native.Nat.{◌+◌, ◌≤◌, ◌/◌}
use native.Mathlib.Omega.{arith}
use lib.ListN.{length}
use Rattle.kind.specs.Kind.{undo_kind}
use Rattle.kind.specs.Areas.{both}
use Rattle.kind.proofs.Lengths.{all_lent}
use Rattle.freeing.specs.Tally.{tallied}
use Rattle.freeing.proofs.Tallies.{length_tallied}
use Rattle.strands.specs.Strands.{RowsIn}
use Rattle.sweeping.proofs.Treats.{inside, ready, upto_start, upto_whole, upto_next, upto_end, gone_few}
use Rattle.sweeping.proofs.Dues.{inside_tallied}
use Rattle.ground.proofs.Once.{by_halves}
use Rattle.sweeping.proofs.sweep_uncounted.Goals as goal
use Rattle.sweeping.proofs.sweep_uncounted.Goals.{After-sweep_row-removed, Start}

-- how many pages the areas have
module _ (c : goal.Start) where
  data_few : length c.args.«data».now / 8192 ≤ 64
  data_few = (all_lent (length c.args.«data».now) (length c.args.undo.now) (length c.args.sweep.status.bytes.now) c.requires.1).in_data.few

  undo_few : length c.args.undo.now / 8192 ≤ 64
  undo_few = (all_lent (length c.args.«data».now) (length c.args.undo.now) (length c.args.sweep.status.bytes.now) c.requires.1).in_undo.few

-- how many versions went from a row
gone : (c : goal.After-sweep_row-removed) → c.sweep_row-removed.result ≤ 6465
gone c =
    let u = tallied undo_kind c.loop-r.undo_due c.loop-r.undo in
    let few : length u / 8192 ≤ 64 = omega (arith, undo_few (goal.at.After-sweep_row-removed c).Start, c.loop-r.auto.undo, length_tallied undo_kind c.loop-r.undo_due c.loop-r.undo) in
    gone_few _ _ _ u _ c.sweep_row-removed.ensures.counts few

pub loop-r-init : goal.loop-r-init
loop-r-init c =
    let lent : RowsIn (c.args.first + c.args.n) (both c.args.«data».now c.args.undo.now)
    = inside _ _ c.args.first c.args.n c.requires.0 (λ i. omega (arith, c.type_inv.«data» i)) (λ i. omega (arith, c.type_inv.undo i)) in
    (omega arith, upto_start _ _ _ _ _ (ready _ _ _ _ (inside_tallied _ _ _ _ _ _ lent) c.requires.4))

pub sweep_row-removed-requires : goal.sweep_row-removed-requires
sweep_row-removed-requires c = (
  omega (arith, c.requires.0, c.loop-r.auto.«data», c.loop-r-test.true),
  omega (arith, c.requires.2, c.loop-r.auto.«data», c.loop-r.auto.data_due),
  omega (arith, c.requires.3, c.loop-r.auto.undo, c.loop-r.auto.undo_due),
  upto_whole _ _ _ _ _ _ _ _ c.loop-r.invariant.1 c.loop-r-test.true,
)

pub overflow_add-removed : goal.overflow_add-removed
overflow_add-removed c =
    let few = gone (goal.at.overflow_add-removed c).After-sweep_row-removed in
    let pages = data_few (goal.at.overflow_add-removed c).Start in
    omega (arith, few, pages, c.loop-r.invariant.0, c.requires.0, c.loop-r-test.true)

pub loop-r-preserved : goal.loop-r-preserved
loop-r-preserved c = (
  omega (arith, gone (goal.at.loop-r-preserved c).After-sweep_row-removed, c.loop-r.invariant.0, c.loop-r.auto.r),
  upto_next _ _ _ _ _ _ _ _ c.loop-r.invariant.1 c.loop-r-test.true c.sweep_row-removed.ensures.counts c.sweep_row-removed.ensures.leaves,
)

pub returns : goal.returns
returns c =
    by_halves (λ p q. record { counts = p; leaves = q })
    (upto_end _ _ _ _ _ _ _ _ c.loop-r.invariant.1 c.loop-r-test.false)
