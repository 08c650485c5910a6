-- `trimming::sweep_behind` meets its contract. The loop's invariant: what goes behind the version at which the walk stands is what goes
-- behind the slot, of the areas tallied, and nothing is written yet. Assumes nothing.
use borrow.Author.Rules.{rules}
use mathlib.Core.Path.{◌≡◌, sym, ◌∙◌}
use Prim.Native.Nat.{suc, ◌+◌, ◌-◌, ◌≤◌}
use native.Mathlib.Omega.{arith}
use lib.ListN.{length}
use Rattle.kind.specs.Kind.{data_kind, undo_kind, entries}
use Rattle.chain.specs.declared.Link.TheVariants.{To}
use Rattle.chain.specs.Chain.{link_of}
use Rattle.freeing.specs.Tally.{tallied}
use Rattle.freeing.proofs.Tallies.{length_tallied}
use Rattle.trimming.proofs.Tallied.{link_of_tallied}
use Rattle.trimming.proofs.Behinds.{inside_long, stays_start, stays_end, stays_out, stays_next, goes_counts, goes_leaves}
use Rattle.ground.proofs.Once.{by_halves}
use Rattle.trimming.proofs.sweep_behind.Goals as goal
use Rattle.trimming.proofs.sweep_behind.Goals.{At-loop, In-To}

-- the areas tallied are as long as the areas
module _ (c : goal.At-loop) where
  long_data : length (tallied data_kind c.loop.data_due c.loop.«data») ≡ length c.loop.«data»
  long_data = length_tallied data_kind c.loop.data_due c.loop.«data»

  long_undo : length (tallied undo_kind c.loop.undo_due c.loop.undo) ≡ length c.loop.undo
  long_undo = length_tallied undo_kind c.loop.undo_due c.loop.undo

-- where the link leads to an entry
module _ (c : goal.In-To) where
  led : link_of (tallied undo_kind c.loop.undo_due c.loop.undo) c.args.r c.loop.newer.undo_ptr ≡ To c.in-To.e c.in-To.next
  led = link_of_tallied undo_kind _ _ _ _ ∙ sym c.follow.ensures ∙ c.in-To.is

  more : c.entries-end.result - c.loop.counter ≡ suc (c.entries-end.result - (c.loop.counter + 1))
  more = omega (arith, c.loop-test.true)

  few : c.entries-end.result - c.loop.counter ≤ entries (tallied undo_kind c.loop.undo_due c.loop.undo)
  few = omega (arith, long_undo (goal.at.In-To c).At-loop)

pub loop-init : goal.loop-init
loop-init c =
    let data_long = length_tallied data_kind c.args.data_due.now c.args.«data».now in
    let undo_long = length_tallied undo_kind c.args.undo_due.now c.args.undo.now in
    stays_start _ _ _ _ _ _ (omega (arith, undo_long)) (omega (arith, c.requires.0, data_long)) c.requires.3

pub returns-in_default : goal.returns-in_default
returns-in_default c =
    by_halves (λ p q. record { counts = p; leaves = q })
    (stays_end _ _ _ _ _ _ _ _ _ _ _ c.loop.invariant (c.follow.ensures ∙ sym (link_of_tallied undo_kind _ _ _ _)) c.in_default.not-To)

pub cut-requires : goal.cut-requires
cut-requires c =
    let long : length c.free_rest-n.new.undo ≡ length c.loop.undo = search rules in (
      inside_long c.loop.at _ _ _ _ (sym (long_data (goal.at.cut-requires c).At-loop)) (long ∙ sym (long_undo (goal.at.cut-requires c).At-loop)) c.loop.invariant.within,
      search rules,
      search rules,
    )

pub returns-then-is_dead : goal.returns-then-is_dead
returns-then-is_dead c =
    let to = (goal.at.returns-then-is_dead c).In-To in
    let dead = sym c.is_dead.ensures ∙ c.if-is_dead.true in record {
      counts = goes_counts _ _ _ _ _ _ _ _ _ _ _ c.loop.invariant _ _ (more to) (led to) (few to) dead c.free_rest-n.ensures.counts;
      leaves = goes_leaves _ _ _ _ _ _ _ _ _ _ _ c.loop.invariant _ _ (more to) (led to) (few to) dead c.free_rest-n.ensures.leaves c.cut.ensures;
    }

pub loop-preserved : goal.loop-preserved
loop-preserved c =
    let to = (goal.at.loop-preserved c).In-To in
    stays_next _ _ _ _ _ _ _ _ _ _ _ c.loop.invariant _ _ (more to) (led to) (sym c.is_dead.ensures ∙ c.if-is_dead.false)

pub returns : goal.returns
returns c =
    by_halves (λ p q. record { counts = p; leaves = q })
    (stays_out _ _ _ _ _ _ _ _ _ _ _ c.loop.invariant (omega arith))
