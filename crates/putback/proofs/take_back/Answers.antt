-- `putback::take_back` meets its contract. The loop's invariant: the rule from here on, in the areas as they are, is the rule from the
-- start; an entry that was freed need not be remembered as passed. Assumes nothing.
use mathlib.Core.Path.{◌≡◌, sym, ◌∙◌}
use Prim.Native.Nat.{suc, ◌+◌, ◌-◌, ◌<◌}
use native.Mathlib.Omega.{arith}
use Rattle.kind.specs.Kind.{entries}
use Rattle.chain.specs.declared.Link.TheVariants.{To}
use Rattle.chain.specs.Chain.{link_of}
use Rattle.chain.proofs.Links.{link_real}
use Rattle.putback.proofs.PutBacks.{take_start, take_on, take_put, take_out, take_end}
use Rattle.putback.proofs.take_back.Goals as goal
use Rattle.putback.proofs.take_back.Goals.{In-To, else-loop-test, then-loop-test+in_default}

-- ---- where the link leads to an entry

module _ (c : goal.In-To) where
  led : link_of c.loop.undo c.args.r c.loop.ptr ≡ To c.in-To.e c.in-To.m
  led = sym c.follow.ensures ∙ c.in-To.is

  more : c.entries-end.result - c.loop.counter ≡ suc (c.entries-end.result - (c.loop.counter + 1))
  more = omega (arith, c.loop-test.true)

  inside : c.in-To.e < entries c.loop.undo
  inside = (link_real _ _ _ _ _ led).inside

pub loop-init : goal.loop-init
loop-init c = take_start _ _ _ _ _ _ (omega (arith, c.entries-end.ensures))

pub put_back-requires : goal.put_back-requires
put_back-requires c =
    (omega (arith, c.requires, c.loop.auto.«data»), inside (goal.at.put_back-requires c).In-To)

pub returns-then-not-is : goal.returns-then-not-is
returns-then-not-is c =
    take_put _ _ _ _ _ _ _ _ _ (led (goal.at.returns-then-not-is c).In-To) (more (goal.at.returns-then-not-is c).In-To) c.is.ensures c.put_back.ensures.leaves_undo (c.if-not-is.true) c.put_back.ensures.leaves_data
    ∙ c.loop.invariant

pub free_entry-requires : goal.free_entry-requires
free_entry-requires c = omega (arith, inside (goal.at.free_entry-requires c).In-To)

pub loop-preserved : goal.loop-preserved
loop-preserved c =
    take_on _ _ _ _ _ _ _ _ _ (led (goal.at.loop-preserved c).In-To) (more (goal.at.loop-preserved c).In-To) c.is.ensures c.free_entry.ensures (c.if-not-is.false) ∙ c.loop.invariant

pub returns : goal.returns
returns c = elim c.loop-test.branch [
  | else-loop-test w ↦ take_out _ _ _ _ _ _ _ c.empty_slot.ensures (omega (arith, w.loop-test.false)) ∙ c.loop.invariant
  | then-loop-test+in_default w ↦
      take_end _ _ _ _ _ _ _ c.empty_slot.ensures w.follow.ensures w.in_default.not-To ∙ c.loop.invariant
]
