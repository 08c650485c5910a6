-- `freeing::tally` meets its contract. The loop's invariant: the first p pages are tallied. Assumes nothing.
use mathlib.Core.Path.{◌≡◌, refl, ap, ◌∙◌}
use native.Mathlib.Omega.{arith}
use lib.ListN.{length}
use Rattle.freeing.specs.Tally.{tallied_to}
use Rattle.freeing.proofs.Tallies.{tally_counts, tally_passes, tally_ends, length_tallied_to}
use Rattle.freeing.proofs.tally.Goals as goal
use Rattle.freeing.proofs.tally.Goals.{then-due-p-ne0, else-due-p-ne0, At-loop-p}

pub loop-p-init : goal.loop-p-init
unfolding tallied_to
loop-p-init c = refl

-- the area is as long as it was
long : (c : goal.At-loop-p) → length c.loop-p.s ≡ length c.args.s.now
long c =
    ap length c.loop-p.invariant ∙ length_tallied_to c.args.k c.args.due.now c.loop-p.p c.args.s.now

pub recount-requires : goal.recount-requires
recount-requires c =
    (omega (arith, long (goal.at.recount-requires c).At-loop-p), c.requires.1)

pub loop-p-preserved : goal.loop-p-preserved
loop-p-preserved c =
    elim c.if-due-p-ne0.branch [
      | then-due-p-ne0 w ↦ tally_counts _ _ _ _ c.loop-p.invariant w.if-due-p-ne0.true (w.s-is ∙ w.recount.ensures)
      | else-due-p-ne0 w ↦ tally_passes _ _ _ _ c.loop-p.invariant w.if-due-p-ne0.false w.s-is
    ]

pub shape_of-s : goal.shape_of-s
shape_of-s c = long (goal.at.shape_of-s c).At-loop-p

pub returns : goal.returns
returns c = tally_ends _ _ _ _ c.loop-p.invariant (omega arith)
