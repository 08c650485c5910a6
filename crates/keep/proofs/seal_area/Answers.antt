-- `keep::seal_area` meets its contract. Assumes nothing.
use mathlib.Core.Path.{refl}
use Prim.Native.Nat.{◌*◌}
use native.Mathlib.Omega.{arith}
use Rattle.keep.specs.Whole.{sealed_area}
use Rattle.keep.proofs.Pages.{sealed_area_more, sealed_area_four}
use Rattle.keep.proofs.seal_area.Goals as goal

pub loop-q-init : goal.loop-q-init
unfolding sealed_area
loop-q-init c = refl

pub loop-q-preserved : goal.loop-q-preserved
loop-q-preserved c =
    sealed_area_four (4 * c.loop-q.q) _ c.args.s.now c.loop-q.s (omega arith) c.loop-q.invariant c.seal_four.ensures

pub loop-p-preserved : goal.loop-p-preserved
loop-p-preserved c =
    sealed_area_more c.loop-p.p _ c.args.s.now c.loop-p.s refl c.loop-p.invariant c.seal_page.ensures
