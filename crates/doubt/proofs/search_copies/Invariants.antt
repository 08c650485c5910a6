-- `doubt::search_copies` meets its contract: where its loop stands. Assumes nothing.
use Prim.Native.Nat.{suc, ◌-◌}
use Rattle.sight.specs.Sight.{said_view}
use Rattle.doubt.proofs.Looks.{Stands}
use Rattle.doubt.proofs.search_copies.Given as goal

abbrev pub invariant-loop-e : goal.invariant-loop-e
invariant-loop-e l =
    Stands l.undo l.status.bytes.now (said_view l.view) l.row l.first l.met l.most l.looked l.ptr l.noted

abbrev pub decreases-loop-e : goal.decreases-loop-e
decreases-loop-e l = suc l.most - l.looked
