-- `doubt::search_copies` meets its contract: the copy that is there. Assumes nothing.
use native.Mathlib.Omega.{arith}
use Rattle.doubt.proofs.Looks.{stands_found}
use Rattle.doubt.proofs.search_copies.Goals as goal

pub returns-then-is_there : goal.returns-then-is_there
returns-then-is_there c =
    stands_found _ _ _ _ _ _ c.loop-e.invariant c.follow.ensures c.in-To.is (omega arith) c.in_doubt-noted.ensures c.is_there.ensures c.stamp_of.ensures _ (omega arith) c.if-is_there.true c.unless_doubted-found-then-is_there.ensures
