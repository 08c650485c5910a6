-- `trimming::free_rest` meets its contract. The loop's invariant: freeing the rest of the chain from here on leaves what freeing it from
-- the first pointer on does, of the area tallied. Assumes nothing.
use Rattle.kind.specs.Kind.{undo_kind, entries}
use Rattle.freeing.specs.Tally.{tallied}
use Rattle.trimming.proofs.Rests.{Freed}
use Rattle.trimming.proofs.free_rest.Given as goal

abbrev pub invariant-loop-n : goal.invariant-loop-n
invariant-loop-n l =
    Freed (tallied undo_kind l.initial.due l.initial.undo) l.r l.first (entries (tallied undo_kind l.initial.due l.initial.undo)) (tallied undo_kind l.due l.undo) l.ptr l.n
