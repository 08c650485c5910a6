-- `words::lent` meets its contract: the columns are parts of the words. Assumes nothing.
use Rattle.words.proofs.Copies.{desk_said}
use Rattle.words.proofs.lent.Goals as goal

pub returns : goal.returns
returns c = desk_said _ _ _ _ _ c.part.ensures c.part-2.ensures c.part-3.ensures c.part-4.ensures
