-- `words::is_spoiled` meets its contract: the columns are parts of the words. Assumes nothing.
use Rattle.words.proofs.Laws.{spoiled_at_lem}
use Rattle.words.proofs.is_spoiled.Goals as goal

pub returns : goal.returns
returns c = spoiled_at_lem _ _ c.requires
