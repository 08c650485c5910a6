-- `words::spoil` meets its contract: one word is set. Assumes nothing.
use Rattle.words.proofs.Laws.{spoil_said}
use Rattle.words.proofs.spoil.Goals as goal

pub returns : goal.returns
returns c = spoil_said _ _ c.requires
