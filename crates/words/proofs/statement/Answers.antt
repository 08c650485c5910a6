-- `words::statement` meets its contract: the columns are parts of the words. Assumes nothing.
use Rattle.words.proofs.Laws.{statement_at}
use Rattle.words.proofs.statement.Goals as goal

pub returns : goal.returns
returns c = statement_at _ _ c.requires
