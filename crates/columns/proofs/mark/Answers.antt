-- `columns::mark` meets its contract. Assumes nothing.
use Rattle.columns.specs.Columns.{mark_of}
use Rattle.columns.proofs.mark.Goals as goal

pub returns : goal.returns
unfolding mark_of
returns c = cc
