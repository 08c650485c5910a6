-- `words::next` meets its contract: the columns are parts of the words. Assumes nothing.
use mathlib.Core.Path.{refl}
use Rattle.words.specs.Words.{desk_in}
use Rattle.words.proofs.next.Goals as goal

pub returns : goal.returns
unfolding desk_in
returns c = refl
