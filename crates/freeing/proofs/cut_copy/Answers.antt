-- `freeing::cut_copy` meets its contract. Assumes nothing.
use mathlib.Core.Path.{refl}
use Rattle.freeing.proofs.Tallies.{cut_copy_tallied}
use Rattle.freeing.proofs.cut_copy.Goals as goal

pub returns : goal.returns
returns c =
    cut_copy_tallied _ _ _ refl c.requires.0 c.requires.1 _ c.write_copy.ensures
