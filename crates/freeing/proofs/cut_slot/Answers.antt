-- `freeing::cut_slot` meets its contract. Assumes nothing.
use mathlib.Core.Path.{refl}
use Rattle.freeing.proofs.Tallies.{cut_slot_tallied}
use Rattle.freeing.proofs.cut_slot.Goals as goal

pub returns : goal.returns
returns c =
    cut_slot_tallied _ _ _ refl c.requires.0 c.requires.1 _ c.write_meta.ensures
