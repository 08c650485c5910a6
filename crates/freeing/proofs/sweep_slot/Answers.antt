-- `freeing::sweep_slot` meets its contract. Assumes nothing.
use mathlib.Core.Path.{refl}
use Rattle.freeing.proofs.Tallies.{swept_slot_tallied}
use Rattle.freeing.proofs.sweep_slot.Goals as goal

pub returns : goal.returns
returns c =
    swept_slot_tallied _ _ _ refl c.requires.0 c.requires.1 c.clear_slot.ensures
