-- `freeing::empty_slot` meets its contract. Assumes nothing.
use Rattle.freeing.proofs.Freeings.{without_slot_stored}
use Rattle.freeing.proofs.empty_slot.Goals as goal

pub returns : goal.returns
returns c =
    without_slot_stored _ _ _ c.clear_slot.ensures c.touch.ensures
