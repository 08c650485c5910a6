-- `freeing::free_entry` meets its contract. Assumes nothing.
use Rattle.freeing.proofs.Freeings.{without_entry_stored}
use Rattle.freeing.proofs.free_entry.Goals as goal

pub returns : goal.returns
returns c =
    without_entry_stored _ _ _ c.clear_entry.ensures c.touch.ensures
