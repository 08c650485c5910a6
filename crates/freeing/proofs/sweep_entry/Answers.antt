-- `freeing::sweep_entry` meets its contract. Assumes nothing.
use mathlib.Core.Path.{refl}
use Rattle.freeing.proofs.Tallies.{swept_entry_tallied}
use Rattle.freeing.proofs.sweep_entry.Goals as goal

pub returns : goal.returns
returns c =
    swept_entry_tallied _ _ _ refl c.requires.0 c.requires.1 c.clear_entry.ensures
