-- Writing and freeing leave areas their length, and bytes bytes. Assumes nothing.
use mathlib.Core.Path.{refl, ◌∙◌}
use mathlib.Core.List.{List}
use Prim.Native.Nat.{ℕ}
use Rattle.little.specs.Little.{Bytes}
use Rattle.records.specs.declared.slot.Slot.{Slot}
use Rattle.records.proofs.Slots.{slots_lie}
use Rattle.records.proofs.Entries.{entries_lie}
use Rattle.page.proofs.Stored.{length_stored}
use Rattle.touching.specs.Touching.{with_slot, with_meta}
use Rattle.touching.proofs.Touchings.{length_with_meta, length_with_slot, bytes_with_meta, bytes_with_slot}
use Rattle.freeing.specs.Freeing.{without_slot, without_entry, swept_slot, swept_entry, cut_slot, cut_copy}
use Rattle.freeing.proofs.Freeings.{without_slot_is, swept_slot_is, cut_slot_is, without_entry_is, swept_entry_is, cut_copy_is, bytes_without_slot, bytes_swept_slot, bytes_cut_slot, bytes_without_entry, bytes_swept_entry, bytes_cut_copy}
use Rattle.strands.specs.Strands.{Shaped}

pub shaped_refl : (s : List ℕ) → Shaped s s
shaped_refl s = record { long = refl; bytes = λ b. b }

pub shaped_trans : (s y z : List ℕ) → Shaped s y → Shaped y z → Shaped s z
shaped_trans s y z f g = record { long = g.long ∙ f.long; bytes = λ b. g.bytes (f.bytes b) }

-- ---- the data area

module _ (r : ℕ) (d : List ℕ) where
  pub shaped_without_slot : (txn : ℕ) → Shaped d (without_slot txn r d)
  shaped_without_slot txn =
      record { long = length_stored slots_lie (without_slot_is r d txn); bytes = λ b. bytes_without_slot r d b txn }

  pub shaped_swept_slot : Shaped d (swept_slot r d)
  shaped_swept_slot = record { long = length_stored slots_lie (swept_slot_is r d); bytes = bytes_swept_slot r d }

  pub shaped_cut_slot : (m : Slot) → Shaped d (cut_slot r m d)
  shaped_cut_slot m = record { long = length_stored slots_lie (cut_slot_is r m d); bytes = λ b. bytes_cut_slot r d b m }

  pub shaped_with_meta : (txn : ℕ) (m : Slot) → Shaped d (with_meta txn r m d)
  shaped_with_meta txn m = record { long = length_with_meta txn r m d; bytes = bytes_with_meta txn r m d }

  pub shaped_with_slot : (txn : ℕ) (m : Slot) (body : List ℕ) → Bytes body → Shaped d (with_slot txn r m body d)
  shaped_with_slot txn m body own = record { long = length_with_slot txn r m d body; bytes = bytes_with_slot txn r m d body own }

-- ---- the undo area

module _ (e : ℕ) (u : List ℕ) where
  pub shaped_without_entry : (txn : ℕ) → Shaped u (without_entry txn e u)
  shaped_without_entry txn =
      record { long = length_stored entries_lie (without_entry_is e u txn); bytes = λ b. bytes_without_entry e u b txn }

  pub shaped_swept_entry : Shaped u (swept_entry e u)
  shaped_swept_entry = record { long = length_stored entries_lie (swept_entry_is e u); bytes = bytes_swept_entry e u }

  pub shaped_cut_copy : (m : Slot) → Shaped u (cut_copy e m u)
  shaped_cut_copy m = record { long = length_stored entries_lie (cut_copy_is e m u); bytes = λ b. bytes_cut_copy e u b m }
