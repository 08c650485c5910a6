-- Emptying, freeing and cutting, byte by byte ("01, The page": "Whatever is emptied or freed becomes all zeros"): what is left of the record
-- itself, touched or counted. Assumes nothing.
use mathlib.Core.Path.{◌≡◌, ◌∙◌}
use mathlib.Core.List.{List}
use Prim.Native.Nat.{ℕ, ◌/◌, ◌<◌}
use lib.ListN.{replicate}
use lib.Seq.{sets}
use Rattle.little.specs.Little.{Bytes}
use Rattle.kind.specs.Kind.{rows, entries, data_kind, undo_kind}
use Rattle.records.specs.Slot.{slot_bytes, slot_at, put_meta, clear_slot, unlinked}
use Rattle.records.specs.Entry.{entry_bytes, entry_at, put_copy, clear_entry}
use Rattle.records.proofs.Slots.{slots_lie}
use Rattle.records.proofs.Entries.{entries_lie}
use Rattle.page.proofs.Counts.{record_at_counted, record_at_touched}
use Rattle.freeing.specs.Freeing.{without_slot, without_entry, swept_slot, swept_entry, cut_slot, cut_copy}
use Rattle.records.proofs.Stores.{slot_bytes_clear_slot, entry_bytes_clear_entry, slot_bytes_cut, entry_bytes_cut}

-- ---- a slot

module _ (r : ℕ) (d : List ℕ) (row : r < rows d) where
  pub without_slot_zeros : (txn : ℕ) → slot_bytes r (without_slot txn r d) ≡ replicate 64 0
  unfolding without_slot
  without_slot_zeros txn = record_at_touched slots_lie data_kind (r / 127) r (clear_slot r d) txn ∙ slot_bytes_clear_slot r d row

  pub swept_slot_zeros : slot_bytes r (swept_slot r d) ≡ replicate 64 0
  unfolding swept_slot
  swept_slot_zeros = record_at_counted slots_lie data_kind (r / 127) r (clear_slot r d) ∙ slot_bytes_clear_slot r d row

  -- its pointer becomes 0, and nothing else
  pub cut_slot_zeros : Bytes d → slot_bytes r (cut_slot r (unlinked (slot_at r d)) d) ≡ sets (slot_bytes r d) 16 (replicate 8 0)
  unfolding cut_slot
  cut_slot_zeros b = record_at_counted slots_lie data_kind (r / 127) r (put_meta r (unlinked (slot_at r d)) d) ∙ slot_bytes_cut r d b row

-- ---- an entry

module _ (e : ℕ) (u : List ℕ) (here : e < entries u) where
  pub without_entry_zeros : (txn : ℕ) → entry_bytes e (without_entry txn e u) ≡ replicate 80 0
  unfolding without_entry
  without_entry_zeros txn = record_at_touched entries_lie undo_kind (e / 101) e (clear_entry e u) txn ∙ entry_bytes_clear_entry e u here

  pub swept_entry_zeros : entry_bytes e (swept_entry e u) ≡ replicate 80 0
  unfolding swept_entry
  swept_entry_zeros = record_at_counted entries_lie undo_kind (e / 101) e (clear_entry e u) ∙ entry_bytes_clear_entry e u here

  pub cut_copy_zeros : Bytes u → entry_bytes e (cut_copy e (unlinked (entry_at e u).copy) u) ≡ sets (entry_bytes e u) 32 (replicate 8 0)
  unfolding cut_copy
  cut_copy_zeros b = record_at_counted entries_lie undo_kind (e / 101) e (put_copy e (unlinked (entry_at e u).copy) u) ∙ entry_bytes_cut e u b here
