-- Every write of a record keeps the headers right: a store within a record of a page, then the count of that page anew. One law over
-- the store, cited by the nine writers; a record outside the area does no harm. Assumes nothing.
use mathlib.Core.List.{List}
use Prim.Native.Nat.{ℕ, ◌+◌, ◌/◌, ◌≤◌, ◌<◌}
use native.Mathlib.Omega.{arith}
use lib.ListN.{length}
use Rattle.little.specs.Little.{Bytes}
use Rattle.kind.specs.declared.Kind.{Kind}
use Rattle.kind.specs.Kind.{data_kind, undo_kind}
use Rattle.kind.proofs.Places.{Lie, Within}
use Rattle.records.specs.declared.slot.Slot.{Slot}
use Rattle.records.specs.declared.entry.Entry.{Entry}
use Rattle.records.proofs.Slots.{WithinSlot, slots_lie, put_slot_within, put_meta_within, clear_slot_within}
use Rattle.records.proofs.Entries.{WithinEntry, entries_lie, put_entry_within, put_copy_within, clear_entry_within}
use Rattle.records.proofs.Fits.{bytes_put_meta, bytes_put_slot, bytes_clear_slot, bytes_put_entry, bytes_put_copy, bytes_clear_entry}
use Rattle.page.specs.Count.{counted, touched}
use Rattle.page.proofs.Counts.{bytes_counted}
use Rattle.page.proofs.Stored.{Stored, stored_counted, length_stored, page_at_stored_other}
use Rattle.whole.proofs.Headers.{header_right_recounted}
use Rattle.touching.specs.Touching.{with_slot, with_meta, with_entry}
use Rattle.freeing.specs.Freeing.{without_slot, without_entry, swept_slot, swept_entry, cut_slot, cut_copy}
use Rattle.keep.proofs.Promises.{Sealable}
use Rattle.upheld.proofs.Pages.{sealable_page, sealable_txn_id}

-- ---- the one law

-- y is s with bytes of record r stored
module _ (k : Kind) (lie : Lie 8192 k.size k.count) (few : k.count < 65536) {r : ℕ} {s y : List ℕ}
    (w : Within 8192 k.size k.count r s y) (own : Bytes y) (h : Sealable k s)
  where
    sealable_counted : Sealable k (counted k (r / k.count) y)
    sealable_counted =
        let z : Stored k.size k.count r s (counted k (r / k.count) y) = stored_counted lie w k in
        sealable_page k (r / k.count) s (counted k (r / k.count) y)
        (length_stored lie z)
        (bytes_counted k (r / k.count) y own)
        (page_at_stored_other lie z)
        (header_right_recounted k lie w (r / k.count + 1) few)
        h

    sealable_touched : (txn : ℕ) → Sealable k (touched k (r / k.count) txn y)
    unfolding touched
    sealable_touched txn = sealable_txn_id k (r / k.count) txn (counted k (r / k.count) y) sealable_counted

-- ---- in a data area: row r written whole, its metadata alone, and emptied

module _ {r : ℕ} {d y : List ℕ} (w : WithinSlot r d y) (own : Bytes y) (h : Sealable data_kind d) where
  slot_counted : Sealable data_kind (counted data_kind (r / 127) y)
  slot_counted = sealable_counted data_kind slots_lie (omega arith) w own h

  slot_touched : (txn : ℕ) → Sealable data_kind (touched data_kind (r / 127) txn y)
  slot_touched txn = sealable_touched data_kind slots_lie (omega arith) w own h txn

module _ (r : ℕ) (d : List ℕ) (h : Sealable data_kind d) where
  -- a body may be short
  pub sealable_with_slot : (txn : ℕ) (m : Slot) (body : List ℕ) → length body ≤ 32 → Bytes body → Sealable data_kind (with_slot txn r m body d)
  unfolding with_slot
  sealable_with_slot txn m body short own = slot_touched (put_slot_within r m body d short) (bytes_put_slot r d h.bytes m body own) h txn

  pub sealable_with_meta : (txn : ℕ) (m : Slot) → Sealable data_kind (with_meta txn r m d)
  unfolding with_meta
  sealable_with_meta txn m = slot_touched (put_meta_within r m d) (bytes_put_meta r d h.bytes m) h txn

  pub sealable_cut_slot : (m : Slot) → Sealable data_kind (cut_slot r m d)
  unfolding cut_slot
  sealable_cut_slot m = slot_counted (put_meta_within r m d) (bytes_put_meta r d h.bytes m) h

  pub sealable_without_slot : (txn : ℕ) → Sealable data_kind (without_slot txn r d)
  unfolding without_slot
  sealable_without_slot txn = slot_touched (clear_slot_within r d) (bytes_clear_slot r d h.bytes) h txn

  pub sealable_swept_slot : Sealable data_kind (swept_slot r d)
  unfolding swept_slot
  sealable_swept_slot = slot_counted (clear_slot_within r d) (bytes_clear_slot r d h.bytes) h

-- ---- in an undo area: entry e written whole, the metadata of its copy alone, and freed

module _ {e : ℕ} {u y : List ℕ} (w : WithinEntry e u y) (own : Bytes y) (h : Sealable undo_kind u) where
  entry_counted : Sealable undo_kind (counted undo_kind (e / 101) y)
  entry_counted = sealable_counted undo_kind entries_lie (omega arith) w own h

  entry_touched : (txn : ℕ) → Sealable undo_kind (touched undo_kind (e / 101) txn y)
  entry_touched txn = sealable_touched undo_kind entries_lie (omega arith) w own h txn

module _ (e : ℕ) (u : List ℕ) (h : Sealable undo_kind u) where
  pub sealable_with_entry : (txn : ℕ) (m : Entry) (body : List ℕ) → length body ≤ 32 → Bytes body → Sealable undo_kind (with_entry txn e m body u)
  unfolding with_entry
  sealable_with_entry txn m body short own = entry_touched (put_entry_within e m body u short) (bytes_put_entry e u h.bytes m body own) h txn

  pub sealable_cut_copy : (m : Slot) → Sealable undo_kind (cut_copy e m u)
  unfolding cut_copy
  sealable_cut_copy m = entry_counted (put_copy_within e m u) (bytes_put_copy e u h.bytes m) h

  pub sealable_without_entry : (txn : ℕ) → Sealable undo_kind (without_entry txn e u)
  unfolding without_entry
  sealable_without_entry txn = entry_touched (clear_entry_within e u) (bytes_clear_entry e u h.bytes) h txn

  pub sealable_swept_entry : Sealable undo_kind (swept_entry e u)
  unfolding swept_entry
  sealable_swept_entry = entry_counted (clear_entry_within e u) (bytes_clear_entry e u h.bytes) h
