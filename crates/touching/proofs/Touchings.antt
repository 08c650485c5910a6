-- The laws of writes that touch: what was put is read, other records and other pages are as they were, and so is the length. Callers
-- cite these and unfold nothing. Assumes nothing.
use mathlib.Core.Path.{◌≡◌, ap, ◌∙◌}
use mathlib.Core.List.{List, ◌++◌}
use Prim.Native.Nat.{ℕ, ◌/◌, ◌<◌}
use native.Mathlib.Omega.{arith}
use lib.ListN.{length}
use Rattle.little.specs.Little.{bytes_of, Bytes}
use Rattle.kind.specs.Kind.{rows, entries, data_kind, undo_kind}
use Rattle.records.specs.declared.slot.Slot.{Slot}
use Rattle.records.specs.declared.entry.Entry.{Entry}
use Rattle.records.specs.Slot.{slot_fields, slot_bytes, slot_at, body_at, put_slot, put_meta}
use Rattle.records.specs.Entry.{entry_fields, entry_bytes, entry_at, copy_body_at, put_entry}
use Rattle.records.proofs.Slots.{SlotFit, slots_lie, put_slot_within, put_meta_within, slot_bytes_put_slot, slot_at_put_slot_same, body_at_put_slot_same, slot_at_put_meta_same, body_at_put_meta_same}
use Rattle.records.proofs.Entries.{EntryFit, entries_lie, put_entry_within, entry_bytes_put_entry, entry_at_put_entry_same, copy_body_at_put_entry_same}
use Rattle.records.proofs.Stores.{slot_bytes_put_meta}
use Rattle.records.proofs.Fits.{length_put_slot, length_put_entry, bytes_put_meta, bytes_put_slot}
use Rattle.page.specs.Count.{touched}
use Rattle.page.proofs.Counts.{length_touched, bytes_touched, record_at_touched, slot_at_touched, body_at_touched, entry_at_touched, copy_body_at_touched}
use Rattle.page.proofs.Stored.{StoredSlot, StoredEntry, stored_touched, length_stored}
use Rattle.touching.specs.Touching.{with_slot, with_meta, with_entry}

-- ---- what the functions compute: y is the area written, z the area touched

pub with_slot_stored : {y z : List ℕ} (txn r : ℕ) (m : Slot) (body d : List ℕ)
    → y ≡ put_slot r m body d
    → z ≡ touched data_kind (r / 127) txn y
    → z ≡ with_slot txn r m body d
unfolding with_slot
with_slot_stored txn r m body d e h = h ∙ ap (touched data_kind (r / 127) txn) e

pub with_meta_stored : {y z : List ℕ} (txn r : ℕ) (m : Slot) (d : List ℕ)
    → y ≡ put_meta r m d
    → z ≡ touched data_kind (r / 127) txn y
    → z ≡ with_meta txn r m d
unfolding with_meta
with_meta_stored txn r m d e h = h ∙ ap (touched data_kind (r / 127) txn) e

pub with_entry_stored : {y z : List ℕ} (txn e : ℕ) (m : Entry) (body u : List ℕ)
    → y ≡ put_entry e m body u
    → z ≡ touched undo_kind (e / 101) txn y
    → z ≡ with_entry txn e m body u
unfolding with_entry
with_entry_stored txn e m body u p h = h ∙ ap (touched undo_kind (e / 101) txn) p

-- ---- the three writes are stores inside a record whose page is then touched, and what was put is read

module _ (txn r : ℕ) (m : Slot) (body d : List ℕ) (long : length body ≡ 32) where
  pub with_slot_is : StoredSlot r d (with_slot txn r m body d)
  unfolding with_slot
  with_slot_is = stored_touched slots_lie (put_slot_within r m body d (omega arith)) data_kind txn

  pub slot_at_with_slot : r < rows d → SlotFit m → slot_at r (with_slot txn r m body d) ≡ m
  unfolding with_slot
  slot_at_with_slot row fit = slot_at_touched data_kind (r / 127) r (put_slot r m body d) txn ∙ slot_at_put_slot_same r m body d row long fit

  pub body_at_with_slot : r < rows d → body_at r (with_slot txn r m body d) ≡ body
  unfolding with_slot
  body_at_with_slot row = body_at_touched data_kind (r / 127) r (put_slot r m body d) txn ∙ body_at_put_slot_same r m body d row long

module _ (txn r : ℕ) (m : Slot) (d : List ℕ) where
  pub with_meta_is : StoredSlot r d (with_meta txn r m d)
  unfolding with_meta
  with_meta_is = stored_touched slots_lie (put_meta_within r m d) data_kind txn

  pub slot_at_with_meta : r < rows d → SlotFit m → slot_at r (with_meta txn r m d) ≡ m
  unfolding with_meta
  slot_at_with_meta row fit = slot_at_touched data_kind (r / 127) r (put_meta r m d) txn ∙ slot_at_put_meta_same r m d row fit

  -- the body is as it was
  pub body_at_with_meta : r < rows d → body_at r (with_meta txn r m d) ≡ body_at r d
  unfolding with_meta
  body_at_with_meta row = body_at_touched data_kind (r / 127) r (put_meta r m d) txn ∙ body_at_put_meta_same r m d row

module _ (txn e : ℕ) (m : Entry) (body u : List ℕ) (long : length body ≡ 32) where
  pub with_entry_is : StoredEntry e u (with_entry txn e m body u)
  unfolding with_entry
  with_entry_is = stored_touched entries_lie (put_entry_within e m body u (omega arith)) undo_kind txn

  pub entry_at_with_entry : e < entries u → EntryFit m → entry_at e (with_entry txn e m body u) ≡ m
  unfolding with_entry
  entry_at_with_entry here fit = entry_at_touched undo_kind (e / 101) e (put_entry e m body u) txn ∙ entry_at_put_entry_same e m body u here long fit

  pub copy_body_at_with_entry : e < entries u → copy_body_at e (with_entry txn e m body u) ≡ body
  unfolding with_entry
  copy_body_at_with_entry here = copy_body_at_touched undo_kind (e / 101) e (put_entry e m body u) txn ∙ copy_body_at_put_entry_same e m body u here long

-- ---- length and bytes stay, whatever body is written

module _ (txn r : ℕ) (m : Slot) (d : List ℕ) where
  pub length_with_meta : length (with_meta txn r m d) ≡ length d
  length_with_meta = length_stored slots_lie (with_meta_is txn r m d)

  pub bytes_with_meta : Bytes d → Bytes (with_meta txn r m d)
  unfolding with_meta
  bytes_with_meta b = bytes_touched data_kind (r / 127) txn (put_meta r m d) (bytes_put_meta r d b m)

  module _ (body : List ℕ) where
    pub length_with_slot : length (with_slot txn r m body d) ≡ length d
    unfolding with_slot
    length_with_slot = length_touched data_kind (r / 127) txn (put_slot r m body d) ∙ length_put_slot r m body d

    pub bytes_with_slot : Bytes body → Bytes d → Bytes (with_slot txn r m body d)
    unfolding with_slot
    bytes_with_slot own b = bytes_touched data_kind (r / 127) txn (put_slot r m body d) (bytes_put_slot r d b m body own)

pub length_with_entry : (txn e : ℕ) (m : Entry) (body u : List ℕ) → length (with_entry txn e m body u) ≡ length u
unfolding with_entry
length_with_entry txn e m body u = length_touched undo_kind (e / 101) txn (put_entry e m body u) ∙ length_put_entry e m body u

-- ---- what was put, byte by byte

module _ (txn r : ℕ) (m : Slot) (d : List ℕ) (row : r < rows d) where
  pub slot_bytes_with_slot : (body : List ℕ) → length body ≡ 32 → slot_bytes r (with_slot txn r m body d) ≡ bytes_of (slot_fields m) ++ body
  unfolding with_slot
  slot_bytes_with_slot body long =
      record_at_touched slots_lie data_kind (r / 127) r (put_slot r m body d) txn ∙ slot_bytes_put_slot r m body d row long

  pub slot_bytes_with_meta : slot_bytes r (with_meta txn r m d) ≡ bytes_of (slot_fields m) ++ body_at r d
  unfolding with_meta
  slot_bytes_with_meta = record_at_touched slots_lie data_kind (r / 127) r (put_meta r m d) txn ∙ slot_bytes_put_meta r m d row

pub entry_bytes_with_entry : (txn e : ℕ) (m : Entry) (body u : List ℕ) → e < entries u → length body ≡ 32
    → entry_bytes e (with_entry txn e m body u) ≡ bytes_of (entry_fields m) ++ body
unfolding with_entry
entry_bytes_with_entry txn e m body u here long =
    record_at_touched entries_lie undo_kind (e / 101) e (put_entry e m body u) txn ∙ entry_bytes_put_entry e m body u here long
