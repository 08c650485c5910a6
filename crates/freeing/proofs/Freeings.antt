-- The laws of emptying and freeing: what the functions of withdraw compute (those of the sweep in Tallies), that an entry freed is free,
-- and what is left as it was. Callers cite these and unfold nothing. Assumes nothing.
use mathlib.Core.Path.{◌≡◌, ap, ◌∙◌}
use mathlib.Core.List.{List}
use Prim.Native.Nat.{ℕ, ◌/◌, ◌<◌}
use Rattle.little.specs.Little.{Bytes}
use Rattle.kind.specs.Kind.{rows, entries, data_kind, undo_kind}
use Rattle.records.specs.declared.slot.Slot.{Slot}
use Rattle.records.specs.declared.entry.Entry.{Entry}
use Rattle.records.specs.Slot.{slot_at, body_at, put_meta, clear_slot}
use Rattle.records.specs.Entry.{entry_at, copy_body_at, put_copy, clear_entry}
use Rattle.records.proofs.Slots.{SlotFit, slots_lie, slot_of_zeros, put_meta_within, clear_slot_within, slot_at_put_meta_same, body_at_put_meta_same, slot_at_clear_slot_same}
use Rattle.records.proofs.Entries.{entries_lie, entry_of_zeros, put_copy_within, clear_entry_within, entry_at_put_copy_same, copy_body_at_put_copy_same, entry_at_clear_entry_same}
use Rattle.records.proofs.Fits.{bytes_put_meta, bytes_clear_slot, bytes_put_copy, bytes_clear_entry}
use Rattle.page.specs.Count.{touched}
use Rattle.page.proofs.Counts.{bytes_counted, bytes_touched, slot_at_counted, body_at_counted, slot_at_touched, entry_at_counted, copy_body_at_counted, entry_at_touched}
use Rattle.page.proofs.Stored.{StoredSlot, StoredEntry, stored_counted, stored_touched}
use Rattle.freeing.specs.Freeing.{without_slot, without_entry, swept_slot, swept_entry, cut_slot, cut_copy}

-- ---- what the functions of withdraw compute: y is the area written, z the area touched

pub without_slot_stored : {y z : List ℕ} (txn r : ℕ) (d : List ℕ) → y ≡ clear_slot r d → z ≡ touched data_kind (r / 127) txn y → z ≡ without_slot txn r d
unfolding without_slot
without_slot_stored txn r d e h = h ∙ ap (touched data_kind (r / 127) txn) e

pub without_entry_stored : {y z : List ℕ} (txn e : ℕ) (u : List ℕ) → y ≡ clear_entry e u → z ≡ touched undo_kind (e / 101) txn y → z ≡ without_entry txn e u
unfolding without_entry
without_entry_stored txn e u p h = h ∙ ap (touched undo_kind (e / 101) txn) p

-- ---- the six are stores inside a record whose page is then touched or counted anew, and what was stored is read: "Create 0 means
-- empty", "0 means free"

module _ (r : ℕ) (d : List ℕ) where
  pub without_slot_is : (txn : ℕ) → StoredSlot r d (without_slot txn r d)
  unfolding without_slot
  without_slot_is = stored_touched slots_lie (clear_slot_within r d) data_kind

  pub swept_slot_is : StoredSlot r d (swept_slot r d)
  unfolding swept_slot
  swept_slot_is = stored_counted slots_lie (clear_slot_within r d) data_kind

  module _ (row : r < rows d) where
    create_cleared : (slot_at r (clear_slot r d)).create ≡ 0
    create_cleared = ap (λ (m : Slot). m.create) (slot_at_clear_slot_same r (slot_at r d) d row ∙ slot_of_zeros)

    pub create_without_slot : (txn : ℕ) → (slot_at r (without_slot txn r d)).create ≡ 0
    unfolding without_slot
    create_without_slot txn = ap (λ (m : Slot). m.create) (slot_at_touched data_kind (r / 127) r (clear_slot r d) txn) ∙ create_cleared

    pub create_swept_slot : (slot_at r (swept_slot r d)).create ≡ 0
    unfolding swept_slot
    create_swept_slot = ap (λ (m : Slot). m.create) (slot_at_counted data_kind (r / 127) r (clear_slot r d)) ∙ create_cleared

module _ (e : ℕ) (u : List ℕ) where
  pub without_entry_is : (txn : ℕ) → StoredEntry e u (without_entry txn e u)
  unfolding without_entry
  without_entry_is = stored_touched entries_lie (clear_entry_within e u) undo_kind

  pub swept_entry_is : StoredEntry e u (swept_entry e u)
  unfolding swept_entry
  swept_entry_is = stored_counted entries_lie (clear_entry_within e u) undo_kind

  module _ (here : e < entries u) where
    writer_cleared : (entry_at e (clear_entry e u)).writer ≡ 0
    writer_cleared = ap (λ (m : Entry). m.writer) (entry_at_clear_entry_same e (entry_at e u).copy u here ∙ entry_of_zeros)

    pub writer_without_entry : (txn : ℕ) → (entry_at e (without_entry txn e u)).writer ≡ 0
    unfolding without_entry
    writer_without_entry txn = ap (λ (m : Entry). m.writer) (entry_at_touched undo_kind (e / 101) e (clear_entry e u) txn) ∙ writer_cleared

    pub writer_swept_entry : (entry_at e (swept_entry e u)).writer ≡ 0
    unfolding swept_entry
    writer_swept_entry = ap (λ (m : Entry). m.writer) (entry_at_counted undo_kind (e / 101) e (clear_entry e u)) ∙ writer_cleared

module _ (r : ℕ) (m : Slot) (d : List ℕ) where
  pub cut_slot_is : StoredSlot r d (cut_slot r m d)
  unfolding cut_slot
  cut_slot_is = stored_counted slots_lie (put_meta_within r m d) data_kind

  module _ (row : r < rows d) where
    pub slot_at_cut_slot : SlotFit m → slot_at r (cut_slot r m d) ≡ m
    unfolding cut_slot
    slot_at_cut_slot fit = slot_at_counted data_kind (r / 127) r (put_meta r m d) ∙ slot_at_put_meta_same r m d row fit

    -- the body is as it was
    pub body_at_cut_slot : body_at r (cut_slot r m d) ≡ body_at r d
    unfolding cut_slot
    body_at_cut_slot = body_at_counted data_kind (r / 127) r (put_meta r m d) ∙ body_at_put_meta_same r m d row

module _ (e : ℕ) (m : Slot) (u : List ℕ) where
  pub cut_copy_is : StoredEntry e u (cut_copy e m u)
  unfolding cut_copy
  cut_copy_is = stored_counted entries_lie (put_copy_within e m u) undo_kind

  module _ (here : e < entries u) where
    pub entry_at_cut_copy : SlotFit m → entry_at e (cut_copy e m u) ≡ record { writer = (entry_at e u).writer; row = (entry_at e u).row; copy = m }
    unfolding cut_copy
    entry_at_cut_copy fit = entry_at_counted undo_kind (e / 101) e (put_copy e m u) ∙ entry_at_put_copy_same e m u here fit

    pub copy_body_at_cut_copy : copy_body_at e (cut_copy e m u) ≡ copy_body_at e u
    unfolding cut_copy
    copy_body_at_cut_copy = copy_body_at_counted undo_kind (e / 101) e (put_copy e m u) ∙ copy_body_at_put_copy_same e m u here

-- ---- bytes stay bytes

module _ (r : ℕ) (d : List ℕ) (b : Bytes d) where
  pub bytes_without_slot : (txn : ℕ) → Bytes (without_slot txn r d)
  unfolding without_slot
  bytes_without_slot txn = bytes_touched data_kind (r / 127) txn (clear_slot r d) (bytes_clear_slot r d b)

  pub bytes_swept_slot : Bytes (swept_slot r d)
  unfolding swept_slot
  bytes_swept_slot = bytes_counted data_kind (r / 127) (clear_slot r d) (bytes_clear_slot r d b)

  pub bytes_cut_slot : (m : Slot) → Bytes (cut_slot r m d)
  unfolding cut_slot
  bytes_cut_slot m = bytes_counted data_kind (r / 127) (put_meta r m d) (bytes_put_meta r d b m)

module _ (e : ℕ) (u : List ℕ) (b : Bytes u) where
  pub bytes_without_entry : (txn : ℕ) → Bytes (without_entry txn e u)
  unfolding without_entry
  bytes_without_entry txn = bytes_touched undo_kind (e / 101) txn (clear_entry e u) (bytes_clear_entry e u b)

  pub bytes_swept_entry : Bytes (swept_entry e u)
  unfolding swept_entry
  bytes_swept_entry = bytes_counted undo_kind (e / 101) (clear_entry e u) (bytes_clear_entry e u b)

  pub bytes_cut_copy : (m : Slot) → Bytes (cut_copy e m u)
  unfolding cut_copy
  bytes_cut_copy m = bytes_counted undo_kind (e / 101) (put_copy e m u) (bytes_put_copy e u b m)
