-- Emptying and freeing ("01, The page"), for withdraw and for the sweep. Each sets the item_count of the page that it writes in, and of
-- no other; withdraw's also its txn_id. Assumes nothing.
use Rattle.std.specs.Prelude.{ℕ, ◌/◌, List}
use Rattle.kind.specs.Kind.{data_kind, undo_kind}
use Rattle.records.specs.declared.slot.Slot.{Slot}
use Rattle.records.specs.Slot.{put_meta, clear_slot}
use Rattle.records.specs.Entry.{put_copy, clear_entry}
use Rattle.page.specs.Count.{counted, touched}

-- "A page in which .. withdraw writes or frees a slot or entry is touched": row r emptied, entry e freed, by session txn
unfoldable pub without_slot : ℕ → ℕ → List ℕ → List ℕ
without_slot txn r d = touched data_kind (r / data_kind.count) txn (clear_slot r d)

unfoldable pub without_entry : ℕ → ℕ → List ℕ → List ℕ
without_entry txn e u = touched undo_kind (e / undo_kind.count) txn (clear_entry e u)

-- "sweeping touches pages alike but leaves txn_id": row r emptied, entry e freed
unfoldable pub swept_slot : ℕ → List ℕ → List ℕ
swept_slot r d = counted data_kind (r / data_kind.count) (clear_slot r d)

unfoldable pub swept_entry : ℕ → List ℕ → List ℕ
swept_entry e u = counted undo_kind (e / undo_kind.count) (clear_entry e u)

-- and the metadata of row r, of the copy in entry e written
unfoldable pub cut_slot : ℕ → Slot → List ℕ → List ℕ
cut_slot r m d = counted data_kind (r / data_kind.count) (put_meta r m d)

unfoldable pub cut_copy : ℕ → Slot → List ℕ → List ℕ
cut_copy e m u = counted undo_kind (e / undo_kind.count) (put_copy e m u)
