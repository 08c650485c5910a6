-- Writes that touch ("01, The page"): one definition writes a slot, one its metadata, one an entry, and each sets txn_id and item_count
-- of the page that it writes in, and of no other. A call's effect is composed of them. Assumes nothing.
use Rattle.std.specs.Prelude.{ℕ, ◌/◌, List}
use Rattle.kind.specs.Kind.{data_kind, undo_kind}
use Rattle.records.specs.declared.slot.Slot.{Slot}
use Rattle.records.specs.declared.entry.Entry.{Entry}
use Rattle.records.specs.Slot.{put_slot, put_meta}
use Rattle.records.specs.Entry.{put_entry}
use Rattle.page.specs.Count.{touched}

-- "A page in which insert, update, delete or withdraw writes or frees a slot or entry is touched and gets the session's number as
-- txn_id": row r of a data area written whole by session txn, and its metadata alone
unfoldable pub with_slot : ℕ → ℕ → Slot → List ℕ → List ℕ → List ℕ
with_slot txn r m body d = touched data_kind (r / data_kind.count) txn (put_slot r m body d)

unfoldable pub with_meta : ℕ → ℕ → Slot → List ℕ → List ℕ
with_meta txn r m d = touched data_kind (r / data_kind.count) txn (put_meta r m d)

-- entry e of an undo area written whole
unfoldable pub with_entry : ℕ → ℕ → Entry → List ℕ → List ℕ → List ℕ
with_entry txn e m body u = touched undo_kind (e / undo_kind.count) txn (put_entry e m body u)
