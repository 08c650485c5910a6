-- What insert, update and delete leave in the areas ("01, Writes, withdrawal, sweep"), composed of writes that touch. The session is
-- given by its number n and its statement c, the row by r, the entry by e. Assumes nothing.
use Rattle.std.specs.Prelude.{ℕ, List}
use Rattle.pointer.specs.Pointer.{pointer_to}
use Rattle.records.specs.declared.slot.Slot.{Slot}
use Rattle.records.specs.declared.entry.Entry.{Entry}
use Rattle.records.specs.Slot.{slot_at, body_at}
use Rattle.touching.specs.Touching.{with_slot, with_meta, with_entry}

-- a version that the session makes: "create = S, cmd = its statement, other metadata 0", but for the pointer to what is older
abbrev pub made : ℕ → ℕ → ℕ → Slot
made n c ptr = record { create = n; expire = 0; undo_ptr = ptr; cmd = c; expire_cmd = 0 }

-- a version that the session ends: "expire = S and expire_cmd = S's statement"
abbrev pub expired : ℕ → ℕ → Slot → Slot
expired n c m = record { create = m.create; expire = n; undo_ptr = m.undo_ptr; cmd = m.cmd; expire_cmd = c }

-- the entry that keeps it: "copies the slot .. with writer = S"
abbrev pub kept : ℕ → ℕ → ℕ → Slot → Entry
kept n c r m = record { writer = n; row = r; copy = expired n c m }

-- "Insert takes the lowest empty slot: create = S, cmd = its statement, other metadata 0"
unfoldable pub inserted : ℕ → ℕ → ℕ → List ℕ → List ℕ → List ℕ
inserted n c r body d = with_slot n r (made n c 0) body d

-- "Update copies the slot to the lowest free entry"
unfoldable pub updated_undo : ℕ → ℕ → ℕ → ℕ → List ℕ → List ℕ → List ℕ
updated_undo n c r e d u = with_entry n e (kept n c r (slot_at r d)) (body_at r d) u

-- "The slot then has create = S, expire 0, a pointer to the entry, cmd = S's statement, expire_cmd 0, the new body"
unfoldable pub updated_data : ℕ → ℕ → ℕ → ℕ → List ℕ → List ℕ → List ℕ
updated_data n c r e body d = with_slot n r (made n c (pointer_to e)) body d

-- "Delete sets expire and expire_cmd"
unfoldable pub deleted : ℕ → ℕ → ℕ → List ℕ → List ℕ
deleted n c r d = with_meta n r (expired n c (slot_at r d)) d
