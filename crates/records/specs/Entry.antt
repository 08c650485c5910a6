-- Undo entries: writer, row number, zero, then a slot copy ("01, The page"). Assumes nothing.
use Rattle.std.specs.Prelude.{ℕ, ◌+◌, List, ◌∷◌, ◌++◌, replicate}
use Rattle.std.proofs.lemmas.List.Edits.{sets}
use Rattle.little.specs.Little.{little, part, bytes_of}
use Rattle.kind.specs.Kind.{page_size, undo_kind}
use Rattle.kind.specs.Place.{place_of, record_at}
use Rattle.records.specs.Slot.{slot_of, slot_fields}
use Rattle.records.specs.declared.slot.Slot.{Slot}
use Rattle.records.specs.declared.entry.Entry.{Entry}

-- "writer (8; 0 means free), row number (4), zero (4), then a 64-byte slot copy": read from the bytes of an entry
unfoldable pub entry_of : List ℕ → Entry
entry_of b = record { writer = little (part 0 8 b); row = little (part 8 4 b); copy = slot_of (part 16 64 b) }

-- and as fields, one behind the other
abbrev pub entry_fields : Entry → List (ℕ × ℕ)
entry_fields m = (8, m.writer) ∷ (4, m.row) ∷ (4, 0) ∷ slot_fields m.copy

-- where entry e begins, and its bytes
abbrev pub entry_place : ℕ → ℕ
entry_place e = place_of page_size undo_kind.size undo_kind.count e

abbrev pub entry_bytes : ℕ → List ℕ → List ℕ
entry_bytes e u = record_at page_size undo_kind.size undo_kind.count e u

-- entry e, and the body of its copy
unfoldable pub entry_at : ℕ → List ℕ → Entry
entry_at e u = entry_of (entry_bytes e u)

unfoldable pub copy_body_at : ℕ → List ℕ → List ℕ
copy_body_at e u = part 48 32 (entry_bytes e u)

-- an undo area with entry e written whole, with the metadata of its copy alone written, and with it freed
unfoldable pub put_entry : ℕ → Entry → List ℕ → List ℕ → List ℕ
put_entry e m body u = sets u (entry_place e) (bytes_of (entry_fields m) ++ body)

unfoldable pub put_copy : ℕ → Slot → List ℕ → List ℕ
put_copy e m u = sets u (entry_place e + 16) (bytes_of (slot_fields m))

unfoldable pub clear_entry : ℕ → List ℕ → List ℕ
clear_entry e u = sets u (entry_place e) (replicate 80 0)
