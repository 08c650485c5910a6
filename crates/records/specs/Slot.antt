-- Slots: 32 bytes of metadata and a body of 32 bytes ("01, The page"). Assumes nothing.
use Rattle.std.specs.Prelude.{ℕ, List, [], ◌∷◌, ◌++◌, replicate}
use Rattle.std.proofs.lemmas.List.Edits.{sets}
use Rattle.little.specs.Little.{little, part, bytes_of}
use Rattle.kind.specs.Kind.{page_size, data_kind}
use Rattle.kind.specs.Place.{place_of, record_at}
use Rattle.records.specs.declared.slot.Slot.{Slot}

-- "create 0,8; expire 8,8; undo_ptr 16,8; cmd 24,4; expire_cmd 28,4": read from the bytes of a slot
unfoldable pub slot_of : List ℕ → Slot
slot_of b =
    record {
      create = little (part 0 8 b);
      expire = little (part 8 8 b);
      undo_ptr = little (part 16 8 b);
      cmd = little (part 24 4 b);
      expire_cmd = little (part 28 4 b);
    }

-- and as fields, each its width and its value, one behind the other
abbrev pub slot_fields : Slot → List (ℕ × ℕ)
slot_fields m = (8, m.create) ∷ (8, m.expire) ∷ (8, m.undo_ptr) ∷ (4, m.cmd) ∷ (4, m.expire_cmd) ∷ []

-- metadata behind which no older version is left: "the newer version's pointer becomes 0"
abbrev pub unlinked : Slot → Slot
unlinked m = record { create = m.create; expire = m.expire; undo_ptr = 0; cmd = m.cmd; expire_cmd = m.expire_cmd }

-- where the slot of row r begins, and its bytes
abbrev pub slot_place : ℕ → ℕ
slot_place r = place_of page_size data_kind.size data_kind.count r

abbrev pub slot_bytes : ℕ → List ℕ → List ℕ
slot_bytes r s = record_at page_size data_kind.size data_kind.count r s

-- the metadata and the body of row r
unfoldable pub slot_at : ℕ → List ℕ → Slot
slot_at r s = slot_of (slot_bytes r s)

unfoldable pub body_at : ℕ → List ℕ → List ℕ
body_at r s = part 32 32 (slot_bytes r s)

-- a data area with row r written whole, with its metadata alone written, and with it emptied ("becomes all zeros")
unfoldable pub put_slot : ℕ → Slot → List ℕ → List ℕ → List ℕ
put_slot r m body s = sets s (slot_place r) (bytes_of (slot_fields m) ++ body)

unfoldable pub put_meta : ℕ → Slot → List ℕ → List ℕ
put_meta r m s = sets s (slot_place r) (bytes_of (slot_fields m))

unfoldable pub clear_slot : ℕ → List ℕ → List ℕ
clear_slot r s = sets s (slot_place r) (replicate 64 0)
