-- The header of a page: what it should say, and its fields by offset and width ("01, The page"). Assumes nothing.
use Rattle.std.specs.Prelude.{ℕ, ◌+◌, ◌*◌, List, [], ◌∷◌}
use Rattle.std.proofs.lemmas.List.Edits.{sets}
use Rattle.little.specs.Little.{little, digits, part}
use Rattle.kind.specs.Kind.{page_size, version}
use Rattle.kind.specs.declared.Kind.{Kind}

-- page p of an area, counted from 0
unfoldable pub page_at : ℕ → List ℕ → List ℕ
page_at p s = part (p * page_size) page_size s

-- the fields in their order, each its width and what it says in page number `id` of kind k:
-- page_lsn, txn_id, page_id, checksum; prev, next, overflow; free_space_offset, item_count, flags, reserved;
-- page_type, engine_tag, byte 46, format_version.
-- "Page numbers start at 1 in each area. format_version is 1. page_lsn, links, flags, reserved and byte 46 are zero"
abbrev pub header : Kind → ℕ → ℕ → ℕ → ℕ → List (ℕ × ℕ)
header k id txn sum items =
    (8, 0)
    ∷ (8, txn)
    ∷ (4, id)
    ∷ (4, sum)
    ∷ (4, 0)
    ∷ (4, 0)
    ∷ (4, 0)
    ∷ (2, k.free)
    ∷ (2, items)
    ∷ (2, 0)
    ∷ (2, 0)
    ∷ (1, k.code)
    ∷ (1, k.engine)
    ∷ (1, 0)
    ∷ (1, version)
    ∷ []

-- the fields that calls read or write alone, by offset and width: "txn_id 8,8", "checksum 20,4", "item_count 38,2"
abbrev pub txn_id : ℕ × ℕ
txn_id = (8, 8)

abbrev pub checksum : ℕ × ℕ
checksum = (20, 4)

abbrev pub item_count : ℕ × ℕ
item_count = (38, 2)

-- what a field of a page says, and the area with a field of page p put
abbrev pub field_in : ℕ × ℕ → List ℕ → ℕ
field_in f page = little (part f.0 f.1 page)

unfoldable pub put_field : ℕ × ℕ → ℕ → ℕ → List ℕ → List ℕ
put_field f p v s = sets s (p * page_size + f.0) (digits f.1 v)
