-- The table of document 01 and the header's offsets ("01, The page"), in numbers: what format writes in a page of each kind, byte by byte, and
-- where the records of a page lie. Said here once, beside the definitions; that these give the numbers is computed. Assumes nothing.
use Rattle.std.specs.Prelude.{ℕ, ◌+◌, ◌*◌, ◌<◌, ◌≡◌, List, [], ◌∷◌, ◌++◌, replicate}
use Rattle.little.specs.Little.{digits}
use Rattle.kind.specs.Kind.{pages, rows, entries}
use Rattle.kind.specs.Areas.{Areas}
use Rattle.status.specs.Status.{status_place, last_number}
use Rattle.records.specs.Slot.{slot_place}
use Rattle.records.specs.Entry.{entry_place}
use Rattle.page.specs.Header.{page_at}
use Rattle.whole.specs.Whole.{checksum_of}
use Rattle.keep.specs.Keep.{format_rule}

-- so many zeros
abbrev pub zeros : ℕ → List ℕ
zeros n = replicate n 0

-- a page as format writes it, number `id` with checksum `sum`, the other bytes of its header given by the table: page_lsn and txn_id 0 to 15,
-- page_id 16 to 19, checksum 20 to 23, links 24 to 35, free_space_offset 36 and 37, item_count, flags and reserved 38 to 43, page_type 44,
-- engine_tag 45, byte 46, format_version 47; and behind it 8,144 zeros: "everything else empty", "bytes behind the last are zero"
abbrev pub fresh_bytes : List ℕ → ℕ → ℕ → ℕ → ℕ → List ℕ
fresh_bytes free type engine id sum =
    zeros 16 ++ digits 4 id ++ digits 4 sum ++ zeros 12 ++ free ++ zeros 6 ++ (type ∷ engine ∷ 0 ∷ 1 ∷ []) ++ zeros 8144

-- "| data | 0x10 | 1 | 8,176 |": 8,176 is 31 × 256 + 240
abbrev pub data_bytes : ℕ → ℕ → List ℕ
data_bytes = fresh_bytes (240 ∷ 31 ∷ []) 16 1

-- "| undo | 0x51 | 0 | 8,128 |": 8,128 is 31 × 256 + 192
abbrev pub undo_bytes : ℕ → ℕ → List ℕ
undo_bytes = fresh_bytes (192 ∷ 31 ∷ []) 81 0

-- "| status | 0x00 | 0 | 8,192 |": 8,192 is 32 × 256
abbrev pub status_bytes : ℕ → ℕ → List ℕ
status_bytes = fresh_bytes (0 ∷ 32 ∷ []) 0 0

-- every page of an area is such a page, numbered from 1, with its own checksum
abbrev pub Fresh : (ℕ → ℕ → List ℕ) → ℕ → List ℕ → Type 0
Fresh bytes n s = (p : ℕ) → p < n → page_at p s ≡ bytes (p + 1) (checksum_of (bytes (p + 1) 0))

pub record Table : Type 0 where
  -- "Format writes all this with txn_id 0 and everything else empty"
  pub formats : (a : Areas) → (format_rule a).0.0 ≡ 0
      → Fresh data_bytes (pages a.«data») (format_rule a).1.«data»
      × Fresh undo_bytes (pages a.undo) (format_rule a).1.undo
      × Fresh status_bytes (pages a.status) (format_rule a).1.status
  -- "127 slots of 64 bytes": the first, the last, and the first of the next page; "Slots and entries start at offset 48"
  pub slots : (slot_place 0 ≡ 48) × (slot_place 126 + 64 ≡ 8176) × (slot_place 127 ≡ 8240)
  pub rows_held : (d : List ℕ) → rows d ≡ pages d * 127
  -- "101 entries of 80 bytes"
  pub undo_entries : (entry_place 0 ≡ 48) × (entry_place 100 + 80 ≡ 8128) × (entry_place 101 ≡ 8240)
  pub entries_held : (u : List ℕ) → entries u ≡ pages u * 101
  -- "2 bits for each of 32,576 numbers": number 0's in byte 48, those of the last four numbers in byte 8,191, and no more
  pub numbers : (status_place 8192 0 ≡ 48) × (status_place 8192 32572 ≡ 8191) × (status_place 8192 32575 ≡ 8191) × (last_number ≡ 32575)
