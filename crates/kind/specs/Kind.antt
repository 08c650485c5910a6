-- The kinds of page ("01, The page", the table) and the lengths that areas may have. Assumes nothing.
use Rattle.std.specs.Prelude.{ℕ, ◌*◌, ◌/◌, ◌%◌, Bool, ◌&&◌, List, length, eqb, leb}
use Rattle.kind.specs.declared.Kind.{Kind}

-- "areas of 8,192-byte pages"; "Header, 48 bytes"
abbrev pub page_size : ℕ
page_size = 8192

abbrev pub header_size : ℕ
header_size = 48

-- "format_version is 1"
abbrev pub version : ℕ
version = 1

-- area, type, engine, free_space_offset, holds; "data (1 to 64 pages), undo (1 to 64) and status (exactly 1)"
abbrev pub data_kind : Kind
data_kind = record { code = 0x10; engine = 1; free = 8176; size = 64; count = 127; most = 64 }

abbrev pub undo_kind : Kind
undo_kind = record { code = 0x51; engine = 0; free = 8128; size = 80; count = 101; most = 64 }

abbrev pub status_kind : Kind
status_kind = record { code = 0x00; engine = 0; free = 8192; size = 0; count = 0; most = 1 }

-- how many pages, rows and entries an area has
abbrev pub pages : List ℕ → ℕ
pages s = length s / page_size

abbrev pub rows : List ℕ → ℕ
rows d = pages d * data_kind.count

abbrev pub entries : List ℕ → ℕ
entries u = pages u * undo_kind.count

-- a length of 1 to `most` whole pages
unfoldable pub length_ok : ℕ → ℕ → Bool
length_ok most n = eqb (n % page_size) 0 && leb 1 (n / page_size) && leb (n / page_size) most

unfoldable pub lengths_ok : ℕ → ℕ → ℕ → Bool
lengths_ok d u s = length_ok data_kind.most d && length_ok undo_kind.most u && length_ok status_kind.most s
