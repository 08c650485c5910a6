-- Where the records of an area lie, over any page size, record size and records to a page ("01, The page"). Assumes nothing.
use Rattle.std.specs.Prelude.{ℕ, ◌+◌, ◌*◌, ◌/◌, ◌%◌, List}
use Rattle.little.specs.Little.{part}
use Rattle.kind.specs.Kind.{header_size}

-- the number of record i of page p, both counted from 0: "Row number = (page − 1) × 127 + slot"
abbrev pub number_of : ℕ → ℕ → ℕ → ℕ
number_of count p i = p * count + i

-- where record r begins, which is record r % count of page r / count: "Slots and entries start at offset 48"
abbrev pub place_of : ℕ → ℕ → ℕ → ℕ → ℕ
place_of page size count r = r / count * page + (header_size + r % count * size)

-- its bytes
unfoldable pub record_at : ℕ → ℕ → ℕ → ℕ → List ℕ → List ℕ
record_at page size count r s = part (place_of page size count r) size s
