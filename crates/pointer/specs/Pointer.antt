-- Undo pointers: made for an entry, and taken apart ("01, The page"; the breaks from "01, Sessions and sight"). The records to a
-- page and their size are variables. Assumes nothing.
use Rattle.std.specs.Prelude.{ℕ, ◌+◌, ◌-◌, ◌*◌, ◌/◌, ◌%◌, ◌^◌, Bool, ◌&&◌, cond, eqb, leb, ltb}
use Rattle.kind.specs.Kind.{page_size, header_size, undo_kind}
use Rattle.pointer.specs.declared.Lead.{Lead}
use Rattle.pointer.specs.declared.Lead.TheVariants.{Nowhere, Entry, Astray}

-- "An undo pointer is 4 × 2^56 + page × 2^24 + offset × 2^8"; "Page numbers start at 1"
abbrev pub pointer_at : ℕ → ℕ → ℕ
pointer_at page offset = 4 * 2 ^ 56 + page * 2 ^ 24 + offset * 2 ^ 8

-- the pointer to entry e, of `count` entries of `size` bytes to a page
abbrev pub pointer_for : ℕ → ℕ → ℕ → ℕ
pointer_for size count e = pointer_at (e / count + 1) (header_size + e % count * size)

-- taken apart as top byte, 32 bits of page, 16 bits of offset, low byte
abbrev pub page_in : ℕ → ℕ
page_in v = v / 2 ^ 24 % 2 ^ 32

abbrev pub offset_in : ℕ → ℕ
offset_in v = v / 2 ^ 8 % 2 ^ 16

-- "its low byte is zero"; anything but top byte 4 isn't well formed
unfoldable pub well_formed : ℕ → Bool
well_formed v = eqb (v / 2 ^ 56) 4 && eqb (v % 2 ^ 8) 0

-- the place in its page is that of an entry: no offset in the header, none between entries, none behind the last
unfoldable pub at_entry : ℕ → ℕ → ℕ → Bool
at_entry size count o = leb header_size o && (eqb ((o - header_size) % size) 0 && ltb ((o - header_size) / size) count)

-- the entry that page and offset name
abbrev pub entry_named : ℕ → ℕ → ℕ → ℕ → ℕ
entry_named size count page offset = (page - 1) * count + (offset - header_size) / size

-- the byte of the area that page and offset name, of pages of `bytes` bytes: "Page numbers start at 1"
abbrev pub place_named : ℕ → ℕ → ℕ → ℕ
place_named bytes page offset = (page - 1) * bytes + offset

-- where a pointer leads in an area of n pages: "0 means none"; "isn't well formed, leads outside the area or between entries"
unfoldable pub leads : ℕ → ℕ → ℕ → ℕ → Lead
leads size count n v =
    cond (eqb v 0) Nowhere
    (cond
    (((well_formed v && leb 1 (page_in v)) && leb (page_in v) n) && at_entry size count (offset_in v))
    (Entry (entry_named size count (page_in v) (offset_in v)))
    Astray)

-- at the geometry of undo pages
unfoldable pub pointer_to : ℕ → ℕ
pointer_to e = pointer_for undo_kind.size undo_kind.count e

unfoldable pub lead_of : ℕ → ℕ → Lead
lead_of n v = leads undo_kind.size undo_kind.count n v

unfoldable pub place_led : ℕ → ℕ
place_led v = place_named page_size (page_in v) (offset_in v)
