-- The lowest empty slot and the lowest free entry ("01, Writes, withdrawal, sweep"). Assumes nothing.
use Rattle.std.specs.Prelude.{ℕ, ◌*◌, ◌/◌, ◌%◌, not, List, eqb}
use Rattle.ground.specs.Range.{first_from}
use Rattle.kind.specs.declared.Kind.{Kind}
use Rattle.kind.specs.Kind.{pages, rows, entries}
use Rattle.page.specs.Header.{page_at}
use Rattle.page.specs.Count.{in_use}
use Rattle.records.specs.Slot.{slot_at}
use Rattle.records.specs.Entry.{entry_at}

-- "Create 0 means empty": the lowest row of a data area whose slot is empty; where there is none, the number of rows
unfoldable pub lowest_empty : List ℕ → ℕ
lowest_empty d = first_from (λ (r : ℕ). eqb (slot_at r d).create 0) 0 (rows d)

-- "writer (8; 0 means free)": the lowest entry of an undo area that is free; where there is none, the number of entries
unfoldable pub lowest_free : List ℕ → ℕ
lowest_free u = first_from (λ (e : ℕ). eqb (entry_at e u).writer 0) 0 (entries u)

-- the same over any kind of page, by the first 8 bytes of a record: of one page, and of an area
unfoldable pub lowest_in : Kind → List ℕ → ℕ
lowest_in k page = first_from (λ (i : ℕ). not (in_use k.size page i)) 0 k.count

unfoldable pub lowest : Kind → List ℕ → ℕ
lowest k s =
    first_from (λ (r : ℕ). not (in_use k.size (page_at (r / k.count) s) (r % k.count))) 0 (pages s * k.count)
