-- Whole areas: every page fresh, every page sealed, every page right; and the numbers that a store has handed out ("01, The page").
-- Assumes nothing.
use Rattle.std.specs.Prelude.{ℕ, zero, suc, ◌+◌, Bool, true, false, ◌&&◌, List, [], ◌++◌, leb}
use Rattle.ground.specs.Range.{all_below}
use Rattle.kind.specs.declared.Kind.{Kind}
use Rattle.status.specs.declared.Status.{Status}
use Rattle.status.specs.declared.Status.TheVariants.{InWork, Committed, Withdrawn, Reserved}
use Rattle.kind.specs.Kind.{pages, data_kind, undo_kind, status_kind}
use Rattle.kind.specs.Areas.{Areas}
use Rattle.page.specs.Header.{page_at, txn_id, field_in}
use Rattle.status.specs.Status.{last_number, status_at}
use Rattle.whole.specs.Whole.{page_right, sealed_page, fresh_page}

-- pages 1 to n, as format writes them
unfoldable pub fresh_area : Kind → ℕ → List ℕ
fresh_area k zero = []
fresh_area k (suc n) = fresh_area k n ++ fresh_page k (suc n)

-- an area with its first n pages sealed
unfoldable pub sealed_area : ℕ → List ℕ → List ℕ
sealed_area zero s = s
sealed_area (suc n) s = sealed_page n (sealed_area n s)

-- every page of an area of kind k is right
unfoldable pub area_right : Kind → List ℕ → Bool
area_right k s = all_below (λ (p : ℕ). page_right k (p + 1) (page_at p s)) (pages s)

-- "The status page's txn_id is the highest number handed out", and at most 32,575
unfoldable pub highest : List ℕ → ℕ
highest s = field_in txn_id (page_at 0 s)

-- committed or withdrawn, as 01 and 10 say
abbrev pub ended : Status → Bool
ended InWork = false
ended Committed = true
ended Withdrawn = true
ended Reserved = false

-- every number from 1 to n has ended
unfoldable pub all_ended : ℕ → List ℕ → Bool
all_ended n s = all_below (λ (i : ℕ). ended (status_at (i + 1) s)) n

-- no cause of 3: "a header field other than txn_id (checksum and item_count included) is wrong, the highest number exceeds 32,575,
-- or a number from 1 to it is neither 01 nor 10"
unfoldable pub store_right : Areas → Bool
store_right a =
    area_right data_kind a.«data»
    && area_right undo_kind a.undo
    && area_right status_kind a.status
    && leb (highest a.status) last_number
    && all_ended (highest a.status) a.status
