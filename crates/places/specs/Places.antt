-- When the places of the desk's columns are sound ("01, Sessions and sight"). Over columns, so that the check needs no copy of the
-- desk. Assumes nothing.
use Rattle.std.specs.Prelude.{ℕ, zero, suc, ◌+◌, ◌*◌, Bool, true, ◌&&◌, ◌||◌, cond, List, get_or, eqb, leb, ltb}
use Rattle.ground.specs.Range.{all_below}
use Rattle.columns.specs.Limits.{members, last_statement, spoiled_mark}

-- of a run of places of l that starts at `at`: the number at place i follows the one before it, which is no unused place
unfoldable pub follows : List ℕ → ℕ → ℕ → Bool
follows l at zero = true
follows l at (suc i) = ltb 0 (get_or l (at + i) 0) && ltb (get_or l (at + i) 0) (get_or l (at + suc i) 0)

-- "at least 1, ascending means no two equal, unused places are zero": place i is unused, or its number is below `top` and follows
unfoldable pub placed : ℕ → List ℕ → ℕ → ℕ → Bool
placed top l at i = eqb (get_or l (at + i) 0) 0 || (ltb (get_or l (at + i) 0) top && follows l at i)

-- the n places from `at` on: numbers ascending from 1 on and below `top`, the unused places behind them
unfoldable pub ascending : ℕ → List ℕ → ℕ → ℕ → Bool
ascending top l at n = all_below (placed top l at) n

-- place k: "its statement (0 to 65,535) and the numbers open when it began: at most 15, ascending, below its own".
-- Below the number 0 there is none: the list of an unused place is zero, and so are its statement and its mark, which is 0 or 1 elsewhere
-- ("02, T-07")
unfoldable pub session_sound : List ℕ → List ℕ → List ℕ → List ℕ → ℕ → Bool
session_sound numbers statements marks lists k =
    leb (get_or statements k 0) (cond (eqb (get_or numbers k 0) 0) 0 last_statement)
    && leb (get_or marks k 0) (cond (eqb (get_or numbers k 0) 0) 0 spoiled_mark)
    && ascending (get_or numbers k 0) lists (k * members) members
