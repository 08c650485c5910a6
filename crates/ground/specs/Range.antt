-- First, count and all over a range of indices: the definitions behind every search, every count and every check; and what a search
-- that may find nothing answers. Assumes nothing.
use Rattle.std.specs.Prelude.{ℕ, zero, suc, ◌+◌, Bool, true, ◌&&◌, cond, Option, Some, None, leb}

-- the first of the n indices from i on that passes; where none does, i + n
unfoldable pub first_from : (ℕ → Bool) → ℕ → ℕ → ℕ
first_from f i zero = i
first_from f i (suc n) = cond (f i) i (first_from f (i + 1) n)

-- how many of the indices below n pass
unfoldable pub count_below : (ℕ → Bool) → ℕ → ℕ
count_below f zero = 0
count_below f (suc n) = count_below f n + cond (f n) 1 0

-- whether each index below n passes
unfoldable pub all_below : (ℕ → Bool) → ℕ → Bool
all_below f zero = true
all_below f (suc n) = all_below f n && f n

-- what a search answers whose rule is an index, or the number of places where there is none: that index, or none
unfoldable pub found_below : ℕ → ℕ → Option ℕ
found_below n i = cond (leb n i) None (Some i)
