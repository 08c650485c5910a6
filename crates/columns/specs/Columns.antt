-- A column without some places, a list's used places, and the mark ("01, Sessions and sight", "01, Writes, withdrawal, sweep").
-- Assumes nothing.
use Rattle.std.specs.Prelude.{ℕ, ◌+◌, not, ◌&&◌, cond, List, [], ◌∷◌, ◌++◌, get_or, take, drop, replicate, eqb, ltb}
use Rattle.ground.specs.Range.{first_from}
use Rattle.columns.specs.Limits.{members}

-- a column without the w places from `at` on: later ones move up, and zeros stand behind
unfoldable pub without : ℕ → ℕ → List ℕ → List ℕ
without at w l = take at l ++ drop (at + w) l ++ replicate w 0

-- a list's used places: those before its first unused one, which is 0 ("01, Sessions and sight")
unfoldable pub used_in : List ℕ → ℕ
used_in l = first_from (λ (i : ℕ). eqb (get_or l i 0) 0) 0 members

unfoldable pub used_of : List ℕ → List ℕ
used_of l = take (used_in l) l

-- ---- the mark

-- the smallest of m and the numbers of l that are not 0
unfoldable pub smallest : ℕ → List ℕ → ℕ
smallest m [] = m
smallest m (x ∷ l) = cond (not (eqb x 0) && ltb x m) (smallest x l) (smallest m l)

-- "the smallest among all open sessions' numbers and list members; with none open, the next number"; in a sound desk each of
-- them is below next
unfoldable pub mark_of : ℕ → List ℕ → List ℕ → ℕ
mark_of next numbers lists = smallest (smallest next numbers) lists
