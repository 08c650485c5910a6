-- An answer as a line ("01, The script and one whole run"). Assumes nothing.
use Rattle.std.specs.Prelude.{ℕ, ◌+◌, ◌≤◌, ◌≡◌, cond, List, [], ◌∷◌, ◌++◌, length, eqb}
use Rattle.std.proofs.lemmas.List.Edits.{sets}
use Rattle.numeral.specs.Numeral.{numeral_of}

-- "fields parted by one tab, newline after each line"
unfoldable pub tabbed : List (List ℕ) → List ℕ
tabbed [] = []
tabbed (f ∷ fs) = (9 ∷ f) ++ tabbed fs

abbrev pub newline : List ℕ
newline = 10 ∷ []

-- "Answers: the code, and where it is 0 the fields"
unfoldable pub answer_line : ℕ → List (List ℕ) → List ℕ
answer_line code fields = numeral_of code ++ cond (eqb code 0) (tabbed fields) [] ++ newline

-- a code, a tab, 20 digits, a tab, 64 hex digits, a newline
unfoldable pub longest : ℕ
longest = 88

-- a text written at a place of a buffer, inside it, and where it ends
pub record Says (text : List ℕ) (at : ℕ) (before : List ℕ) (end : ℕ) (behind : List ℕ) : Type 0 where
  pub ends : end ≡ at + length text
  pub leaves : behind ≡ sets before at text
  pub within : end ≤ length before
