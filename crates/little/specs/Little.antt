-- Numbers in bytes, lowest byte first ("01, The page": "All numbers are little-endian"), at any width; parts of a list of
-- bytes; and records, which are numbers one behind the other. For every layer that says what bytes mean. Assumes nothing.
use Rattle.std.specs.Prelude.{ℕ, zero, suc, ◌+◌, ◌*◌, ◌/◌, ◌%◌, ◌<◌, List, [], ◌∷◌, ◌++◌, Bool, true, ◌&&◌, take, drop, eqb}

-- the number that the bytes write
unfoldable pub little : List ℕ → ℕ
little [] = 0
little (b ∷ bs) = b + 256 * little bs

-- the w lowest bytes of v
unfoldable pub digits : ℕ → ℕ → List ℕ
digits zero v = []
digits (suc w) v = v % 256 ∷ digits w (v / 256)

-- the w bytes of s from index at on
unfoldable pub part : ℕ → ℕ → List ℕ → List ℕ
part at w s = take w (drop at s)

-- the bytes of a record: its fields, each a width and a value, one behind the other
unfoldable pub bytes_of : List (ℕ × ℕ) → List ℕ
bytes_of [] = []
bytes_of (f ∷ fs) = digits f.0 f.1 ++ bytes_of fs

-- each element is a byte
abbrev pub Bytes : List ℕ → Type 0
Bytes [] = Unit {0}
Bytes (b ∷ l) = (b < 256) × Bytes l

-- whether s holds the fields fs one behind the other, from index at on
unfoldable pub holds : List ℕ → ℕ → List (ℕ × ℕ) → Bool
holds s at [] = true
holds s at (f ∷ fs) = eqb (little (part at f.0 s)) f.1 && holds s (at + f.0) fs
