-- What the words mean by which the theorems of demand 3 ask of calls, answers and histories, said of each call, answer and history itself.
-- A theorem that asks for more than its words say would say less than it seems to: these laws refuse such words. Their proofs are in
-- proofs/About.antt. Assumes nothing.
use Rattle.std.specs.Prelude.{ℕ, ◌≡◌, ◌⊎◌, true, false, List, ◌∷◌, ◌++◌}
use Rattle.std.proofs.Math.Option.{Option}
use Rattle.machine.specs.Table.{Body, History, began, wrote, has_written}
use Rattle.machine.specs.Lines.{Call, format, next, insert, update, delete, commit, withdraw, refused, done, is_done, given, is_format, is_update, is_write, spares}

-- ---- calls

-- a format, of whatever areas
abbrev pub SomeFormat : Call → Type 0
SomeFormat c = (d : List ℕ) × (u : List ℕ) × (s : List ℕ) × (c ≡ format d u s)

-- every call leaves session n where it is but a format and the next, commit and withdraw of n itself: so does whatever is read or written,
-- by whomever, a seal, an open, a begin, a sweep, and all that other sessions do
abbrev pub SparesAllElse : Type 0
SparesAllElse = (n : ℕ) (c : Call) → (spares n c ≡ true) ⊎ (SomeFormat c ⊎ ((c ≡ next n) ⊎ ((c ≡ commit n) ⊎ (c ≡ withdraw n))))

-- and those four do not
abbrev pub SparesNoneOfFour : Type 0
SparesNoneOfFour = (n : ℕ) (d u s : List ℕ)
    → (spares n (format d u s) ≡ false) × (spares n (next n) ≡ false) × (spares n (commit n) ≡ false) × (spares n (withdraw n) ≡ false)

-- nothing but a format is one
abbrev pub OnlyFormats : Type 0
OnlyFormats = (c : Call) → (is_format c ≡ false) ⊎ SomeFormat c

-- nothing but an update of row r is one
abbrev pub OnlyUpdates : Type 0
OnlyUpdates = (r : ℕ) (c : Call) → (is_update r c ≡ false) ⊎ ((n : ℕ) × (b : Body) × (c ≡ update n r b))

-- an insert that answers row r, an update and a delete of row r by session n are writes of n in row r
abbrev pub AllWrites : Type 0
AllWrites = (n r a : ℕ) (b : Body) → (is_write n r (insert n b) r ≡ true) × (is_write n r (update n r b) a ≡ true) × (is_write n r (delete n r) a ≡ true)

-- ---- answers

-- an answer is done or refused as it says, and gives its first number
abbrev pub AnswersAsTheySay : Type 0
AnswersAsTheySay = (n a b : ℕ) (y : Body) → (is_done (refused n) ≡ false) × (is_done (done a b y) ≡ true) × (given (done a b y) ≡ a)

-- ---- histories

-- who is said to have written a row since it began did so: the history has such a write, and no begin of that number behind it
abbrev pub OnlyWritten : Type 0
OnlyWritten = (h : History) (n r : ℕ) → has_written h n r ≡ true
    → (later : History) × (b : Option Body) × (before : History) × (h ≡ later ++ (wrote n r b ∷ before)) × ((k l : History) → later ≡ k ++ (began n ∷ l) → ⊥)
