-- The desk as words of 32 bits: next, 16 numbers, 16 statements, 16 marks, 16 lists of 15; and back ("01, What the station lends"; words of 32
-- bits since 02, T-12). Where each column lies among them is said here, once. Assumes nothing.
use Rattle.std.specs.Prelude.{ℕ, ◌+◌, List, ◌∷◌, ◌++◌, ◌≡◌, length, get_or, take, drop}
use Rattle.columns.specs.Limits.{sessions, places}
use Rattle.desk.specs.declared.Desk.{Desk}

-- where the columns begin, and how many words there are
abbrev pub numbers_at : ℕ
numbers_at = 1

abbrev pub statements_at : ℕ
statements_at = numbers_at + sessions

abbrev pub marks_at : ℕ
marks_at = statements_at + sessions

abbrev pub lists_at : ℕ
lists_at = marks_at + sessions

abbrev pub all_words : ℕ
all_words = lists_at + places

-- words before a call and behind it, as many as a desk has: then what they say decides them
abbrev pub Desks : List ℕ → List ℕ → Type 0
Desks w v = (length w ≡ all_words) × (length v ≡ all_words)

-- a desk by its columns
abbrev pub desk_of : ℕ → List ℕ → List ℕ → List ℕ → List ℕ → Desk
desk_of next numbers statements marks lists =
    record { next = next; numbers = numbers; statements = statements; marks = marks; lists = lists }

-- the desk that words say
unfoldable pub desk_in : List ℕ → Desk
desk_in w =
    desk_of
    (get_or w 0 0)
    (take sessions (drop numbers_at w))
    (take sessions (drop statements_at w))
    (take sessions (drop marks_at w))
    (take places (drop lists_at w))

-- the words that a desk is written as
unfoldable pub words_of : Desk → List ℕ
words_of d = d.next ∷ (d.numbers ++ d.statements ++ d.marks ++ d.lists)
