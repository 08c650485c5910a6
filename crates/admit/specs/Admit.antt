-- What every session call asks first ("01, When the desk says no", 1, 2 and 4), and those that change something ("02, T-07", 18); and how a
-- call that may change the desk is answered. Assumes nothing.
use Rattle.std.specs.Prelude.{ℕ, cond, List, Result, Ok, Err}
use Rattle.answer.specs.declared.Refusal.{Refusal}
use Rattle.answer.specs.Code.{number_of}
use Rattle.answer.specs.declared.Refusal.TheVariants.{BadLength, Unsound, NotOpen, Spoiled}
use Rattle.places.specs.Open.{place_in, is_open}
use Rattle.desk.specs.declared.Desk.{Desk}
use Rattle.desk.specs.Sound.{sound}
use Rattle.desk.specs.Turns.{spoiled_at}
use Rattle.words.specs.Words.{desk_in}
use Rattle.kind.specs.Kind.{lengths_ok}

-- the place of session x, or the first of 1, 2 and 4 that holds
unfoldable pub admit_of : ℕ → ℕ → ℕ → Desk → ℕ → Result ℕ Refusal
admit_of d u s desk x =
    cond (lengths_ok d u s)
    (cond (sound desk)
    (cond (is_open x desk.numbers) (Ok (place_in x desk.numbers)) (Err NotOpen))
    (Err Unsound))
    (Err BadLength)

-- "A spoiled session may read and withdraw; insert, update, delete, next and commit answer 18, directly after 4"
abbrev pub unless_spoiled : Desk → Result ℕ Refusal → Result ℕ Refusal
unless_spoiled desk (Ok k) = cond (spoiled_at k desk) (Err Spoiled) (Ok k)
unless_spoiled desk (Err n) = Err n

unfoldable pub unspoiled_of : ℕ → ℕ → ℕ → Desk → ℕ → Result ℕ Refusal
unspoiled_of d u s desk x = unless_spoiled desk (admit_of d u s desk x)

-- the paper's number of what a call answers, with the desk that the words lent to it say then
abbrev pub said : {A : Type 0} → Result A Refusal → List ℕ → ℕ × Desk
said r w = (number_of r, desk_in w)
