-- How a call is refused ("01, When the desk says no"): each call has a list of (condition, number) in the order in which they are told, which
-- is rising but for 17, which "stands between 6 and 7" ("02, T-05"). For the rules of all calls. Assumes nothing.
use Rattle.std.specs.Prelude.{ℕ, zero, suc, Bool, cond, List, [], ◌∷◌, eqb}

-- "Lowest number first, among those that the call can give", with 17 in the place that document 02 gives it: the number of the first
-- condition that holds, else 0
abbrev pub first_of : List (Bool × ℕ) → ℕ
first_of [] = 0
first_of (l ∷ ls) = cond l.0 l.1 (first_of ls)

-- what comes of a call: done where its number is 0, and else what is refused under that number
abbrev pub settle {ℓ} : {A : Type ℓ} → ℕ → A → (ℕ → A) → A
settle zero done refused = done
settle (suc n) done refused = refused (suc n)

-- what a call keeps: the new where its number is 0, and else the old stays
abbrev pub kept : {A : Type 0} → ℕ → A → A → A
kept n new old = cond (eqb n 0) new old
