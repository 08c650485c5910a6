-- Lists of refusals and what comes of a call: a line that holds is met whatever stands behind it, where nothing is refused no line holds,
-- and a number that no line has is not told; what is kept, by whether the call is done. Once, for the rules of all calls. Assumes nothing.
use mathlib.Core.Path.{◌≡◌, refl, ap}
use mathlib.Core.Bool.{Bool, true, false, not, ◌&&◌, cond}
use mathlib.Core.List.{List, [], ◌∷◌, ◌++◌}
use Prim.Native.Nat.{ℕ, zero, suc}
use native.Mathlib.Omega.{arith}
use lib.Dec.{eqb}
use borrow.Author.Tests.{eqb-false, ne_eqb, not-true}
use Rattle.ground.specs.Refuse.{first_of, settle, kept}
use Rattle.ground.proofs.Ranges.{and_true_left, and_true_right}

-- a line that holds is met before what stands behind the list
pub first_of_more : (ls rest : List (Bool × ℕ)) (k : ℕ) → first_of ls ≡ suc k → first_of (ls ++ rest) ≡ suc k
first_of_more [] rest k e = absurd (omega arith)
first_of_more (l ∷ ls) rest k e = by l.0 e (first_of_more ls rest k)
  where
    by : (b : Bool)
        → cond b l.1 (first_of ls) ≡ suc k
        → (first_of ls ≡ suc k → first_of (ls ++ rest) ≡ suc k)
        → cond b l.1 (first_of (ls ++ rest)) ≡ suc k
    by true e next = e
    by false e next = next e

-- what is not the first line's number is told behind it, and the line doesn't hold
pub first_of_past : (k : ℕ) (b : Bool) (n m : ℕ) → (n ≡ k → ⊥) → cond b n m ≡ k → (b ≡ false) × (m ≡ k)
first_of_past k true n m other e = absurd (other e)
first_of_past k false n m other e = (refl, e)

-- where nothing is refused, the first line doesn't hold, and nothing behind it is refused
pub first_of_none : (b : Bool) (n m : ℕ) → (n ≡ 0 → ⊥) → cond b n m ≡ 0 → (b ≡ false) × (m ≡ 0)
first_of_none = first_of_past 0

-- no line has number k
abbrev pub lacks : ℕ → List (Bool × ℕ) → Bool
lacks k [] = true
lacks k (l ∷ ls) = not (eqb l.1 k) && lacks k ls

-- then it is not told, where it is a refusal
pub first_of_lacks : (k : ℕ) (ls : List (Bool × ℕ)) → lacks k ls ≡ true → (0 ≡ k → ⊥) → first_of ls ≡ k → ⊥
first_of_lacks k [] h some e = some e
first_of_lacks k (l ∷ ls) h some e =
    let other : eqb l.1 k ≡ false = not-true (eqb l.1 k) (and_true_left (not (eqb l.1 k)) (lacks k ls) h) in
    first_of_lacks k ls (and_true_right (not (eqb l.1 k)) (lacks k ls) h) some (first_of_past k l.0 l.1 (first_of ls) (eqb-false l.1 k other) e).1

module _ {A : Type 0} (done : A) (refused : ℕ → A) where
  pub settle_refused : (n k : ℕ) → n ≡ suc k → settle n done refused ≡ refused (suc k)
  settle_refused n k e = ap (λ (m : ℕ). settle m done refused) e

  -- what holds of what is done, where nothing is refused, and of every refusal holds of the call
  pub settled : (n : ℕ) (P : A → Type 0) → (n ≡ 0 → P done) → ((m : ℕ) → P (refused (suc m))) → P (settle n done refused)
  settled zero P f g = f refl
  settled (suc m) P f g = g m

  -- the number that is answered is the one that the list gives
  pub settle_number : (code : A → ℕ) → code done ≡ 0 → ((n : ℕ) → code (refused n) ≡ n) → (n : ℕ) → code (settle n done refused) ≡ n
  settle_number code zeroes tells zero = zeroes
  settle_number code zeroes tells (suc n) = tells (suc n)

module _ {A : Type 0} (n : ℕ) (new old : A) where
  pub kept_new : n ≡ 0 → new ≡ kept n new old
  kept_new done = rw done refl

  pub kept_old : (n ≡ 0 → ⊥) → old ≡ kept n new old
  kept_old refused = rw (ne_eqb n 0 refused) refl
