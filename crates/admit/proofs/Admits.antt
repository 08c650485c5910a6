-- What admission says to a call: where a session is refused, the call's list of refusals answers that number whatever stands behind
-- it; where it is admitted, the list goes on behind 4. Once, for all session calls. Assumes nothing.
use mathlib.Core.Path.{◌≡◌, refl, sym, ap, ◌∙◌}
use mathlib.Core.Bool.{Bool, true, false, not, cond}
use mathlib.Core.List.{List, ◌∷◌}
use Prim.Native.Nat.{ℕ, ◌<◌}
use native.Mathlib.Omega.{arith}
use lib.Dec.{eqb, ltb, leb}
use borrow.Author.Tests.{eq-eqb, ne_eqb, lt-ltb, le-ltb, leb-true, leb-false}
use Rattle.std.specs.Prelude.{Result, Ok, Err, Option, Some, None, ok_or}
use Rattle.ground.specs.Range.{found_below}
use Rattle.ground.specs.Refuse.{first_of, settle}
use Rattle.answer.specs.declared.Refusal.{Refusal}
use Rattle.answer.specs.declared.Refusal.TheVariants.{BadLength, Unsound, NotOpen, Spoiled}
use Rattle.answer.specs.Code.{code_of}
use Rattle.places.specs.Open.{place_in, is_open}
use Rattle.desk.specs.declared.Desk.{Desk}
use Rattle.desk.specs.Sound.{sound}
use Rattle.desk.specs.Turns.{spoiled_at}
use Rattle.sessions.proofs.Changes.{is_open_place}
use Rattle.kind.specs.Kind.{lengths_ok}
use Rattle.admit.specs.Admit.{admit_of, unless_spoiled, unspoiled_of}

-- ---- the three tests, as bools

-- admission by what the tests gave, and the front of a call's list of refusals
abbrev pub admit_by : Bool → Bool → Bool → ℕ → Result ℕ Refusal
admit_by l b o k = cond l (cond b (cond o (Ok k) (Err NotOpen)) (Err Unsound)) (Err BadLength)

abbrev pub front : Bool → Bool → Bool → List (Bool × ℕ) → List (Bool × ℕ)
front l b o rest = (not l, 1) ∷ (not b, 2) ∷ (not o, 4) ∷ rest

refused_by : {A : Type 0} (l b o : Bool) (k : ℕ) (n : Refusal) (rest : List (Bool × ℕ)) (done : A) (refused : ℕ → A)
    → admit_by l b o k ≡ Err n
    → settle (first_of (front l b o rest)) done refused ≡ refused (code_of n)
refused_by false b o k n rest done refused e = let q : BadLength ≡ n = cc in ap (λ (a : Refusal). refused (code_of a)) q
refused_by true false o k n rest done refused e = let q : Unsound ≡ n = cc in ap (λ (a : Refusal). refused (code_of a)) q
refused_by true true false k n rest done refused e = let q : NotOpen ≡ n = cc in ap (λ (a : Refusal). refused (code_of a)) q
refused_by true true true k n rest done refused e = let z : ◌≡◌ {A = ℕ} 0 1 = cc in absurd (omega arith)

-- none of them tells of a lost conflict
calm_by : (l b o : Bool) (k : ℕ) (n : Refusal) → admit_by l b o k ≡ Err n → eqb (code_of n) 10 ≡ false
calm_by false b o k n e = let q : BadLength ≡ n = cc in ap (λ (a : Refusal). eqb (code_of a) 10) (sym q)
calm_by true false o k n e = let q : Unsound ≡ n = cc in ap (λ (a : Refusal). eqb (code_of a) 10) (sym q)
calm_by true true false k n e = let q : NotOpen ≡ n = cc in ap (λ (a : Refusal). eqb (code_of a) 10) (sym q)
calm_by true true true k n e = let z : ◌≡◌ {A = ℕ} 0 1 = cc in absurd (omega arith)

-- what an admission tells: all three tests held, and the place
pub record Passed (l b o : Bool) (k p : ℕ) : Type 0 where
  pub lengths : l ≡ true
  pub sound : b ≡ true
  pub opened : o ≡ true
  pub place : p ≡ k

passed_by : (l b o : Bool) (k p : ℕ) → admit_by l b o k ≡ Ok p → Passed l b o k p
passed_by false b o k p e = let z : ◌≡◌ {A = ℕ} 0 1 = cc in absurd (omega arith)
passed_by true false o k p e = let z : ◌≡◌ {A = ℕ} 0 1 = cc in absurd (omega arith)
passed_by true true false k p e = let z : ◌≡◌ {A = ℕ} 0 1 = cc in absurd (omega arith)
passed_by true true true k p e = let q : p ≡ k = cc in record { lengths = refl; sound = refl; opened = refl; place = q }

module _ (d u s : ℕ) (desk : Desk) (x : ℕ) where
  -- the tests of session x
  abbrev pub Admission : ℕ → Type 0
  Admission p = Passed (lengths_ok d u s) (sound desk) (is_open x desk.numbers) (place_in x desk.numbers) p

  abbrev pub asked : List (Bool × ℕ) → List (Bool × ℕ)
  asked rest = front (lengths_ok d u s) (sound desk) (is_open x desk.numbers) rest

  pub admit_of_refused : {A : Type 0} (n : Refusal) (rest : List (Bool × ℕ)) (done : A) (refused : ℕ → A)
      → admit_of d u s desk x ≡ Err n
      → settle (first_of (asked rest)) done refused ≡ refused (code_of n)
  unfolding admit_of
  admit_of_refused n rest done refused e =
      refused_by (lengths_ok d u s) (sound desk) (is_open x desk.numbers) (place_in x desk.numbers) n rest done refused e

  pub admit_of_calm : (n : Refusal) → admit_of d u s desk x ≡ Err n → eqb (code_of n) 10 ≡ false
  unfolding admit_of
  admit_of_calm n e = calm_by (lengths_ok d u s) (sound desk) (is_open x desk.numbers) (place_in x desk.numbers) n e

  pub admit_of_at : (p : ℕ) → admit_of d u s desk x ≡ Ok p → Admission p
  unfolding admit_of
  admit_of_at p e = passed_by (lengths_ok d u s) (sound desk) (is_open x desk.numbers) (place_in x desk.numbers) p e

  -- the place is one of the desk's
  pub admit_of_place : (p : ℕ) → admit_of d u s desk x ≡ Ok p → p < 16
  admit_of_place p e = let a = admit_of_at p e in omega (arith, a.place, is_open_place x desk.numbers a.opened)

  pub first_of_asked : (p : ℕ) (rest : List (Bool × ℕ)) → Admission p → first_of (asked rest) ≡ first_of rest
  first_of_asked p rest a = rw (a.lengths, a.sound, a.opened)

  -- ---- as the function finds it

  pub admit_of_1 : lengths_ok d u s ≡ false → admit_of d u s desk x ≡ Err BadLength
  unfolding admit_of
  admit_of_1 l = rw l

  pub admit_of_2 : lengths_ok d u s ≡ true → sound desk ≡ false → admit_of d u s desk x ≡ Err Unsound
  unfolding admit_of
  admit_of_2 l b = rw (l, b)

  module _ (l : lengths_ok d u s ≡ true) (b : sound desk ≡ true) where
    pub admit_of_zero : x ≡ 0 → admit_of d u s desk x ≡ Err NotOpen
    unfolding admit_of is_open
    admit_of_zero z = rw (l, b, eq-eqb x 0 z)

    -- a place found is one of the desk's
    found_by : (n : ℕ) (t : Bool) → leb 16 n ≡ t → ok_or (cond t None (Some n)) NotOpen ≡ cond (ltb n 16) (Ok n) (Err NotOpen)
    found_by n true h = rw (le-ltb n 16 (leb-true 16 n h)) refl
    found_by n false h = rw (lt-ltb n 16 (leb-false 16 n h)) refl

    pub admit_of_found : (o : Option ℕ) → o ≡ found_below 16 (place_in x desk.numbers) → (x ≡ 0 → ⊥) → ok_or o NotOpen ≡ admit_of d u s desk x
    unfolding admit_of is_open found_below
    admit_of_found o e ne = ap (λ (k : Option ℕ). ok_or k NotOpen) e ∙ found_by (place_in x desk.numbers) (leb 16 (place_in x desk.numbers)) refl ∙ sym (rw (l, b, ne_eqb x 0 ne) refl)

  -- ---- as the function finds it for the calls that a spoiled session is refused

  pub unspoiled_refused : (n : Refusal) → admit_of d u s desk x ≡ Err n → unspoiled_of d u s desk x ≡ Err n
  unfolding unspoiled_of
  unspoiled_refused n e = ap (unless_spoiled desk) e

  module _ (k : ℕ) (e : admit_of d u s desk x ≡ Ok k) where
    pub unspoiled_18 : spoiled_at k desk ≡ true → unspoiled_of d u s desk x ≡ Err Spoiled
    unfolding unspoiled_of
    unspoiled_18 m = ap (unless_spoiled desk) e ∙ ap (λ (t : Bool). cond t (Err Spoiled) (Ok k)) m

    pub unspoiled_at : spoiled_at k desk ≡ false → unspoiled_of d u s desk x ≡ Ok k
    unfolding unspoiled_of
    unspoiled_at m = ap (unless_spoiled desk) e ∙ ap (λ (t : Bool). cond t (Err Spoiled) (Ok k)) m
