-- What an admission says of the areas and the desk that came in, and of a call's list of refusals; and that an answer with a desk is said by
-- no second answer and words. Once, for all session calls. Assumes nothing.
use mathlib.Core.Path.{◌≡◌, refl, sym, ap, subst, ◌∙◌}
use mathlib.Core.Bool.{Bool, true, false, not, cond}
use mathlib.Core.List.{List, ◌∷◌}
use Prim.Native.Nat.{ℕ, ◌<◌, ◌≤◌}
use native.Mathlib.Omega.{arith}
use lib.ListN.{length, get_or}
use lib.Dec.{eqb}
use borrow.Author.Tests.{not-false}
use Rattle.std.specs.Prelude.{Result, Ok, Err}
use Rattle.ground.specs.Refuse.{first_of, settle}
use Rattle.ground.proofs.Refusals.{first_of_none, first_of_past}
use Rattle.answer.specs.declared.Refusal.{Refusal}
use Rattle.answer.specs.declared.Refusal.TheVariants.{Spoiled}
use Rattle.answer.specs.Code.{code_of}
use Rattle.answer.proofs.Codes.{done_once}
use Rattle.desk.specs.declared.Desk.{Desk}
use Rattle.desk.specs.Sound.{sound}
use Rattle.desk.specs.Turns.{spoiled_at, is_spoiled}
use Rattle.places.specs.Open.{place_in, is_open}
use Rattle.words.specs.Words.{all_words}
use Rattle.words.proofs.Laws.{words_once}
use Rattle.kind.specs.Areas.{areas, bad_length}
use Rattle.kind.proofs.Lengths.{AllLent, all_lent, status_length}
use Rattle.sessions.proofs.Changes.{Open, is_open_open}
use Rattle.admit.specs.Admit.{admit_of, unless_spoiled, unspoiled_of, said}
use Rattle.admit.proofs.Admits.{Admission, admit_of_refused, admit_of_calm, admit_of_at}

-- session x is admitted to these areas and this desk, at place k
pub record Admits (d u s : List ℕ) (desk : Desk) (x k : ℕ) : Type 0 where
  pub passed : Admission (length d) (length u) (length s) desk x k

module _ (d u s : List ℕ) (desk : Desk) (x : ℕ) where
  abbrev pub admission : Result ℕ Refusal
  admission = admit_of (length d) (length u) (length s) desk x

  -- the front of every session call's list of refusals
  abbrev pub asks : List (Bool × ℕ) → List (Bool × ℕ)
  asks rest = (bad_length (areas d u s), 1) ∷ (not (sound desk), 2) ∷ (not (is_open x desk.numbers), 4) ∷ rest

  -- the session is refused, whatever stands behind 4
  pub refuses : {A : Type 0} (n : Refusal) (rest : List (Bool × ℕ)) (done : A) (refused : ℕ → A)
      → admission ≡ Err n
      → settle (first_of (asks rest)) done refused ≡ refused (code_of n)
  refuses n rest done refused e =
      admit_of_refused (length d) (length u) (length s) desk x n rest done refused e

  pub admits : (k : ℕ) → admission ≡ Ok k → Admits d u s desk x k
  admits k e =
      record { passed = admit_of_at (length d) (length u) (length s) desk x k e }

  -- where nothing is refused the session was admitted, and nothing behind 4 is refused
  pub accepts : (rest : List (Bool × ℕ)) → first_of (asks rest) ≡ 0 → Admits d u s desk x (place_in x desk.numbers) × (first_of rest ≡ 0)
  accepts rest e =
      let l = first_of_none (bad_length (areas d u s)) 1 _ (λ z. omega arith) e in
      let b = first_of_none (not (sound desk)) 2 _ (λ z. omega arith) l.1 in
      let o = first_of_none (not (is_open x desk.numbers)) 4 _ (λ z. omega arith) b.1 in
      (record { passed = record { lengths = not-false _ l.0; sound = not-false _ b.0; opened = not-false _ o.0; place = refl } }, o.1)

  -- a number that is none of admission's is told behind it: of a sound desk on which the session is open
  pub told_behind : (n : ℕ) (rest : List (Bool × ℕ)) → (1 ≡ n → ⊥) → (2 ≡ n → ⊥) → (4 ≡ n → ⊥) → first_of (asks rest) ≡ n
      → (sound desk ≡ true) × (is_open x desk.numbers ≡ true) × (first_of rest ≡ n)
  told_behind n rest no-1 no-2 no-4 e =
      let l = first_of_past n (bad_length (areas d u s)) 1 _ no-1 e in
      let b = first_of_past n (not (sound desk)) 2 _ no-2 l.1 in
      let o = first_of_past n (not (is_open x desk.numbers)) 4 _ no-4 b.1 in
      (not-false _ b.0, not-false _ o.0, o.1)

  module _ (k : ℕ) (a : Admits d u s desk x k) where
    -- the list goes on behind 4
    pub goes_on : {A : Type 0} (rest : List (Bool × ℕ)) (done : A) (refused : ℕ → A)
        → settle (first_of (asks rest)) done refused ≡ settle (first_of rest) done refused
    goes_on rest done refused = rw (a.passed.lengths, a.passed.sound, a.passed.opened)

    -- ---- what an admitted session is on its desk

    admits_open : Open desk x
    admits_open = is_open_open desk x a.passed.sound a.passed.opened

    pub admits_at : k ≡ place_in x desk.numbers
    admits_at = a.passed.place

    pub admits_place : k < 16
    admits_place = omega (arith, a.passed.place, admits_open.place)

    pub admits_number : get_or desk.numbers k 0 ≡ x
    admits_number = rw a.passed.place admits_open.here

    pub admits_sound : sound desk ≡ true
    admits_sound = a.passed.sound

    pub admits_from : 1 ≤ x
    admits_from = admits_open.from

    pub admits_session : x < 32576
    admits_session = admits_open.last

    pub admits_statement : get_or desk.statements k 0 ≤ 65535
    admits_statement = rw a.passed.place admits_open.statement

    -- ---- and what the areas are

    pub admits_lent : AllLent (length d) (length u) (length s)
    admits_lent = all_lent (length d) (length u) (length s) a.passed.lengths

    pub admits_status : length s ≡ 8192
    admits_status = status_length (length d) (length u) (length s) a.passed.lengths

-- ---- the calls that answer 18 to a spoiled session, "directly after 4" ("02, T-07")

-- session x is admitted at place k, and not spoiled
pub record Unspoiled (d u s : List ℕ) (desk : Desk) (x k : ℕ) : Type 0 where
  pub admitted : Admits d u s desk x k
  pub unspoiled : is_spoiled x desk ≡ false

module _ (d u s : List ℕ) (desk : Desk) (x : ℕ) where
  abbrev pub unspoiled_admission : Result ℕ Refusal
  unspoiled_admission = unspoiled_of (length d) (length u) (length s) desk x

  -- the front of their lists of refusals
  abbrev pub asks_unspoiled : List (Bool × ℕ) → List (Bool × ℕ)
  asks_unspoiled rest = asks d u s desk x ((is_spoiled x desk, 18) ∷ rest)

  -- the mark is the one at the place of admission
  mark_there : (k : ℕ) → Admits d u s desk x k → spoiled_at k desk ≡ is_spoiled x desk
  mark_there k a = ap (λ (i : ℕ). spoiled_at i desk) (admits_at d u s desk x k a)

  -- what is refused, by what admission said: P holds of 18 where the session is spoiled, and of what admission refused else
  refused_by_lem : (n : Refusal) (P : Refusal → Type 0) → unspoiled_admission ≡ Err n
      → ((m : Refusal) → admission d u s desk x ≡ Err m → P m)
      → ((k : ℕ) → Admits d u s desk x k → is_spoiled x desk ≡ true → P Spoiled)
      → P n
  unfolding unspoiled_of
  refused_by_lem n P e first last = by (admission d u s desk x) refl e
    where
      at : (k : ℕ) → admission d u s desk x ≡ Ok k → (t : Bool) → spoiled_at k desk ≡ t → cond t (Err Spoiled) (Ok k) ≡ Err n → P n
      at k is true marked f =
          let a = admits d u s desk x k is in
          let q : Spoiled ≡ n = cc in
          subst P q (last k a (sym (mark_there k a) ∙ marked))
      at k is false marked f = let z : ◌≡◌ {A = ℕ} 0 1 = cc in absurd (omega arith)

      by : (r : Result ℕ Refusal) → admission d u s desk x ≡ r → unless_spoiled desk r ≡ Err n → P n
      by (Err m) is f = let q : m ≡ n = cc in subst P q (first m is)
      by (Ok k) is f = at k is (spoiled_at k desk) refl f

  -- the session is refused, whatever stands behind 18
  pub refuses_unspoiled : {A : Type 0} (n : Refusal) (rest : List (Bool × ℕ)) (done : A) (refused : ℕ → A)
      → unspoiled_admission ≡ Err n
      → settle (first_of (asks_unspoiled rest)) done refused ≡ refused (code_of n)
  refuses_unspoiled n rest done refused e =
      refused_by_lem n (λ (m : Refusal). settle (first_of (asks_unspoiled rest)) done refused ≡ refused (code_of m)) e
      (λ m f. refuses d u s desk x m ((is_spoiled x desk, 18) ∷ rest) done refused f)
      (λ k a f. goes_on d u s desk x k a ((is_spoiled x desk, 18) ∷ rest) done refused ∙ rw f refl)

  -- and that is no 10
  pub refuses_calm : (n : Refusal) → unspoiled_admission ≡ Err n → eqb (code_of n) 10 ≡ false
  refuses_calm n e =
      refused_by_lem n (λ (m : Refusal). eqb (code_of m) 10 ≡ false) e (λ m f. admit_of_calm (length d) (length u) (length s) desk x m f) (λ k a f. refl)

  pub admits_unspoiled : (k : ℕ) → unspoiled_admission ≡ Ok k → Unspoiled d u s desk x k
  unfolding unspoiled_of
  admits_unspoiled k e = by (admission d u s desk x) refl e
    where
      at : (p : ℕ) → admission d u s desk x ≡ Ok p → (t : Bool) → spoiled_at p desk ≡ t → cond t (Err Spoiled) (Ok p) ≡ Ok k → Unspoiled d u s desk x k
      at p is true marked f = let z : ◌≡◌ {A = ℕ} 0 1 = cc in absurd (omega arith)
      at p is false marked f =
          let q : p ≡ k = cc in
          let a = admits d u s desk x p is in
          subst (Unspoiled d u s desk x) q (record { admitted = a; unspoiled = sym (mark_there p a) ∙ marked })

      by : (r : Result ℕ Refusal) → admission d u s desk x ≡ r → unless_spoiled desk r ≡ Ok k → Unspoiled d u s desk x k
      by (Err m) is f = let z : ◌≡◌ {A = ℕ} 0 1 = cc in absurd (omega arith)
      by (Ok p) is f = at p is (spoiled_at p desk) refl f

  -- where nothing is refused the session was admitted and is not spoiled, and nothing behind 18 is refused
  pub accepts_unspoiled : (rest : List (Bool × ℕ)) → first_of (asks_unspoiled rest) ≡ 0
      → Unspoiled d u s desk x (place_in x desk.numbers) × (first_of rest ≡ 0)
  accepts_unspoiled rest e =
      let a = accepts d u s desk x ((is_spoiled x desk, 18) ∷ rest) e in
      let m = first_of_none (is_spoiled x desk) 18 _ (λ z. omega arith) a.1 in
      (record { admitted = a.0; unspoiled = m.0 }, m.1)

  -- the list goes on behind 18
  pub goes_past : (k : ℕ) → Unspoiled d u s desk x k → {A : Type 0} (rest : List (Bool × ℕ)) (done : A) (refused : ℕ → A)
      → settle (first_of (asks_unspoiled rest)) done refused ≡ settle (first_of rest) done refused
  goes_past k a rest done refused = goes_on d u s desk x k a.admitted ((is_spoiled x desk, 18) ∷ rest) done refused ∙ rw a.unspoiled refl

  pub told_past : (n : ℕ) (rest : List (Bool × ℕ)) → (1 ≡ n → ⊥) → (2 ≡ n → ⊥) → (4 ≡ n → ⊥) → (18 ≡ n → ⊥) → first_of (asks_unspoiled rest) ≡ n
      → (sound desk ≡ true) × (is_open x desk.numbers ≡ true) × (first_of rest ≡ n)
  told_past n rest no-1 no-2 no-4 no-18 e =
      let a = told_behind d u s desk x n ((is_spoiled x desk, 18) ∷ rest) no-1 no-2 no-4 e in
      (a.0, a.1, (first_of_past n (is_spoiled x desk) 18 (first_of rest) no-18 a.2).1)

-- ---- no second answer and no second words say the same

pub said_once : (w w' : List ℕ) → length w ≡ all_words → length w' ≡ all_words → (r r' : Result (Unit {0}) Refusal) → said r w ≡ said r' w' → (r ≡ r') × (w ≡ w')
said_once w w' long long' r r' e =
    (done_once r r' (ap (λ (p : ℕ × Desk). p.0) e), words_once w w' long long' (ap (λ (p : ℕ × Desk). p.1) e))
