-- A call of the station's library, from what its own function ensures; the desk's words, by whether the call is done, or refused by 10; and
-- where a body lies, as the code finds it. Assumes nothing.
use Prim.Native.Nat.{ℕ, ◌+◌, ◌≤◌, ◌<◌}
use mathlib.Core.Path.{◌≡◌, refl, sym, ap, ◌∙◌}
use mathlib.Core.Bool.{Bool, true, false, cond}
use mathlib.Core.List.{List}
use lib.ListN.{length}
use native.Mathlib.Omega.{arith}
use lib.Dec.{eqb}
use borrow.Author.Tests.{eqb-false, lt-ltb, le-ltb}
use Rattle.ground.specs.Does.{Does}
use Rattle.ground.specs.Refuse.{kept}
use Rattle.kind.specs.Kind.{rows, entries}
use Rattle.kind.specs.Areas.{Areas}
use Rattle.places.specs.Open.{place_in}
use Rattle.desk.specs.declared.Desk.{Desk}
use Rattle.desk.specs.Turns.{spoiled}
use Rattle.records.specs.Slot.{slot_place}
use Rattle.records.specs.Entry.{entry_place}
use Rattle.chain.specs.declared.Place.{Place}
use Rattle.chain.specs.declared.Place.TheVariants.{Nowhere, Data, Undo}
use Rattle.words.specs.Words.{all_words, desk_in, words_of}
use Rattle.words.proofs.Laws.{words_back, words_once}
use Rattle.rows.specs.Rows.{refused_desk}
use Rattle.station.specs.Station.{handed, lies_of}

-- ---- a call

-- what a call answers and leaves, by what its own function says (`code`, `words`, `out`) and leaves (`lent`)
pub calls : {A B : Type 0} (code : A → ℕ) (lent : B → Areas) (words out : A → List ℕ) (rule : A × B) {a : A} {b : B} {n : ℕ} {w o : List ℕ}
    → Does rule a b
    → n ≡ code a
    → w ≡ words a
    → o ≡ out a
    → Does (code rule.0, handed (lent rule.1) (words rule.0) (out rule.0)) n (handed (lent b) w o)
calls code lent words out rule done n w o =
    let l = done.leaves in
    let w' = w ∙ ap words done.answers in
    let o' = o ∙ ap out done.answers in
    record { answers = n ∙ ap code done.answers; leaves = λ i. handed (lent (l i)) (w' i) (o' i) }

-- a call that writes no area leaves them
pub reads : {A B : Type 0} (rule : A) {a : A} (b : B) → a ≡ rule → Does (rule, b) a b
reads rule b e = record { answers = e; leaves = refl }

-- ---- the desk's words, by whether the call is done, or refused by 10

-- the desk that format and open hand back, where they are done: the answer, as its function says it
pub kept_by : {n m : ℕ} (d : Desk) (w : List ℕ) {l : List ℕ} → n ≡ m → l ≡ kept n (words_of d) w → l ≡ kept m (words_of (kept m d (desk_in w))) w
kept_by {m = m} d w same e = e ∙ ap (λ (n : ℕ). kept n (words_of d) w) same ∙ once (eqb m 0)
  where
    once : (t : Bool) → cond t (words_of d) w ≡ cond t (words_of (cond t d (desk_in w))) w
    once true = refl
    once false = refl

-- words w that a call has changed to w', where a refused call leaves the desk that they say
pub kept_words : (w w' : List ℕ) → length w ≡ all_words → length w' ≡ all_words → (n : ℕ) → ((n ≡ 0 → ⊥) → desk_in w' ≡ desk_in w) → w' ≡ kept n (words_of (desk_in w')) w
kept_words w w' long long' n left = by (eqb n 0) refl
  where
    by : (t : Bool) → eqb n 0 ≡ t → w' ≡ cond t (words_of (desk_in w')) w
    by true e = sym (words_back w' long')
    by false e = words_once w' w long' long (left (eqb-false n 0 e))

-- words w that an update or a delete of session x has changed to w': they change only where it answers 10 ("02, T-07")
pub marked_words : (w w' : List ℕ) → length w ≡ all_words → length w' ≡ all_words → {n m : ℕ} (x : ℕ) → n ≡ m → desk_in w' ≡ refused_desk m x (desk_in w)
    → w' ≡ cond (eqb n 10) (words_of (desk_in w')) w
unfolding refused_desk
marked_words w w' long long' {n} {m} x same left = by (eqb m 10) left ∙ ap (λ (k : ℕ). cond (eqb k 10) (words_of (desk_in w')) w) (sym same)
  where
    by : (t : Bool) → desk_in w' ≡ cond t (spoiled (place_in x (desk_in w).numbers) (desk_in w)) (desk_in w) → w' ≡ cond t (words_of (desk_in w')) w
    by true e = sym (words_back w' long')
    by false e = words_once w' w long' long e

-- ---- where a body lies: `at` is the place of its record, as the code found it

module _ {place : Place} (d u : List ℕ) where
  -- n is how many there are
  pub lies_slot : {at n : ℕ} (r : ℕ) → place ≡ Data r → n ≡ rows d → r < n → at ≡ slot_place r → (1, at + 32) ≡ lies_of place d u
  unfolding lies_of
  lies_slot r is all inside found = rw (is, lt-ltb r (rows d) (omega arith)) (ap (λ (n : ℕ). (1, n + 32)) found)

  pub lies_copy : {at n : ℕ} (e : ℕ) → place ≡ Undo e → n ≡ entries u → e < n → at ≡ entry_place e → (2, at + 48) ≡ lies_of place d u
  unfolding lies_of
  lies_copy e is all inside found = rw (is, lt-ltb e (entries u) (omega arith)) (ap (λ (n : ℕ). (2, n + 48)) found)

  pub lies_nowhere : place ≡ Nowhere → (0, 0) ≡ lies_of place d u
  unfolding lies_of
  lies_nowhere is = rw is

  pub lies_no_slot : {n : ℕ} (r : ℕ) → place ≡ Data r → n ≡ rows d → n ≤ r → (0, 0) ≡ lies_of place d u
  unfolding lies_of
  lies_no_slot r is all outside = rw (is, le-ltb r (rows d) (omega arith))

  pub lies_no_copy : {n : ℕ} (e : ℕ) → place ≡ Undo e → n ≡ entries u → n ≤ e → (0, 0) ≡ lies_of place d u
  unfolding lies_of
  lies_no_copy e is all outside = rw (is, le-ltb e (entries u) (omega arith))
