-- What the rules of sight say, case by case: who is committed, listed, seen and known, and when a version is there.
-- Assumes nothing.
use mathlib.Core.Path.{◌≡◌, refl, sym, ◌∙◌}
use mathlib.Core.Bool.{Bool, true, false, not, ◌&&◌, cond, and-true, and-false, or-false, true≢false}
use mathlib.Core.Logic.{⊎_elim}
use mathlib.Core.List.{List}
use Prim.Native.Nat.{ℕ, ◌≤◌, ◌<◌}
use native.Mathlib.Omega.{arith}
use lib.Dec.{eqb, leb, ltb}
use lib.ListN.{get_or, length}
use denote.Enum.Bare.{sameb}
use borrow.Author.Tests.{eqb-true, eqb-false, eq-eqb, ne_eqb, leb-true, le-leb, lt-leb, ltb-true, lt-ltb, le-ltb, not-true}
use Rattle.std.specs.List.{list_any}
use Rattle.std.proofs.lemmas.List.Recursion.{or_is}
use Rattle.ground.specs.Range.{first_from}
use Rattle.ground.proofs.Ranges.{lt_or_le, and_true_left, and_true_right, first_passes, first_before}
use Rattle.desk.specs.View.{View}
use Rattle.status.specs.declared.Status.{Status}
use Rattle.status.specs.declared.Status.TheVariants.{InWork, Committed, Withdrawn, Reserved}
use Rattle.status.specs.contracts.Status.{the_type}
use Rattle.status.specs.Status.{last_number, status_at}
use Rattle.sight.specs.declared.Stamp.{Stamp}
use Rattle.sight.specs.Sight.{standing, is_committed, committed, listed, sees, earlier, known, there}

-- ---- committed

committed_is : (v : Status) → is_committed v ≡ true → v ≡ Committed
committed_is InWork e = let z : ◌≡◌ {A = ℕ} 0 1 = cc in absurd (omega arith)
committed_is Committed e = refl
committed_is Withdrawn e = let z : ◌≡◌ {A = ℕ} 0 1 = cc in absurd (omega arith)
committed_is Reserved e = let z : ◌≡◌ {A = ℕ} 0 1 = cc in absurd (omega arith)

-- as the derived equality tells it
pub same_committed : (v : Status) → sameb the_type v Committed ≡ is_committed v
same_committed InWork = refl
same_committed Committed = refl
same_committed Withdrawn = refl
same_committed Reserved = refl

pub committed_zero : (s : List ℕ) → committed 0 s ≡ false
unfolding committed standing
committed_zero s = refl

module _ (x : ℕ) (s : List ℕ) where
  pub committed_above : 32575 < x → committed x s ≡ false
  unfolding committed standing
  committed_above h = rw (lt-leb x last_number h, and-false)

  pub committed_in : committed x s ≡ true → (1 ≤ x) × (x ≤ 32575) × (status_at x s ≡ Committed)
  unfolding committed standing
  committed_in e = by (leb 1 x && leb x last_number) refl e
    where
      by : (t : Bool)
          → (leb 1 x && leb x last_number) ≡ t
          → is_committed (cond t (status_at x s) InWork) ≡ true
          → (1 ≤ x) × (x ≤ 32575) × (status_at x s ≡ Committed)
      by true g h = (
        leb-true 1 x (and_true_left (leb 1 x) (leb x last_number) g),
        leb-true x last_number (and_true_right (leb 1 x) (leb x last_number) g),
        committed_is (status_at x s) h,
      )
      by false g h = let z : ◌≡◌ {A = ℕ} 0 1 = cc in absurd (omega arith)

  pub committed_intro : 1 ≤ x → x ≤ 32575 → status_at x s ≡ Committed → committed x s ≡ true
  unfolding committed standing
  committed_intro l h e = rw (le-leb 1 x l, le-leb x last_number h, e)

-- ---- listed

module _ (x : ℕ) (l : List ℕ) where
  pub listed_at : listed x l ≡ true → (k : ℕ) × (k < length l) × (get_or l k 0 ≡ x)
  unfolding listed
  listed_at e =
      let h = ltb-true (first_from (λ (k : ℕ). eqb (get_or l k 0) x) 0 (length l)) (length l) e in (
        first_from (λ (k : ℕ). eqb (get_or l k 0) x) 0 (length l),
        h,
        eqb-true _ _ (first_passes (λ (k : ℕ). eqb (get_or l k 0) x) 0 (length l) (omega arith)),
      )

  pub listed_intro : (k : ℕ) → k < length l → get_or l k 0 ≡ x → listed x l ≡ true
  unfolding listed
  listed_intro k h e =
      ⊎_elim
      (λ p. lt-ltb (first_from (λ (i : ℕ). eqb (get_or l i 0) x) 0 (length l)) (length l) p)
      (λ p. absurd (passed p))
      (lt_or_le (first_from (λ (i : ℕ). eqb (get_or l i 0) x) 0 (length l)) (length l))
    where
      passed : length l ≤ first_from (λ (i : ℕ). eqb (get_or l i 0) x) 0 (length l) → ⊥
      passed p =
          eqb-false (get_or l k 0) x (first_before (λ (i : ℕ). eqb (get_or l i 0) x) 0 (length l) k (omega arith) (omega arith)) e

  -- as an iterator asks each of them
  pub any_listed : list_any (λ (m : ℕ). eqb m x) l ≡ listed x l
  any_listed = sym (or_is (list_any (λ (m : ℕ). eqb m x)) (λ (m : ℕ). eqb m x) refl (λ _ _. refl) l 0 (listed x l) somewhere nowhere)
    where
      somewhere : listed x l ≡ true → (i : ℕ) × (i < length l) × (eqb (get_or l i 0) x ≡ true)
      somewhere e = let f = listed_at e in (f.0, f.1, eq-eqb (get_or l f.0 0) x f.2)

      nowhere : listed x l ≡ false → (i : ℕ) → i < length l → eqb (get_or l i 0) x ≡ false
      nowhere e i h = ne_eqb (get_or l i 0) x (λ f. true≢false (sym (listed_intro i h f) ∙ e))

-- ---- seen

module _ (number : ℕ) (list s : List ℕ) (x : ℕ) where
  pub sees_committed : sees number list s x ≡ true → committed x s ≡ true
  unfolding sees
  sees_committed e = and_true_right (not (eqb x 0) && ltb x number && not (listed x list)) (committed x s) e

  open_number : sees number list s x ≡ true → (not (eqb x 0) && ltb x number && not (listed x list)) ≡ true
  unfolding sees
  open_number e = and_true_left (not (eqb x 0) && ltb x number && not (listed x list)) (committed x s) e

  pub sees_unlisted : sees number list s x ≡ true → listed x list ≡ false
  sees_unlisted e = not-true _ (and_true_right (not (eqb x 0) && ltb x number) (not (listed x list)) (open_number e))

  pub sees_below : sees number list s x ≡ true → x < number
  sees_below e =
      ltb-true x number
      (and_true_right (not (eqb x 0)) (ltb x number)
      (and_true_left (not (eqb x 0) && ltb x number) (not (listed x list)) (open_number e)))

  pub sees_some : sees number list s x ≡ true → x ≡ 0 → ⊥
  sees_some e z = let h = (committed_in x s (sees_committed e)).0 in omega arith

  -- an order in which the list comes last
  pub sees_far : number ≤ x → sees number list s x ≡ false
  unfolding sees
  sees_far h = rw (le-ltb x number h, and-false)

  pub sees_open : committed x s ≡ false → sees number list s x ≡ false
  unfolding sees
  sees_open e = rw (e, and-false)

  pub sees_rest : x < number → committed x s ≡ true → sees number list s x ≡ not (listed x list)
  unfolding sees
  sees_rest h e =
      let n : x ≡ 0 → ⊥ = λ z. (let g = (committed_in x s e).0 in omega arith) in
      rw (ne_eqb x 0 n, lt-ltb x number h, e, and-true)

  pub sees_intro : x < number → listed x list ≡ false → committed x s ≡ true → sees number list s x ≡ true
  sees_intro h l e = rw (sees_rest h e, l)

-- ---- known

module _ (v : View) (s : List ℕ) (x cmd : ℕ) where
  pub known_own : x ≡ v.number → known v s x cmd ≡ ltb cmd v.statement
  unfolding known earlier
  known_own e = rw (eq-eqb x v.number e, sees_far v.number v.list s x (omega arith)) (or-false (ltb cmd v.statement))

  pub known_other : (x ≡ v.number → ⊥) → known v s x cmd ≡ sees v.number v.list s x
  unfolding known earlier
  known_other n = rw (ne_eqb x v.number n)

-- ---- there

module _ (v : View) (s : List ℕ) (t : Stamp) where
  pub there_unknown : known v s t.create t.cmd ≡ false → there v s t ≡ false
  unfolding there
  there_unknown e = rw e

  pub there_unexpired : t.expire ≡ 0 → there v s t ≡ known v s t.create t.cmd
  unfolding there
  there_unexpired e = rw (eq-eqb t.expire 0 e, and-true)

  pub there_expired : (t.expire ≡ 0 → ⊥)
      → known v s t.create t.cmd ≡ true
      → there v s t ≡ not (known v s t.expire t.expire_cmd)
  unfolding there
  there_expired n e = rw (e, ne_eqb t.expire 0 n)
