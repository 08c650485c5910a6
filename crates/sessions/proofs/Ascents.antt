-- What an ascending run of places says of each of them, by what is before it, and that this makes a run ascending; two runs that
-- agree; and a test that passes at the first places only. Assumes nothing.
use mathlib.Core.Path.{◌≡◌, refl, sym, ap, ap₂, ◌∙◌}
use mathlib.Core.Bool.{Bool, true, false, ◌&&◌, ◌||◌, cond}
use mathlib.Core.List.{List}
use mathlib.Core.Logic.{⊎_elim}
use Prim.Native.Nat.{ℕ, zero, suc, ◌+◌, ◌<◌, ◌≤◌}
use native.Mathlib.Nat.{eq-or-lt_of_le}
use native.Mathlib.Numerals.{add-one}
use native.Mathlib.Omega.{arith}
use lib.ListN.{get_or}
use lib.Dec.{eqb, ltb}
use borrow.Author.Tests.{eqb-false, ne_eqb, lt-ltb, ltb-true}
use Rattle.ground.specs.Range.{count_below}
use Rattle.ground.proofs.Ranges.{and_true_left, and_true_right, all_at, all_intro, all_agree, or_true_right}
use Rattle.places.specs.Places.{follows, placed, ascending}

-- ---- a run, place by place

-- place i of x is below `top`, and above each place before it, none of which is unused
pub record Rising (top : ℕ) (x : ℕ → ℕ) (i : ℕ) : Type 0 where
  pub below : x i < top
  pub before : (j : ℕ) → j < i → (0 < x j) × (x j < x i)

module _ (top : ℕ) (l : List ℕ) (at : ℕ) where
  placed_used : (i : ℕ)
      → placed top l at i ≡ true
      → (get_or l (at + i) 0 ≡ 0 → ⊥)
      → (ltb (get_or l (at + i) 0) top && follows l at i) ≡ true
  unfolding placed
  placed_used i e u =
      or_true_right (eqb (get_or l (at + i) 0) 0) (ltb (get_or l (at + i) 0) top && follows l at i) e (ne_eqb (get_or l (at + i) 0) 0 u)

  placed_below : (i : ℕ) → placed top l at i ≡ true → (get_or l (at + i) 0 ≡ 0 → ⊥) → get_or l (at + i) 0 < top
  placed_below i e u = ltb-true _ _ (and_true_left (ltb (get_or l (at + i) 0) top) (follows l at i) (placed_used i e u))

  placed_above : (i : ℕ)
      → placed top l at (suc i) ≡ true
      → (get_or l (at + suc i) 0 ≡ 0 → ⊥)
      → (0 < get_or l (at + i) 0) × (get_or l (at + i) 0 < get_or l (at + suc i) 0)
  unfolding follows
  placed_above i e u =
      let low : Bool = ltb 0 (get_or l (at + i) 0) in
      let up : Bool = ltb (get_or l (at + i) 0) (get_or l (at + suc i) 0) in
      let f = and_true_right (ltb (get_or l (at + suc i) 0) top) (low && up) (placed_used (suc i) e u) in
      (ltb-true _ _ (and_true_left low up f), ltb-true _ _ (and_true_right low up f))

  ascending_before : (n : ℕ)
      → ascending top l at n ≡ true
      → (i j : ℕ)
      → j < i
      → i < n
      → (get_or l (at + i) 0 ≡ 0 → ⊥)
      → (0 < get_or l (at + j) 0) × (get_or l (at + j) 0 < get_or l (at + i) 0)
  unfolding ascending
  ascending_before n a zero j h m u = absurd (omega arith)
  ascending_before n a (suc i) j h m u =
      let last = placed_above i (all_at (placed top l at) n a (suc i) m) u in
      let some : get_or l (at + i) 0 ≡ 0 → ⊥ = λ e. omega arith in
      let le : j ≤ i = omega arith in
      ⊎_elim
      (λ (e : j ≡ i). rw e last)
      (λ (q : j < i). let p = ascending_before n a i j q (omega arith) some in (p.0, omega arith))
      (eq-or-lt_of_le le)

  follows_rising : (i : ℕ)
      → ((j : ℕ) → j < i → (0 < get_or l (at + j) 0) × (get_or l (at + j) 0 < get_or l (at + i) 0))
      → follows l at i ≡ true
  unfolding follows
  follows_rising zero f = refl
  follows_rising (suc i) f =
      let p = f i (omega arith) in ap₂ ◌&&◌ (lt-ltb _ _ p.0) (lt-ltb _ _ p.1)

  module _ (x : ℕ → ℕ) (is : (i : ℕ) → x i ≡ get_or l (at + i) 0) (n : ℕ) where
    pub ascending_rising : ascending top l at n ≡ true → (i : ℕ) → i < n → (x i ≡ 0 → ⊥) → Rising top x i
    unfolding ascending
    ascending_rising a i h u =
        let used : get_or l (at + i) 0 ≡ 0 → ⊥ = λ e. u (is i ∙ e) in
        record {
          below = rw is (placed_below i (all_at (placed top l at) n a i h) used);
          before = λ j q. rw (is j, is i) (ascending_before n a i j q h used);
        }

    placed_rising : ((i : ℕ) → i < n → (x i ≡ 0 → ⊥) → Rising top x i) → (i : ℕ) → i < n → placed top l at i ≡ true
    unfolding placed
    placed_rising f i h = by (eqb (get_or l (at + i) 0) 0) refl
      where
        by : (t : Bool)
            → eqb (get_or l (at + i) 0) 0 ≡ t
            → (t || (ltb (get_or l (at + i) 0) top && follows l at i)) ≡ true
        by true e = refl
        by false e =
            let r = f i h (λ q. eqb-false _ _ e (sym (is i) ∙ q)) in
            let low : get_or l (at + i) 0 < top = rw (← is i) r.below in
            ap₂ ◌&&◌ (lt-ltb _ _ low) (follows_rising i (λ j q. rw (← is j, ← is i) (r.before j q)))

    pub rising_ascending : ((i : ℕ) → i < n → (x i ≡ 0 → ⊥) → Rising top x i) → ascending top l at n ≡ true
    unfolding ascending
    rising_ascending f = all_intro (placed top l at) n (placed_rising f)

-- ---- two runs that agree

module _ (top : ℕ) (l m : List ℕ) (at bt n : ℕ) (same : (i : ℕ) → i < n → get_or l (at + i) 0 ≡ get_or m (bt + i) 0) where
  placed_agree : (i : ℕ) → i < n → placed top l at i ≡ placed top m bt i
  unfolding placed follows
  placed_agree zero h = rw (same 0 h)
  placed_agree (suc i) h = rw (same (suc i) h, same i (omega arith))

  pub ascending_agree : ascending top l at n ≡ ascending top m bt n
  unfolding ascending
  ascending_agree = all_agree (placed top l at) (placed top m bt) n placed_agree

-- a run's first places
pub ascending_less : (top : ℕ) (l : List ℕ) (at n m : ℕ) → m ≤ n → ascending top l at n ≡ true → ascending top l at m ≡ true
unfolding ascending
ascending_less top l at n m h a = all_intro (placed top l at) m (λ i q. all_at (placed top l at) n a i (omega arith))

-- ---- a test that passes at the first places only: as many as are counted

module _ (f : ℕ → Bool) where
  -- it passes at i where it passes at i + 1
  abbrev pub Starts : ℕ → Type 0
  Starts n = (i : ℕ) → suc i < n → f (suc i) ≡ true → f i ≡ true

  count_full : (n : ℕ) → Starts (suc n) → f n ≡ true → count_below f n ≡ n
  unfolding count_below
  count_full zero s e = refl
  count_full (suc n) s e =
      let p : f n ≡ true = s n (omega arith) e in
      ap₂ (λ (a : ℕ) (b : Bool). a + cond b 1 0) (count_full n (λ i h. s i (omega arith)) p) p ∙ add-one n

  pub count_below_lem : (n : ℕ) → Starts n → (i : ℕ) → i < count_below f n → f i ≡ true
  unfolding count_below
  count_below_lem zero s i h = absurd (omega arith)
  count_below_lem (suc n) s i h = by (f n) refl (count_below_lem n (λ j q. s j (omega arith)) i) h
    where
      by : (t : Bool) → f n ≡ t → (i < count_below f n → f i ≡ true) → i < count_below f n + cond t 1 0 → f i ≡ true
      by true e g q =
          let full : count_below f n ≡ n = count_full n s e in
          let le : i ≤ n = omega arith in
          ⊎_elim (λ (p : i ≡ n). ap f p ∙ e) (λ (p : i < n). g (omega arith)) (eq-or-lt_of_le le)
      by false e g q = g (omega arith)

  pub count_past : (n : ℕ) → Starts n → (i : ℕ) → count_below f n ≤ i → i < n → f i ≡ false
  unfolding count_below
  count_past zero s i h l = absurd (omega arith)
  count_past (suc n) s i h l = by (f n) refl (count_past n (λ j q. s j (omega arith)) i) h
    where
      by : (t : Bool)
          → f n ≡ t
          → (count_below f n ≤ i → i < n → f i ≡ false)
          → count_below f n + cond t 1 0 ≤ i
          → f i ≡ false
      by true e g q = let full : count_below f n ≡ n = count_full n s e in absurd (omega arith)
      by false e g q =
          let le : i ≤ n = omega arith in
          ⊎_elim (λ (p : i ≡ n). ap f p ∙ e) (λ (p : i < n). g (omega arith) p) (eq-or-lt_of_le le)
