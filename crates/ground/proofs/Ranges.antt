-- The laws of first, count and all over a range, each in the steps of a loop: here, next, end; and laws of plain truth values, for every
-- crate above. Assumes nothing.
use mathlib.Core.Path.{◌≡◌, refl, sym, ap, ap₂, ◌∙◌}
use mathlib.Core.Logic.{◌⊎◌, inl, inr, ⊎_elim}
use mathlib.Core.Bool.{Bool, true, false, ◌&&◌, ◌||◌, cond, and-false, true≢false}
use Prim.Native.Nat.{ℕ, zero, suc, ◌+◌, ◌-◌, ◌≤◌, ◌<◌}
use native.Mathlib.Nat.{not-suc-le-zero, eq-or-lt_of_le, le_of_suc-le-suc, add-zero}
use native.Mathlib.Numerals.{add-one}
use native.Mathlib.Omega.{arith}
use lib.Dec.{ltb}
use borrow.Author.Tests.{ltb-true, ltb-false, lt-leb, le-leb}
use Rattle.std.proofs.lemmas.Option.{none-some, same_Some}
use Rattle.std.specs.Prelude.{Some, None}
use Rattle.ground.specs.Range.{first_from, count_below, all_below, found_below}

pub lt_or_le : (a b : ℕ) → (a < b) ⊎ (b ≤ a)
lt_or_le a b = by (ltb a b) refl
  where
    by : (t : Bool) → ltb a b ≡ t → (a < b) ⊎ (b ≤ a)
    by true e = inl (ltb-true a b e)
    by false e = inr (ltb-false a b e)

-- the last index below n + 1, or one below n
last_or_below : (i n : ℕ) → i < suc n → (i ≡ n) ⊎ (i < n)
last_or_below i n h = eq-or-lt_of_le (le_of_suc-le-suc h)

-- ---- truth values

pub and_true_left : (a b : Bool) → (a && b) ≡ true → a ≡ true
and_true_left true b e = refl
and_true_left false b e = e

pub and_true_right : (a b : Bool) → (a && b) ≡ true → b ≡ true
and_true_right true b e = e
and_true_right false true e = refl
and_true_right false false e = e

-- four tests, two by two, and a test that is asked again
pub and_mix : (a x b y : Bool) → ((a && x) && (b && y)) ≡ ((a && b) && (x && y))
and_mix true true b y = refl
and_mix true false b y = sym (and-false b)
and_mix false x b y = refl

pub and_again : (p q s : Bool) → ((p && q) && (q && s)) ≡ (p && (q && s))
and_again true true s = refl
and_again true false s = refl
and_again false q s = refl

pub or_false_left : (a b : Bool) → (a || b) ≡ false → a ≡ false
or_false_left true b e = e
or_false_left false b e = refl

pub or_false_right : (a b : Bool) → (a || b) ≡ false → b ≡ false
or_false_right true b e = absurd (true≢false e)
or_false_right false b e = e

pub or_true_right : (a b : Bool) → (a || b) ≡ true → a ≡ false → b ≡ true
or_true_right true b e f = absurd (true≢false f)
or_true_right false b e f = e

pub or_swap : (a b c : Bool) → (a || (b || c)) ≡ (b || (a || c))
or_swap true true c = refl
or_swap true false c = refl
or_swap false b c = refl

-- each holds where the other does
pub same_truth : (a b : Bool) → (a ≡ true → b ≡ true) → (b ≡ true → a ≡ true) → a ≡ b
same_truth true b there back = sym (there refl)
same_truth false true there back = back refl
same_truth false false there back = refl

module _ (f : ℕ → Bool) where
  -- ---- first

  pub first_here : (i n : ℕ) → i < n → f i ≡ true → first_from f i (n - i) ≡ i
  unfolding first_from
  first_here i n h e = let s : n - i ≡ suc (n - (i + 1)) = omega arith in ap (λ (m : ℕ). first_from f i m) s ∙ rw e

  pub first_next : (i n : ℕ) → i < n → f i ≡ false → first_from f i (n - i) ≡ first_from f (i + 1) (n - (i + 1))
  unfolding first_from
  first_next i n h e = let s : n - i ≡ suc (n - (i + 1)) = omega arith in ap (λ (m : ℕ). first_from f i m) s ∙ rw e

  pub first_end : (i n : ℕ) → n ≤ i → first_from f i (n - i) ≡ i
  unfolding first_from
  first_end i n h = let s : n - i ≡ 0 = omega arith in ap (λ (m : ℕ). first_from f i m) s

  pub first_le : (i n : ℕ) → first_from f i n ≤ i + n
  unfolding first_from
  first_le i zero = omega arith
  first_le i (suc n) = by (f i) (first_le (i + 1) n)
    where
      by : (t : Bool) → first_from f (i + 1) n ≤ i + 1 + n → cond t i (first_from f (i + 1) n) ≤ i + suc n
      by true g = omega arith
      by false g = omega arith

  -- what was found passes, and nothing before it does
  pub first_passes : (i n : ℕ) → first_from f i n < i + n → f (first_from f i n) ≡ true
  unfolding first_from
  first_passes i zero h = absurd (omega arith)
  first_passes i (suc n) h = by (f i) refl (first_passes (i + 1) n) h
    where
      by : (t : Bool)
          → f i ≡ t
          → (first_from f (i + 1) n < i + 1 + n → f (first_from f (i + 1) n) ≡ true)
          → cond t i (first_from f (i + 1) n) < i + suc n
          → f (cond t i (first_from f (i + 1) n)) ≡ true
      by true e g h = e
      by false e g h = g (omega arith)

  pub first_before : (i n k : ℕ) → i ≤ k → k < first_from f i n → f k ≡ false
  unfolding first_from
  first_before i zero k h l = absurd (omega arith)
  first_before i (suc n) k h l = by (f i) refl (first_before (i + 1) n k) l
    where
      by : (t : Bool)
          → f i ≡ t
          → (i + 1 ≤ k → k < first_from f (i + 1) n → f k ≡ false)
          → k < cond t i (first_from f (i + 1) n)
          → f k ≡ false
      by true e g l = absurd (omega arith)
      by false e g l =
          ⊎_elim (λ (q : i ≡ k). ap f (sym q) ∙ e) (λ (q : i < k). g (omega arith) l) (eq-or-lt_of_le h)

  -- ---- count

  pub count_more : (k : ℕ) → f k ≡ true → count_below f (k + 1) ≡ count_below f k + 1
  unfolding count_below
  count_more k e = rw add-one (ap (λ (b : Bool). count_below f k + cond b 1 0) e)

  pub count_same : (k : ℕ) → f k ≡ false → count_below f (k + 1) ≡ count_below f k
  unfolding count_below
  count_same k e = rw add-one (ap (λ (b : Bool). count_below f k + cond b 1 0) e ∙ add-zero (count_below f k))

  pub count_le : (n : ℕ) → count_below f n ≤ n
  unfolding count_below
  count_le zero = omega arith
  count_le (suc n) = by (f n) (count_le n)
    where
      by : (t : Bool) → count_below f n ≤ n → count_below f n + cond t 1 0 ≤ suc n
      by true g = omega arith
      by false g = omega arith

  pub count_none : (n : ℕ) → ((i : ℕ) → i < n → f i ≡ false) → count_below f n ≡ 0
  unfolding count_below
  count_none zero h = refl
  count_none (suc n) h =
      ap₂ ◌+◌ (count_none n (λ i l. h i (omega arith))) (ap (λ (b : Bool). cond b 1 0) (h n (omega arith)))

  -- ---- all

  pub all_more : (k : ℕ) → all_below f k ≡ true → f k ≡ true → all_below f (k + 1) ≡ true
  unfolding all_below
  all_more k a e = rw (add-one, a, e)

  -- a test more, and four of them behind those that hold
  all_next : (i n : ℕ) → n ≡ i + 1 → all_below f n ≡ (all_below f i && f i)
  unfolding all_below
  all_next i n h = ap (all_below f) (h ∙ add-one i)

  pub all_four : (i : ℕ) → all_below f i ≡ true → all_below f (i + 4) ≡ (f i && f (i + 1) && f (i + 2) && f (i + 3))
  all_four i e =
      rw (all_next (i + 3) (i + 4) (omega arith), all_next (i + 2) (i + 3) (omega arith), all_next (i + 1) (i + 2) (omega arith), all_next i (i + 1) refl, e)
      (refl)

  pub all_at : (n : ℕ) → all_below f n ≡ true → (i : ℕ) → i < n → f i ≡ true
  unfolding all_below
  all_at zero a i h = absurd (not-suc-le-zero h)
  all_at (suc n) a i h =
      ⊎_elim
      (λ (e : i ≡ n). ap f e ∙ and_true_right (all_below f n) (f n) a)
      (λ (l : i < n). all_at n (and_true_left (all_below f n) (f n) a) i l)
      (last_or_below i n h)

  pub all_intro : (n : ℕ) → ((i : ℕ) → i < n → f i ≡ true) → all_below f n ≡ true
  unfolding all_below
  all_intro zero h = refl
  all_intro (suc n) h = rw (all_intro n (λ i l. h i (omega arith)), h n (omega arith))

  -- a test that fails below m fails below every number from m on
  pub all_short : (m n : ℕ) → m ≤ n → all_below f m ≡ false → all_below f n ≡ false
  unfolding all_below
  all_short m zero h e = let z : m ≡ 0 = omega arith in ap (all_below f) (sym z) ∙ e
  all_short m (suc n) h e =
      ⊎_elim
      (λ (q : m ≡ suc n). ap (all_below f) (sym q) ∙ e)
      (λ (l : m < suc n). ap (λ (b : Bool). b && f n) (all_short m n (le_of_suc-le-suc l) e))
      (eq-or-lt_of_le h)

  pub all_fails : (n i : ℕ) → i < n → f i ≡ false → all_below f n ≡ false
  unfolding all_below
  all_fails n i h e = all_short (suc i) n h (ap (λ (b : Bool). all_below f i && b) e ∙ and-false (all_below f i))

-- ---- two tests that agree below n

module _ (f g : ℕ → Bool) where
  pub count_agree : (n : ℕ) → ((i : ℕ) → i < n → f i ≡ g i) → count_below f n ≡ count_below g n
  unfolding count_below
  count_agree zero h = refl
  count_agree (suc n) h =
      ap₂ ◌+◌ (count_agree n (λ i l. h i (omega arith))) (ap (λ (b : Bool). cond b 1 0) (h n (omega arith)))

  pub all_agree : (n : ℕ) → ((i : ℕ) → i < n → f i ≡ g i) → all_below f n ≡ all_below g n
  unfolding all_below
  all_agree zero h = refl
  all_agree (suc n) h = ap₂ ◌&&◌ (all_agree n (λ i l. h i (omega arith))) (h n (omega arith))

-- ---- what a search answers that may find nothing: nothing where n ≤ i, and i where i < n

pub found_at_end : (n i : ℕ) → n ≤ i → found_below n i ≡ None
unfolding found_below
found_at_end n i h = rw (le-leb n i h)

pub found_inside : (n i : ℕ) → i < n → found_below n i ≡ Some i
unfolding found_below
found_inside n i h = rw (lt-leb n i h)

-- and the other way round
pub none_found : (n i : ℕ) → None ≡ found_below n i → n ≤ i
none_found n i e = ⊎_elim (λ (l : i < n). absurd (none-some i (e ∙ found_inside n i l))) (λ (h : n ≤ i). h) (lt_or_le i n)

pub one_found : {j : ℕ} (n i : ℕ) → Some j ≡ found_below n i → (j ≡ i) × (j < n)
one_found {j} n i e =
    ⊎_elim
    (λ (l : i < n). let same : j ≡ i = same_Some j i (e ∙ found_inside n i l) in (same, omega arith))
    (λ (h : n ≤ i). absurd (none-some j (sym (e ∙ found_at_end n i h))))
    (lt_or_le i n)

-- of an i that is never above n
pub none_found_at_most : (n i : ℕ) → i ≤ n → None ≡ found_below n i → i ≡ n
none_found_at_most n i h e = omega (arith, none_found n i e)

-- as a search in a loop answers: at an index that passes, and behind the last
module _ (f : ℕ → Bool) (i n : ℕ) (going : first_from f i (n - i) ≡ first_from f 0 n) where
  pub found_here : i < n → f i ≡ true → Some i ≡ found_below n (first_from f 0 n)
  found_here h e = sym (ap (found_below n) (sym going ∙ first_here f i n h e) ∙ found_inside n i h)

  pub found_nowhere : n ≤ i → None ≡ found_below n (first_from f 0 n)
  found_nowhere h = sym (found_at_end n (first_from f 0 n) (omega (arith, going, first_end f i n h)))
