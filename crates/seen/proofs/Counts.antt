-- How many sessions are open: as many as stand at the first places; one more after begin, one fewer after close. Assumes nothing.
use Prim.Native.Nat.{ℕ, zero, suc, ◌+◌, ◌-◌, ◌≤◌, ◌<◌}
use mathlib.Core.Path.{◌≡◌, ap, ap₂, sym, ◌∙◌}
use mathlib.Core.Bool.{Bool, true, false, not, cond}
use mathlib.Core.Logic.{◌⊎◌, inl, inr, ⊎_elim}
use mathlib.Core.List.{List, [], ◌∷◌}
use native.Mathlib.Nat.{add-zero}
use native.Mathlib.Omega.{arith}
use lib.Dec.{eqb}
use lib.ListN.{get_or, length, take, set, get_or-eq_default}
use lib.Seq.{get_or-set_same, get_or-set_other, get_or-take, length-take-le, take-nil, take-take}
use borrow.Author.Tests.{eq-eqb, ne_eqb}
use Rattle.ground.specs.Range.{count_below}
use Rattle.ground.proofs.Ranges.{lt_or_le, count_le}
use Rattle.columns.specs.Columns.{without}
use Rattle.columns.proofs.Columns.{without_before, without_after}
use Rattle.places.specs.Open.{open_count}
use Rattle.desk.specs.declared.Desk.{Desk}
use Rattle.desk.specs.Sound.{sound}
use Rattle.desk.specs.Turns.{begun, closed}
use Rattle.sessions.proofs.Changes.{Long, open_used, open_unused, sound_parts}
use Rattle.machine.specs.Machine.{numbers as numbers_of}
use Rattle.seen.specs.Seen.{used, open_sessions}
use Rattle.seen.proofs.Runs.{from_numbers}

pub open_at_most : (l : List ℕ) → open_count l ≤ 16
unfolding open_count
open_at_most l = count_le (λ (k : ℕ). not (eqb (get_or l k 0) 0)) 16

-- a test that passes at the first c places only
count_first : (f : ℕ → Bool) (n c : ℕ) → c ≤ n → ((i : ℕ) → i < c → f i ≡ true) → ((i : ℕ) → c ≤ i → i < n → f i ≡ false)
    → count_below f n ≡ c
unfolding count_below
count_first f zero c h low high = omega arith
count_first f (suc n) c h low high = by (lt_or_le n c) (count_first f n)
  where
    by : (n < c) ⊎ (c ≤ n)
        → ((m : ℕ) → m ≤ n → ((i : ℕ) → i < m → f i ≡ true) → ((i : ℕ) → m ≤ i → i < n → f i ≡ false) → count_below f n ≡ m)
        → count_below f n + cond (f n) 1 0 ≡ c
    by (inl q) rec =
        let full : n + 1 ≡ c = omega arith in
        ap₂ (λ (a : ℕ) (b : Bool). a + cond b 1 0)
        (rec n (omega arith) (λ i l. low i (omega arith)) (λ i l m. absurd (omega arith)))
        (low n q)
        ∙ full
    by (inr q) rec =
        ap₂ (λ (a : ℕ) (b : Bool). a + cond b 1 0) (rec c q low (λ i l m. high i l (omega arith))) (high n q (omega arith))
        ∙ add-zero c

-- a list counts as many as stand at its first places
count_is : (l : List ℕ) (c : ℕ) → c ≤ 16 → ((i : ℕ) → i < c → get_or l i 0 ≡ 0 → ⊥) → ((i : ℕ) → c ≤ i → i < 16 → get_or l i 0 ≡ 0)
    → open_count l ≡ c
unfolding open_count
count_is l c h low high =
    count_first (λ (k : ℕ). not (eqb (get_or l k 0) 0)) 16 c h (λ i q. ap not (ne_eqb (get_or l i 0) 0 (low i q)))
    (λ i q m. ap not (eq-eqb (get_or l i 0) 0 (high i q m)))

-- and those are its used places
pub used_first : (l : List ℕ) (c : ℕ) → ((i : ℕ) → i < c → get_or l i 0 ≡ 0 → ⊥) → ((i : ℕ) → c ≤ i → get_or l i 0 ≡ 0) → used l ≡ take c l
used_first [] c low high = sym (take-nil c)
used_first (x ∷ l) zero low high =
    rw (eq-eqb x 0 (high 0 (omega arith))) (used_first l zero (λ i h. absurd (omega arith)) (λ i h. high (suc i) (omega arith)))
used_first (x ∷ l) (suc c) low high =
    rw (ne_eqb x 0 (low 0 (omega arith)))
    (ap (λ (m : List ℕ). x ∷ m) (used_first l c (λ i h. low (suc i) (omega arith)) (λ i h. high (suc i) (omega arith))))

-- ---- a sound desk

module _ (d : Desk) (s : sound d ≡ true) (long : Long d) where
  abbrev count : ℕ
  count = open_count d.numbers

  at_most : count ≤ 16
  at_most = open_at_most d.numbers

  -- one fewer: those before place k, and those behind it
  pub closed_count : (k : ℕ) → k < count → open_count (closed k d).numbers ≡ k + (count - suc k)
  unfolding closed
  closed_count k h = count_is next (k + (count - suc k)) (omega (arith, at_most)) low high
    where
      next : List ℕ
      next = without k 1 d.numbers

      front : (i : ℕ) → i < k → get_or next i 0 ≡ get_or d.numbers i 0
      front = without_before k 1 d.numbers (omega (arith, at_most, long.numbers))

      back : (i : ℕ) → k ≤ i → get_or next i 0 ≡ get_or d.numbers (i + 1) 0
      back = without_after k 1 d.numbers (omega (arith, at_most, long.numbers))

      low : (i : ℕ) → i < k + (count - suc k) → get_or next i 0 ≡ 0 → ⊥
      low i l f =
          ⊎_elim
          (λ (q : i < k). open_used d s i (omega arith) (sym (front i q) ∙ f))
          (λ (q : k ≤ i). open_used d s (i + 1) (omega arith) (sym (back i q) ∙ f))
          (lt_or_le i k)

      high : (i : ℕ) → k + (count - suc k) ≤ i → i < 16 → get_or next i 0 ≡ 0
      high i l m =
          back i (omega arith)
          ∙ ⊎_elim
          (λ (q : i + 1 < 16). open_unused d s (i + 1) (omega arith) q)
          (λ (q : 16 ≤ i + 1). get_or-eq_default d.numbers 0 (omega (arith, long.numbers)))
          (lt_or_le (i + 1) 16)

  -- one more
  pub begun_count : count < 16 → open_count (begun d).numbers ≡ count + 1
  unfolding begun
  begun_count few = count_is next (count + 1) (omega arith) low high
    where
      next : List ℕ
      next = set d.numbers count d.next

      other : (i : ℕ) → (i ≡ count → ⊥) → get_or next i 0 ≡ get_or d.numbers i 0
      other i u = get_or-set_other d.numbers count i d.next 0 u

      last : (i : ℕ) → i ≡ count → get_or next i 0 ≡ d.next
      last i e = rw e (get_or-set_same d.numbers count d.next 0 (omega (arith, long.numbers)))

      low : (i : ℕ) → i < count + 1 → get_or next i 0 ≡ 0 → ⊥
      low i l f =
          ⊎_elim
          (λ (q : i < count). open_used d s i q (sym (other i (λ e. omega arith)) ∙ f))
          (λ (q : count ≤ i). omega (arith, last i (omega arith), (sound_parts d s).first))
          (lt_or_le i count)

      high : (i : ℕ) → count + 1 ≤ i → i < 16 → get_or next i 0 ≡ 0
      high i l m = other i (λ e. omega arith) ∙ open_unused d s i (omega arith) m

  -- the first w numbers, of which the used ones are those open
  pub used_numbers : (w : ℕ) → count ≤ w → w ≤ 16 → used (take w d.numbers) ≡ numbers_of (open_sessions d)
  used_numbers w few fits =
      used_first (take w d.numbers) count low high
      ∙ take-take count w d.numbers few
      ∙ sym (from_numbers d count 0 (omega (arith, long.numbers)))
    where
      full : length (take w d.numbers) ≡ w
      full = length-take-le w d.numbers (omega (arith, long.numbers))

      low : (i : ℕ) → i < count → get_or (take w d.numbers) i 0 ≡ 0 → ⊥
      low i l f = open_used d s i l (sym (get_or-take w d.numbers i 0 (omega arith)) ∙ f)

      high : (i : ℕ) → count ≤ i → get_or (take w d.numbers) i 0 ≡ 0
      high i l =
          ⊎_elim
          (λ (q : i < w). get_or-take w d.numbers i 0 q ∙ open_unused d s i l (omega arith))
          (λ (q : w ≤ i). get_or-eq_default (take w d.numbers) 0 (omega (arith, full)))
          (lt_or_le i w)
