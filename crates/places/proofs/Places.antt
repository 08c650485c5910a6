-- The laws of a run of places, in the steps of a loop that carries what the next number has to exceed. Assumes nothing.
use mathlib.Core.Path.{◌≡◌, refl, ap}
use mathlib.Core.Bool.{Bool, true, false, ◌&&◌, ◌||◌, cond, or-false}
use mathlib.Core.List.{List}
use Prim.Native.Nat.{ℕ, zero, suc, ◌+◌, ◌<◌}
use native.Mathlib.Numerals.{add-one}
use native.Mathlib.Omega.{arith}
use lib.ListN.{get_or}
use lib.Dec.{eqb, ltb}
use borrow.Author.Tests.{eqb-true, eqb-false, ne_eqb, lt-ltb, le-ltb, ltb-true}
use Rattle.ground.specs.Range.{all_below}
use Rattle.ground.proofs.Ranges.{all_more, all_fails}
use Rattle.places.specs.Places.{follows, placed, ascending}

-- what a number that comes after p has to exceed: p, or behind an unused place `top`, so that none below `top` fits
abbrev low_after : ℕ → ℕ → ℕ
low_after top p = cond (eqb p 0) top p

first_low : (top x : ℕ) → (eqb x 0 || (ltb x top && true)) ≡ (eqb x 0 || (ltb x top && ltb 0 x))
first_low top zero = refl
first_low top (suc x) = rw (lt-ltb 0 (suc x) (omega arith))

next_low : (top p x : ℕ) → (ltb x top && (ltb 0 p && ltb p x)) ≡ (ltb x top && ltb (low_after top p) x)
next_low top p x = by (eqb p 0) refl
  where
    none : (t : Bool) → ltb x top ≡ t → (t && false) ≡ (t && ltb top x)
    none true e = rw (le-ltb top x (omega (arith, ltb-true x top e)))
    none false e = refl

    by : (t : Bool) → eqb p 0 ≡ t → (ltb x top && (ltb 0 p && ltb p x)) ≡ (ltb x top && ltb (cond t top p) x)
    by true e = rw (eqb-true p 0 e) (none (ltb x top) refl)
    by false e = let h : 0 < p = omega (arith, eqb-false p 0 e) in rw (lt-ltb 0 p h)

-- below 0 there is no number: one place more
pub unused_more : (l : List ℕ) (at i : ℕ) → ascending 0 l at (i + 1) ≡ (ascending 0 l at i && eqb (get_or l (at + i) 0) 0)
unfolding placed ascending all_below
unused_more l at i = rw (add-one, le-ltb (get_or l (at + i) 0) 0 (omega arith), or-false)

module _ (top : ℕ) (l : List ℕ) (at : ℕ) where
  -- what a number at place i has to exceed
  unfoldable pub low_at : ℕ → ℕ
  low_at zero = 0
  low_at (suc i) = low_after top (get_or l (at + i) 0)

  -- the test of a loop that carries it is the rule
  placed_low : (i : ℕ)
      → placed top l at i
      ≡ (eqb (get_or l (at + i) 0) 0 || (ltb (get_or l (at + i) 0) top && ltb (low_at i) (get_or l (at + i) 0)))
  unfolding placed follows low_at
  placed_low zero = first_low top (get_or l (at + 0) 0)
  placed_low (suc i) =
      ap (λ (b : Bool). eqb (get_or l (at + suc i) 0) 0 || b) (next_low top (get_or l (at + i) 0) (get_or l (at + suc i) 0))

  -- what a loop over the places knows after i of them
  pub record Run (i low : ℕ) : Type 0 where
    pub passed : ascending top l at i ≡ true
    pub carried : low ≡ low_at i

  pub run_start : Run 0 0
  unfolding ascending all_below low_at
  run_start = record { passed = refl; carried = refl }

  -- a turn, at a number x of the place
  module _ {i low x : ℕ} (r : Run i low) (is : x ≡ get_or l (at + i) 0) (u : x ≡ 0 → ⊥) where
    pub run_number : (ltb x top && ltb low x) ≡ true → Run (i + 1) x
    unfolding ascending low_at
    run_number e =
        record {
          passed = all_more (placed top l at) i r.passed (rw (placed_low, ← r.carried, ← is, ne_eqb x 0 u, e));
          carried = rw (add-one, ← is, ne_eqb x 0 u);
        }

    pub run_fails : (ltb x top && ltb low x) ≡ false → (n : ℕ) → i < n → ascending top l at n ≡ false
    unfolding ascending
    run_fails e n h = all_fails (placed top l at) n i h (rw (placed_low, ← r.carried, ← is, ne_eqb x 0 u, e))
