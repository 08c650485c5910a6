-- All and any over a range of numbers, as the iterators of std answer them, are all over a range of indices. Assumes nothing.
use mathlib.Core.Path.{◌≡◌, refl, sym, ap, ap₂, ◌∙◌}
use mathlib.Core.Bool.{Bool, true, false, not, ◌&&◌, ◌||◌}
use Prim.Native.Nat.{ℕ, zero, suc, ◌+◌}
use native.Mathlib.Omega.{arith}
use Rattle.std.specs.List.{range_with_len, list_all, list_any}
use Rattle.std.proofs.Math.Bool.{and-true, and_assoc}
use Rattle.ground.specs.Range.{all_below}
use Rattle.ground.proofs.Ranges.{all_agree}

-- the first index apart from the rest
all_front : (f : ℕ → Bool) (n : ℕ) → all_below f (suc n) ≡ (f 0 && all_below (λ (i : ℕ). f (suc i)) n)
unfolding all_below
all_front f zero = sym (and-true (f 0))
all_front f (suc n) =
    ap (λ (b : Bool). b && f (suc n)) (all_front f n)
    ∙ and_assoc (f 0) (all_below (λ (i : ℕ). f (suc i)) n) (f (suc n))

pub list_all_below : (f : ℕ → Bool) (a n : ℕ) → list_all f (range_with_len a n) ≡ all_below (λ (i : ℕ). f (a + i)) n
list_all_below f a zero = unfold all_below in refl
list_all_below f a (suc n) =
    ap₂ ◌&&◌ (ap f (omega arith))
    (list_all_below f (a + 1) n ∙ all_agree (λ (i : ℕ). f (a + 1 + i)) (λ (i : ℕ). f (a + suc i)) n (λ i h. ap f (omega arith)))
    ∙ sym (all_front (λ (i : ℕ). f (a + i)) n)

-- none is not any
not_any : (f : ℕ → Bool) (a n : ℕ) → not (list_all (λ (i : ℕ). not (f i)) (range_with_len a n)) ≡ list_any f (range_with_len a n)
not_any f a zero = refl
not_any f a (suc n) = by (f a) (not_any f (a + 1) n)
  where
    by : (b : Bool) → not (list_all (λ (i : ℕ). not (f i)) (range_with_len (a + 1) n)) ≡ list_any f (range_with_len (a + 1) n)
        → not (not b && list_all (λ (i : ℕ). not (f i)) (range_with_len (a + 1) n)) ≡ (b || list_any f (range_with_len (a + 1) n))
    by true h = refl
    by false h = h

pub list_any_below : (f : ℕ → Bool) (n : ℕ) → list_any f (range_with_len 0 n) ≡ not (all_below (λ (i : ℕ). not (f i)) n)
list_any_below f n =
    sym (not_any f 0 n)
    ∙ ap not
    (list_all_below (λ (i : ℕ). not (f i)) 0 n
    ∙ all_agree (λ (i : ℕ). not (f (0 + i))) (λ (i : ℕ). not (f i)) n (λ i h. ap (λ (k : ℕ). not (f k)) (omega arith)))
