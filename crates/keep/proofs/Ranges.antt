-- `all` over a range of indices, behind those below it: whether each index below its end passes; and so where it asks four indices at
-- once. Assumes nothing.
use mathlib.Core.Path.{◌≡◌, refl, sym, ap, ◌∙◌}
use mathlib.Core.Bool.{Bool, true, false, ◌&&◌, and-true, and_assoc}
use Prim.Native.Nat.{ℕ, zero, suc, ◌+◌, ◌*◌}
use native.Mathlib.Numerals.{add-one}
use native.Mathlib.Omega.{arith}
use Rattle.std.specs.List.{list_all, range_with_len}
use Rattle.ground.specs.Range.{all_below}

and_four : (a b c d e : Bool) → (a && b && c && d && e) ≡ (a && (b && c && d && e))
and_four true b c d e = refl
and_four false b c d e = refl

module _ (f : ℕ → Bool) where
  all_next : (i n : ℕ) → n ≡ i + 1 → all_below f n ≡ (all_below f i && f i)
  unfolding all_below
  all_next i n h = ap (all_below f) (h ∙ add-one i)

  pub all_range : (m n k : ℕ) → m + n ≡ k → (all_below f m && list_all f (range_with_len m n)) ≡ all_below f k
  all_range m zero k e = and-true (all_below f m) ∙ ap (all_below f) (omega arith)
  all_range m (suc n) k e =
      sym (and_assoc (all_below f m) (f m) (list_all f (range_with_len (m + 1) n)))
      ∙ ap (λ (b : Bool). b && list_all f (range_with_len (m + 1) n)) (sym (all_next m (m + 1) refl))
      ∙ all_range (m + 1) n k (omega arith)

  -- whether the four from i on pass
  abbrev pub four : ℕ → Bool
  four i = f i && f (i + 1) && f (i + 2) && f (i + 3)

  all_four_more : (i n : ℕ) → n ≡ i + 4 → (all_below f i && four i) ≡ all_below f n
  all_four_more i n h =
      sym (and_four (all_below f i) (f i) (f (i + 1)) (f (i + 2)) (f (i + 3)))
      ∙ rw (all_next (i + 3) n (omega arith), all_next (i + 2) (i + 3) (omega arith), all_next (i + 1) (i + 2) (omega arith), all_next i (i + 1) refl) refl

  pub all_fours : (m n k : ℕ) → 4 * (m + n) ≡ k → (all_below f (4 * m) && list_all (λ (q : ℕ). four (4 * q)) (range_with_len m n)) ≡ all_below f k
  all_fours m zero k e = and-true (all_below f (4 * m)) ∙ ap (all_below f) (omega arith)
  all_fours m (suc n) k e =
      sym (and_assoc (all_below f (4 * m)) (four (4 * m)) (list_all (λ (q : ℕ). four (4 * q)) (range_with_len (m + 1) n)))
      ∙ ap (λ (b : Bool). b && list_all (λ (q : ℕ). four (4 * q)) (range_with_len (m + 1) n)) (all_four_more (4 * m) (4 * (m + 1)) (omega arith))
      ∙ all_fours (m + 1) n k (omega arith)
