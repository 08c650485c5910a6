-- Laws of whole areas, one page at a time or four: fresh, sealed and right; and of the numbers handed out. Assumes nothing.
use mathlib.Core.Path.{◌≡◌, refl, sym, ap, ◌∙◌}
use mathlib.Core.List.{List, ◌++◌}
use mathlib.Core.Bool.{Bool, true, false, ◌&&◌, and-true, and-false}
use Prim.Native.Nat.{ℕ, ◌+◌, ◌*◌, ◌≤◌, ◌<◌}
use native.Mathlib.Numerals.{add-one}
use native.Mathlib.Omega.{arith}
use lib.ListN.{length, take, drop, length-append}
use lib.Seq.{sets, sets-eq, length-take-le, take_at}
use lib.Dec.{leb}
use borrow.Author.Tests.{leb-true, le-leb, lt-leb}
use Rattle.ground.proofs.Ranges.{and_true_left, and_true_right}
use Rattle.kind.specs.declared.Kind.{Kind}
use Rattle.kind.specs.Kind.{data_kind, undo_kind, status_kind}
use Rattle.kind.specs.Areas.{areas}
use Rattle.status.specs.Status.{status_at}
use Rattle.whole.specs.Whole.{sealed_page, fresh_page}
use Rattle.whole.specs.Abreast.{sealed_four}
use Rattle.whole.proofs.Rights.{length_fresh_page}
use Rattle.keep.specs.Whole.{fresh_area, sealed_area, area_right, highest, ended, all_ended, store_right}

-- ---- fresh

-- what was there before the stores, and what was stored
take_sets : (s : List ℕ) (at : ℕ) (vs : List ℕ) (n : ℕ) → n ≡ at + length vs → n ≤ length s → take n (sets s at vs) ≡ take at s ++ vs
take_sets s at vs n e h =
    ap (take n) (sets-eq vs s at (omega arith))
    ∙ take_at (take at s ++ vs) (drop (at + length vs) s) n (omega (arith, length-append (take at s) vs, length-take-le at s (omega arith)))

-- one page more: y is the area after page p was stored
pub fresh_area_more : {y : List ℕ} (k : Kind) (p : ℕ) (s : List ℕ) → (p + 1) * 8192 ≤ length s
    → take (p * 8192) s ≡ fresh_area k p
    → y ≡ sets s (p * 8192) (fresh_page k (p + 1))
    → take ((p + 1) * 8192) y ≡ fresh_area k (p + 1)
unfolding fresh_area
fresh_area_more k p s h e q =
    ap (take ((p + 1) * 8192)) q
    ∙ take_sets s (p * 8192) (fresh_page k (p + 1)) ((p + 1) * 8192) (omega (arith, length_fresh_page k (p + 1))) h
    ∙ ap (λ (l : List ℕ). l ++ fresh_page k (p + 1)) e
    ∙ rw (add-one p)

-- ---- sealed

-- one page more: s is the area with p pages sealed, y the same after the next; and four pages more
pub sealed_area_more : {y : List ℕ} (p q : ℕ) (s₀ s : List ℕ) → q ≡ p + 1 → s ≡ sealed_area p s₀ → y ≡ sealed_page p s → y ≡ sealed_area q s₀
unfolding sealed_area
sealed_area_more p q s₀ s n e w = w ∙ ap (sealed_page p) e ∙ ap (λ (m : ℕ). sealed_area m s₀) (sym (n ∙ add-one p))

pub sealed_area_four : {y : List ℕ} (p q : ℕ) (s₀ s : List ℕ) → q ≡ p + 4 → s ≡ sealed_area p s₀ → y ≡ sealed_four p s → y ≡ sealed_area q s₀
sealed_area_four p q s₀ s n e w =
    sealed_area_more (p + 3) q s₀ (sealed_page (p + 2) (sealed_page (p + 1) (sealed_page p s))) (omega arith) third w
  where
    first : sealed_page p s ≡ sealed_area (p + 1) s₀
    first = sealed_area_more p (p + 1) s₀ s refl e refl

    second : sealed_page (p + 1) (sealed_page p s) ≡ sealed_area (p + 2) s₀
    second = sealed_area_more (p + 1) (p + 2) s₀ (sealed_page p s) (omega arith) first refl

    third : sealed_page (p + 2) (sealed_page (p + 1) (sealed_page p s)) ≡ sealed_area (p + 3) s₀
    third = sealed_area_more (p + 2) (p + 3) s₀ (sealed_page (p + 1) (sealed_page p s)) (omega arith) second refl

-- ---- right

-- number i + 1 has ended
abbrev pub ended_at : List ℕ → ℕ → Bool
ended_at s i = ended (status_at (i + 1) s)

-- ---- the highest number

module _ (d u s : List ℕ) where
  pub store_right_high : 32575 < highest s → store_right (areas d u s) ≡ false
  unfolding store_right
  store_right_high h = rw (lt-leb (highest s) 32575 h, and-false)

  pub store_right_low : highest s ≤ 32575
      → store_right (areas d u s) ≡ (area_right data_kind d && area_right undo_kind u && area_right status_kind s && all_ended (highest s) s)
  unfolding store_right
  store_right_low h = rw (le-leb (highest s) 32575 h, and-true)

  pub highest_store_right : store_right (areas d u s) ≡ true → highest s ≤ 32575
  unfolding store_right
  highest_store_right e =
      let right = area_right data_kind d && area_right undo_kind u && area_right status_kind s in
      leb-true (highest s) 32575
      (and_true_right right (leb (highest s) 32575) (and_true_left (right && leb (highest s) 32575) (all_ended (highest s) s) e))
