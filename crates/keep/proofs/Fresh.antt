-- Format as it works: every page blank, and then sealed, is every page fresh. Assumes nothing.
use mathlib.Core.Path.{◌≡◌, refl, sym, ap, subst, ◌∙◌}
use mathlib.Core.Logic.{⊎_elim}
use mathlib.Core.List.{List}
use Prim.Native.Nat.{ℕ, zero, suc, ◌+◌, ◌*◌, ◌≤◌, ◌<◌}
use native.Mathlib.Nat.{eq-or-lt_of_le}
use native.Mathlib.Numerals.{add-one}
use native.Mathlib.Omega.{arith}
use lib.ListN.{length, take}
use lib.Seq.{sets, take_all}
use Rattle.kind.specs.declared.Kind.{Kind}
use Rattle.kind.specs.Kind.{pages}
use Rattle.page.specs.Header.{page_at}
use Rattle.whole.specs.Whole.{sealed_page, blank_page}
use Rattle.whole.proofs.Wholes.{length_blank_page, page_at_sets, page_at_sets_before, sealed_page_blank}
use Rattle.keep.specs.Whole.{fresh_area, sealed_area}
use Rattle.keep.proofs.Pages.{fresh_area_more}
use Rattle.keep.proofs.Promises.{length_sealed_area, page_at_sealed_area_above}

-- ---- blank

-- the first n pages of an area are blank
abbrev pub Blank : Kind → ℕ → List ℕ → Type 0
Blank k n s = (q : ℕ) → q < n → page_at q s ≡ blank_page k (q + 1)

-- one page more: y is the area after page p was stored
pub blank_more : {y : List ℕ} (k : Kind) (p : ℕ) (s : List ℕ) → (p + 1) * 8192 ≤ length s
    → Blank k p s
    → y ≡ sets s (p * 8192) (blank_page k (p + 1))
    → Blank k (p + 1) y
blank_more k p s h b e q l =
    ap (page_at q) e
    ∙ ⊎_elim
    (λ (i : q ≡ p). rw i (page_at_sets p s (blank_page k (p + 1)) (length_blank_page k (p + 1)) (omega arith)))
    (λ (i : q < p). page_at_sets_before p q s (blank_page k (p + 1)) i ∙ b q i)
    (eq-or-lt_of_le (omega arith))

-- ---- sealed

-- blank pages that are sealed
fresh_area_sealed : (k : Kind) (n : ℕ) (s : List ℕ) → n * 8192 ≤ length s → Blank k n s → take (n * 8192) (sealed_area n s) ≡ fresh_area k n
unfolding sealed_area fresh_area
fresh_area_sealed k zero s h b = refl
fresh_area_sealed k (suc n) s h b =
    subst (λ (m : ℕ). take (m * 8192) (sealed_page n (sealed_area n s)) ≡ fresh_area k m) (add-one n)
    (fresh_area_more k n (sealed_area n s) long (fresh_area_sealed k n s (omega arith) (λ q l. b q (omega arith)))
    (sealed_page_blank n (sealed_area n s) k (n + 1) (omega (arith, long)) (page_at_sealed_area_above n n s (omega arith) ∙ b n (omega arith))))
  where
    long : (n + 1) * 8192 ≤ length (sealed_area n s)
    long = omega (arith, length_sealed_area n s)

-- all pages: s is the area with its pages blank, y the same after they were sealed
pub fresh_area_all : {y : List ℕ} (k : Kind) (n p : ℕ) (s : List ℕ) → p ≡ n → length s ≡ n * 8192
    → Blank k p s
    → y ≡ sealed_area (pages s) s
    → y ≡ fresh_area k n
fresh_area_all k n p s e l b w =
    let m : pages s ≡ n = omega arith in
    w
    ∙ ap (λ (i : ℕ). sealed_area i s) m
    ∙ sym (take_all (n * 8192) (sealed_area n s) (omega (arith, length_sealed_area n s)))
    ∙ fresh_area_sealed k n s (omega arith) (λ q h. b q (omega arith))
