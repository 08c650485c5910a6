-- Laws of four pages at once: the parts of a page that are worked abreast, and the checksums written one after the other. Assumes nothing.
use mathlib.Core.Path.{◌≡◌, refl, sym, ap, ◌∙◌}
use mathlib.Core.List.{List, [], ◌∷◌}
use Prim.Native.Nat.{ℕ, zero, suc, ◌+◌, ◌*◌, ◌-◌, ◌≤◌, ◌<◌}
use native.Mathlib.Nat.{add-zero}
use native.Mathlib.Numerals.{add-one}
use native.Mathlib.Omega.{arith}
use lib.ListN.{length, get_or, take, drop}
use Rattle.little.specs.Little.{digits, part}
use Rattle.little.proofs.Parts.{length_part, part_part, part_all}
use Rattle.crc.specs.Abreast.{crc_four_more, crc_four}
use Rattle.crc.proofs.CrcLaws.{four_eq}
use Rattle.page.specs.Header.{page_at, checksum, put_field}
use Rattle.page.proofs.Headers.{length_page_at}
use Rattle.whole.specs.Whole.{checksum_of, sealed_page}
use Rattle.whole.specs.Abreast.{starts_from, checksums_from}
use Rattle.whole.proofs.Wholes.{sealed_page_put, start_more, checksum_of_more}
use Rattle.whole.proofs.Rights.{page_at_sealed_page_other}

-- ---- the parts of a page

-- w bytes from offset o of page p, as they are lent out of an area
pub part_lent : (p o w at : ℕ) (s : List ℕ) → o + w ≤ 8192 → p * 8192 + 8192 ≤ length s → at ≡ p * 8192 + o
    → (take (at + w - at) (drop at s) ≡ part o w (page_at p s)) × (length (take (at + w - at) (drop at s)) ≡ w)
unfolding page_at part
part_lent p o w at s h l e =
    let n : at + w - at ≡ w = omega arith in
    let is : take (at + w - at) (drop at s) ≡ part o w (page_at p s) =
    ap (λ (m : ℕ). take m (drop at s)) n ∙ ap (λ (a : ℕ). part a w s) e ∙ sym (part_part o w (p * 8192) 8192 s h) in
    (is, ap length is ∙ length_part o w (page_at p s) (omega (arith, length_page_at p s l)))

-- a page is the first of itself
pub page_at_whole : (page : List ℕ) → length page ≡ 8192 → page_at 0 page ≡ page
unfolding page_at
page_at_whole page e = part_all 8192 page (omega arith)

-- ---- the checksums of pages p to p + 3

-- of what they begin with
pub starts_more : {x₁ x₂ x₃ x₄ z f r : List ℕ} (p : ℕ) (s : List ℕ)
    → x₁ ≡ part 0 20 (page_at p s)
    → x₂ ≡ part 0 20 (page_at (p + 1) s)
    → x₃ ≡ part 0 20 (page_at (p + 2) s)
    → x₄ ≡ part 0 20 (page_at (p + 3) s)
    → z ≡ digits 4 0
    → f ≡ crc_four (x₁ ∷ x₂ ∷ x₃ ∷ x₄ ∷ [])
    → r ≡ crc_four_more f (z ∷ z ∷ z ∷ z ∷ [])
    → r ≡ starts_from p s
starts_more {z = z} p s a₁ a₂ a₃ a₄ ez ef er =
    er
    ∙ ap (λ (g : List ℕ). crc_four_more g (z ∷ z ∷ z ∷ z ∷ [])) ef
    ∙ four_eq
    (start_more (page_at p s) a₁ ez refl refl)
    (start_more (page_at (p + 1) s) a₂ ez refl refl)
    (start_more (page_at (p + 2) s) a₃ ez refl refl)
    (start_more (page_at (p + 3) s) a₄ ez refl refl)

-- carried on over their rests
pub checksums_more : {y₁ y₂ y₃ y₄ f r : List ℕ} (p : ℕ) (s : List ℕ) → p * 8192 + 4 * 8192 ≤ length s
    → f ≡ starts_from p s
    → y₁ ≡ part 24 8168 (page_at p s)
    → y₂ ≡ part 24 8168 (page_at (p + 1) s)
    → y₃ ≡ part 24 8168 (page_at (p + 2) s)
    → y₄ ≡ part 24 8168 (page_at (p + 3) s)
    → r ≡ crc_four_more f (y₁ ∷ y₂ ∷ y₃ ∷ y₄ ∷ [])
    → r ≡ checksums_from p s
checksums_more {y₁ = y₁} {y₂} {y₃} {y₄} p s l ef b₁ b₂ b₃ b₄ er =
    er
    ∙ ap (λ (g : List ℕ). crc_four_more g (y₁ ∷ y₂ ∷ y₃ ∷ y₄ ∷ [])) ef
    ∙ four_eq
    (checksum_of_more (page_at p s) (length_page_at p s (omega arith)) refl b₁ refl)
    (checksum_of_more (page_at (p + 1) s) (length_page_at (p + 1) s (omega arith)) refl b₂ refl)
    (checksum_of_more (page_at (p + 2) s) (length_page_at (p + 2) s (omega arith)) refl b₃ refl)
    (checksum_of_more (page_at (p + 3) s) (length_page_at (p + 3) s (omega arith)) refl b₄ refl)

-- one of them
pub checksum_at : {sums : List ℕ} (p : ℕ) (s : List ℕ) (i : ℕ) → sums ≡ checksums_from p s → i < 4 → get_or sums i 0 ≡ checksum_of (page_at (p + i) s)
checksum_at p s zero e h = rw (e, add-zero p) (refl)
checksum_at p s (suc zero) e h = rw e (refl)
checksum_at p s (suc (suc zero)) e h = rw e (refl)
checksum_at p s (suc (suc (suc zero))) e h = rw e (refl)
checksum_at p s (suc (suc (suc (suc i)))) e h = absurd (omega arith)

-- ---- written one after the other

-- pages p to p + n - 1 sealed
abbrev pub sealed_on : ℕ → ℕ → List ℕ → List ℕ
sealed_on p zero s = s
sealed_on p (suc n) s = sealed_page (p + n) (sealed_on p n s)

-- a page behind them is as it was
pub page_at_sealed_on : (p n q : ℕ) (s : List ℕ) → p + n ≤ q → page_at q (sealed_on p n s) ≡ page_at q s
page_at_sealed_on p zero q s h = refl
page_at_sealed_on p (suc n) q s h =
    page_at_sealed_page_other (p + n) q (sealed_on p n s) (λ e. omega arith) ∙ page_at_sealed_on p n q s (omega arith)

-- one more, at the place behind them
pub sealed_on_more : {y : List ℕ} (p n q sum : ℕ) (s₀ s : List ℕ)
    → q ≡ p + n
    → s ≡ sealed_on p n s₀
    → sum ≡ checksum_of (page_at (p + n) s₀)
    → y ≡ put_field checksum q sum s
    → y ≡ sealed_on p (n + 1) s₀
sealed_on_more {y} p n q sum s₀ s at e h w =
    sealed_page_put (p + n) s₀ s h (ap (page_at (p + n)) e ∙ page_at_sealed_on p n (p + n) s₀ (omega arith)) (w ∙ ap (λ (k : ℕ). put_field checksum k sum s) at)
    ∙ ap (sealed_page (p + n)) e
    ∙ ap (λ (m : ℕ). sealed_on p m s₀) (sym (add-one n))
