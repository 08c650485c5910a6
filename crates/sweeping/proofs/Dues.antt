-- Counting each page once ("01, The page"): the sweep begins with no count due, and when the pages whose counts are due are counted, the
-- areas are what the rule leaves. Assumes nothing.
use mathlib.Core.Path.{◌≡◌, refl, ap, ap₂, ◌∙◌}
use mathlib.Core.Bool.{true}
use mathlib.Core.List.{List}
use Prim.Native.Nat.{ℕ, zero, suc, ◌+◌}
use native.Mathlib.Omega.{arith}
use lib.ListN.{get_or, replicate}
use Rattle.kind.specs.Kind.{data_kind, undo_kind}
use Rattle.kind.specs.Areas.{both}
use Rattle.strands.specs.Strands.{RowsIn}
use Rattle.freeing.specs.Tally.{tallied, tallied_both}
use Rattle.freeing.proofs.Tallies.{length_tallied, bytes_tallied, tallied_none}
use Rattle.sweeping.specs.Sweeping.{all_whole, swept_from, removed_from}

-- flags none of which is set
pub none_due : (n p : ℕ) → ◌≡◌ {A = ℕ} (get_or (replicate n 0) p 0) 0
none_due zero p = refl
none_due (suc n) zero = refl
none_due (suc n) (suc p) = none_due n p

-- the rows of an area tallied are those of the area, and it holds bytes as well
pub inside_tallied : (first n : ℕ) (data_due d undo_due u : List ℕ) → RowsIn (first + n) (both d u) → RowsIn (first + n) (tallied_both data_due d undo_due u)
inside_tallied first n data_due d undo_due u h =
    record {
      few = omega (arith, length_tallied data_kind data_due d, h.few);
      «data» = bytes_tallied data_kind data_due d h.«data»;
      undo = bytes_tallied undo_kind undo_due u h.undo;
    }

module _ (first n : ℕ) (data_due d undo_due u : List ℕ) (none : (p : ℕ) → get_or data_due p 0 ≡ 0) (none' : (p : ℕ) → get_or undo_due p 0 ≡ 0) where
  pub starts_whole : all_whole d u first n ≡ true → all_whole (tallied data_kind data_due d) (tallied undo_kind undo_due u) first n ≡ true
  starts_whole h =
      ap₂ (λ (x y : List ℕ). all_whole x y first n) (tallied_none data_kind data_due d none) (tallied_none undo_kind undo_due u none') ∙ h

  starts : tallied_both data_due d undo_due u ≡ both d u
  starts = ap₂ both (tallied_none data_kind data_due d none) (tallied_none undo_kind undo_due u none')

  -- x and y are the areas swept, tallied, and d₁, u₁ those counted
  pub ends : {k : ℕ} {x y d₁ u₁ : List ℕ} (m : ℕ) (s : List ℕ)
      → k ≡ removed_from m s first n (tallied_both data_due d undo_due u)
      → both x y ≡ swept_from m s first n (tallied_both data_due d undo_due u)
      → d₁ ≡ x
      → u₁ ≡ y
      → (k ≡ removed_from m s first n (both d u)) × (both d₁ u₁ ≡ swept_from m s first n (both d u))
  ends m s counts leaves is is' = (
    counts ∙ ap (removed_from m s first n) starts,
    ap₂ both is is' ∙ leaves ∙ ap (swept_from m s first n) starts,
  )
