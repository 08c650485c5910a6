-- Withdrawing from every row, one after the other ("01, Writes, withdrawal, sweep"). Assumes nothing.
use mathlib.Core.Path.{◌≡◌, sym, ap, ◌∙◌}
use mathlib.Core.List.{List}
use Prim.Native.Nat.{ℕ, suc, ◌+◌, ◌-◌, ◌≤◌, ◌<◌}
use native.Mathlib.Omega.{arith}
use Rattle.kind.specs.Kind.{rows}
use Rattle.kind.specs.Areas.{both}
use Rattle.putback.specs.PutBack.{undone_row}
use Rattle.undoing.specs.Undoing.{undone_from}

module _ (n k most r : ℕ) (d u : List ℕ) where
  -- the rule from the next row on is the rule from here on
  pub rows_on : {y z : List ℕ} → r < most → both y z ≡ undone_row n k r (both d u)
      → undone_from n k (r + 1) (most - (r + 1)) (both y z) ≡ undone_from n k r (most - r) (both d u)
  unfolding undone_from
  rows_on h undone =
      let s : most - r ≡ suc (most - (r + 1)) = omega arith in
      ap (undone_from n k (r + 1) (most - (r + 1))) undone ∙ ap (λ (m : ℕ). undone_from n k r m (both d u)) (sym s)

  pub rows_end : most ≤ r → both d u ≡ undone_from n k r (most - r) (both d u)
  unfolding undone_from
  rows_end h = let s : most - r ≡ 0 = omega arith in ap (λ (m : ℕ). undone_from n k r m (both d u)) (sym s)

-- nothing is done yet
pub rows_start : {most : ℕ} (n k : ℕ) (d u : List ℕ) → most ≡ rows d → undone_from n k 0 (most - 0) (both d u) ≡ undone_from n k 0 (rows d) (both d u)
rows_start {most} n k d u all = let s : most - 0 ≡ rows d = omega arith in ap (λ (m : ℕ). undone_from n k 0 m (both d u)) s
