-- A page of data whose rows behind the first are zeros, as the worked run has it: they are empty. For the laws of a call that goes
-- through all rows, of which row 0 alone is computed (`Sweeps`, `Withdrawals`). Assumes nothing.
use Prim.Native.Nat.{ℕ, zero, suc, ◌+◌, ◌-◌, ◌*◌, ◌/◌, ◌%◌, ◌≤◌, ◌<◌}
use native.Mathlib.Omega.{arith}
use mathlib.Core.Path.{◌≡◌, refl, sym, ap, ◌∙◌}
use mathlib.Core.Logic.{◌⊎◌, inl, inr}
use mathlib.Core.Bool.{Bool, true, ◌&&◌}
use mathlib.Core.List.{List, [], ◌∷◌}
use lib.ListN.{take, drop}
use lib.Seq.{drop-drop}
use lib.Dec.{eqb}
use borrow.Author.Tests.{eqb-true}
use Rattle.ground.specs.Range.{all_below}
use Rattle.ground.proofs.Ranges.{all_intro, and_true_left, and_true_right, lt_or_le}
use Rattle.little.specs.Little.{little, part}
use Rattle.kind.specs.Place.{record_at}
use Rattle.records.specs.Slot.{slot_of, slot_at}

-- ---- zeros

unfoldable pub zeros : List ℕ → Bool
zeros [] = true
zeros (x ∷ xs) = eqb x 0 && zeros xs

zeros_drop : (n : ℕ) (s : List ℕ) → zeros s ≡ true → zeros (drop n s) ≡ true
unfolding zeros
zeros_drop zero s h = h
zeros_drop (suc n) [] h = refl
zeros_drop (suc n) (x ∷ xs) h = zeros_drop n xs (and_true_right (eqb x 0) (zeros xs) h)

zeros_take : (n : ℕ) (s : List ℕ) → zeros s ≡ true → zeros (take n s) ≡ true
unfolding zeros
zeros_take zero s h = refl
zeros_take (suc n) [] h = refl
zeros_take (suc n) (x ∷ xs) h =
    rw (and_true_left (eqb x 0) (zeros xs) h) (zeros_take n xs (and_true_right (eqb x 0) (zeros xs) h))

zeros_little : (s : List ℕ) → zeros s ≡ true → little s ≡ 0
unfolding zeros little
zeros_little [] h = refl
zeros_little (x ∷ xs) h =
    omega (arith, eqb-true x 0 (and_true_left (eqb x 0) (zeros xs) h), zeros_little xs (and_true_right (eqb x 0) (zeros xs) h))

-- ---- rows that are empty

-- the n rows from r on
abbrev pub Empty : List ℕ → ℕ → ℕ → Type 0
Empty d r n = (i : ℕ) → r ≤ i → i < r + n → (slot_at i d).create ≡ 0

module _ (d : List ℕ) (r n : ℕ) (h : Empty d r (suc n)) where
  pub empty_here : (slot_at r d).create ≡ 0
  empty_here = h r (omega arith) (omega arith)

  pub empty_on : Empty d (r + 1) n
  empty_on i low high = h i (omega (arith, low)) (omega (arith, high))

-- the rows behind the first, of one page
abbrev pub Bare : List ℕ → Type 0
Bare d = zeros (drop 112 d) ≡ true

pub bare_empty : (d : List ℕ) → Bare d → Empty d 1 126
unfolding slot_at slot_of record_at part
bare_empty d h r low high =
    zeros_little (take 8 (drop 0 (take 64 (drop place d)))) (zeros_take 8 (take 64 (drop place d)) (zeros_take 64 (drop place d) far))
  where
    place : ℕ
    place = r / 127 * 8192 + (48 + r % 127 * 64)

    behind : 112 + (place - 112) ≡ place
    behind = omega (arith, low, high)

    far : zeros (drop place d) ≡ true
    far =
        ap (λ (n : ℕ). zeros (drop n d)) (sym behind)
        ∙ ap zeros (sym (drop-drop (place - 112) 112 d))
        ∙ zeros_drop (place - 112) (drop 112 d) h

-- a test that holds of row 0 and of every empty row holds of all
pub all_bare : (d : List ℕ) (f : ℕ → Bool) → Bare d → f 0 ≡ true → ((r : ℕ) → (slot_at r d).create ≡ 0 → f r ≡ true) → all_below f 127 ≡ true
all_bare d f h first rest = all_intro f 127 (λ r l. by r l (lt_or_le 0 r))
  where
    by : (r : ℕ) → r < 127 → (0 < r) ⊎ (r ≤ 0) → f r ≡ true
    by r l (inl low) = rest r (bare_empty d h r low (omega (arith, l)))
    by r l (inr high) = let is : r ≡ 0 = omega (arith, high) in ap f is ∙ first
