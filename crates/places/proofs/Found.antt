-- What an iterator's `position` finds among all places of a list is what the search by index finds, and its `count` is the count by index.
-- Assumes nothing.
use mathlib.Core.Path.{◌≡◌, refl, sym, ap, ◌∙◌}
use mathlib.Core.Bool.{Bool, cond}
use mathlib.Core.List.{List}
use Prim.Native.Nat.{ℕ, zero, suc, ◌+◌, ◌≤◌}
use native.Mathlib.Numerals.{add-one}
use native.Mathlib.Omega.{arith}
use lib.ListN.{length, get_or, take}
use lib.Seq.{take_all}
use Rattle.std.proofs.lemmas.Bool.Decides.{nat_tests}
use Rattle.std.specs.Option.{unwrap_or}
use Rattle.std.specs.List.{position, position_or_len, count_by}
use Rattle.std.proofs.lemmas.List.Sums.{position_or_len_is, sum_by_more}
use Rattle.ground.specs.Range.{first_from, count_below, found_below}
use Rattle.ground.proofs.Ranges.{first_le, first_passes, first_before}

module _ (p : ℕ → Bool) (l : List ℕ) (n : ℕ) (long : length l ≡ n) where
  abbrev first : ℕ
  first = first_from (λ k. p (get_or l k 0)) 0 n

  same_index : position_or_len p l ≡ first
  same_index =
      position_or_len_is p l first 0 (omega (arith, first_le (λ k. p (get_or l k 0)) 0 n))
      (λ k h. first_before (λ k. p (get_or l k 0)) 0 n k (omega arith) h)
      (λ h. first_passes (λ k. p (get_or l k 0)) 0 n (omega arith))

  pub position_found : position p l ≡ found_below n first
  unfolding found_below
  position_found = rw (same_index, long) (grind (arith, nat_tests))

  -- or all places, where there is none
  pub position_or_all : unwrap_or (position p l) n ≡ first
  position_or_all = let few : first ≤ n = omega (arith, first_le (λ k. p (get_or l k 0)) 0 n) in rw (same_index, long) (grind (arith, nat_tests))

  counted_first : (k : ℕ) → k ≤ length l → count_by p (take k l) ≡ count_below (λ i. p (get_or l i 0)) k
  unfolding count_below
  counted_first zero h = refl
  counted_first (suc k) h =
      ap (λ (i : ℕ). count_by p (take i l)) (sym (add-one k))
      ∙ sum_by_more (λ x. cond (p x) 1 0) l k 0 h
      ∙ ap (λ (m : ℕ). m + cond (p (get_or l k 0)) 1 0) (counted_first k (omega arith))

  pub counted : count_by p l ≡ count_below (λ i. p (get_or l i 0)) n
  counted = ap (count_by p) (sym (take_all (length l) l (omega arith))) ∙ counted_first (length l) (omega arith) ∙ ap (count_below (λ i. p (get_or l i 0))) long
