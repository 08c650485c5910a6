-- A column without some places, as copying later ones down makes it, and by what stands where; a copied list; and the smallest, as a
-- fold over the used places. Assumes nothing.
use mathlib.Core.Path.{◌≡◌, refl, sym, ap, ap₂, ◌∙◌}
use mathlib.Core.Bool.{Bool, true, false, not, ◌&&◌, cond}
use mathlib.Core.List.{List, [], ◌∷◌, ◌++◌, append-nil}
use mathlib.Core.Logic.{◌⊎◌, inl, inr}
use Prim.Native.Nat.{ℕ, zero, suc, ◌+◌, ◌-◌, ◌≤◌, ◌<◌, min}
use native.Mathlib.Nat.{zero-add}
use native.Mathlib.Numerals.{add-one}
use native.Mathlib.Omega.{arith}
use lib.ListN.{length, get_or, set, take, drop, replicate, length-append, length-drop, length-replicate}
use lib.ListN.{get_or-append, drop_of_length-le}
use lib.Seq.{sets, paste, sets-eq, length-take-le, get_or-take, get_or-drop, get_or-append-add, get_or-set_other}
use lib.Seq.{paste-suc, drop-append-le, drop_at, take_at, take_all, take-paste, length-paste}
use lib.Dec.{eqb, ltb}
use borrow.Author.Tests.{ltb-true, ltb-false}
use borrow.Rule.Slice.PartMut.{put_mid}
use Rattle.std.specs.List.{copy_within, fold, filter}
use Rattle.std.proofs.lemmas.Slice.{put_mid-paste}
use Rattle.columns.specs.Columns.{without, smallest}

-- ---- a column without the w places from `at` on, by what stands where

zeros_default : (w i : ℕ) → ◌≡◌ {A = ℕ} (get_or (replicate w 0) i 0) 0
zeros_default zero i = refl
zeros_default (suc w) zero = refl
zeros_default (suc w) (suc i) = zeros_default w i

-- zeros behind a list change no place of it
get_d_zeros : (l : List ℕ) (w i : ℕ) → get_or (l ++ replicate w 0) i 0 ≡ get_or l i 0
get_d_zeros [] w i = zeros_default w i
get_d_zeros (x ∷ l) w zero = refl
get_d_zeros (x ∷ l) w (suc i) = get_d_zeros l w i

module _ (at w : ℕ) (l : List ℕ) (fits : at + w ≤ length l) where
  pub length_without : length (without at w l) ≡ length l
  unfolding without
  length_without =
      rw (length-append, length-append, length-drop, length-replicate, length-take-le at l (omega arith)) (omega arith)

  pub without_before : (i : ℕ) → i < at → get_or (without at w l) i 0 ≡ get_or l i 0
  unfolding without
  without_before i h =
      rw (get_d_zeros)
      (get_or-append (take at l) (drop (at + w) l) 0 i (omega (arith, length-take-le at l (omega arith)))
      ∙ get_or-take at l i 0 h)

  pub without_after : (i : ℕ) → at ≤ i → get_or (without at w l) i 0 ≡ get_or l (i + w) 0
  unfolding without
  without_after i h =
      let long : length (take at l) ≡ at = length-take-le at l (omega arith) in
      let place : i ≡ length (take at l) + (i - at) = omega arith in
      let later : at + w + (i - at) ≡ i + w = omega arith in
      get_d_zeros (take at l ++ drop (at + w) l) w i
      ∙ ap (λ (n : ℕ). get_or (take at l ++ drop (at + w) l) n 0) place
      ∙ get_or-append-add (take at l) (drop (at + w) l) (i - at) 0
      ∙ get_or-drop (at + w) l (i - at) 0
      ∙ ap (λ (n : ℕ). get_or l n 0) later

-- later places copied down over those from `at` on, and zeros written over what is left behind them
pub pulled : (at w : ℕ) (l moved zeros : List ℕ)
    → at + w ≤ length l
    → moved ≡ copy_within l (at + w) (length l) at
    → zeros ≡ replicate (length (take (length moved - (length l - w)) (drop (length l - w) moved))) 0
    → put_mid (length l - w) (length moved - (length l - w)) moved zeros ≡ without at w l
unfolding without
pulled at w l moved zeros fits moves clears =
    let later : List ℕ = drop (at + w) l in
    let many : ℕ = length l - (at + w) in
    let all : length later ≡ many = length-drop (at + w) l in
    let kept : at + many ≡ length l - w = omega arith in
    let long : length moved ≡ length l = ap length moves ∙ length-paste l at later many (omega arith) (omega arith) in
    let front : take (length l - w) moved ≡ take at l ++ later
    = ap₂ take (sym kept) moves
    ∙ take-paste l at later many (omega arith) (omega arith)
    ∙ ap (λ (k : List ℕ). take at l ++ k) (take_all many later (omega arith)) in
    let rest : List ℕ = drop (length l - w) moved in
    let left : length rest ≡ w = length-drop (length l - w) moved ∙ omega arith in
    let none : drop (length moved - (length l - w)) rest ≡ [] = drop_of_length-le rest (omega arith) in
    let many_zeros : length (take (length moved - (length l - w)) rest) ≡ w = ap length (take_all (length moved - (length l - w)) rest (omega arith)) ∙ left in
    ap₂ (λ (a b : List ℕ). a ++ (zeros ++ b)) front none
    ∙ ap (λ (z : List ℕ). take at l ++ later ++ z) (append-nil zeros ∙ clears ∙ ap (λ (n : ℕ). replicate n 0) many_zeros)

-- ---- a copied list

-- all of it in one write to the part of d at p
pub put_mid_sets : (d : List ℕ) (p at k : ℕ) (vs ys : List ℕ)
    → p ≡ at
    → ys ≡ vs
    → k ≡ length vs
    → at + length vs ≤ length d
    → put_mid p k d ys ≡ sets d at vs
put_mid_sets d p at k vs ys here same long fits =
    ap (λ (n : ℕ). put_mid n k d ys) here
    ∙ put_mid-paste at k d ys vs k same refl long
    ∙ ap₂ (λ (s : List ℕ) (n : ℕ). take at d ++ s ++ drop (at + n) d) (take_all k vs (omega arith)) long
    ∙ sym (sets-eq vs d at fits)

-- place by place: a turn, after i of them, and all of them
pub paste_next : (d : List ℕ) (at : ℕ) (s : List ℕ) (i : ℕ) (l : List ℕ)
    → l ≡ paste d at s i
    → at + i < length d
    → i < length s
    → set l (at + i) (get_or s i 0) ≡ paste d at s (i + 1)
paste_next d at s i l e fd fs = rw (e, add-one) (paste-suc d at s i 0 fd fs)

pub paste_sets : (d : List ℕ) (at : ℕ) (s : List ℕ) (n : ℕ)
    → at + n ≤ length d
    → n ≤ length s
    → paste d at s n ≡ sets d at (take n s)
paste_sets d at s n fd fs =
    let long : length (take n s) ≡ n = length-take-le n s fs in
    sym (sets-eq (take n s) d at (omega arith) ∙ ap (λ (k : ℕ). take at d ++ take n s ++ drop (at + k) d) long)

-- the first i places of s from `at` on, before what d has behind them: a turn
pub part_next : (d s : List ℕ) (at i : ℕ) (l : List ℕ)
    → l ≡ take i (drop at s) ++ drop i d
    → i < length d
    → at + i < length s
    → set l i (get_or s (at + i) 0) ≡ take (i + 1) (drop at s) ++ drop (i + 1) d
part_next d s at i l e fd fs =
    let turn = paste-suc d 0 (drop at s) i 0 (omega arith) (omega (arith, length-drop at s)) in
    rw (e, add-one, ← get_or-drop at s i 0) (simp zero-add at turn)

-- ---- a list stored over a column, by what stands where

sets_before : (vs l : List ℕ) (i j : ℕ) → j < i → get_or (sets l i vs) j 0 ≡ get_or l j 0
sets_before [] l i j h = refl
sets_before (a ∷ vs) l i j h =
    sets_before vs (set l i a) (suc i) j (omega arith) ∙ get_or-set_other l i j a 0 (λ (e : j ≡ i). omega arith)

sets_after : (vs l : List ℕ) (i j : ℕ) → i + length vs ≤ j → get_or (sets l i vs) j 0 ≡ get_or l j 0
sets_after [] l i j h = refl
sets_after (a ∷ vs) l i j h =
    sets_after vs (set l i a) (suc i) j (omega arith) ∙ get_or-set_other l i j a 0 (λ (e : j ≡ i). omega arith)

pub sets_other : (vs l : List ℕ) (i j : ℕ) → (j < i) ⊎ (i + length vs ≤ j) → get_or (sets l i vs) j 0 ≡ get_or l j 0
sets_other vs l i j (inl h) = sets_before vs l i j h
sets_other vs l i j (inr h) = sets_after vs l i j h

pub sets_part : (vs l : List ℕ) (i n : ℕ) → length vs ≡ n → i + n ≤ length l → take n (drop i (sets l i vs)) ≡ vs
sets_part vs l i n e h =
    let long : length (take i l) ≡ i = length-take-le i l (omega arith) in
    let rest : List ℕ = drop (i + length vs) l in
    let fits : i ≤ length (take i l ++ vs) = omega (arith, length-append (take i l) vs) in
    rw (sets-eq vs l i (omega arith), drop-append-le i (take i l ++ vs) rest fits, drop_at (take i l) vs i long)
    (take_at vs rest n e)

-- the smallest, as a fold over the used places
pub smallest_fold : (m : ℕ) (l : List ℕ) → fold (λ (low x : ℕ). min low x) m (filter (λ x. not (eqb x 0)) l) ≡ smallest m l
unfolding smallest
smallest_fold m [] = refl
smallest_fold m (x ∷ l) = by (eqb x 0) (ltb x m) refl (smallest_fold m l) (smallest_fold x l)
  where
    used : List ℕ
    used = filter (λ y. not (eqb y 0)) l

    by : (none less : Bool) → ltb x m ≡ less
        → fold (λ (low y : ℕ). min low y) m used ≡ smallest m l
        → fold (λ (low y : ℕ). min low y) x used ≡ smallest x l
        → fold (λ (low y : ℕ). min low y) m (cond (not none) (x ∷ used) used) ≡ cond (not none && less) (smallest x l) (smallest m l)
    by true less is same lower = same
    by false true is same lower = let low : min m x ≡ x = omega (arith, ltb-true x m is) in ap (λ (n : ℕ). fold (λ (a y : ℕ). min a y) n used) low ∙ lower
    by false false is same lower = let low : min m x ≡ m = omega (arith, ltb-false x m is) in ap (λ (n : ℕ). fold (λ (a y : ℕ). min a y) n used) low ∙ same
