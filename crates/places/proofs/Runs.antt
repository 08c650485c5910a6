-- The laws of runs of places: unused ones in two parts and by their bits taken together, a run that is lent as a part, and what stands
-- behind an unused place of a run that ascends. Assumes nothing.
use mathlib.Core.Path.{◌≡◌, refl, sym, ap, ap₂, ◌∙◌}
use mathlib.Core.Bool.{Bool, true, false, ◌&&◌, and-false, and-true, and_assoc, or-false}
use mathlib.Core.List.{List, [], ◌∷◌}
use Prim.Native.Nat.{ℕ, zero, suc, ◌+◌, ◌-◌, ◌≤◌, ◌<◌}
use native.Mathlib.Nat.{add-zero, zero-add, add-suc, add_assoc}
use native.Mathlib.Numerals.{add-one}
use native.Mathlib.Omega.{arith}
use lib.Bits.{bit_or, or_zero_r, or_add_and, and_le_l}
use lib.ListN.{length, get_or, take, drop, length-drop}
use lib.Seq.{take_all, length-take-le, get_or-take, get_or-drop}
use lib.Dec.{eqb, eqb-suc-zero}
use borrow.Author.Tests.{eqb-true, ne_eqb}
use Rattle.std.specs.List.{fold, list_all}
use Rattle.std.proofs.lemmas.List.Folds.{list_all_more}
use Rattle.ground.specs.Range.{all_below}
use Rattle.ground.proofs.Ranges.{and_true_right, all_at, all_intro, all_agree, and_again}
use Rattle.places.specs.Places.{follows, placed, ascending}
use Rattle.places.proofs.Places.{unused_more}

-- ---- tests of bits

-- an or is 0 where both are
pub or_none : (a b : ℕ) → eqb (bit_or a b) 0 ≡ (eqb a 0 && eqb b 0)
or_none a zero = rw (or_zero_r a) (sym (and-true (eqb a 0)))
or_none a (suc b) =
    let some : bit_or a (suc b) ≡ 0 → ⊥ = λ e. omega (arith, or_add_and a (suc b), and_le_l a (suc b)) in
    rw eqb-suc-zero (ne_eqb (bit_or a (suc b)) 0 some ∙ sym (and-false (eqb a 0)))

-- ---- a run of unused places

-- one place more
pub unused_suc : (l : List ℕ) (at i : ℕ) → ascending 0 l at (suc i) ≡ (ascending 0 l at i && eqb (get_or l (at + i) 0) 0)
unused_suc l at i = rw (← add-one i) (unused_more l at i)

pub unused_none : (l : List ℕ) (at : ℕ) → ascending 0 l at 0 ≡ true
unfolding ascending all_below
unused_none l at = refl

-- in two parts
pub unused_split : (l : List ℕ) (at n m : ℕ) → ascending 0 l at (n + m) ≡ (ascending 0 l at n && ascending 0 l (at + n) m)
unused_split l at n zero = ap (ascending 0 l at) (add-zero n) ∙ sym (ap (λ (b : Bool). ascending 0 l at n && b) (unused_none l (at + n)) ∙ and-true (ascending 0 l at n))
unused_split l at n (suc m) =
    ap (ascending 0 l at) (add-suc n m)
    ∙ unused_suc l at (n + m)
    ∙ ap₂ (λ (a b : Bool). a && b) (unused_split l at n m) (ap (λ (k : ℕ). eqb (get_or l k 0) 0) (sym (add_assoc at n m)))
    ∙ and_assoc (ascending 0 l at n) (ascending 0 l (at + n) m) (eqb (get_or l (at + n + m) 0) 0)
    ∙ ap (λ (b : Bool). ascending 0 l at n && b) (sym (unused_suc l (at + n) m))

-- a place of it
pub unused_at : (l : List ℕ) (at n i : ℕ) → ascending 0 l at n ≡ true → i < n → get_or l (at + i) 0 ≡ 0
unfolding ascending
unused_at l at n i e h =
    eqb-true (get_or l (at + i) 0) 0 (and_true_right (ascending 0 l at i) (eqb (get_or l (at + i) 0) 0) (sym (unused_suc l at i) ∙ front))
  where
    front : ascending 0 l at (suc i) ≡ true
    front = all_intro (placed 0 l at) (suc i) (λ j g. all_at (placed 0 l at) n e j (omega arith))

-- ---- a run of places, lent as a part

module _ (top : ℕ) (l : List ℕ) (at n : ℕ) where
  part_get : (i : ℕ) → i < n → get_or (take n (drop at l)) (0 + i) 0 ≡ get_or l (at + i) 0
  part_get i h =
      ap (λ (k : ℕ). get_or (take n (drop at l)) k 0) (zero-add i) ∙ get_or-take n (drop at l) i 0 h ∙ get_or-drop at l i 0

  part_follows : (i : ℕ) → i < n → follows (take n (drop at l)) 0 i ≡ follows l at i
  unfolding follows
  part_follows zero h = refl
  part_follows (suc i) h = rw (part_get i (omega arith), part_get (suc i) h) refl

  part_placed : (i : ℕ) → i < n → placed top (take n (drop at l)) 0 i ≡ placed top l at i
  unfolding placed
  part_placed i h = rw (part_get i h, part_follows i h) refl

  pub part_ascending : (m : ℕ) → m ≡ n → at + n ≤ length l → ascending top (take m (drop at l)) 0 (length (take m (drop at l))) ≡ ascending top l at n
  unfolding ascending
  part_ascending m same fits =
      let long : length (take n (drop at l)) ≡ n = length-take-le n (drop at l) (omega (arith, length-drop at l)) in
      ap (λ (k : ℕ). all_below (placed top (take k (drop at l)) 0) (length (take k (drop at l)))) same
      ∙ ap (all_below (placed top (take n (drop at l)) 0)) long
      ∙ all_agree (placed top (take n (drop at l)) 0) (placed top l at) n part_placed

-- all places by a front and the last eight, some of which may be in it
pub front_and_last : (l : List ℕ) (m n : ℕ)
    → m ≤ n
    → 8 ≤ n
    → n ≤ m + 8
    → (ascending 0 l 0 m && ascending 0 l (n - 8) 8) ≡ ascending 0 l 0 n
front_and_last l m n inside many near =
    let front : ℕ = n - 8 in
    let twice : ℕ = m - front in
    let rest : ℕ = n - m in
    let place : 0 + front ≡ front = omega arith in
    let passed : m ≡ front + twice = omega arith in
    let eight : 8 ≡ twice + rest = omega arith in
    let all : n ≡ front + 8 = omega arith in
    let before : ascending 0 l 0 m ≡ (ascending 0 l 0 front && ascending 0 l front twice)
    = ap (ascending 0 l 0) passed ∙ unused_split l 0 front twice ∙ ap (λ (k : ℕ). ascending 0 l 0 front && ascending 0 l k twice) place in
    let behind-m : ascending 0 l front 8 ≡ (ascending 0 l front twice && ascending 0 l (front + twice) rest)
    = ap (ascending 0 l front) eight ∙ unused_split l front twice rest in
    ap₂ ◌&&◌ before behind-m
    ∙ and_again (ascending 0 l 0 front) (ascending 0 l front twice) (ascending 0 l (front + twice) rest)
    ∙ ap (λ (b : Bool). ascending 0 l 0 front && b) (sym behind-m ∙ ap (λ (k : ℕ). ascending 0 l k 8) (sym place))
    ∙ sym (unused_split l 0 front 8)
    ∙ ap (ascending 0 l 0) (sym all)

-- ---- places taken together, by their bits

unused_first : (l : List ℕ) (n : ℕ) → n ≤ length l → list_all (λ x. eqb x 0) (take n l) ≡ ascending 0 l 0 n
unused_first l zero h = sym (unused_none l 0)
unused_first l (suc n) h =
    ap (λ (k : ℕ). list_all (λ x. eqb x 0) (take k l)) (sym (add-one n))
    ∙ list_all_more (λ x. eqb x 0) l n 0 h
    ∙ ap₂ (λ (a b : Bool). a && b) (unused_first l n (omega arith)) (ap (λ (k : ℕ). eqb (get_or l k 0) 0) (sym (zero-add n)))
    ∙ sym (unused_suc l 0 n)

-- bits beside those of a list
bits_of : (b : ℕ) (l : List ℕ) → eqb (fold (λ (bits x : ℕ). bit_or bits x) b l) 0 ≡ (eqb b 0 && list_all (λ x. eqb x 0) l)
bits_of b [] = sym (and-true (eqb b 0))
bits_of b (x ∷ l) =
    bits_of (bit_or b x) l
    ∙ ap (λ (t : Bool). t && list_all (λ y. eqb y 0) l) (or_none b x)
    ∙ and_assoc (eqb b 0) (eqb x 0) (list_all (λ y. eqb y 0) l)

pub unused_bits : (l : List ℕ) → eqb (fold (λ (bits x : ℕ). bit_or bits x) 0 l) 0 ≡ ascending 0 l 0 (length l)
unused_bits l =
    bits_of 0 l
    ∙ ap (list_all (λ x. eqb x 0)) (sym (take_all (length l) l (omega arith)))
    ∙ unused_first l (length l) (omega arith)

-- ---- behind an unused place

module _ (top : ℕ) (l : List ℕ) (at : ℕ) where
  run_suc : (n : ℕ) → ascending top l at (suc n) ≡ (ascending top l at n && placed top l at n)
  unfolding ascending all_below
  run_suc n = refl

  placed_unused : (i : ℕ) → get_or l (at + i) 0 ≡ 0 → placed top l at i ≡ eqb (get_or l (at + i) 0) 0
  unfolding placed
  placed_unused i e = rw e

  -- a number does not follow an unused place
  after_unused : (j : ℕ) → get_or l (at + j) 0 ≡ 0 → placed top l at (suc j) ≡ eqb (get_or l (at + suc j) 0) 0
  unfolding placed follows
  after_unused j e = rw (e, and-false, or-false)

  module _ (i : ℕ) (passed : ascending top l at i ≡ true) (e : get_or l (at + i) 0 ≡ 0) where
    -- a place behind unused ones
    last : (n : ℕ) → ascending 0 l (at + i) n ≡ true → placed top l at (i + n) ≡ eqb (get_or l (at + i + n) 0) 0
    last zero all =
        ap (placed top l at) (add-zero i) ∙ placed_unused i e ∙ ap (λ (k : ℕ). eqb (get_or l k 0) 0) (sym (add-zero (at + i)))
    last (suc n) all =
        let before : at + (i + n) ≡ at + i + n = omega arith in
        let here : at + suc (i + n) ≡ at + i + suc n = omega arith in
        ap (placed top l at) (add-suc i n)
        ∙ after_unused (i + n) (ap (λ (k : ℕ). get_or l k 0) before ∙ unused_at l (at + i) (suc n) n all (omega arith))
        ∙ ap (λ (k : ℕ). eqb (get_or l k 0) 0) here

    -- of a run whose places before i are as they should be and whose place i is unused: the places from i on are unused
    behind_more : (m : ℕ) → ascending top l at (i + m) ≡ ascending 0 l (at + i) m
    behind_more zero = ap (ascending top l at) (add-zero i) ∙ passed ∙ sym (unused_none l (at + i))
    behind_more (suc m) =
        ap (ascending top l at) (add-suc i m)
        ∙ run_suc (i + m)
        ∙ ap (λ (b : Bool). b && placed top l at (i + m)) (behind_more m)
        ∙ go (ascending 0 l (at + i) m) refl
        ∙ sym (unused_suc l (at + i) m)
      where
        go : (b : Bool) → ascending 0 l (at + i) m ≡ b → (b && placed top l at (i + m)) ≡ (b && eqb (get_or l (at + i + m) 0) 0)
        go true is = last m is
        go false is = refl

    pub behind : (n : ℕ) → i ≤ n → ascending top l at n ≡ ascending 0 l (at + i) (at + n - (at + i))
    behind n h =
        let all : n ≡ i + (at + n - (at + i)) = omega arith in
        ap (ascending top l at) all ∙ behind_more (at + n - (at + i))

-- the same of all places of a list, and the unused ones lent as its rest
pub behind_all : (top : ℕ) (l : List ℕ) (i : ℕ)
    → ascending top l 0 i ≡ true
    → get_or l i 0 ≡ 0
    → i ≤ length l
    → ascending 0 (take (length l - i) (drop i l)) 0 (length (take (length l - i) (drop i l))) ≡ ascending top l 0 (length l)
behind_all top l i passed e h =
    let here : 0 + i ≡ i = omega arith in
    let rest : 0 + length l - (0 + i) ≡ length l - i = omega arith in
    part_ascending 0 l i (length l - i) _ refl (omega arith)
    ∙ ap₂ (ascending 0 l) (sym here) (sym rest)
    ∙ sym (behind top l 0 i passed (ap (λ (k : ℕ). get_or l k 0) here ∙ e) (length l) h)
