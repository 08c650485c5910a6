-- The rule of sweep, case by case. Assumes nothing.
use mathlib.Core.Path.{◌≡◌, sym, ap, ◌∙◌}
use mathlib.Core.Bool.{true, false, not}
use mathlib.Core.List.{List}
use Prim.Native.Nat.{ℕ, ◌+◌, ◌-◌, ◌≤◌, ◌<◌, min}
use native.Mathlib.Omega.{arith}
use lib.ListN.{length}
use lib.Dec.{ltb}
use borrow.Author.Tests.{lt-ltb, le-ltb, ltb-false}
use Rattle.ground.proofs.Refusals.{first_of_none}
use Rattle.desk.specs.declared.Desk.{Desk}
use Rattle.desk.specs.Sound.{sound}
use Rattle.desk.specs.Turns.{mark}
use Rattle.kind.specs.Kind.{rows, lengths_ok}
use Rattle.kind.specs.Areas.{Areas, areas, bad_length, Both, both}
use Rattle.strands.specs.Strands.{RowsIn}
use Rattle.sweeping.specs.Sweeping.{treated, all_whole, swept_from, removed_from, held_from, sweep_refusal, swept, sweep_rule}
use Rattle.sweeping.proofs.Treats.{ready, held_removed}

-- "treats min(quota, rows left) of them"
module _ (d : List ℕ) (first quota : ℕ) where
  pub treats : {n k : ℕ} → k ≡ rows d → n ≡ min quota (k - first) → n ≡ treated d first quota
  unfolding treated
  treats all is = is ∙ ap (λ (k : ℕ). min quota (k - first)) all

  pub treats_few : first ≤ rows d → first + treated d first quota ≤ rows d
  unfolding treated
  treats_few h = omega arith

-- the rows treated are rows of the area, where nothing is refused
pub treats_inside : (a : Areas) (desk : Desk) (first quota : ℕ) → sweep_refusal a desk first quota ≡ 0
    → first + treated a.«data» first quota ≤ rows a.«data»
unfolding sweep_refusal
treats_inside a desk first quota ok =
    let l = first_of_none (bad_length a) 1 _ (λ z. omega arith) ok in
    let b = first_of_none (not (sound desk)) 2 _ (λ z. omega arith) l.1 in
    let f = first_of_none (ltb (rows a.«data») first) 5 _ (λ z. omega arith) b.1 in
    treats_few a.«data» first quota (ltb-false (rows a.«data») first f.0)

module _ (d u s : List ℕ) (desk : Desk) (first quota : ℕ) where
  pub sweep_1 : lengths_ok (length d) (length u) (length s) ≡ false → sweep_rule (areas d u s) desk first quota ≡ ((1, 0, 0), areas d u s)
  unfolding sweep_rule sweep_refusal
  sweep_1 l = rw l

  module _ (l : lengths_ok (length d) (length u) (length s) ≡ true) where
    pub sweep_2 : sound desk ≡ false → sweep_rule (areas d u s) desk first quota ≡ ((2, 0, 0), areas d u s)
    unfolding sweep_rule sweep_refusal
    sweep_2 b = rw (l, b)

    module _ (b : sound desk ≡ true) where
      pub sweep_5 : {k : ℕ} → k ≡ rows d → k < first → sweep_rule (areas d u s) desk first quota ≡ ((5, 0, 0), areas d u s)
      unfolding sweep_rule sweep_refusal
      sweep_5 all h = rw (l, b, lt-ltb (rows d) first (omega arith))

      module _ {n k : ℕ} (all : k ≡ rows d) (some : first ≤ k) (is : n ≡ treated d first quota) where
        pub sweep_6 : all_whole d u first n ≡ false → sweep_rule (areas d u s) desk first quota ≡ ((6, 0, 0), areas d u s)
        unfolding sweep_rule sweep_refusal
        sweep_6 h =
            let broken : all_whole d u first (treated d first quota) ≡ false = ap (all_whole d u first) (sym is) ∙ h in
            rw (l, b, le-ltb (rows d) first (omega arith), broken)

        -- the next row, and "the versions removed, equal to versions held before less versions held after in those rows"
        pub sweep_0 : {m removed : ℕ} {d' u' : List ℕ} → all_whole d u first n ≡ true → RowsIn (first + n) (both d u)
            → m ≡ mark desk
            → removed ≡ removed_from m s first n (both d u)
            → both d' u' ≡ swept_from m s first n (both d u)
            → sweep_rule (areas d u s) desk first quota ≡ ((0, first + n, removed), areas d' u' s)
        unfolding sweep_rule sweep_refusal swept
        sweep_0 {m} {removed} {d'} {u'} h lies at gone left =
            let whole : all_whole d u first (treated d first quota) ≡ true = ap (all_whole d u first) (sym is) ∙ h in
            let done : sweep_rule (areas d u s) desk first quota ≡ after (treated d first quota) (swept_by (mark desk) (treated d first quota))
            = rw (l, b, le-ltb (rows d) first (omega arith), whole) in
            let held : held_from first n (both d u) ≡ removed_from m s first n (both d u) + held_from first n (swept_by m n)
            = held_removed m s first n (both d u) (ready d u first n lies h) in
            done
            ∙ ap (λ (j : ℕ). after j (swept_by (mark desk) j)) (sym is)
            ∙ ap (λ (x : ℕ). after n (swept_by x n)) (sym at)
            ∙ ap (λ (j : ℕ). ((0, first + n, j), areas (swept_by m n).«data» (swept_by m n).undo s)) (omega (arith, held, gone))
            ∙ ap (λ (p : Both). ((0, first + n, removed), areas p.«data» p.undo s)) (sym left)
          where
            swept_by : ℕ → ℕ → Both
            swept_by x j = swept_from x s first j (both d u)

            after : ℕ → Both → (ℕ × ℕ × ℕ) × Areas
            after j p = ((0, first + j, held_from first j (both d u) - held_from first j p), areas p.«data» p.undo s)
