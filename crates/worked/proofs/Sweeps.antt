-- A sweep of a page whose rows behind the first are all zeros (`Zeros`): row 0 says what it does. Assumes nothing.
use Prim.Native.Nat.{ℕ, zero, suc, ◌+◌, ◌-◌}
use native.Mathlib.Omega.{arith}
use native.Mathlib.Nat.{add-zero}
use mathlib.Core.Path.{◌≡◌, refl, ap, ◌∙◌}
use mathlib.Core.Bool.{true}
use mathlib.Core.List.{List}
use lib.ListN.{length}
use borrow.Author.Tests.{le-ltb}
use Rattle.kind.specs.Kind.{rows, lengths_ok}
use Rattle.kind.specs.Areas.{areas, Both, both}
use Rattle.desk.specs.declared.Desk.{Desk}
use Rattle.desk.specs.Sound.{sound}
use Rattle.desk.specs.Turns.{mark}
use Rattle.chain.specs.Chain.{Chain, chain_of}
use Rattle.chain.proofs.Rows.{chain_of_empty}
use Rattle.trimming.specs.Trimming.{swept_versions, swept_row}
use Rattle.sweeping.specs.Sweeping.{treated, all_whole, swept_from, held_from, sweep_refusal, swept, sweep_rule}
use Rattle.worked.proofs.Zeros.{Empty, Bare, empty_here, empty_on, bare_empty, all_bare}

-- ---- rows that are empty

swept_empty : (m : ℕ) (s : List ℕ) (n r : ℕ) (p : Both) → Empty p.«data» r n → swept_from m s r n p ≡ p
unfolding swept_from swept_row swept_versions
swept_empty m s zero r p h = refl
swept_empty m s (suc n) r p h =
    ap (λ (c : Chain). swept_from m s (r + 1) n (swept_versions m s r c.versions p)) (chain_of_empty p.«data» p.undo r (empty_here p.«data» r n h))
    ∙ swept_empty m s n (r + 1) p (empty_on p.«data» r n h)

held_empty : (n r : ℕ) (p : Both) → Empty p.«data» r n → held_from r n p ≡ 0
unfolding held_from
held_empty zero r p h = refl
held_empty (suc n) r p h =
    ap (λ (c : Chain). length c.versions + held_from (r + 1) n p) (chain_of_empty p.«data» p.undo r (empty_here p.«data» r n h))
    ∙ ap (λ (k : ℕ). 0 + k) (held_empty n (r + 1) p (empty_on p.«data» r n h))

-- ---- all rows, by row 0

swept_first : (m : ℕ) (s : List ℕ) (n : ℕ) (p : Both) → swept_from m s 0 (suc n) p ≡ swept_from m s 1 n (swept_row m s 0 p)
unfolding swept_from
swept_first m s n p = refl

swept_one : (m : ℕ) (s : List ℕ) (p : Both) (d u : List ℕ) → Bare d → swept_row m s 0 p ≡ both d u → swept_from m s 0 127 p ≡ both d u
swept_one m s p d u h row = swept_first m s 126 p ∙ ap (swept_from m s 1 126) row ∙ swept_empty m s 126 1 (both d u) (bare_empty d h)

held_first : (n : ℕ) (p : Both) → held_from 0 (suc n) p ≡ length (chain_of p.«data» p.undo 0).versions + held_from 1 n p
unfolding held_from
held_first n p = refl

held_one : (d u : List ℕ) (k : ℕ) → Bare d → length (chain_of d u 0).versions ≡ k → held_from 0 127 (both d u) ≡ k
held_one d u k h e =
    held_first 126 (both d u)
    ∙ ap (λ (n : ℕ). length (chain_of d u 0).versions + n) (held_empty 126 1 (both d u) (bare_empty d h))
    ∙ add-zero (length (chain_of d u 0).versions)
    ∙ e

whole_one : (d u : List ℕ) → Bare d → (chain_of d u 0).whole ≡ true → all_whole d u 0 127 ≡ true
unfolding all_whole
whole_one d u h e =
    all_bare d (λ (i : ℕ). (chain_of d u (0 + i)).whole) h e
    (λ r empty. ap (λ (n : ℕ). (chain_of d u n).whole) (zero_add r) ∙ ap (λ (c : Chain). c.whole) (chain_of_empty d u r empty))
  where
    zero_add : (n : ℕ) → 0 + n ≡ n
    zero_add n = omega arith

-- ---- the sweep

module _ (d u s d' u' : List ℕ) (desk : Desk) (before after : ℕ) where
  pub sweep_one : lengths_ok (length d) (length u) (length s) ≡ true
      → sound desk ≡ true
      → treated d 0 127 ≡ 127
      → Bare d
      → Bare d'
      → (chain_of d u 0).whole ≡ true
      → swept_row (mark desk) s 0 (both d u) ≡ both d' u'
      → length (chain_of d u 0).versions ≡ before
      → length (chain_of d' u' 0).versions ≡ after
      → sweep_rule (areas d u s) desk 0 127 ≡ ((0, 127, before - after), areas d' u' s)
  unfolding sweep_rule sweep_refusal swept
  sweep_one l b t h h' w row x y =
      rw (l, b, le-ltb (rows d) 0 (omega arith), t, whole_one d u h w, swept_one (mark desk) s (both d u) d' u' h' row, held_one d u before h x, held_one d' u' after h' y)
      refl
