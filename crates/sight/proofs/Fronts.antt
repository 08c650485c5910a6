-- Two views that differ in unused places alone see the same: a list cut off behind its used places lists the same numbers, since 0, which
-- unused places hold, is never looked for. Assumes nothing.
use mathlib.Core.Path.{◌≡◌, refl, sym, ap, ap₂, ◌∙◌}
use mathlib.Core.Logic.{◌⊎◌, inl, inr}
use mathlib.Core.Bool.{Bool, true, false, not, ◌&&◌, ◌||◌}
use mathlib.Core.List.{List}
use Prim.Native.Nat.{ℕ, ◌≤◌, ◌<◌}
use native.Mathlib.Omega.{arith}
use lib.Dec.{eqb, ltb}
use lib.ListN.{get_or, length, take, length-take}
use lib.Seq.{get_or-take}
use borrow.Author.Tests.{eqb-false}
use Rattle.ground.proofs.Ranges.{lt_or_le, same_truth}
use Rattle.columns.specs.Columns.{used_in, used_of}
use Rattle.sight.specs.declared.Stamp.{Stamp}
use Rattle.sight.specs.Sight.{view_of, committed, listed, sees, earlier, known, there}
use Rattle.sight.proofs.Sights.{listed_at, listed_intro}

-- m is a front of l, and the places of l behind it are unused
pub record FrontOf (m l : List ℕ) : Type 0 where
  pub up_to : ℕ
  pub is : m ≡ take up_to l
  pub unused : (i : ℕ) → up_to ≤ i → get_or l i 0 ≡ 0

-- the used places of a list that has only unused ones from its first unused one on
pub used_front : (l : List ℕ)
    → ((i : ℕ) → used_in l ≤ i → get_or l i 0 ≡ 0)
    → FrontOf (used_of l) l
unfolding used_of
used_front l h = record { up_to = used_in l; is = refl; unused = h }

-- ---- listed

module _ (l : List ℕ) (n : ℕ) (unused : (i : ℕ) → n ≤ i → get_or l i 0 ≡ 0) (x : ℕ) (some : x ≡ 0 → ⊥) where
  in_whole : listed x (take n l) ≡ true → listed x l ≡ true
  in_whole e = by (listed_at x (take n l) e)
    where
      by : ((k : ℕ) × (k < length (take n l)) × (get_or (take n l) k 0 ≡ x)) → listed x l ≡ true
      by (k, h, f) =
          listed_intro x l k (omega (arith, length-take n l)) (sym (get_or-take n l k 0 (omega (arith, length-take n l))) ∙ f)

  in_front : listed x l ≡ true → listed x (take n l) ≡ true
  in_front e = by (listed_at x l e)
    where
      by : ((k : ℕ) × (k < length l) × (get_or l k 0 ≡ x)) → listed x (take n l) ≡ true
      by (k, h, f) = used (lt_or_le k n)
        where
          used : (k < n) ⊎ (n ≤ k) → listed x (take n l) ≡ true
          used (inl q) = listed_intro x (take n l) k (omega (arith, length-take n l)) (get_or-take n l k 0 q ∙ f)
          used (inr q) = absurd (some (sym f ∙ unused k q))

  cut_listed : listed x (take n l) ≡ listed x l
  cut_listed = same_truth (listed x (take n l)) (listed x l) in_whole in_front

-- ---- seen, known, there

module _ (m l : List ℕ) (front : FrontOf m l) where
  pub front_listed : (x : ℕ) → (x ≡ 0 → ⊥) → listed x m ≡ listed x l
  front_listed x some = ap (listed x) front.is ∙ cut_listed l front.up_to front.unused x some

  pub front_sees : (number : ℕ) (s : List ℕ) (x : ℕ) → sees number m s x ≡ sees number l s x
  unfolding sees
  front_sees number s x = by (eqb x 0) refl
    where
      by : (t : Bool)
          → eqb x 0 ≡ t
          → (not t && ltb x number && not (listed x m) && committed x s) ≡ (not t && ltb x number && not (listed x l) && committed x s)
      by true e = refl
      by false e = ap (λ (b : Bool). ltb x number && not b && committed x s) (front_listed x (eqb-false x 0 e))

  module _ (number statement : ℕ) (s : List ℕ) where
    pub front_known : (x cmd : ℕ) → known (view_of number statement m) s x cmd ≡ known (view_of number statement l) s x cmd
    unfolding known earlier
    front_known x cmd = ap (λ (b : Bool). eqb x number && ltb cmd statement || b) (front_sees number s x)

    pub front_there : (t : Stamp) → there (view_of number statement m) s t ≡ there (view_of number statement l) s t
    unfolding there
    front_there t =
        ap₂ (λ (a b : Bool). a && (eqb t.expire 0 || not b)) (front_known t.create t.cmd) (front_known t.expire t.expire_cmd)
