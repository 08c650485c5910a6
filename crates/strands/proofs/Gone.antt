-- A walk that frees entries as it goes has fuel enough: behind the entries ps, all freed, the chain is the same with the fuel that is
-- left and with as much as there are entries. Whole or broken, as it was. Assumes nothing.
use mathlib.Core.Path.{◌≡◌, refl, sym, ap, ◌∙◌}
use mathlib.Core.Bool.{Bool, true, false, ◌||◌, cond, or-true, or-false}
use mathlib.Core.List.{List, [], ◌∷◌}
use Prim.Native.Nat.{ℕ, suc, ◌+◌, ◌<◌}
use native.Mathlib.Omega.{arith}
use lib.ListN.{length}
use lib.Dec.{eqb}
use Rattle.kind.specs.Kind.{pages, entries}
use Rattle.records.specs.declared.entry.Entry.{Entry}
use Rattle.chain.specs.declared.Link.{Link}
use Rattle.chain.specs.declared.Link.TheVariants.{End, Break, To}
use Rattle.chain.specs.Chain.{among, chain_from, link_of}
use Rattle.chain.proofs.Links.{link_real}
use Rattle.chain.proofs.Enough.{Distinct, Below, more}
use Rattle.strands.specs.Strands.{Frees}
use Rattle.strands.proofs.Strands.{less, link_freed, chain_from_less}

-- u is v with the entries ps freed, as row r sees it; there are fuel more
pub record Gone (r : ℕ) (v u ps : List ℕ) (fuel : ℕ) : Type 0 where
  pub size : pages u ≡ pages v
  pub links : (ptr : ℕ) → link_of u r ptr ≡ less (λ (q : ℕ). among q ps) (link_of v r ptr)
  pub distinct : Distinct ps
  pub below : Below (entries v) ps
  pub left : fuel + length ps ≡ entries v

-- nothing is gone yet
pub gone_none : (r : ℕ) (v : List ℕ) → Gone r v v [] (entries v)
unfolding among
gone_none r v = record { size = refl; links = λ ptr. none (link_of v r ptr); distinct = tt; below = tt; left = omega arith }
  where
    none : (l : Link) → l ≡ less (λ (q : ℕ). false) l
    none End = refl
    none Break = refl
    none (To q m) = refl

-- one more
pub gone_freed : (r : ℕ) (v u u₁ ps : List ℕ) (fuel ptr e : ℕ) (m : Entry) → Gone r v u ps (suc fuel) → link_of u r ptr ≡ To e m → Frees e u u₁
    → Gone r v u₁ (e ∷ ps) fuel
unfolding among
gone_freed r v u u₁ ps fuel ptr e m g to f =
    let here : e < entries u = (link_real u r ptr e m to).inside in
    record {
      size = f.size ∙ g.size;
      links = λ p. link_freed e u u₁ f r p ∙ ap (less (λ (q : ℕ). eqb q e)) (g.links p) ∙ also (link_of v r p);
      distinct = (fresh (link_of v r ptr) (sym (g.links ptr) ∙ to), g.distinct);
      below = (omega (arith, g.size), g.below);
      left = omega (arith, g.left);
    }
  where
    also : (l : Link) → less (λ (q : ℕ). eqb q e) (less (λ (q : ℕ). among q ps) l) ≡ less (λ (q : ℕ). eqb q e || among q ps) l
    also End = refl
    also Break = refl
    also (To q k) = by (among q ps)
      where
        by : (b : Bool) → less (λ (q : ℕ). eqb q e) (cond b Break (To q k)) ≡ cond (eqb q e || b) Break (To q k)
        by true = sym (ap (λ (a : Bool). cond a Break (To q k)) (or-true (eqb q e)))
        by false = sym (ap (λ (a : Bool). cond a Break (To q k)) (or-false (eqb q e)))

    fresh : (l : Link) → less (λ (q : ℕ). among q ps) l ≡ To e m → among e ps ≡ false
    fresh End k = let z : ◌≡◌ {A = ℕ} 0 1 = cc in absurd (omega arith)
    fresh Break k = let z : ◌≡◌ {A = ℕ} 0 1 = cc in absurd (omega arith)
    fresh (To q x) k = by (among q ps) refl k
      where
        by : (b : Bool) → among q ps ≡ b → cond b Break (To q x) ≡ To e m → among e ps ≡ false
        by true a c = let z : ◌≡◌ {A = ℕ} 0 1 = cc in absurd (omega arith)
        by false a c = let same : q ≡ e = cc in sym (ap (λ (t : ℕ). among t ps) same) ∙ a

pub gone_enough : (r : ℕ) (v u ps : List ℕ) (fuel : ℕ) → Gone r v u ps fuel → (ptr : ℕ)
    → chain_from u r (entries u) [] ptr ≡ chain_from u r fuel [] ptr
unfolding among
gone_enough r v u ps fuel g ptr =
    let size : entries u ≡ fuel + length ps = omega (arith, g.size, g.left) in
    ap (λ (n : ℕ). chain_from u r n [] ptr) size
    ∙ seen (fuel + length ps)
    ∙ more v r (length ps) fuel ps ptr g.distinct g.below g.left
    ∙ sym (seen fuel)
  where
    seen : (n : ℕ) → chain_from u r n [] ptr ≡ chain_from v r n ps ptr
    seen n = chain_from_less (λ (q : ℕ). among q ps) v u r g.links n [] ps ptr (λ q. sym (or-false (among q ps)))
