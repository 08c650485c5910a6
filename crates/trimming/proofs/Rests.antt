-- Freeing a chain's rest as it is walked ("01, Writes, withdrawal, sweep"): once an entry is freed, the chain behind it is what it was,
-- and the rule from here on is the rule from the start. Assumes nothing.
use mathlib.Core.Path.{◌≡◌, sym, ap, ◌∙◌}
use mathlib.Core.List.{List, [], ◌∷◌}
use Prim.Native.Nat.{ℕ, suc, ◌+◌, ◌-◌, ◌≤◌, ◌<◌}
use native.Mathlib.Nat.{zero-add}
use native.Mathlib.Omega.{arith}
use lib.ListN.{length}
use Rattle.records.specs.declared.entry.Entry.{Entry}
use Rattle.chain.specs.declared.Link.{Link}
use Rattle.chain.specs.declared.Link.TheVariants.{To}
use Rattle.chain.specs.Chain.{Version, Chain, chain_from, link_of}
use Rattle.chain.proofs.Links.{link_real}
use Rattle.chain.proofs.Chains.{copy_of}
use Rattle.freeing.specs.Freeing.{swept_entry}
use Rattle.strands.specs.Strands.{Frees}
use Rattle.strands.proofs.Strands.{swept_entry_frees, freed_step, versions_none, versions_out}
use Rattle.trimming.specs.Trimming.{swept_all}

-- the versions of row r from a pointer on, of at most so many entries
abbrev pub onward : List ℕ → ℕ → ℕ → ℕ → List Version
onward u r fuel ptr = (chain_from u r fuel [] ptr).versions

-- n of at most `most` entries are freed of the area u₀, from `first` on, and the walk stands at ptr
pub record Freed (u₀ : List ℕ) (r first most : ℕ) (u : List ℕ) (ptr n : ℕ) : Type 0 where
  pub leaves : swept_all (onward u r (most - n) ptr) u ≡ swept_all (onward u₀ r most first) u₀
  pub counts : n + length (onward u r (most - n) ptr) ≡ length (onward u₀ r most first)

module _ (u₀ : List ℕ) (r first most : ℕ) where
  pub freed_start : Freed u₀ r first most u₀ first 0
  freed_start =
      let all : most - 0 ≡ most = omega arith in
      record {
        leaves = ap (λ (k : ℕ). swept_all (onward u₀ r k first) u₀) all;
        counts = zero-add (length (onward u₀ r (most - 0) first)) ∙ ap (λ (k : ℕ). length (onward u₀ r k first)) all;
      }

  module _ (u : List ℕ) (ptr n : ℕ) (h : Freed u₀ r first most u ptr n) where
    -- one more
    pub freed_next : {l : Link} {u' : List ℕ} (e : ℕ) (m : Entry) → n < most → l ≡ link_of u r ptr → l ≡ To e m → u' ≡ swept_entry e u
        → Freed u₀ r first most u' m.copy.undo_ptr (n + 1)
    unfolding swept_all
    freed_next {l} {u'} e m less is to done =
        let next : ℕ = m.copy.undo_ptr in
        let k : most - n ≡ suc (most - (n + 1)) = omega arith in
        let link : link_of u r ptr ≡ To e m = sym is ∙ to in
        let frees : Frees e u u' = rw done (swept_entry_frees e u (link_real u r ptr e m link).inside) in
        let step : onward u r (most - n) ptr ≡ copy_of e m ∷ onward u' r (most - (n + 1)) next
        = ap (λ (j : ℕ). onward u r j ptr) k ∙ ap (λ (c : Chain). c.versions) (freed_step r (most - (n + 1)) ptr u u' e m link frees) in
        record { leaves = swept step; counts = counted (onward u' r (most - (n + 1)) next) (ap length step) }
      where
        swept : {xs : List Version} → onward u r (most - n) ptr ≡ copy_of e m ∷ xs → swept_all xs u' ≡ swept_all (onward u₀ r most first) u₀
        swept {xs} s = ap (swept_all xs) done ∙ sym (ap (λ (l : List Version). swept_all l u) s) ∙ h.leaves

        counted : (xs : List Version) → length (onward u r (most - n) ptr) ≡ suc (length xs) → n + 1 + length xs ≡ length (onward u₀ r most first)
        counted xs s = omega (arith, h.counts)

    abbrev Done : Type 0
    Done = (n ≡ length (onward u₀ r most first)) × (u ≡ swept_all (onward u₀ r most first) u₀)

    done : onward u r (most - n) ptr ≡ [] → Done
    unfolding swept_all
    done none = (
      let z : length (onward u r (most - n) ptr) ≡ 0 = ap length none in omega (arith, h.counts),
      sym (ap (λ (l : List Version). swept_all l u) none) ∙ h.leaves,
    )

    -- the chain ends here
    pub freed_end : {l : Link} → l ≡ link_of u r ptr → ((e : ℕ) (m : Entry) → l ≡ To e m → ⊥) → Done
    freed_end is away = done (versions_none u r [] ptr (most - n) is away)

    -- or as many are freed as there are
    pub freed_out : most ≤ n → Done
    freed_out h = let z : most - n ≡ 0 = omega arith in done (ap (λ (k : ℕ). onward u r k ptr) z ∙ versions_out u r [] ptr)
