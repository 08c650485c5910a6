-- Chains of areas whose counts are due ("01, The page"): counting leaves every entry, so a chain leads where it led. Assumes nothing.
use mathlib.Core.Path.{◌≡◌, refl, ap, ◌∙◌}
use mathlib.Core.Bool.{cond}
use mathlib.Core.List.{List}
use Prim.Native.Nat.{ℕ, ◌/◌}
use Rattle.kind.specs.declared.Kind.{Kind}
use Rattle.kind.specs.Kind.{pages}
use Rattle.pointer.specs.declared.Lead.{Lead}
use Rattle.pointer.specs.declared.Lead.TheVariants.{Nowhere as Nothing, Entry as ToEntry, Astray}
use Rattle.pointer.specs.Pointer.{lead_of}
use Rattle.records.specs.declared.entry.Entry.{Entry}
use Rattle.chain.specs.declared.Link.TheVariants.{Break, To}
use Rattle.chain.specs.Chain.{unfit, link_at, link_of}
use Rattle.freeing.specs.Tally.{tallied}
use Rattle.freeing.proofs.Tallies.{length_tallied, entry_at_tallied}

pub link_of_tallied : (k : Kind) (due u : List ℕ) (r ptr : ℕ) → link_of (tallied k due u) r ptr ≡ link_of u r ptr
unfolding link_of
link_of_tallied k due u r ptr =
    ap (λ (n : ℕ). link_at (tallied k due u) r (lead_of (n / 8192) ptr)) (length_tallied k due u) ∙ by (lead_of (pages u) ptr)
  where
    by : (l : Lead) → link_at (tallied k due u) r l ≡ link_at u r l
    by Nothing = refl
    by Astray = refl
    by (ToEntry e) = ap (λ (m : Entry). cond (unfit r m) Break (To e m)) (entry_at_tallied k due u e)
