-- A row of the machine is empty where the slot is, and else begins with the slot's version. Assumes nothing.
use Prim.Native.Nat.{ℕ, ◌<◌}
use mathlib.Core.Path.{◌≡◌, refl, ap}
use mathlib.Core.Bool.{Bool, true, false, cond}
use mathlib.Core.List.{List, [], ◌∷◌}
use lib.Dec.{ltb}
use borrow.Author.Tests.{lt-ltb}
use Rattle.kind.specs.Kind.{rows, entries}
use Rattle.records.specs.Slot.{slot_at}
use Rattle.chain.specs.Chain.{Chain, chain_from, chain_of}
use Rattle.chain.proofs.Rows.{slot_version, chain_of_empty, chain_of_used}
use Rattle.seen.specs.Seen.{held_of, all_held, row_of}

module _ (d u : List ℕ) (r : ℕ) where
  pub row_empty : (slot_at r d).create ≡ 0 → row_of d u r ≡ []
  row_empty z = go (ltb r (rows d))
    where
      go : (b : Bool) → cond b (all_held d u (chain_of d u r).versions) [] ≡ []
      go true = rw (chain_of_empty d u r z)
      go false = refl

  pub row_used : r < rows d → ((slot_at r d).create ≡ 0 → ⊥)
      → row_of d u r ≡ held_of d u (slot_version d r) ∷ all_held d u (chain_from u r (entries u) [] (slot_at r d).undo_ptr).versions
  row_used inside used = rw (lt-ltb r (rows d) inside) (ap (λ (c : Chain). all_held d u c.versions) (chain_of_used d u r used))
