-- The chain of a row ("01, Sessions and sight"): empty, or its slot and what is older; and it depends on the areas through the row's
-- slot and its links only. Assumes nothing.
use mathlib.Core.Path.{◌≡◌, refl, sym, ap, ◌∙◌}
use mathlib.Core.Bool.{Bool, true, false, cond, true≢false}
use mathlib.Core.List.{List, [], ◌∷◌}
use Prim.Native.Nat.{ℕ, zero, suc}
use lib.Dec.{eqb}
use borrow.Author.Tests.{eq-eqb, ne_eqb}
use Rattle.kind.specs.Kind.{entries}
use Rattle.records.specs.declared.slot.Slot.{Slot}
use Rattle.records.specs.declared.entry.Entry.{Entry}
use Rattle.records.specs.Slot.{slot_at}
use Rattle.chain.specs.declared.Place.TheVariants.{Data}
use Rattle.chain.specs.declared.Link.{Link}
use Rattle.chain.specs.declared.Link.TheVariants.{End, Break, To}
use Rattle.chain.specs.Chain.{Version, Chain, ended, onto, among, chain_from, chain_of, link_of}
use Rattle.chain.proofs.Chains.{copy_of, chain_from_end, chain_from_break, chain_from_passed, chain_from_on, chain_from_full}

-- a chain that is broken is not whole
pub broken : (c : Chain) → c ≡ ended false → c.whole ≡ true → ⊥
broken c is whole = true≢false (sym whole ∙ ap (λ (x : Chain). x.whole) is)

abbrev pub slot_version : List ℕ → ℕ → Version
slot_version d r = record { place = Data r; slot = slot_at r d }

module _ (d u : List ℕ) (r : ℕ) where
  -- "an empty slot has no chain, whatever its other bytes"
  pub chain_of_empty : (slot_at r d).create ≡ 0 → chain_of d u r ≡ ended true
  unfolding chain_of
  chain_of_empty h = rw (eq-eqb (slot_at r d).create 0 h)

  -- the slot's own version stands in front
  pub chain_of_used : ((slot_at r d).create ≡ 0 → ⊥) → chain_of d u r ≡ onto (slot_version d r) (chain_from u r (entries u) [] (slot_at r d).undo_ptr)
  unfolding chain_of
  chain_of_used h = rw (ne_eqb (slot_at r d).create 0 h)

  -- the same of what stands in the slot
  pub chain_of_slot : (m : Slot) → slot_at r d ≡ m → (m.create ≡ 0 → ⊥)
      → chain_of d u r ≡ onto (record { place = Data r; slot = m }) (chain_from u r (entries u) [] m.undo_ptr)
  chain_of_slot m is used =
      chain_of_used (λ z. used (sym (ap (λ (x : Slot). x.create) is) ∙ z))
      ∙ ap (λ (x : Slot). onto (record { place = Data r; slot = x }) (chain_from u r (entries u) [] x.undo_ptr)) is

-- ---- chains that agree

module _ (u u' : List ℕ) (t : ℕ) (same : (ptr : ℕ) → link_of u' t ptr ≡ link_of u t ptr) where
  pub chain_from_agree : (fuel : ℕ) (ps : List ℕ) (ptr : ℕ) → chain_from u' t fuel ps ptr ≡ chain_from u t fuel ps ptr
  chain_from_agree zero ps ptr = on (link_of u t ptr) refl
    where
      on : (l : Link) → link_of u t ptr ≡ l → chain_from u' t zero ps ptr ≡ chain_from u t zero ps ptr
      on End h = chain_from_end u' t zero ps ptr (same ptr ∙ h) ∙ sym (chain_from_end u t zero ps ptr h)
      on Break h = chain_from_break u' t zero ps ptr (same ptr ∙ h) ∙ sym (chain_from_break u t zero ps ptr h)
      on (To e m) h = chain_from_full u' t ps ptr e m (same ptr ∙ h) ∙ sym (chain_from_full u t ps ptr e m h)
  chain_from_agree (suc fuel) ps ptr = on (link_of u t ptr) refl (λ e m. chain_from_agree fuel (e ∷ ps) m.copy.undo_ptr)
    where
      on : (l : Link) → link_of u t ptr ≡ l
          → ((e : ℕ) (m : Entry) → chain_from u' t fuel (e ∷ ps) m.copy.undo_ptr ≡ chain_from u t fuel (e ∷ ps) m.copy.undo_ptr)
          → chain_from u' t (suc fuel) ps ptr ≡ chain_from u t (suc fuel) ps ptr
      on End h g = chain_from_end u' t (suc fuel) ps ptr (same ptr ∙ h) ∙ sym (chain_from_end u t (suc fuel) ps ptr h)
      on Break h g = chain_from_break u' t (suc fuel) ps ptr (same ptr ∙ h) ∙ sym (chain_from_break u t (suc fuel) ps ptr h)
      on (To e m) h g = by (among e ps) refl
        where
          by : (b : Bool) → among e ps ≡ b → chain_from u' t (suc fuel) ps ptr ≡ chain_from u t (suc fuel) ps ptr
          by true p = chain_from_passed u' t ps ptr e m (same ptr ∙ h) (suc fuel) p ∙ sym (chain_from_passed u t ps ptr e m h (suc fuel) p)
          by false p =
              chain_from_on u' t ps ptr e m (same ptr ∙ h) fuel p
              ∙ ap (onto (copy_of e m)) (g e m)
              ∙ sym (chain_from_on u t ps ptr e m h fuel p)

  pub chain_of_agree : (d d' : List ℕ) → entries u' ≡ entries u → slot_at t d' ≡ slot_at t d → chain_of d' u' t ≡ chain_of d u t
  unfolding chain_of
  chain_of_agree d d' size slot =
      ap (λ (m : Slot). cond (eqb m.create 0) (ended true) (onto (record { place = Data t; slot = m }) (chain_from u' t (entries u') [] m.undo_ptr))) slot
      ∙ ap (λ (c : Chain). cond (eqb (slot_at t d).create 0) (ended true) (onto (record { place = Data t; slot = slot_at t d }) c))
      (ap (λ (n : ℕ). chain_from u' t n [] (slot_at t d).undo_ptr) size
      ∙ chain_from_agree (entries u) [] (slot_at t d).undo_ptr)
