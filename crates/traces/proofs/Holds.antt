-- The entries that hold versions of a chain ("01, Sessions and sight"): each is in use, says the row of the chain, and is none of those
-- passed before. Assumes nothing.
use mathlib.Core.Path.{◌≡◌, refl, sym, ap, subst, ◌∙◌}
use mathlib.Core.Logic.{◌⊎◌, inl, inr}
use mathlib.Core.Bool.{Bool, true, false}
use mathlib.Core.List.{List, [], ◌∷◌}
use Prim.Native.Nat.{ℕ}
use native.Mathlib.Omega.{arith}
use lib.Dec.{eqb}
use borrow.Author.Tests.{eqb-true, eqb-false}
use Rattle.ground.proofs.Ranges.{or_false_right}
use Rattle.kind.specs.Kind.{entries}
use Rattle.records.specs.declared.entry.Entry.{Entry}
use Rattle.records.specs.Slot.{slot_at}
use Rattle.records.specs.Entry.{entry_at}
use Rattle.chain.specs.declared.Place.TheVariants.{Data, Undo}
use Rattle.chain.specs.Chain.{Version, Chain, among, chain_from, chain_of}
use Rattle.chain.proofs.Links.{link_real, among_apart, among_first}
use Rattle.chain.proofs.Rows.{chain_of_empty, chain_of_used}
use Rattle.strands.specs.Strands.{place_number, entry_in, Step, Strand}
use Rattle.strands.proofs.Runs.{step_place, step_entry, step_row, chain_strand}
use Rattle.traces.specs.Traces.{HoldsOne}

-- what is known of entry e, where it holds a version of row r and those of ps were passed
pub record Holding (u : List ℕ) (r : ℕ) (ps : List ℕ) (e : ℕ) : Type 0 where
  pub used : (entry_at e u).writer ≡ 0 → ⊥
  pub row : (entry_at e u).row ≡ r
  pub fresh : among e ps ≡ false

-- ---- one step

module _ {u : List ℕ} {r : ℕ} {ps : List ℕ} {ptr : ℕ} {x : Version} (s : Step u r ps ptr x) where
  -- "a free entry" would break the chain
  pub step_used : (entry_at (entry_in x) u).writer ≡ 0 → ⊥
  step_used z =
      (link_real u r ptr (entry_in x) s.entry s.to).carries.used (ap (λ (m : Entry). m.writer) (step_entry s) ∙ z)

  pub step_holds : (e : ℕ) → x.place ≡ Undo e → Holding u r ps e
  step_holds e at =
      subst (Holding u r ps) (ap place_number at) (record { used = step_used; row = step_row s; fresh = s.fresh })

-- ---- a strand, and the chain of a row

pub strand_holds : (u : List ℕ) (r : ℕ) (w : Bool) (xs : List Version) (ps : List ℕ) (ptr : ℕ) → Strand u r w ps ptr xs
    → (e : ℕ) → HoldsOne e xs → Holding u r ps e
unfolding among
strand_holds u r w [] ps ptr s e h = absurd h
strand_holds u r w (x ∷ xs) ps ptr s e h = by h (strand_holds u r w xs (entry_in x ∷ ps) x.slot.undo_ptr s.1 e)
  where
    by : (x.place ≡ Undo e) ⊎ HoldsOne e xs → (HoldsOne e xs → Holding u r (entry_in x ∷ ps) e) → Holding u r ps e
    by (inl at) ih = step_holds s.0 e at
    by (inr k) ih = record { used = (ih k).used; row = (ih k).row; fresh = or_false_right (eqb e (entry_in x)) (among e ps) (ih k).fresh }

-- the entry of the version in front, and those of the versions behind it
module _ {u : List ℕ} {r : ℕ} {ps : List ℕ} {ptr : ℕ} {x : Version} (s : Step u r ps ptr x) (xs : List Version) (e : ℕ) where
  pub holds_first : e ≡ entry_in x → HoldsOne e (x ∷ xs)
  holds_first same = inl (step_place s ∙ ap Undo (sym same))

  pub holds_either : (e ≡ entry_in x) ⊎ HoldsOne e xs → HoldsOne e (x ∷ xs)
  holds_either (inl same) = holds_first same
  holds_either (inr h) = inr h

  -- are not the same
  pub holds_apart : (u' : List ℕ) (w : Bool) → Strand u' r w (entry_in x ∷ ps) x.slot.undo_ptr xs → e ≡ entry_in x → HoldsOne e xs → ⊥
  holds_apart u' w behind same h =
      among_apart e (entry_in x) (entry_in x ∷ ps)
      (strand_holds u' r w xs (entry_in x ∷ ps) x.slot.undo_ptr behind e h).fresh
      (among_first (entry_in x) ps)
      same

pub chain_holds : (d u : List ℕ) (r e : ℕ) → HoldsOne e (chain_of d u r).versions → Holding u r [] e
chain_holds d u r e h = by (eqb (slot_at r d).create 0) refl
  where
    behind : Chain
    behind = chain_from u r (entries u) [] (slot_at r d).undo_ptr

    -- the slot is no entry
    later : HoldsOne e (record { place = Data r; slot = slot_at r d } ∷ behind.versions) → Holding u r [] e
    later (inl at) = let z : ◌≡◌ {A = ℕ} 0 1 = cc in absurd (omega arith)
    later (inr k) = strand_holds u r behind.whole behind.versions [] (slot_at r d).undo_ptr (chain_strand u r (entries u) [] (slot_at r d).undo_ptr) e k

    by : (b : Bool) → eqb (slot_at r d).create 0 ≡ b → Holding u r [] e
    by true z = absurd (subst (λ (c : Chain). HoldsOne e c.versions) (chain_of_empty d u r (eqb-true (slot_at r d).create 0 z)) h)
    by false z = later (subst (λ (c : Chain). HoldsOne e c.versions) (chain_of_used d u r (eqb-false (slot_at r d).create 0 z)) h)
