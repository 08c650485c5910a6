-- Rows treated one after the other, byte by byte ("01, Writes, withdrawal, sweep"): what treating one row writes is confined to its slot and
-- to the entries of its chain, and rows have none of these in common; so treating many is confined to what they had at first. Said once,
-- for withdraw and for the sweep. Assumes nothing.
use mathlib.Core.Path.{◌≡◌, sym, subst, ◌∙◌}
use mathlib.Core.Logic.{◌⊎◌, inl, inr}
use mathlib.Core.List.{List}
use Prim.Native.Nat.{ℕ, zero, suc, ◌+◌, ◌≤◌, ◌<◌}
use native.Mathlib.Omega.{arith}
use Rattle.kind.specs.Kind.{data_kind, undo_kind}
use Rattle.kind.specs.Areas.{Both}
use Rattle.records.specs.declared.slot.Slot.{Slot}
use Rattle.records.specs.Slot.{slot_at}
use Rattle.chain.specs.Chain.{Version, Chain, chain_of}
use Rattle.strands.specs.Strands.{Treated, RowIn, RowsIn, Turns}
use Rattle.strands.proofs.Apart.{chain_of_treated}
use Rattle.strands.proofs.Rows.{first_in_lem, treats, later_in}
use Rattle.traces.specs.Traces.{HoldsOne}
use Rattle.traces.proofs.Pages.{Marks}
use Rattle.traces.proofs.Confined.{Confined, confined_refl, confined_more, confined_trans}
use Rattle.traces.proofs.Holds.{chain_holds}

-- a question about row r: about its slot and its versions
abbrev pub asked : (Slot → List Version → Type 0) → Both → ℕ → Type 0
asked q p r = q (slot_at r p.«data») (chain_of p.«data» p.undo r).versions

-- entry e holds a version of row r, of which q holds
abbrev pub entry_of : (Slot → List Version → Type 0) → Both → ℕ → ℕ → Type 0
entry_of q p r e = asked q p r × HoldsOne e (chain_of p.«data» p.undo r).versions

-- what treating row r writes: its slot, if v holds of the row, and entries of its chain, if w does. D and U say what becomes of pages, S
-- and E what becomes of slots and entries
pub record Treads (D U S E : List ℕ → List ℕ → Type 0) (v w : Slot → List Version → Type 0) (r : ℕ) (p p' : Both) : Type 0 where
  pub «data» : Confined data_kind D S (λ (t : ℕ). (t ≡ r) × asked v p r) p.«data» p'.«data»
  pub undo : Confined undo_kind U E (entry_of w p r) p.undo p'.undo

-- t is one of the n rows from r on
abbrev pub one_of : ℕ → ℕ → ℕ → Type 0
one_of r n t = (r ≤ t) × (t < r + n)

-- entry e holds a version of one of them
pub record EntryOfOne (w : Slot → List Version → Type 0) (r n : ℕ) (p : Both) (e : ℕ) : Type 0 where
  pub row : ℕ
  pub one : one_of r n row
  pub holds : entry_of w p row e

-- what treating them writes
pub record TreadsAll (D U S E : List ℕ → List ℕ → Type 0) (v w : Slot → List Version → Type 0) (r n : ℕ) (p p' : Both) : Type 0 where
  pub «data» : Confined data_kind D S (λ (t : ℕ). one_of r n t × asked v p t) p.«data» p'.«data»
  pub undo : Confined undo_kind U E (EntryOfOne w r n p) p.undo p'.undo

-- ---- a row that is treated leaves what is asked of every other

module _ (q : Slot → List Version → Type 0) (r : ℕ) (p p' : Both) (k : Treated r p.«data» p.undo p'.«data» p'.undo) (t : ℕ) (ne : t ≡ r → ⊥) where
  asked_kept : asked q p' t → asked q p t
  asked_kept h =
      subst (λ (c : Chain). q (slot_at t p.«data») c.versions) (chain_of_treated k t ne)
      (subst (λ (m : Slot). q m (chain_of p'.«data» p'.undo t).versions) (k.slots t ne) h)

  entry_of_kept : (e : ℕ) → entry_of q p' t e → entry_of q p t e
  entry_of_kept e h = (asked_kept h.0, subst (λ (c : Chain). HoldsOne e c.versions) (chain_of_treated k t ne) h.1)

-- ---- all of them: f treats a row, g the n rows from r on

module _ {D U S E : List ℕ → List ℕ → Type 0} {mark_d mark_u : ℕ → List ℕ → List ℕ} (md : Marks data_kind D mark_d) (mu : Marks undo_kind U mark_u)
    (v w : Slot → List Version → Type 0) (f : ℕ → Both → Both) (g : ℕ → ℕ → Both → Both) (turns : Turns f g)
    (one : (r : ℕ) (p : Both) → RowIn r p.«data» p.undo → Treads D U S E v w r p (f r p))
  where
    pub rows_tread : (n r : ℕ) (p : Both) → RowsIn (r + n) p → TreadsAll D U S E v w r n p (g r n p)
    rows_tread zero r p h =
        subst (TreadsAll D U S E v w r zero p) (sym (turns.none r p))
        (record {
          «data» = confined_refl (λ (t : ℕ). one_of r zero t × asked v p t) p.«data»;
          undo = confined_refl (EntryOfOne w r zero p) p.undo;
        })
    rows_tread (suc n) r p h = by (rows_tread n (r + 1) (f r p) (later_in f g turns n r p h))
      where
        here : RowIn r p.«data» p.undo
        here = first_in_lem f g turns n r p h

        k : Treated r p.«data» p.undo (f r p).«data» (f r p).undo
        k = treats f g turns n r p h

        Slots : ℕ → Type 0
        Slots t = one_of (r + 1) n t × asked v (f r p) t

        Entries : ℕ → Type 0
        Entries e = EntryOfOne w (r + 1) n (f r p) e

        slots : (t : ℕ) → ((t ≡ r) × asked v p r) ⊎ Slots t → one_of r (suc n) t × asked v p t
        slots t (inl a) = ((omega (arith, a.0), omega (arith, a.0)), subst (asked v p) (sym a.0) a.1)
        slots t (inr a) = ((omega (arith, a.0.0), omega (arith, a.0.1)), asked_kept v r p (f r p) k t (λ e. omega (arith, e, a.0.0)) a.1)

        entries : (e : ℕ) → entry_of w p r e ⊎ Entries e → EntryOfOne w r (suc n) p e
        entries e (inl a) = record { row = r; one = (omega arith, omega arith); holds = a }
        entries e (inr a) =
            record {
              row = a.row;
              one = (omega (arith, a.one.0), omega (arith, a.one.1));
              holds = entry_of_kept w r p (f r p) k a.row (λ z. omega (arith, z, a.one.0)) e a.holds;
            }

        -- no entry holds versions of two rows
        apart : (e : ℕ) → entry_of w p r e → Entries e → ⊥
        apart e a b =
            let ne : b.row ≡ r → ⊥ = λ z. omega (arith, z, b.one.0) in
            let old : entry_of w p b.row e = entry_of_kept w r p (f r p) k b.row ne e b.holds in
            ne (sym (chain_holds p.«data» p.undo b.row e old.1).row ∙ (chain_holds p.«data» p.undo r e a.1).row)

        by : TreadsAll D U S E v w (r + 1) n (f r p) (g (r + 1) n (f r p)) → TreadsAll D U S E v w r (suc n) p (g r (suc n) p)
        by ih =
            subst (TreadsAll D U S E v w r (suc n) p) (sym (turns.next r n p))
            (record {
              «data» =
                  confined_more (λ (t : ℕ). ((t ≡ r) × asked v p r) ⊎ Slots t) (λ (t : ℕ). one_of r (suc n) t × asked v p t) slots
                  (confined_trans md (λ (t : ℕ). (t ≡ r) × asked v p r) Slots (λ t a b. omega (arith, a.0, b.0.0)) (one r p here).«data» ih.«data»);
              undo =
                  confined_more (λ (e : ℕ). entry_of w p r e ⊎ Entries e) (EntryOfOne w r (suc n) p) entries
                  (confined_trans mu (entry_of w p r) Entries apart (one r p here).undo ih.undo);
            })
