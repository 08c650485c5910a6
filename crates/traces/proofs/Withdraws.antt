-- Withdrawing from one row, byte by byte ("01, Writes, withdrawal, sweep"): whatever it writes changes. A slot that is emptied or put back
-- was made by S and then is not, an expirer that is cleared was S, and an entry that is freed was in use. Assumes nothing.
use mathlib.Core.Path.{◌≡◌, refl, sym, ap, subst, ◌∙◌}
use mathlib.Core.Logic.{◌⊎◌, inl, inr}
use mathlib.Core.Bool.{Bool, true, false, not, cond, true≢false}
use mathlib.Core.List.{List, [], ◌∷◌}
use Prim.Native.Nat.{ℕ, ◌^◌, ◌<◌}
use native.Mathlib.Omega.{arith}
use lib.Dec.{eqb, leb}
use borrow.Author.Tests.{eqb-true, eqb-false, not-true}
use Rattle.ground.proofs.Ranges.{and_true_left, and_true_right}
use Rattle.little.specs.Little.{Bytes}
use Rattle.kind.specs.Kind.{rows, entries, data_kind, undo_kind}
use Rattle.kind.specs.Areas.{Both, both}
use Rattle.records.specs.declared.slot.Slot.{Slot}
use Rattle.records.specs.declared.entry.Entry.{Entry}
use Rattle.records.specs.Slot.{slot_of, slot_at, slot_bytes}
use Rattle.records.specs.Entry.{copy_body_at}
use Rattle.records.proofs.Slots.{SlotFit, slot_at_same}
use Rattle.records.proofs.Entries.{entry_at_same}
use Rattle.records.proofs.Bodies.{length_copy_body_at, copy_body_at_short}
use Rattle.records.proofs.Fits.{slot_at_fit, copy_fit}
use Rattle.page.specs.Count.{touched}
use Rattle.chain.specs.declared.Place.{Place}
use Rattle.chain.specs.Chain.{Version, Chain, chain_from, chain_of}
use Rattle.chain.proofs.Rows.{chain_of_used}
use Rattle.touching.specs.Touching.{with_slot, with_meta}
use Rattle.touching.proofs.Touchings.{slot_at_with_slot, slot_at_with_meta}
use Rattle.freeing.specs.Freeing.{without_slot, without_entry}
use Rattle.freeing.proofs.Freeings.{create_without_slot, writer_without_entry, bytes_without_entry}
use Rattle.strands.specs.Strands.{RowIn, entry_in, Step, Strand}
use Rattle.strands.proofs.Strands.{without_entry_frees}
use Rattle.strands.proofs.Runs.{step_place, step_inside, step_slot, step_some, strand_freed, chain_strand}
use Rattle.putback.specs.PutBack.{own, own_made, unexpired, freed_at, copy_body, taken_back, undone_row}
use Rattle.outcomes.proofs.Undones.{unexpired_fit, own_ended, undone_row_none, made_some, undone_row_made}
use Rattle.traces.specs.Traces.{Touched, Zeros, HoldsOne}
use Rattle.freeing.proofs.Clearings.{without_slot_zeros, without_entry_zeros}
use Rattle.traces.proofs.Pages.{Marks, undo_held, touching}
use Rattle.traces.proofs.Records.{with_slot_touches, with_meta_touches, without_slot_touches, without_entry_touches}
use Rattle.traces.proofs.Confined.{Confined, confined_refl, confined_one, confined_more, confined_trans}
use Rattle.traces.proofs.Holds.{step_used, holds_first, holds_either, holds_apart}
use Rattle.traces.proofs.Rows.{Treads}

-- S in statement k or later is S
own_is : (n k x c : ℕ) → own n k x c ≡ true → x ≡ n
unfolding own
own_is n k x c h = eqb-true x n (and_true_left (eqb x n) (leb k c) h)

-- what the bytes of a slot say
create_slot_bytes : (r : ℕ) (d : List ℕ) → (slot_at r d).create ≡ (slot_of (slot_bytes r d)).create
unfolding slot_at
create_slot_bytes r d = refl

-- an entry is freed; a slot is emptied, or what then stands in it is a version
abbrev pub FreedEntry : List ℕ → List ℕ → Type 0
FreedEntry x y = Zeros 80 y

abbrev pub TakenSlot : List ℕ → List ℕ → Type 0
TakenSlot x y = Zeros 64 y ⊎ ((slot_of y).create ≡ 0 → ⊥)

-- ---- session n, in statement k or later, from row r

module _ (n k r : ℕ) (fits : n < 2 ^ 64) where
  abbrev Slots : (ℕ → Type 0) → List ℕ → List ℕ → Type 0
  Slots = Confined data_kind (Touched data_kind n) TakenSlot

  abbrev Entries : (ℕ → Type 0) → List ℕ → List ℕ → Type 0
  Entries = Confined undo_kind (Touched undo_kind n) FreedEntry

  touches : Marks undo_kind (Touched undo_kind n) (λ (p : ℕ) (s : List ℕ). touched undo_kind p n s)
  touches = touching undo_kind undo_held n fits

  freed_treads : {u : List ℕ} {ps : List ℕ} {ptr : ℕ} {x : Version} → Step u r ps ptr x
      → Entries (λ (e : ℕ). e ≡ entry_in x) u (without_entry n (entry_in x) u)
  freed_treads {u} {ps} {ptr} {x} s =
      confined_one (λ (e : ℕ). e ≡ entry_in x) (without_entry_touches n fits (entry_in x) u (step_inside s))
      (λ same.
      step_used s
      (sym (ap (λ (m : Entry). m.writer) (entry_at_same u (without_entry n (entry_in x) u) (entry_in x) same)) ∙ writer_without_entry (entry_in x) u (step_inside s) n))
      refl
      (without_entry_zeros (entry_in x) u (step_inside s) n)

  -- behind a slot that S made
  module _ (number : 0 < n) (d : List ℕ) (row : r < rows d) (made : own_made n k (slot_at r d) ≡ true) where
    abbrev Kept : List Version → List ℕ → Both → Type 0
    Kept xs u q = Slots (λ (t : ℕ). t ≡ r) d q.«data» × Entries (λ (e : ℕ). HoldsOne e xs) u q.undo

    taken_treads : (w : Bool) (xs : List Version) (u ps : List ℕ) (ptr : ℕ) → Bytes u → Strand u r w ps ptr xs
        → Kept xs u (taken_back n k r xs (both d u))
    unfolding taken_back
    taken_treads w [] u ps ptr b s = (
      confined_one (λ (t : ℕ). t ≡ r) (without_slot_touches n fits r d row)
          (λ same.
          omega (
            arith,
            own_is n k (slot_at r d).create (slot_at r d).cmd made,
            sym (ap (λ (m : Slot). m.create) (slot_at_same d (without_slot n r d) r same)) ∙ create_without_slot r d row n,
          ))
          refl
          (inl (without_slot_zeros r d row n)),
      confined_refl (λ (e : ℕ). ⊥) u,
    )
    taken_treads w (x ∷ xs) u ps ptr b s =
        subst
        (λ (p : Place).
        Kept (x ∷ xs) u
        (cond (own_made n k x.slot) (taken_back n k r xs (both d (freed_at n p u)))
        (both (with_slot n r (unexpired x.slot) (copy_body p u) d) (freed_at n p u))))
        (sym (step_place s.0))
        (by (own_made n k x.slot) refl
        (taken_treads w xs (without_entry n (entry_in x) u) (entry_in x ∷ ps) x.slot.undo_ptr (bytes_without_entry (entry_in x) u b n) left))
      where
        left : Strand (without_entry n (entry_in x) u) r w (entry_in x ∷ ps) x.slot.undo_ptr xs
        left =
            strand_freed (entry_in x) u (without_entry n (entry_in x) u) (without_entry_frees n (entry_in x) u (step_inside s.0)) r w xs ps x.slot.undo_ptr s.1

        fit : SlotFit (unexpired x.slot)
        fit = unexpired_fit x.slot (subst SlotFit (sym (step_slot s.0)) (copy_fit (entry_in x) u b (step_inside s.0)))

        new : List ℕ
        new = with_slot n r (unexpired x.slot) (copy_body_at (entry_in x) u) d

        is : slot_at r (with_slot n r (unexpired x.slot) (copy_body_at (entry_in x) u) d) ≡ unexpired x.slot
        is = slot_at_with_slot n r (unexpired x.slot) (copy_body_at (entry_in x) u) d (length_copy_body_at (entry_in x) u (step_inside s.0)) row fit

        -- S made what stood there, and not what is put back
        differs : own_made n k x.slot ≡ false → slot_bytes r (with_slot n r (unexpired x.slot) (copy_body_at (entry_in x) u) d) ≡ slot_bytes r d → ⊥
        differs other same =
            true≢false (sym made ∙ ap (own_made n k) (sym (slot_at_same d new r same) ∙ is) ∙ other)

        -- "or one whose copy has create 0" would have broken the chain
        stands : (slot_of (slot_bytes r (with_slot n r (unexpired x.slot) (copy_body_at (entry_in x) u) d))).create ≡ 0 → ⊥
        stands z = step_some s.0 (sym (ap (λ (m : Slot). m.create) is) ∙ create_slot_bytes r new ∙ z)

        by : (t : Bool) → own_made n k x.slot ≡ t → Kept xs (without_entry n (entry_in x) u) (taken_back n k r xs (both d (without_entry n (entry_in x) u)))
            → Kept (x ∷ xs) u
            (cond t (taken_back n k r xs (both d (without_entry n (entry_in x) u)))
            (both (with_slot n r (unexpired x.slot) (copy_body_at (entry_in x) u) d) (without_entry n (entry_in x) u)))
        by true own ih = (
          ih.0,
          confined_more (λ (e : ℕ). (e ≡ entry_in x) ⊎ HoldsOne e xs) (λ (e : ℕ). HoldsOne e (x ∷ xs)) (holds_either s.0 xs)
              (confined_trans touches (λ (e : ℕ). e ≡ entry_in x) (λ (e : ℕ). HoldsOne e xs)
              (λ e. holds_apart s.0 xs e (without_entry n (entry_in x) u) w left)
              (freed_treads s.0)
              ih.1),
        )
        by false other ih = (
          confined_one (λ (t : ℕ). t ≡ r)
              (with_slot_touches n fits r d row (unexpired x.slot) (copy_body_at (entry_in x) u) (copy_body_at_short (entry_in x) u))
              (differs other)
              refl
              (inr stands),
          confined_more (λ (e : ℕ). e ≡ entry_in x) (λ (e : ℕ). HoldsOne e (x ∷ xs)) (holds_first s.0 xs) (freed_treads s.0),
        )

-- ---- the row

-- S made the version in the slot, or ended it
abbrev pub Made : ℕ → Slot → List Version → Type 0
Made n m xs = m.create ≡ n

abbrev pub Wrote : ℕ → Slot → List Version → Type 0
Wrote n m xs = (m.create ≡ n) ⊎ ((m.create ≡ 0 → ⊥) × (m.expire ≡ n))

module _ (n k : ℕ) (fits : n < 2 ^ 64) (number : 0 < n) (r : ℕ) (d u : List ℕ) (h : RowIn r d u) where
  abbrev behind : Chain
  behind = chain_from u r (entries u) [] (slot_at r d).undo_ptr

  abbrev Row : Both → Type 0
  Row q = Treads (Touched data_kind n) (Touched undo_kind n) TakenSlot FreedEntry (Wrote n) (Made n) r (both d u) q

  abbrev OwnSlot : ℕ → Type 0
  OwnSlot t = (t ≡ r) × Wrote n (slot_at r d) (chain_of d u r).versions

  abbrev OwnEntry : ℕ → Type 0
  OwnEntry e = Made n (slot_at r d) (chain_of d u r).versions × HoldsOne e (chain_of d u r).versions

  row_made : own_made n k (slot_at r d) ≡ true → Row (undone_row n k r (both d u))
  row_made made =
      let q = taken_treads n k r fits number d h.row made behind.whole behind.versions u [] (slot_at r d).undo_ptr h.undo (chain_strand u r (entries u) [] (slot_at r d).undo_ptr) in
      let own : (slot_at r d).create ≡ n = own_is n k (slot_at r d).create (slot_at r d).cmd made in
      subst Row (sym (undone_row_made n k r d u h number made))
      (record {
        «data» = confined_more (λ (t : ℕ). t ≡ r) OwnSlot (λ t e. (e, inl own)) q.0;
        undo =
            confined_more (λ (e : ℕ). HoldsOne e behind.versions) OwnEntry
            (λ e k'. (
              own,
              subst (λ (c : Chain). HoldsOne e c.versions) (sym (chain_of_used d u r (made_some n k r d u h number made))) (inr k'),
            ))
            q.1;
      })

  row_ended : own_made n k (slot_at r d) ≡ false → own_ended n k r d u h ≡ true → Row (undone_row n k r (both d u))
  unfolding undone_row
  row_ended made ended =
      rw (made, ended)
      (record {
        «data» = confined_one OwnSlot (with_meta_touches n fits r d h.row (unexpired (slot_at r d))) differs (refl, inr (some, is))
            (inr (λ z. some (sym (ap (λ (m : Slot). m.create) new) ∙ create_slot_bytes r (with_meta n r (unexpired (slot_at r d)) d) ∙ z)));
        undo = confined_refl OwnEntry u;
      })
    where
      some : (slot_at r d).create ≡ 0 → ⊥
      some = eqb-false (slot_at r d).create 0 (not-true (eqb (slot_at r d).create 0) (and_true_left (not (eqb (slot_at r d).create 0)) (own n k (slot_at r d).expire (slot_at r d).expire_cmd) ended))

      is : (slot_at r d).expire ≡ n
      is = own_is n k (slot_at r d).expire (slot_at r d).expire_cmd (and_true_right (not (eqb (slot_at r d).create 0)) (own n k (slot_at r d).expire (slot_at r d).expire_cmd) ended)

      new : slot_at r (with_meta n r (unexpired (slot_at r d)) d) ≡ unexpired (slot_at r d)
      new = slot_at_with_meta n r (unexpired (slot_at r d)) d h.row (unexpired_fit (slot_at r d) (slot_at_fit r d h.«data» h.row))

      differs : slot_bytes r (with_meta n r (unexpired (slot_at r d)) d) ≡ slot_bytes r d → ⊥
      differs same =
          omega (arith, is, ap (λ (m : Slot). m.expire) (sym (slot_at_same d (with_meta n r (unexpired (slot_at r d)) d) r same) ∙ new))

  pub undone_row_treads : Treads (Touched data_kind n) (Touched undo_kind n) TakenSlot FreedEntry (Wrote n) (Made n) r (both d u) (undone_row n k r (both d u))
  undone_row_treads = by (own_made n k (slot_at r d)) (own_ended n k r d u h) refl refl
    where
      by : (a c : Bool) → own_made n k (slot_at r d) ≡ a → own_ended n k r d u h ≡ c → Row (undone_row n k r (both d u))
      by true c made ended = row_made made
      by false true made ended = row_ended made ended
      by false false made ended =
          subst Row (sym (undone_row_none n k r d u h made ended)) (record { «data» = confined_refl OwnSlot d; undo = confined_refl OwnEntry u })
