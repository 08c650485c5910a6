-- The sweep of one row, byte by byte ("01, Writes, withdrawal, sweep"): whatever it writes changes. A slot that is emptied was occupied, an
-- entry that is freed was in use, and a pointer that becomes 0 led to the next version. Where nothing goes, nothing is written. Assumes
-- nothing.
use mathlib.Core.Path.{◌≡◌, refl, sym, ap, subst, ◌∙◌}
use mathlib.Core.Logic.{◌⊎◌, inl, inr}
use mathlib.Core.Bool.{Bool, true, false, cond}
use mathlib.Core.List.{List, [], ◌∷◌}
use Prim.Native.Nat.{ℕ, ◌*◌, ◌<◌}
use native.Mathlib.Omega.{arith}
use lib.ListN.{length, replicate}
use lib.Seq.{sets}
use lib.Dec.{eqb}
use borrow.Author.Tests.{eqb-true, eqb-false}
use Rattle.little.specs.Little.{Bytes}
use Rattle.kind.specs.Kind.{entries, data_kind, undo_kind}
use Rattle.kind.specs.Areas.{Both, both}
use Rattle.records.specs.declared.slot.Slot.{Slot}
use Rattle.records.specs.declared.entry.Entry.{Entry}
use Rattle.records.specs.Slot.{slot_at, slot_bytes, unlinked}
use Rattle.records.specs.Entry.{entry_bytes}
use Rattle.records.proofs.Slots.{slot_at_same}
use Rattle.records.proofs.Entries.{entry_at_same}
use Rattle.records.proofs.Fits.{slot_at_fit}
use Rattle.chain.specs.declared.Place.{Place}
use Rattle.chain.specs.declared.Place.TheVariants.{Data}
use Rattle.chain.specs.declared.Link.TheVariants.{End, To}
use Rattle.chain.specs.Chain.{Version, Chain, chain_from, chain_of, link_of}
use Rattle.chain.proofs.Links.{link_zero}
use Rattle.chain.proofs.Rows.{chain_of_empty, chain_of_used}
use Rattle.page.specs.Count.{counted}
use Rattle.freeing.specs.Freeing.{swept_slot, swept_entry, cut_slot, cut_copy}
use Rattle.freeing.proofs.Freeings.{create_swept_slot, writer_swept_entry, slot_at_cut_slot, entry_at_cut_copy}
use Rattle.strands.specs.Strands.{Keeps, RowIn, entry_in, Step, Strand}
use Rattle.strands.proofs.Strands.{swept_entry_frees}
use Rattle.strands.proofs.Runs.{step_place, step_inside, step_slot, strand_freed, keeps_first, chain_strand}
use Rattle.trimming.specs.Trimming.{dead_in, swept_at, swept_all, cut_at, swept_behind, swept_versions, swept_row, gone_behind}
use Rattle.trimming.proofs.Trims.{unlinked_fit, step_fit, swept_all_keeps, shaped_swept_all, behind_data}
use Rattle.traces.specs.Traces.{Counted, SweptBytes, HoldsOne}
use Rattle.freeing.proofs.Clearings.{swept_slot_zeros, swept_entry_zeros, cut_slot_zeros, cut_copy_zeros}
use Rattle.traces.proofs.Pages.{Marks, undo_held, counting}
use Rattle.traces.proofs.Records.{swept_slot_counts, cut_slot_counts, swept_entry_counts, cut_copy_counts}
use Rattle.traces.proofs.Confined.{Confined, confined_refl, confined_one, confined_more, confined_trans}
use Rattle.traces.proofs.Holds.{step_used, holds_first, holds_either, holds_apart}
use Rattle.traces.proofs.Rows.{Treads}

abbrev Slots : (ℕ → Type 0) → List ℕ → List ℕ → Type 0
Slots = Confined data_kind (Counted data_kind) (SweptBytes 64 16)

abbrev Entries : (ℕ → Type 0) → List ℕ → List ℕ → Type 0
Entries = Confined undo_kind (Counted undo_kind) (SweptBytes 80 32)

counts : Marks undo_kind (Counted undo_kind) (counted undo_kind)
counts = counting undo_kind undo_held

-- ---- a version that has a next one

-- leads to it by a pointer that is not 0
step_pointer : {u : List ℕ} {r : ℕ} {ps : List ℕ} {ptr : ℕ} {x : Version} → Step u r ps ptr x → ptr ≡ 0 → ⊥
step_pointer {u} {r} {ps} {ptr} {x} s e = never (sym (link_zero u r) ∙ ap (link_of u r) (sym e) ∙ s.to)
  where
    never : End ≡ To (entry_in x) s.entry → ⊥
    never z = let q : ◌≡◌ {A = ℕ} 0 1 = cc in omega arith

-- ---- the versions that go

module _ (r : ℕ) (w : Bool) where
  freed_treads : {u : List ℕ} {ps : List ℕ} {ptr : ℕ} {x : Version} → Step u r ps ptr x
      → Entries (λ (e : ℕ). e ≡ entry_in x) u (swept_entry (entry_in x) u)
  freed_treads {u} {ps} {ptr} {x} s =
      confined_one (λ (e : ℕ). e ≡ entry_in x) (swept_entry_counts (entry_in x) u (step_inside s))
      (λ same.
      step_used s
      (sym (ap (λ (m : Entry). m.writer) (entry_at_same u (swept_entry (entry_in x) u) (entry_in x) same)) ∙ writer_swept_entry (entry_in x) u (step_inside s)))
      refl
      (inl (swept_entry_zeros (entry_in x) u (step_inside s)))

  all_treads : (xs : List Version) (u ps : List ℕ) (ptr : ℕ) → Strand u r w ps ptr xs → Entries (λ (e : ℕ). HoldsOne e xs) u (swept_all xs u)
  unfolding swept_all
  all_treads [] u ps ptr s = confined_refl (λ (e : ℕ). ⊥) u
  all_treads (x ∷ xs) u ps ptr s =
      subst (λ (p : Place). Entries (λ (e : ℕ). HoldsOne e (x ∷ xs)) u (swept_all xs (swept_at p u))) (sym (step_place s.0))
      (confined_more (λ (e : ℕ). (e ≡ entry_in x) ⊎ HoldsOne e xs) (λ (e : ℕ). HoldsOne e (x ∷ xs)) (holds_either s.0 xs)
      (confined_trans counts (λ (e : ℕ). e ≡ entry_in x) (λ (e : ℕ). HoldsOne e xs)
      (λ e. holds_apart s.0 xs e (swept_entry (entry_in x) u) w left)
      (freed_treads s.0)
      (all_treads xs (swept_entry (entry_in x) u) (entry_in x ∷ ps) x.slot.undo_ptr left)))
    where
      left : Strand (swept_entry (entry_in x) u) r w (entry_in x ∷ ps) x.slot.undo_ptr xs
      left =
          strand_freed (entry_in x) u (swept_entry (entry_in x) u) (swept_entry_frees (entry_in x) u (step_inside s.0)) r w xs ps x.slot.undo_ptr s.1

-- ---- behind a copy x that stays

module _ (m : ℕ) (st : List ℕ) (r : ℕ) (d u : List ℕ) (b : Bytes u) where
  behind_treads : (w : Bool) (xs : List Version) (x : Version) (ps : List ℕ) (ptr : ℕ) → Strand u r w ps ptr (x ∷ xs)
      → Entries (λ (e : ℕ). HoldsOne e (x ∷ xs)) u (swept_behind m st x xs (both d u)).undo
  unfolding swept_behind
  behind_treads w [] x ps ptr s = confined_refl (λ (e : ℕ). HoldsOne e (x ∷ [])) u
  behind_treads w (y ∷ ys) x ps ptr s =
      by (dead_in m st y.slot) (behind_treads w ys y (entry_in x ∷ ps) x.slot.undo_ptr s.1)
    where
      gone : List ℕ
      gone = swept_all (y ∷ ys) u

      all : Keeps r (entry_in x ∷ ps) u (swept_all (y ∷ ys) u)
      all = swept_all_keeps r w (y ∷ ys) u (entry_in x ∷ ps) x.slot.undo_ptr s.1

      here : entry_in x < entries (swept_all (y ∷ ys) u)
      here = subst (λ (n : ℕ). entry_in x < n * 101) (sym all.of_row.size) (step_inside s.0)

      -- the pointer that becomes 0 led to y
      differs : entry_bytes (entry_in x) (cut_copy (entry_in x) (unlinked x.slot) (swept_all (y ∷ ys) u)) ≡ entry_bytes (entry_in x) (swept_all (y ∷ ys) u) → ⊥
      differs same =
          step_pointer s.1.0
          (ap (λ (q : Slot). q.undo_ptr) (step_slot s.0)
          ∙ ap (λ (q : Entry). q.copy.undo_ptr)
          (sym (keeps_first r (entry_in x) ps u gone all)
          ∙ sym (entry_at_same gone (cut_copy (entry_in x) (unlinked x.slot) gone) (entry_in x) same)
          ∙ entry_at_cut_copy (entry_in x) (unlinked x.slot) gone here (step_fit s.0 b)))

      -- and nothing else of the entry changes
      zeros : entry_bytes (entry_in x) (cut_copy (entry_in x) (unlinked x.slot) (swept_all (y ∷ ys) u)) ≡ sets (entry_bytes (entry_in x) (swept_all (y ∷ ys) u)) 32 (replicate 8 0)
      zeros =
          ap (λ (q : Slot). entry_bytes (entry_in x) (cut_copy (entry_in x) (unlinked q) gone))
          (step_slot s.0 ∙ ap (λ (q : Entry). q.copy) (sym (keeps_first r (entry_in x) ps u gone all)))
          ∙ cut_copy_zeros (entry_in x) gone here ((shaped_swept_all (y ∷ ys) u).bytes b)

      cut : Entries (λ (e : ℕ). e ≡ entry_in x) (swept_all (y ∷ ys) u) (cut_copy (entry_in x) (unlinked x.slot) (swept_all (y ∷ ys) u))
      cut =
          confined_one (λ (e : ℕ). e ≡ entry_in x) (cut_copy_counts (entry_in x) gone here (unlinked x.slot)) differs refl (inr zeros)

      more : (e : ℕ) → HoldsOne e (y ∷ ys) ⊎ (e ≡ entry_in x) → HoldsOne e (x ∷ y ∷ ys)
      more e (inl h) = inr h
      more e (inr same) = holds_first s.0 (y ∷ ys) e same

      by : (t : Bool) → Entries (λ (e : ℕ). HoldsOne e (y ∷ ys)) u (swept_behind m st y ys (both d u)).undo
          → Entries (λ (e : ℕ). HoldsOne e (x ∷ y ∷ ys)) u
          (cond t (cut_at x.place x.slot (both d (swept_all (y ∷ ys) u))) (swept_behind m st y ys (both d u))).undo
      by true ih =
          subst (λ (p : Place). Entries (λ (e : ℕ). HoldsOne e (x ∷ y ∷ ys)) u (cut_at p x.slot (both d (swept_all (y ∷ ys) u))).undo)
          (sym (step_place s.0))
          (confined_more (λ (e : ℕ). HoldsOne e (y ∷ ys) ⊎ (e ≡ entry_in x)) (λ (e : ℕ). HoldsOne e (x ∷ y ∷ ys)) more
          (confined_trans counts (λ (e : ℕ). HoldsOne e (y ∷ ys)) (λ (e : ℕ). e ≡ entry_in x)
          (λ e k same. holds_apart s.0 (y ∷ ys) e u w s.1 same k)
          (all_treads r w (y ∷ ys) u (entry_in x ∷ ps) x.slot.undo_ptr s.1)
          cut))
      by false ih = confined_more (λ (e : ℕ). HoldsOne e (y ∷ ys)) (λ (e : ℕ). HoldsOne e (x ∷ y ∷ ys)) (λ e h. inr h) ih

-- ---- the row

-- where nothing goes, nothing is written
module _ (m : ℕ) (st : List ℕ) (p : Both) where
  behind_none : (xs : List Version) (x : Version) → gone_behind m st xs ≡ 0 → swept_behind m st x xs p ≡ p
  unfolding gone_behind swept_behind
  behind_none [] x h = refl
  behind_none (y ∷ ys) x h = by (dead_in m st y.slot) h (behind_none ys y)
    where
      by : (t : Bool) → cond t (length (y ∷ ys)) (gone_behind m st ys) ≡ 0 → (gone_behind m st ys ≡ 0 → swept_behind m st y ys p ≡ p)
          → cond t (cut_at x.place x.slot (both p.«data» (swept_all (y ∷ ys) p.undo))) (swept_behind m st y ys p) ≡ p
      by true z ih = absurd (omega arith)
      by false z ih = ih z

  versions_none : (r : ℕ) (xs : List Version) → gone_behind m st xs ≡ 0 → swept_versions m st r xs p ≡ p
  unfolding gone_behind swept_versions
  versions_none r [] h = refl
  versions_none r (x ∷ xs) h = by (dead_in m st x.slot) h
    where
      by : (t : Bool) → cond t (length (x ∷ xs)) (gone_behind m st xs) ≡ 0
          → cond t (both (swept_slot r p.«data») (swept_all xs p.undo)) (swept_behind m st x xs p) ≡ p
      by true z = absurd (omega arith)
      by false z = behind_none xs x z

-- something goes from a row
abbrev pub Goes : ℕ → List ℕ → Slot → List Version → Type 0
Goes m st x xs = gone_behind m st xs ≡ 0 → ⊥

module _ (m : ℕ) (st : List ℕ) (r : ℕ) (d u : List ℕ) (h : RowIn r d u) where
  abbrev first : Version
  first = record { place = Data r; slot = slot_at r d }

  abbrev behind : Chain
  behind = chain_from u r (entries u) [] (slot_at r d).undo_ptr

  -- the two areas, where versions xs are swept
  abbrev Kept : List Version → Both → Type 0
  Kept xs q = Slots (λ (t : ℕ). t ≡ r) d q.«data» × Entries (λ (e : ℕ). HoldsOne e xs) u q.undo

  row_behind : (w : Bool) (xs : List Version) → Strand u r w [] (slot_at r d).undo_ptr xs → Kept xs (swept_behind m st first xs (both d u))
  unfolding swept_behind
  row_behind w [] s = (confined_refl (λ (t : ℕ). t ≡ r) d, confined_refl (λ (e : ℕ). ⊥) u)
  row_behind w (y ∷ ys) s = by (dead_in m st y.slot)
    where
      -- the pointer that becomes 0 led to y
      differs : slot_bytes r (cut_slot r (unlinked (slot_at r d)) d) ≡ slot_bytes r d → ⊥
      differs same =
          step_pointer s.0
          (ap (λ (q : Slot). q.undo_ptr)
          (sym (slot_at_same d (cut_slot r (unlinked (slot_at r d)) d) r same)
          ∙ slot_at_cut_slot r (unlinked (slot_at r d)) d h.row (unlinked_fit (slot_at r d) (slot_at_fit r d h.«data» h.row))))

      same : (swept_behind m st y ys (both d u)).«data» ≡ d
      same = behind_data m st r d u h.undo w ys y [] (slot_at r d).undo_ptr s

      by : (t : Bool) → Kept (y ∷ ys) (cond t (both (cut_slot r (unlinked (slot_at r d)) d) (swept_all (y ∷ ys) u)) (swept_behind m st y ys (both d u)))
      by true = (
        confined_one (λ (t : ℕ). t ≡ r) (cut_slot_counts r d h.row (unlinked (slot_at r d))) differs refl
            (inr (cut_slot_zeros r d h.row h.«data»)),
        all_treads r w (y ∷ ys) u [] (slot_at r d).undo_ptr s,
      )
      by false = (
        subst (Slots (λ (t : ℕ). t ≡ r) d) (sym same) (confined_refl (λ (t : ℕ). t ≡ r) d),
        behind_treads m st r d u h.undo w ys y [] (slot_at r d).undo_ptr s,
      )

  row_versions : Kept (chain_of d u r).versions (swept_versions m st r (chain_of d u r).versions (both d u))
  unfolding swept_versions
  row_versions = used (eqb (slot_at r d).create 0) refl
    where
      strand : Strand u r behind.whole [] (slot_at r d).undo_ptr behind.versions
      strand = chain_strand u r (entries u) [] (slot_at r d).undo_ptr

      wide : {q : List ℕ} → Entries (λ (e : ℕ). HoldsOne e behind.versions) u q → Entries (λ (e : ℕ). HoldsOne e (first ∷ behind.versions)) u q
      wide = confined_more (λ (e : ℕ). HoldsOne e behind.versions) (λ (e : ℕ). HoldsOne e (first ∷ behind.versions)) (λ e k. inr k)

      by : (t : Bool) → ((slot_at r d).create ≡ 0 → ⊥)
          → Kept (first ∷ behind.versions)
          (cond t (both (swept_slot r d) (swept_all behind.versions u)) (swept_behind m st first behind.versions (both d u)))
      by true some = (
        confined_one (λ (t : ℕ). t ≡ r) (swept_slot_counts r d h.row)
            (λ same. some (sym (ap (λ (q : Slot). q.create) (slot_at_same d (swept_slot r d) r same)) ∙ create_swept_slot r d h.row))
            refl
            (inl (swept_slot_zeros r d h.row)),
        wide (all_treads r behind.whole behind.versions u [] (slot_at r d).undo_ptr strand),
      )
      by false some =
          let q = row_behind behind.whole behind.versions strand in (q.0, wide q.1)

      used : (t : Bool) → eqb (slot_at r d).create 0 ≡ t → Kept (chain_of d u r).versions (swept_versions m st r (chain_of d u r).versions (both d u))
      used true z =
          subst (λ (c : Chain). Kept c.versions (swept_versions m st r c.versions (both d u)))
          (sym (chain_of_empty d u r (eqb-true (slot_at r d).create 0 z)))
          (confined_refl (λ (t : ℕ). t ≡ r) d, confined_refl (λ (e : ℕ). ⊥) u)
      used false z =
          subst (λ (c : Chain). Kept c.versions (swept_versions m st r c.versions (both d u)))
          (sym (chain_of_used d u r (eqb-false (slot_at r d).create 0 z)))
          (by (dead_in m st (slot_at r d)) (eqb-false (slot_at r d).create 0 z))

  pub swept_row_treads : Treads (Counted data_kind) (Counted undo_kind) (SweptBytes 64 16) (SweptBytes 80 32) (Goes m st) (Goes m st) r (both d u) (swept_row m st r (both d u))
  unfolding swept_row
  swept_row_treads = by (eqb (gone_behind m st (chain_of d u r).versions) 0) refl
    where
      xs : List Version
      xs = (chain_of d u r).versions

      by : (t : Bool) → eqb (gone_behind m st (chain_of d u r).versions) 0 ≡ t
          → Treads (Counted data_kind) (Counted undo_kind) (SweptBytes 64 16) (SweptBytes 80 32) (Goes m st) (Goes m st) r (both d u) (swept_versions m st r (chain_of d u r).versions (both d u))
      by true z =
          subst (Treads (Counted data_kind) (Counted undo_kind) (SweptBytes 64 16) (SweptBytes 80 32) (Goes m st) (Goes m st) r (both d u))
          (sym (versions_none m st (both d u) r xs (eqb-true (gone_behind m st xs) 0 z)))
          (record {
            «data» = confined_refl (λ (t : ℕ). (t ≡ r) × Goes m st (slot_at r d) (chain_of d u r).versions) d;
            undo = confined_refl (λ (e : ℕ). Goes m st (slot_at r d) (chain_of d u r).versions × HoldsOne e (chain_of d u r).versions) u;
          })
      by false z =
          let some : gone_behind m st (chain_of d u r).versions ≡ 0 → ⊥ = eqb-false (gone_behind m st xs) 0 z in
          record {
            «data» =
                confined_more (λ (t : ℕ). t ≡ r) (λ (t : ℕ). (t ≡ r) × Goes m st (slot_at r d) (chain_of d u r).versions) (λ t e. (e, some)) row_versions.0;
            undo =
                confined_more (λ (e : ℕ). HoldsOne e (chain_of d u r).versions)
                (λ (e : ℕ). Goes m st (slot_at r d) (chain_of d u r).versions × HoldsOne e (chain_of d u r).versions)
                (λ e k. (some, k))
                row_versions.1;
          }
