-- What the sweep of one row does to chains ("01, Writes, withdrawal, sweep"): in front of the first version that goes the chain is as it
-- was, and ends there; every other chain is as it was. Assumes nothing.
use mathlib.Core.Path.{◌≡◌, refl, sym, ap, subst, ◌∙◌}
use mathlib.Core.Bool.{Bool, true, false, cond}
use mathlib.Core.List.{List, [], ◌∷◌}
use Prim.Native.Nat.{ℕ, suc, ◌+◌, ◌*◌, ◌≤◌, ◌<◌}
use native.Mathlib.Omega.{arith}
use lib.ListN.{length}
use lib.Dec.{eqb}
use borrow.Author.Tests.{eqb-true, eqb-false}
use Rattle.little.specs.Little.{Bytes}
use Rattle.kind.specs.Kind.{pages, entries}
use Rattle.kind.specs.Areas.{Both, both}
use Rattle.records.specs.declared.slot.Slot.{Slot}
use Rattle.records.specs.declared.entry.Entry.{Entry}
use Rattle.records.specs.Slot.{slot_at, body_at, unlinked}
use Rattle.records.proofs.Slots.{SlotFit}
use Rattle.records.proofs.Fits.{fit_slot, slot_at_fit, copy_fit}
use Rattle.chain.specs.declared.Place.{Place}
use Rattle.chain.specs.declared.Place.TheVariants.{Nowhere, Data, Undo}
use Rattle.chain.specs.declared.Link.TheVariants.{End}
use Rattle.chain.specs.Chain.{Version, Chain, ended, onto, chain_from, chain_of, link_of}
use Rattle.chain.proofs.Links.{link_zero, link_none}
use Rattle.chain.proofs.Rows.{chain_of_empty, chain_of_used}
use Rattle.page.proofs.Stored.{slot_at_stored_other, body_at_stored_other}
use Rattle.freeing.specs.Freeing.{swept_slot, swept_entry, cut_slot, cut_copy}
use Rattle.freeing.proofs.Freeings.{swept_slot_is, create_swept_slot, cut_slot_is, slot_at_cut_slot, body_at_cut_slot, entry_at_cut_copy}
use Rattle.strands.specs.Strands.{Frees, Keeps, Shaped, Treated, RowIn, entry_in, Step, Strand, front, having, on_last}
use Rattle.strands.proofs.Strands.{swept_entry_frees}
use Rattle.strands.proofs.Apart.{chain_of_treated}
use Rattle.strands.proofs.Rows.{treated_refl}
use Rattle.strands.proofs.Shapes.{shaped_refl, shaped_trans, shaped_swept_slot, shaped_cut_slot, shaped_swept_entry, shaped_cut_copy}
use Rattle.strands.proofs.Runs.{step_place, step_inside, step_slot, step_kept, step_cut, strand_freed, keeps_refl, keeps_fewer, keeps_first, keeps_freed, keeps_cut, chain_strand, chain_few, chain_of_strand}
use Rattle.trimming.specs.Trimming.{dead_in, swept_at, swept_all, cut_at, swept_behind, swept_versions, swept_row, gone_behind, gone_row}

-- ---- a version that stays

pub unlinked_fit : (x : Slot) → SlotFit x → SlotFit (unlinked x)
unlinked_fit x f = fit_slot (unlinked x) f.0 f.1.0 (omega arith) f.1.1.1.0 f.1.1.1.1.0

-- a slot that ends its chain has no pointer to lose
unlinked_same : (u : List ℕ) (r : ℕ) (x : Slot) → link_of u r x.undo_ptr ≡ End → unlinked x ≡ x
unlinked_same u r x h =
    ap (λ (p : ℕ). record { create = x.create; expire = x.expire; undo_ptr = p; cmd = x.cmd; expire_cmd = x.expire_cmd })
    (sym (link_none u r x.undo_ptr h))

pub step_fit : {u : List ℕ} {r : ℕ} {ps : List ℕ} {ptr : ℕ} {x : Version} → Step u r ps ptr x → Bytes u → SlotFit (unlinked x.slot)
step_fit {u} {r} {ps} {ptr} {x} s b =
    unlinked_fit x.slot (subst SlotFit (sym (step_slot s)) (copy_fit (entry_in x) u b (step_inside s)))

-- ---- the versions that go

module _ (r : ℕ) (w : Bool) where
  pub swept_all_keeps : (xs : List Version) (u ps : List ℕ) (ptr : ℕ) → Strand u r w ps ptr xs → Keeps r ps u (swept_all xs u)
  unfolding swept_all
  swept_all_keeps [] u ps ptr s = keeps_refl r ps u
  swept_all_keeps (x ∷ xs) u ps ptr s =
      let e : ℕ = entry_in x in
      let u₁ : List ℕ = swept_entry e u in
      let f : Frees e u u₁ = swept_entry_frees e u (step_inside s.0) in
      subst (λ (p : Place). Keeps r ps u (swept_all xs (swept_at p u))) (sym (step_place s.0))
      (keeps_freed u₁ (swept_all xs u₁) s.0 f
      (swept_all_keeps xs u₁ (e ∷ ps) x.slot.undo_ptr (strand_freed e u u₁ f r w xs ps x.slot.undo_ptr s.1)))

-- ---- shapes

shaped_swept_at : (p : Place) (u : List ℕ) → Shaped u (swept_at p u)
shaped_swept_at (Undo e) u = shaped_swept_entry e u
shaped_swept_at (Data r) u = shaped_refl u
shaped_swept_at Nowhere u = shaped_refl u

pub shaped_swept_all : (xs : List Version) (u : List ℕ) → Shaped u (swept_all xs u)
unfolding swept_all
shaped_swept_all [] u = shaped_refl u
shaped_swept_all (x ∷ xs) u =
    let u₁ : List ℕ = swept_at x.place u in shaped_trans u u₁ (swept_all xs u₁) (shaped_swept_at x.place u) (shaped_swept_all xs u₁)

shaped_cut_at : (p : Place) (x : Slot) (q : Both) → Shaped q.undo (cut_at p x q).undo
shaped_cut_at (Data r) x q = shaped_refl q.undo
shaped_cut_at (Undo e) x q = shaped_cut_copy e q.undo (unlinked x)
shaped_cut_at Nowhere x q = shaped_refl q.undo

shaped_behind : (m : ℕ) (st : List ℕ) (xs : List Version) (x : Version) (q : Both) → Shaped q.undo (swept_behind m st x xs q).undo
unfolding swept_behind
shaped_behind m st [] x q = shaped_refl q.undo
shaped_behind m st (y ∷ ys) x q = by (dead_in m st y.slot) (shaped_behind m st ys y q)
  where
    gone : Both
    gone = both q.«data» (swept_all (y ∷ ys) q.undo)

    by : (t : Bool) → Shaped q.undo (swept_behind m st y ys q).undo
        → Shaped q.undo (cond t (cut_at x.place x.slot (both q.«data» (swept_all (y ∷ ys) q.undo))) (swept_behind m st y ys q)).undo
    by true ih =
        shaped_trans q.undo gone.undo (cut_at x.place x.slot gone).undo (shaped_swept_all (y ∷ ys) q.undo)
        (shaped_cut_at x.place x.slot gone)
    by false ih = ih

-- ---- behind a copy x that stays

module _ (m : ℕ) (st : List ℕ) (r : ℕ) (d u : List ℕ) (b : Bytes u) where
  -- the areas where the next version goes, and where it stays
  abbrev ends : Version → Version → List Version → Both
  ends x y ys = cut_at x.place x.slot (both d (swept_all (y ∷ ys) u))

  abbrev goes_on : Version → List Version → Both
  goes_on y ys = swept_behind m st y ys (both d u)

  -- the data area is as it was
  pub behind_data : (w : Bool) (xs : List Version) (x : Version) (ps : List ℕ) (ptr : ℕ) → Strand u r w ps ptr (x ∷ xs)
      → (swept_behind m st x xs (both d u)).«data» ≡ d
  unfolding swept_behind
  behind_data w [] x ps ptr s = refl
  behind_data w (y ∷ ys) x ps ptr s =
      by (dead_in m st y.slot) (behind_data w ys y (entry_in x ∷ ps) x.slot.undo_ptr s.1)
    where
      by : (t : Bool) → (goes_on y ys).«data» ≡ d → (cond t (ends x y ys) (goes_on y ys)).«data» ≡ d
      by true ih = ap (λ (p : Place). (cut_at p x.slot (both d (swept_all (y ∷ ys) u))).«data») (step_place s.0)
      by false ih = ih

  -- the undo area where the copy behind x goes
  cut_is : {ps : List ℕ} {ptr : ℕ} {x : Version} (y : Version) (ys : List Version) → Step u r ps ptr x
      → (ends x y ys).undo ≡ cut_copy (entry_in x) (unlinked x.slot) (swept_all (y ∷ ys) u)
  cut_is {ps} {ptr} {x} y ys s = ap (λ (p : Place). (cut_at p x.slot (both d (swept_all (y ∷ ys) u))).undo) (step_place s)

  behind_keeps : (w : Bool) (xs : List Version) (x : Version) (ps : List ℕ) (ptr : ℕ) → Strand u r w ps ptr (x ∷ xs)
      → Keeps r ps u (swept_behind m st x xs (both d u)).undo
  unfolding swept_behind
  behind_keeps w [] x ps ptr s = keeps_refl r ps u
  behind_keeps w (y ∷ ys) x ps ptr s =
      by (dead_in m st y.slot) (behind_keeps w ys y (entry_in x ∷ ps) x.slot.undo_ptr s.1)
    where
      all : Keeps r (entry_in x ∷ ps) u (swept_all (y ∷ ys) u)
      all = swept_all_keeps r w (y ∷ ys) u (entry_in x ∷ ps) x.slot.undo_ptr s.1

      by : (t : Bool) → Keeps r (entry_in x ∷ ps) u (goes_on y ys).undo → Keeps r ps u (cond t (ends x y ys) (goes_on y ys)).undo
      by true ih =
          subst (Keeps r ps u) (sym (cut_is y ys s.0))
          (keeps_cut (swept_all (y ∷ ys) u) (unlinked x.slot) s.0 (step_fit s.0 b) all)
      by false ih = keeps_fewer r (entry_in x) ps u (goes_on y ys).undo ih

  -- and the strand ends before the first version that goes
  behind_strand : (xs : List Version) (x : Version) (ps : List ℕ) (ptr : ℕ) → Strand u r true ps ptr (x ∷ xs)
      → Strand (swept_behind m st x xs (both d u)).undo r true ps ptr (on_last unlinked (x ∷ front (dead_in m st) xs))
  unfolding swept_behind on_last front
  behind_strand [] x ps ptr s =
      subst (λ (q : Slot). Strand u r true ps ptr (record { place = x.place; slot = q } ∷ []))
      (sym (unlinked_same u r x.slot (s.1 refl)))
      s
  behind_strand (y ∷ ys) x ps ptr s =
      by (dead_in m st y.slot) (behind_strand ys y (entry_in x ∷ ps) x.slot.undo_ptr s.1)
    where
      gone : List ℕ
      gone = swept_all (y ∷ ys) u

      cut : List ℕ
      cut = cut_copy (entry_in x) (unlinked x.slot) (swept_all (y ∷ ys) u)

      all : Keeps r (entry_in x ∷ ps) u (swept_all (y ∷ ys) u)
      all = swept_all_keeps r true (y ∷ ys) u (entry_in x ∷ ps) x.slot.undo_ptr s.1

      on : Keeps r (entry_in x ∷ ps) u (goes_on y ys).undo
      on = behind_keeps true ys y (entry_in x ∷ ps) x.slot.undo_ptr s.1

      by : (t : Bool) → Strand (goes_on y ys).undo r true (entry_in x ∷ ps) x.slot.undo_ptr (on_last unlinked (y ∷ front (dead_in m st) ys))
          → Strand (cond t (ends x y ys) (goes_on y ys)).undo r true ps ptr (on_last unlinked (x ∷ cond t [] (y ∷ front (dead_in m st) ys)))
      by true ih =
          let here : entry_in x < entries gone = subst (λ (n : ℕ). entry_in x < n * 101) (sym all.of_row.size) (step_inside s.0) in
          subst (λ (v : List ℕ). Strand v r true ps ptr (having unlinked x ∷ [])) (sym (cut_is y ys s.0)) (
            step_cut s.0 cut (unlinked x.slot)
                (keeps_cut gone (unlinked x.slot) s.0 (step_fit s.0 b) all).of_row.size
                refl
                (entry_at_cut_copy (entry_in x) (unlinked x.slot) gone here (step_fit s.0 b)
                ∙ ap (λ (q : Entry). record { writer = q.writer; row = q.row; copy = unlinked x.slot })
                (keeps_first r (entry_in x) ps u gone all)),
            λ h. link_zero cut r,
          )
      by false ih = (step_kept s.0 (goes_on y ys).undo on.of_row.size (keeps_first r (entry_in x) ps u (goes_on y ys).undo on), ih)

-- ---- how many versions stay

length_on_last : (f : Slot → Slot) (xs : List Version) → length (on_last f xs) ≡ length xs
unfolding on_last
length_on_last f [] = refl
length_on_last f (x ∷ []) = refl
length_on_last f (x ∷ y ∷ ys) = ap suc (length_on_last f (y ∷ ys))

-- its answer is the number of "versions removed": those held before are those and the ones that stay
front_gone : (m : ℕ) (st : List ℕ) (xs : List Version) → length xs ≡ gone_behind m st xs + length (front (dead_in m st) xs)
unfolding gone_behind front
front_gone m st [] = refl
front_gone m st (x ∷ xs) = by (dead_in m st x.slot) (front_gone m st xs)
  where
    by : (t : Bool) → length xs ≡ gone_behind m st xs + length (front (dead_in m st) xs)
        → length (x ∷ xs) ≡ cond t (length (x ∷ xs)) (gone_behind m st xs) + length (cond t [] (x ∷ front (dead_in m st) xs))
    by true ih = omega arith
    by false ih = omega arith

-- ---- the row

module _ (m : ℕ) (st : List ℕ) (r : ℕ) (d u : List ℕ) (h : RowIn r d u) where
  abbrev first : Version
  first = record { place = Data r; slot = slot_at r d }

  abbrev behind : Chain
  behind = chain_from u r (entries u) [] (slot_at r d).undo_ptr

  cut_fit : SlotFit (unlinked (slot_at r d))
  cut_fit = unlinked_fit (slot_at r d) (slot_at_fit r d h.«data» h.row)

  abbrev Kept : Both → Type 0
  Kept q = Treated r d u q.«data» q.undo

  behind_kept : (w : Bool) (xs : List Version) → Strand u r w [] (slot_at r d).undo_ptr xs → Kept (swept_behind m st first xs (both d u))
  unfolding swept_behind
  behind_kept w [] s = treated_refl r d u
  behind_kept w (y ∷ ys) s = by (dead_in m st y.slot)
    where
      all : Keeps r [] u (swept_all (y ∷ ys) u)
      all = swept_all_keeps r w (y ∷ ys) u [] (slot_at r d).undo_ptr s

      on : Keeps r [] u (swept_behind m st y ys (both d u)).undo
      on = behind_keeps m st r d u h.undo w ys y [] (slot_at r d).undo_ptr s

      same : (swept_behind m st y ys (both d u)).«data» ≡ d
      same = behind_data m st r d u h.undo w ys y [] (slot_at r d).undo_ptr s

      by : (t : Bool)
          → Kept (cond t (both (cut_slot r (unlinked (slot_at r d)) d) (swept_all (y ∷ ys) u)) (swept_behind m st y ys (both d u)))
      by true =
          record {
            of_row = all.of_row;
            copies = all.copies;
            slots = slot_at_stored_other (cut_slot_is r (unlinked (slot_at r d)) d);
            bodies = body_at_stored_other (cut_slot_is r (unlinked (slot_at r d)) d);
            «data» = shaped_cut_slot r d (unlinked (slot_at r d));
            undo = shaped_swept_all (y ∷ ys) u;
          }
      by false =
          record {
            of_row = on.of_row;
            copies = on.copies;
            slots = λ t ne. ap (slot_at t) same;
            bodies = λ t ne. ap (body_at t) same;
            «data» = subst (Shaped d) (sym same) (shaped_refl d);
            undo = shaped_behind m st ys y (both d u);
          }

  -- what the sweep of a row keeps. This asks for no wholeness
  pub swept_row_treated : Treated r d u (swept_row m st r (both d u)).«data» (swept_row m st r (both d u)).undo
  unfolding swept_row swept_versions
  swept_row_treated = used (eqb (slot_at r d).create 0) refl
    where
      all : Keeps r [] u (swept_all behind.versions u)
      all = swept_all_keeps r behind.whole behind.versions u [] (slot_at r d).undo_ptr (chain_strand u r (entries u) [] (slot_at r d).undo_ptr)

      by : (t : Bool) → Kept (cond t (both (swept_slot r d) (swept_all behind.versions u)) (swept_behind m st first behind.versions (both d u)))
      by true =
          record {
            of_row = all.of_row;
            copies = all.copies;
            slots = slot_at_stored_other (swept_slot_is r d);
            bodies = body_at_stored_other (swept_slot_is r d);
            «data» = shaped_swept_slot r d;
            undo = shaped_swept_all behind.versions u;
          }
      by false = behind_kept behind.whole behind.versions (chain_strand u r (entries u) [] (slot_at r d).undo_ptr)

      used : (t : Bool) → eqb (slot_at r d).create 0 ≡ t → Kept (swept_versions m st r (chain_of d u r).versions (both d u))
      used true z =
          subst (λ (c : Chain). Kept (swept_versions m st r c.versions (both d u)))
          (sym (chain_of_empty d u r (eqb-true (slot_at r d).create 0 z)))
          (treated_refl r d u)
      used false z =
          subst (λ (c : Chain). Kept (swept_versions m st r c.versions (both d u)))
          (sym (chain_of_used d u r (eqb-false (slot_at r d).create 0 z)))
          (by (dead_in m st (slot_at r d)))

  -- the chain of another row is as it was
  pub chain_of_swept_row_other : (t : ℕ) → (t ≡ r → ⊥)
      → chain_of (swept_row m st r (both d u)).«data» (swept_row m st r (both d u)).undo t ≡ chain_of d u t
  chain_of_swept_row_other = chain_of_treated swept_row_treated

  -- and so is the body of a slot that stays
  pub body_at_swept_row_own : dead_in m st (slot_at r d) ≡ false → body_at r (swept_row m st r (both d u)).«data» ≡ body_at r d
  unfolding swept_row swept_versions swept_behind
  body_at_swept_row_own stays = used (eqb (slot_at r d).create 0) refl
    where
      on : (xs : List Version) → Strand u r behind.whole [] (slot_at r d).undo_ptr xs
          → body_at r (swept_behind m st first xs (both d u)).«data» ≡ body_at r d
      on [] s = refl
      on (y ∷ ys) s = by (dead_in m st y.slot)
        where
          by : (t : Bool)
              → body_at r (cond t (both (cut_slot r (unlinked (slot_at r d)) d) (swept_all (y ∷ ys) u)) (swept_behind m st y ys (both d u))).«data»
              ≡ body_at r d
          by true = body_at_cut_slot r (unlinked (slot_at r d)) d h.row
          by false = ap (body_at r) (behind_data m st r d u h.undo behind.whole ys y [] (slot_at r d).undo_ptr s)

      used : (t : Bool) → eqb (slot_at r d).create 0 ≡ t → body_at r (swept_versions m st r (chain_of d u r).versions (both d u)).«data» ≡ body_at r d
      used true z =
          ap (λ (c : Chain). body_at r (swept_versions m st r c.versions (both d u)).«data») (chain_of_empty d u r (eqb-true (slot_at r d).create 0 z))
      used false z =
          ap (λ (c : Chain). body_at r (swept_versions m st r c.versions (both d u)).«data») (chain_of_used d u r (eqb-false (slot_at r d).create 0 z))
          ∙ ap (λ (b : Bool). body_at r (cond b (both (swept_slot r d) (swept_all behind.versions u)) (swept_behind m st first behind.versions (both d u))).«data») stays
          ∙ on behind.versions (chain_strand u r (entries u) [] (slot_at r d).undo_ptr)

  -- ---- its own chain, where it is whole

  -- the chain that is left of versions xs
  abbrev left : List Version → Chain
  left xs = record { versions = on_last unlinked (front (dead_in m st) xs); whole = true }

  abbrev chain_in : Both → Chain
  chain_in q = chain_of q.«data» q.undo r

  abbrev After : Chain → Type 0
  After c = chain_in (swept_versions m st r c.versions (both d u)) ≡ left c.versions

  behind_chain : (xs : List Version) → ((slot_at r d).create ≡ 0 → ⊥) → length xs ≤ entries u → Strand u r true [] (slot_at r d).undo_ptr xs
      → chain_in (swept_behind m st first xs (both d u)) ≡ record { versions = on_last unlinked (first ∷ front (dead_in m st) xs); whole = true }
  unfolding swept_behind on_last front
  behind_chain [] used few s =
      chain_of_strand d u r (slot_at r d) [] refl used few s
      ∙ ap (λ (x : Slot). record { versions = record { place = Data r; slot = x } ∷ []; whole = true })
      (sym (unlinked_same u r (slot_at r d) (s refl)))
  behind_chain (y ∷ ys) used few s = by (dead_in m st y.slot)
    where
      on : Both
      on = swept_behind m st y ys (both d u)

      kept : List Version
      kept = on_last unlinked (y ∷ front (dead_in m st) ys)

      by : (t : Bool)
          → chain_in (cond t (both (cut_slot r (unlinked (slot_at r d)) d) (swept_all (y ∷ ys) u)) (swept_behind m st y ys (both d u)))
          ≡ record { versions = on_last unlinked (first ∷ cond t [] (y ∷ front (dead_in m st) ys)); whole = true }
      by true =
          chain_of_strand (cut_slot r (unlinked (slot_at r d)) d) (swept_all (y ∷ ys) u) r (unlinked (slot_at r d)) []
          (slot_at_cut_slot r (unlinked (slot_at r d)) d h.row cut_fit)
          used
          (omega arith)
          (λ e. link_zero (swept_all (y ∷ ys) u) r)
      by false =
          let size : pages on.undo ≡ pages u = (behind_keeps m st r d u h.undo true ys y [] (slot_at r d).undo_ptr s).of_row.size in
          chain_of_strand on.«data» on.undo r (slot_at r d) kept
          (ap (slot_at r) (behind_data m st r d u h.undo true ys y [] (slot_at r d).undo_ptr s))
          used
          (omega (arith, length_on_last unlinked (y ∷ front (dead_in m st) ys), front_gone m st ys, size))
          (behind_strand m st r d u h.undo ys y [] (slot_at r d).undo_ptr s)

  -- "the first version whose expirer is committed and below the mark goes with all older ones; the newer version's pointer becomes 0,
  -- or the slot is emptied"
  pub chain_of_swept_row_own : (chain_of d u r).whole ≡ true
      → chain_of (swept_row m st r (both d u)).«data» (swept_row m st r (both d u)).undo r
      ≡ record { versions = on_last unlinked (front (dead_in m st) (chain_of d u r).versions); whole = true }
  unfolding swept_row swept_versions on_last front
  chain_of_swept_row_own whole = used (eqb (slot_at r d).create 0) refl
    where
      by : (t : Bool) → ((slot_at r d).create ≡ 0 → ⊥) → Strand u r true [] (slot_at r d).undo_ptr behind.versions
          → chain_in (cond t (both (swept_slot r d) (swept_all behind.versions u)) (swept_behind m st first behind.versions (both d u)))
          ≡ record { versions = on_last unlinked (cond t [] (first ∷ front (dead_in m st) behind.versions)); whole = true }
      by true some s = chain_of_empty (swept_slot r d) (swept_all behind.versions u) r (create_swept_slot r d h.row)
      by false some s = behind_chain behind.versions some (chain_few u r (entries u) [] (slot_at r d).undo_ptr) s

      used : (t : Bool) → eqb (slot_at r d).create 0 ≡ t → After (chain_of d u r)
      used true z =
          let none : chain_of d u r ≡ ended true = chain_of_empty d u r (eqb-true (slot_at r d).create 0 z) in
          subst After (sym none) none
      used false z =
          let some : (slot_at r d).create ≡ 0 → ⊥ = eqb-false (slot_at r d).create 0 z in
          let is : chain_of d u r ≡ onto first behind = chain_of_used d u r some in
          let ends : behind.whole ≡ true = sym (ap (λ (c : Chain). c.whole) is) ∙ whole in
          subst After (sym is)
          (by (dead_in m st (slot_at r d)) some
          (subst (λ (w : Bool). Strand u r w [] (slot_at r d).undo_ptr behind.versions) ends (chain_strand u r (entries u) [] (slot_at r d).undo_ptr)))

  -- its answer is the number of "versions removed, equal to versions held before less versions held after"
  pub gone_row_count : (chain_of d u r).whole ≡ true
      → length (chain_of d u r).versions
      ≡ gone_row m st r (both d u) + length (chain_of (swept_row m st r (both d u)).«data» (swept_row m st r (both d u)).undo r).versions
  unfolding gone_row
  gone_row_count whole =
      let vs : List Version = (chain_of d u r).versions in
      let after : length (chain_of (swept_row m st r (both d u)).«data» (swept_row m st r (both d u)).undo r).versions ≡ length (on_last unlinked (front (dead_in m st) vs)) =
      ap (λ (c : Chain). length c.versions) (chain_of_swept_row_own whole)
      in
      omega (arith, front_gone m st vs, length_on_last unlinked (front (dead_in m st) vs))
