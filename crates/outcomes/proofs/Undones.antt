-- What withdrawing from one row does to chains ("01, Writes, withdrawal, sweep"): the versions that S made go from the front, the next
-- one stands in the slot and is ended by nobody, and what is older is as it was; every other chain is as it was. Assumes nothing.
use mathlib.Core.Path.{◌≡◌, refl, sym, ap, subst, ◌∙◌}
use mathlib.Core.Bool.{Bool, true, false, not, ◌||◌, ◌&&◌, cond, true≢false, false≢true}
use mathlib.Core.List.{List, [], ◌∷◌}
use Prim.Native.Nat.{ℕ, zero, suc, ◌<◌}
use native.Mathlib.Omega.{arith}
use lib.ListN.{drop}
use lib.Dec.{eqb, leb}
use borrow.Author.Tests.{eqb-true, eqb-false}
use Rattle.little.specs.Little.{Bytes}
use Rattle.kind.specs.Kind.{rows, entries}
use Rattle.kind.specs.Areas.{Both, both}
use Rattle.records.specs.declared.slot.Slot.{Slot}
use Rattle.records.specs.declared.entry.Entry.{Entry}
use Rattle.records.specs.Slot.{slot_at, body_at}
use Rattle.records.specs.Entry.{copy_body_at}
use Rattle.records.proofs.Slots.{SlotFit}
use Rattle.records.proofs.Bodies.{length_copy_body_at, bytes_copy_body_at}
use Rattle.records.proofs.Fits.{fit_slot, slot_at_fit, copy_fit}
use Rattle.chain.specs.declared.Place.{Place}
use Rattle.chain.specs.declared.Place.TheVariants.{Nowhere, Data, Undo}
use Rattle.chain.specs.declared.Link.{Link}
use Rattle.chain.specs.declared.Link.TheVariants.{End, Break, To}
use Rattle.chain.specs.Chain.{Version, Chain, ended, onto, among, chain_from, chain_of, link_of}
use Rattle.chain.proofs.Links.{link_real}
use Rattle.chain.proofs.Chains.{chain_from_end, chain_from_break, chain_from_full}
use Rattle.chain.proofs.Rows.{chain_of_empty, chain_of_used}
use Rattle.page.proofs.Stored.{StoredSlot, slot_at_stored_other, body_at_stored_other}
use Rattle.touching.specs.Touching.{with_slot, with_meta}
use Rattle.touching.proofs.Touchings.{with_slot_is, slot_at_with_slot, body_at_with_slot, with_meta_is, slot_at_with_meta, body_at_with_meta}
use Rattle.freeing.specs.Freeing.{without_slot, without_entry}
use Rattle.freeing.proofs.Freeings.{without_slot_is, create_without_slot, bytes_without_entry}
use Rattle.strands.specs.Strands.{Frees, Keeps, Shaped, Treated, RowIn, entry_in, Strand, rest, on_first}
use Rattle.strands.proofs.Strands.{without_entry_frees, freed_step}
use Rattle.strands.proofs.Apart.{of_row_refl, copies_refl, chain_of_treated}
use Rattle.strands.proofs.Gone.{Gone, gone_none, gone_freed, gone_enough}
use Rattle.strands.proofs.Rows.{treated_refl}
use Rattle.strands.proofs.Shapes.{shaped_refl, shaped_trans, shaped_without_slot, shaped_with_meta, shaped_with_slot, shaped_without_entry}
use Rattle.strands.proofs.Runs.{step_place, step_inside, strand_freed, keeps_refl, keeps_freed, chain_strand}
use Rattle.putback.specs.PutBack.{own, own_made, unexpired, freed_at, copy_body, taken_back, undone_row}

pub unexpired_fit : (x : Slot) → SlotFit x → SlotFit (unexpired x)
unexpired_fit x f = fit_slot (unexpired x) f.0 (omega arith) f.1.1.0 f.1.1.1.0 (omega arith)

shaped_freed_at : (n : ℕ) (p : Place) (u : List ℕ) → Shaped u (freed_at n p u)
shaped_freed_at n (Undo e) u = shaped_without_entry e u n
shaped_freed_at n (Data r) u = shaped_refl u
shaped_freed_at n Nowhere u = shaped_refl u

bytes_copy : (p : Place) (u : List ℕ) → Bytes u → Bytes (copy_body p u)
bytes_copy (Undo e) u b = bytes_copy_body_at e u b
bytes_copy (Data r) u b = tt
bytes_copy Nowhere u b = tt

-- ---- behind a slot that S made

module _ (n k r : ℕ) (d : List ℕ) where
  -- every slot but that of row r is as it was, and so is its body
  record Others (d' : List ℕ) : Type 0 where
    pub slots : (t : ℕ) → (t ≡ r → ⊥) → slot_at t d' ≡ slot_at t d
    pub bodies : (t : ℕ) → (t ≡ r → ⊥) → body_at t d' ≡ body_at t d

  abbrev Kept : List ℕ → List ℕ → Both → Type 0
  Kept ps u q = Keeps r ps u q.undo × Others q.«data»

  -- where version x, which lies in entry e, is put back
  abbrev back : Version → List ℕ → ℕ → Both
  back x u e = both (with_slot n r (unexpired x.slot) (copy_body_at e u) d) (without_entry n e u)

  taken_kept : (w : Bool) (xs : List Version) (u ps : List ℕ) (ptr : ℕ) → Strand u r w ps ptr xs → Kept ps u (taken_back n k r xs (both d u))
  unfolding taken_back
  taken_kept w [] u ps ptr s =
      (keeps_refl r ps u, record { slots = slot_at_stored_other (without_slot_is r d n); bodies = body_at_stored_other (without_slot_is r d n) })
  taken_kept w (x ∷ xs) u ps ptr s =
      subst
      (λ (p : Place).
      Kept ps u
      (cond (own_made n k x.slot) (taken_back n k r xs (both d (freed_at n p u)))
      (both (with_slot n r (unexpired x.slot) (copy_body p u) d) (freed_at n p u))))
      (sym (step_place s.0))
      (by (own_made n k x.slot)
      (taken_kept w xs (without_entry n (entry_in x) u) (entry_in x ∷ ps) x.slot.undo_ptr (strand_freed (entry_in x) u (without_entry n (entry_in x) u) f r w xs ps x.slot.undo_ptr s.1)))
    where
      f : Frees (entry_in x) u (without_entry n (entry_in x) u)
      f = without_entry_frees n (entry_in x) u (step_inside s.0)

      written : StoredSlot r d (with_slot n r (unexpired x.slot) (copy_body_at (entry_in x) u) d)
      written = with_slot_is n r (unexpired x.slot) (copy_body_at (entry_in x) u) d (length_copy_body_at (entry_in x) u (step_inside s.0))

      by : (t : Bool) → Kept (entry_in x ∷ ps) (without_entry n (entry_in x) u) (taken_back n k r xs (both d (without_entry n (entry_in x) u)))
          → Kept ps u (cond t (taken_back n k r xs (both d (without_entry n (entry_in x) u))) (back x u (entry_in x)))
      by true ih =
          (keeps_freed (without_entry n (entry_in x) u) (taken_back n k r xs (both d (without_entry n (entry_in x) u))).undo s.0 f ih.0, ih.1)
      by false ih = (
        keeps_freed (without_entry n (entry_in x) u) (without_entry n (entry_in x) u) s.0 f (keeps_refl r (entry_in x ∷ ps) (without_entry n (entry_in x) u)),
        record { slots = slot_at_stored_other written; bodies = body_at_stored_other written },
      )

  taken_shaped : (xs : List Version) (u : List ℕ) → Bytes u
      → Shaped d (taken_back n k r xs (both d u)).«data» × Shaped u (taken_back n k r xs (both d u)).undo
  unfolding taken_back
  taken_shaped [] u b = (shaped_without_slot r d n, shaped_refl u)
  taken_shaped (x ∷ xs) u b =
      by (own_made n k x.slot) (taken_shaped xs (freed_at n x.place u) ((shaped_freed_at n x.place u).bytes b))
    where
      freed : List ℕ
      freed = freed_at n x.place u

      by : (t : Bool)
          → Shaped d (taken_back n k r xs (both d (freed_at n x.place u))).«data»
          × Shaped (freed_at n x.place u) (taken_back n k r xs (both d (freed_at n x.place u))).undo
          → Shaped d
          (cond t (taken_back n k r xs (both d (freed_at n x.place u)))
          (both (with_slot n r (unexpired x.slot) (copy_body x.place u) d) (freed_at n x.place u))).«data»
          × Shaped u
          (cond t (taken_back n k r xs (both d (freed_at n x.place u)))
          (both (with_slot n r (unexpired x.slot) (copy_body x.place u) d) (freed_at n x.place u))).undo
      by true ih = (ih.0, shaped_trans u freed (taken_back n k r xs (both d freed)).undo (shaped_freed_at n x.place u) ih.1)
      by false ih =
          (shaped_with_slot r d n (unexpired x.slot) (copy_body x.place u) (bytes_copy x.place u b), shaped_freed_at n x.place u)

  -- what is left of a chain
  abbrev left : Chain → Chain
  left c = record { versions = on_first (Data r) unexpired (rest (own_made n k) c.versions); whole = c.whole }

  abbrev chain_in : Both → Chain
  chain_in q = chain_of q.«data» q.undo r

  -- "a break met between a slot created by S and the first version not created by S" is refused. A break behind it is of no account
  abbrev Unbroken : Chain → Type 0
  Unbroken c = rest (own_made n k) c.versions ≡ [] → c.whole ≡ true

  abbrev Taken : List ℕ → Chain → Type 0
  Taken u c = Unbroken c → chain_in (taken_back n k r c.versions (both d u)) ≡ left c

  module _ (row : r < rows d) where
    -- "If no copy is left, empty the slot"
    taken_none : (u : List ℕ) (b : Bool) → Taken u (ended b)
    unfolding taken_back rest on_first
    taken_none u b h = chain_of_empty (without_slot n r d) u r (create_without_slot r d row n) ∙ ap ended (sym (h refl))

    taken_chain : (fuel : ℕ) (v u ps : List ℕ) (ptr : ℕ) → Bytes u → Gone r v u ps fuel → Taken u (chain_from u r fuel [] ptr)
    unfolding taken_back rest on_first
    taken_chain zero v u ps ptr b g = on (link_of u r ptr) refl
      where
        on : (l : Link) → link_of u r ptr ≡ l → Taken u (chain_from u r zero [] ptr)
        on End h = subst (Taken u) (sym (chain_from_end u r zero [] ptr h)) (taken_none u true)
        on Break h = subst (Taken u) (sym (chain_from_break u r zero [] ptr h)) (taken_none u false)
        on (To e m) h = subst (Taken u) (sym (chain_from_full u r [] ptr e m h)) (taken_none u false)
    taken_chain (suc fuel) v u ps ptr b g =
        on (link_of u r ptr) refl (λ e m. taken_chain fuel v (without_entry n e u) (e ∷ ps) m.copy.undo_ptr (bytes_without_entry e u b n))
      where
        on : (l : Link) → link_of u r ptr ≡ l
            → ((e : ℕ) (m : Entry) → Gone r v (without_entry n e u) (e ∷ ps) fuel
            → Taken (without_entry n e u) (chain_from (without_entry n e u) r fuel [] m.copy.undo_ptr))
            → Taken u (chain_from u r (suc fuel) [] ptr)
        on End h ih = subst (Taken u) (sym (chain_from_end u r (suc fuel) [] ptr h)) (taken_none u true)
        on Break h ih = subst (Taken u) (sym (chain_from_break u r (suc fuel) [] ptr h)) (taken_none u false)
        on (To e m) h ih =
            subst (Taken u) (sym (freed_step r fuel ptr u (without_entry n e u) e m h freed)) (by (own_made n k m.copy) (ih e m gone))
          where
            here : e < entries u
            here = (link_real u r ptr e m h).inside

            freed : Frees e u (without_entry n e u)
            freed = without_entry_frees n e u (link_real u r ptr e m h).inside

            gone : Gone r v (without_entry n e u) (e ∷ ps) fuel
            gone = gone_freed r v u (without_entry n e u) ps fuel ptr e m g h freed

            behind : Chain
            behind = chain_from (without_entry n e u) r fuel [] m.copy.undo_ptr

            copy : Version
            copy = record { place = Undo e; slot = m.copy }

            new : List ℕ
            new = with_slot n r (unexpired m.copy) (copy_body_at e u) d

            is : slot_at r (with_slot n r (unexpired m.copy) (copy_body_at e u) d) ≡ unexpired m.copy
            is =
                slot_at_with_slot n r (unexpired m.copy) (copy_body_at e u) d (length_copy_body_at e u here) row
                (unexpired_fit m.copy (subst (λ (x : Entry). SlotFit x.copy) (sym (link_real u r ptr e m h).stands) (copy_fit e u b here)))

            by : (t : Bool) → Taken (without_entry n e u) behind
                → (cond t (rest (own_made n k) behind.versions) (copy ∷ behind.versions) ≡ [] → behind.whole ≡ true)
                → chain_in (cond t (taken_back n k r behind.versions (both d (without_entry n e u))) (both new (without_entry n e u)))
                ≡ record {
                  versions = on_first (Data r) unexpired (cond t (rest (own_made n k) behind.versions) (copy ∷ behind.versions));
                  whole = behind.whole;
                }
            by true done unbroken = done unbroken
            by false done unbroken =
                chain_of_used new (without_entry n e u) r (λ z. (link_real u r ptr e m h).carries.some (sym (ap (λ (x : Slot). x.create) is) ∙ z))
                ∙ ap (λ (x : Slot). onto (record { place = Data r; slot = x }) (chain_from (without_entry n e u) r (entries (without_entry n e u)) [] x.undo_ptr)) is
                ∙ ap (onto (record { place = Data r; slot = unexpired m.copy })) (gone_enough r v (without_entry n e u) (e ∷ ps) fuel gone m.copy.undo_ptr)

    -- the body put back is that of the first copy that S did not make; v is the area before any entry was freed
    taken_body : (w : Bool) (xs : List Version) (v u ps : List ℕ) (ptr : ℕ) (z : Version) (zs : List Version) → Strand u r w ps ptr xs
        → ((t : ℕ) → among t ps ≡ false → copy_body_at t u ≡ copy_body_at t v)
        → rest (own_made n k) xs ≡ z ∷ zs
        → body_at r (taken_back n k r xs (both d u)).«data» ≡ copy_body z.place v
    unfolding taken_back rest among
    taken_body w [] v u ps ptr z zs s same e = let q : ◌≡◌ {A = ℕ} 0 1 = cc in absurd (omega arith)
    taken_body w (x ∷ xs) v u ps ptr z zs s same e =
        subst
        (λ (p : Place).
        body_at r
        (cond (own_made n k x.slot) (taken_back n k r xs (both d (freed_at n p u)))
        (both (with_slot n r (unexpired x.slot) (copy_body p u) d) (freed_at n p u))).«data»
        ≡ copy_body z.place v)
        (sym (step_place s.0))
        (by (own_made n k x.slot) e
        (taken_body w xs v (without_entry n (entry_in x) u) (entry_in x ∷ ps) x.slot.undo_ptr z zs
        (strand_freed (entry_in x) u (without_entry n (entry_in x) u) f r w xs ps x.slot.undo_ptr s.1)
        (λ t out. further t (eqb t (entry_in x)) refl out)))
      where
        f : Frees (entry_in x) u (without_entry n (entry_in x) u)
        f = without_entry_frees n (entry_in x) u (step_inside s.0)

        further : (t : ℕ) (b : Bool) → eqb t (entry_in x) ≡ b → (b || among t ps) ≡ false → copy_body_at t (without_entry n (entry_in x) u) ≡ copy_body_at t v
        further t true k out = absurd (true≢false out)
        further t false k out = f.bodies t (eqb-false t (entry_in x) k) ∙ same t out

        by : (t : Bool) → cond t (rest (own_made n k) xs) (x ∷ xs) ≡ z ∷ zs
            → (rest (own_made n k) xs ≡ z ∷ zs → body_at r (taken_back n k r xs (both d (without_entry n (entry_in x) u))).«data» ≡ copy_body z.place v)
            → body_at r (cond t (taken_back n k r xs (both d (without_entry n (entry_in x) u))) (back x u (entry_in x))).«data» ≡ copy_body z.place v
        by true q ih = ih q
        by false q ih =
            let first : x ≡ z = cc in
            body_at_with_slot n r (unexpired x.slot) (copy_body_at (entry_in x) u) d (length_copy_body_at (entry_in x) u (step_inside s.0)) row
            ∙ same (entry_in x) s.0.fresh
            ∙ ap (λ (p : Place). copy_body p v) (sym (step_place s.0) ∙ ap (λ (y : Version). y.place) first)

-- ---- the row

module _ (n k r : ℕ) (d u : List ℕ) (h : RowIn r d u) where
  abbrev first : Version
  first = record { place = Data r; slot = slot_at r d }

  abbrev behind : Chain
  behind = chain_from u r (entries u) [] (slot_at r d).undo_ptr

  -- "only the expirer is S"
  abbrev pub own_ended : Bool
  own_ended = not (eqb (slot_at r d).create 0) && own n k (slot_at r d).expire (slot_at r d).expire_cmd

  -- the older versions are a strand behind the slot, whatever the slot is
  older_kept : Kept n k r d [] u (taken_back n k r (drop 1 (chain_of d u r).versions) (both d u))
  older_kept = used (eqb (slot_at r d).create 0) refl
    where
      used : (t : Bool) → eqb (slot_at r d).create 0 ≡ t → Kept n k r d [] u (taken_back n k r (drop 1 (chain_of d u r).versions) (both d u))
      used true z =
          subst (λ (c : Chain). Kept n k r d [] u (taken_back n k r (drop 1 c.versions) (both d u)))
          (sym (chain_of_empty d u r (eqb-true (slot_at r d).create 0 z)))
          (taken_kept n k r d false [] u [] 0 (λ w. absurd (false≢true w)))
      used false z =
          subst (λ (c : Chain). Kept n k r d [] u (taken_back n k r (drop 1 c.versions) (both d u)))
          (sym (chain_of_used d u r (eqb-false (slot_at r d).create 0 z)))
          (taken_kept n k r d behind.whole behind.versions u [] (slot_at r d).undo_ptr (chain_strand u r (entries u) [] (slot_at r d).undo_ptr))

  abbrev KeptRow : Both → Type 0
  KeptRow q = Treated r d u q.«data» q.undo

  -- what withdrawing from a row keeps. This asks for no wholeness
  pub undone_row_treated : Treated r d u (undone_row n k r (both d u)).«data» (undone_row n k r (both d u)).undo
  unfolding undone_row
  undone_row_treated = by (own_made n k (slot_at r d)) own_ended
    where
      taken : Shaped d (taken_back n k r (drop 1 (chain_of d u r).versions) (both d u)).«data»
          × Shaped u (taken_back n k r (drop 1 (chain_of d u r).versions) (both d u)).undo
      taken = taken_shaped n k r d (drop 1 (chain_of d u r).versions) u h.undo

      by : (a c : Bool)
          → KeptRow
          (cond a (taken_back n k r (drop 1 (chain_of d u r).versions) (both d u))
          (cond c (both (with_meta n r (unexpired (slot_at r d)) d) u) (both d u)))
      by true c =
          record {
            of_row = older_kept.0.of_row;
            copies = older_kept.0.copies;
            slots = older_kept.1.slots;
            bodies = older_kept.1.bodies;
            «data» = taken.0;
            undo = taken.1;
          }
      by false true =
          record {
            of_row = of_row_refl r u;
            copies = copies_refl u;
            slots = slot_at_stored_other (with_meta_is n r (unexpired (slot_at r d)) d);
            bodies = body_at_stored_other (with_meta_is n r (unexpired (slot_at r d)) d);
            «data» = shaped_with_meta r d n (unexpired (slot_at r d));
            undo = shaped_refl u;
          }
      by false false = treated_refl r d u

  -- the chain of another row is as it was
  pub chain_of_undone_row_other : (t : ℕ) → (t ≡ r → ⊥)
      → chain_of (undone_row n k r (both d u)).«data» (undone_row n k r (both d u)).undo t ≡ chain_of d u t
  chain_of_undone_row_other = chain_of_treated undone_row_treated

  -- ---- its own chain

  abbrev after : Chain
  after = chain_of (undone_row n k r (both d u)).«data» (undone_row n k r (both d u)).undo r

  -- neither creator nor expirer is S: nothing is written
  pub undone_row_none : own_made n k (slot_at r d) ≡ false → own_ended ≡ false → undone_row n k r (both d u) ≡ both d u
  unfolding undone_row
  undone_row_none made ended = rw (made, ended)

  -- "If instead only the expirer is S, clear both expire fields": the first version is ended by nobody, what is older is as it was
  pub chain_of_undone_row_ended : own_made n k (slot_at r d) ≡ false → own_ended ≡ true
      → chain_of (undone_row n k r (both d u)).«data» (undone_row n k r (both d u)).undo r
      ≡ record { versions = on_first (Data r) unexpired (chain_of d u r).versions; whole = (chain_of d u r).whole }
  unfolding undone_row on_first
  chain_of_undone_row_ended made ended =
      let new : Slot = unexpired (slot_at r d) in
      let d' : List ℕ = with_meta n r new d in
      let some : (slot_at r d).create ≡ 0 → ⊥ = occupied (eqb (slot_at r d).create 0) refl ended in
      let is : slot_at r d' ≡ new = slot_at_with_meta n r new d h.row (unexpired_fit (slot_at r d) (slot_at_fit r d h.«data» h.row)) in
      ap (λ (b : Bool). chain_in n k r d (cond b (taken_back n k r (drop 1 (chain_of d u r).versions) (both d u)) (cond own_ended (both d' u) (both d u)))) made
      ∙ ap (λ (b : Bool). chain_in n k r d (cond b (both d' u) (both d u))) ended
      ∙ chain_of_used d' u r (λ z. some (sym (ap (λ (x : Slot). x.create) is) ∙ z))
      ∙ ap (λ (x : Slot). onto (record { place = Data r; slot = x }) (chain_from u r (entries u) [] x.undo_ptr)) is
      ∙ ap (λ (c : Chain). record { versions = on_first (Data r) unexpired c.versions; whole = c.whole }) (sym (chain_of_used d u r some))
    where
      occupied : (b : Bool) → eqb (slot_at r d).create 0 ≡ b
          → (not b && own n k (slot_at r d).expire (slot_at r d).expire_cmd) ≡ true
          → (slot_at r d).create ≡ 0 → ⊥
      occupied true z e = absurd (false≢true e)
      occupied false z e = eqb-false (slot_at r d).create 0 z

  -- "If the slot's creator is S, put back the copy from its chain, with expire and expire_cmd cleared, and free the entry; repeat until
  -- the creator isn't S. If no copy is left, empty the slot"
  module _ (number : 0 < n) (made : own_made n k (slot_at r d) ≡ true) where
    -- no session is number 0, so the row is occupied
    pub made_some : (slot_at r d).create ≡ 0 → ⊥
    unfolding own
    made_some z = by (eqb (slot_at r d).create n) refl made
      where
        by : (b : Bool) → eqb (slot_at r d).create n ≡ b → (b && leb k (slot_at r d).cmd) ≡ true → ⊥
        by true q e = let same : (slot_at r d).create ≡ n = eqb-true (slot_at r d).create n q in omega arith
        by false q e = false≢true e

    pub undone_row_made : undone_row n k r (both d u) ≡ taken_back n k r behind.versions (both d u)
    unfolding undone_row
    undone_row_made =
        rw made
        (ap (λ (c : Chain). taken_back n k r (drop 1 c.versions) (both d u)) (chain_of_used d u r made_some))

    -- the chain is whole or broken as it was
    pub chain_of_undone_row_made : (rest (own_made n k) (chain_of d u r).versions ≡ [] → (chain_of d u r).whole ≡ true)
        → chain_of (undone_row n k r (both d u)).«data» (undone_row n k r (both d u)).undo r
        ≡ record { versions = on_first (Data r) unexpired (rest (own_made n k) (chain_of d u r).versions); whole = (chain_of d u r).whole }
    unfolding rest
    chain_of_undone_row_made unbroken =
        let is : chain_of d u r ≡ onto first behind = chain_of_used d u r made_some in
        let all : rest (own_made n k) (chain_of d u r).versions ≡ rest (own_made n k) behind.versions =
        ap (λ (c : Chain). rest (own_made n k) c.versions) is
        ∙ ap (λ (b : Bool). cond b (rest (own_made n k) behind.versions) (first ∷ behind.versions)) made
        in
        let end : (chain_of d u r).whole ≡ behind.whole = ap (λ (c : Chain). c.whole) is in
        ap (chain_in n k r d) undone_row_made
        ∙ taken_chain n k r d h.row (entries u) u u [] (slot_at r d).undo_ptr h.undo (gone_none r u) (λ e. sym end ∙ unbroken (all ∙ e))
        ∙ ap (λ (xs : List Version). record { versions = on_first (Data r) unexpired xs; whole = behind.whole }) (sym all)
        ∙ ap (λ (b : Bool). record { versions = on_first (Data r) unexpired (rest (own_made n k) (chain_of d u r).versions); whole = b }) (sym end)

    -- "put back the copy": with its body
    pub body_at_undone_row_made : (z : Version) (zs : List Version) → rest (own_made n k) (chain_of d u r).versions ≡ z ∷ zs
        → body_at r (undone_row n k r (both d u)).«data» ≡ copy_body z.place u
    unfolding rest
    body_at_undone_row_made z zs e =
        ap (λ (q : Both). body_at r q.«data») undone_row_made
        ∙ taken_body n k r d h.row behind.whole behind.versions u u [] (slot_at r d).undo_ptr z zs
        (chain_strand u r (entries u) [] (slot_at r d).undo_ptr)
        (λ t out. refl)
        (ap (λ (b : Bool). cond b (rest (own_made n k) behind.versions) (first ∷ behind.versions)) (sym made)
        ∙ ap (λ (c : Chain). rest (own_made n k) c.versions) (sym (chain_of_used d u r made_some))
        ∙ e)

  -- where only the expirer is S the slot keeps its body
  pub body_at_undone_row_ended : own_made n k (slot_at r d) ≡ false → body_at r (undone_row n k r (both d u)).«data» ≡ body_at r d
  unfolding undone_row
  body_at_undone_row_ended made =
      ap
      (λ (b : Bool).
      body_at r
      (cond b (taken_back n k r (drop 1 (chain_of d u r).versions) (both d u))
      (cond own_ended (both (with_meta n r (unexpired (slot_at r d)) d) u) (both d u))).«data»)
      made
      ∙ by own_ended
    where
      by : (c : Bool) → body_at r (cond c (both (with_meta n r (unexpired (slot_at r d)) d) u) (both d u)).«data» ≡ body_at r d
      by true = body_at_with_meta n r (unexpired (slot_at r d)) d h.row
      by false = refl

  -- whole chains stay whole
  pub whole_undone_row : 0 < n → (chain_of d u r).whole ≡ true
      → (chain_of (undone_row n k r (both d u)).«data» (undone_row n k r (both d u)).undo r).whole ≡ true
  whole_undone_row number whole = by (own_made n k (slot_at r d)) own_ended refl refl
    where
      by : (a c : Bool) → own_made n k (slot_at r d) ≡ a → own_ended ≡ c → after.whole ≡ true
      by true c made ended = ap (λ (x : Chain). x.whole) (chain_of_undone_row_made number made (λ e. whole)) ∙ whole
      by false true made ended = ap (λ (x : Chain). x.whole) (chain_of_undone_row_ended made ended) ∙ whole
      by false false made ended = ap (λ (q : Both). (chain_in n k r d q).whole) (undone_row_none made ended) ∙ whole
