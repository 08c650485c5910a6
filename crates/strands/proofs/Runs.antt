-- Where the versions of a chain lie ("01, Sessions and sight"): each in an entry of its row, no two in the same; and a whole chain is
-- again one where those entries are as they were. Assumes nothing.
use mathlib.Core.Path.{◌≡◌, refl, sym, ap, subst, ◌∙◌}
use mathlib.Core.Bool.{Bool, true, false, false≢true}
use mathlib.Core.List.{List, [], ◌∷◌}
use Prim.Native.Nat.{ℕ, zero, suc, ◌*◌, ◌≤◌, ◌<◌}
use native.Mathlib.Omega.{arith}
use lib.ListN.{length}
use lib.Dec.{eqb}
use Rattle.ground.proofs.Ranges.{or_false_right}
use Rattle.kind.specs.Kind.{pages, entries}
use Rattle.pointer.specs.Pointer.{lead_of}
use Rattle.records.specs.declared.slot.Slot.{Slot}
use Rattle.records.specs.declared.entry.Entry.{Entry}
use Rattle.records.specs.Slot.{slot_at}
use Rattle.records.specs.Entry.{entry_at}
use Rattle.records.proofs.Slots.{SlotFit}
use Rattle.page.proofs.Stored.{entry_at_stored_other}
use Rattle.freeing.specs.Freeing.{cut_copy}
use Rattle.freeing.proofs.Freeings.{cut_copy_is}
use Rattle.chain.specs.declared.Place.{Place}
use Rattle.chain.specs.declared.Place.TheVariants.{Data, Undo}
use Rattle.chain.specs.declared.Link.{Link}
use Rattle.chain.specs.declared.Link.TheVariants.{End, Break, To}
use Rattle.chain.specs.Chain.{Version, Chain, onto, among, chain_from, chain_of, link_of}
use Rattle.chain.proofs.Links.{Carries, carries_unfit, among_first, among_later, among_apart, link_to, link_real, link_zero, link_none}
use Rattle.chain.proofs.Chains.{chain_from_end, chain_from_break, chain_from_passed, chain_from_on, chain_from_full}
use Rattle.chain.proofs.Rows.{chain_of_slot}
use Rattle.strands.specs.Strands.{Frees, Keeps, entry_in, Step, Strand}
use Rattle.strands.proofs.Apart.{frees_of_row, cut_copy_of_row, of_row_refl, of_row_trans, copies_refl, copies_trans, frees_copies, cut_copy_copies}

-- ---- links, and what becomes of them

-- an end stays one, whatever becomes of the area
link_end_kept : (u u' : List ℕ) (r ptr : ℕ) → link_of u r ptr ≡ End → link_of u' r ptr ≡ End
link_end_kept u u' r ptr h = ap (link_of u' r) (link_none u r ptr h) ∙ link_zero u' r

-- and a link leads to its entry as long as that carries a version of the row
link_moved : (u u' : List ℕ) (r ptr e : ℕ) (m m' : Entry) → link_of u r ptr ≡ To e m → pages u' ≡ pages u → entry_at e u' ≡ m' → Carries r m'
    → link_of u' r ptr ≡ To e m'
link_moved u u' r ptr e m m' h size is c =
    sym (link_to u' r ptr refl e (ap (λ (n : ℕ). lead_of n ptr) size ∙ (link_real u r ptr e m h).leads) (sym is) (carries_unfit r m' c))

-- ---- one step

module _ {u : List ℕ} {r : ℕ} {ps : List ℕ} {ptr : ℕ} {x : Version} (s : Step u r ps ptr x) where
  pub step_place : x.place ≡ Undo (entry_in x)
  step_place = ap (λ (y : Version). y.place) s.is

  pub step_inside : entry_in x < entries u
  step_inside = (link_real u r ptr (entry_in x) s.entry s.to).inside

  pub step_entry : s.entry ≡ entry_at (entry_in x) u
  step_entry = (link_real u r ptr (entry_in x) s.entry s.to).stands

  pub step_slot : x.slot ≡ (entry_at (entry_in x) u).copy
  step_slot = ap (λ (y : Version). y.slot) s.is ∙ ap (λ (m : Entry). m.copy) step_entry

  carries : Carries r s.entry
  carries = (link_real u r ptr (entry_in x) s.entry s.to).carries

  -- "one of another row" would break the chain
  pub step_row : (entry_at (entry_in x) u).row ≡ r
  step_row = sym (ap (λ (m : Entry). m.row) step_entry) ∙ carries.row

  -- "or one whose copy has create 0"
  pub step_some : x.slot.create ≡ 0 → ⊥
  step_some z = carries.some (sym (ap (λ (y : Version). y.slot.create) s.is) ∙ z)

  -- it stays where its entry does
  pub step_kept : (u' : List ℕ) → pages u' ≡ pages u → entry_at (entry_in x) u' ≡ entry_at (entry_in x) u → Step u' r ps ptr x
  step_kept u' size same =
      record {
        entry = s.entry;
        to = link_moved u u' r ptr (entry_in x) s.entry s.entry s.to size (same ∙ sym step_entry) carries;
        fresh = s.fresh;
        is = s.is;
      }

  -- and where the copy in it is written over by one of the same creator
  pub step_cut : (u' : List ℕ) (m : Slot) → pages u' ≡ pages u → m.create ≡ x.slot.create
      → entry_at (entry_in x) u' ≡ record { writer = (entry_at (entry_in x) u).writer; row = (entry_at (entry_in x) u).row; copy = m }
      → Step u' r ps ptr (record { place = x.place; slot = m })
  step_cut u' m size made is =
      let new : Entry = record { writer = (entry_at (entry_in x) u).writer; row = (entry_at (entry_in x) u).row; copy = m } in
      let old : Carries r (entry_at (entry_in x) u) = subst (Carries r) step_entry carries in
      record {
        entry = new;
        to =
            link_moved u u' r ptr (entry_in x) s.entry new s.to size is
            (record { used = old.used; row = old.row; some = λ z. step_some (sym made ∙ z) });
        fresh = s.fresh;
        is = ap (λ (p : Place). record { place = p; slot = m }) step_place;
      }

-- ---- strands

-- where every entry that was not passed is as it was, so is the strand
pub strand_kept : (u u' : List ℕ) (r : ℕ) (w : Bool) → pages u' ≡ pages u → (xs : List Version) (ps : List ℕ) (ptr : ℕ)
    → ((t : ℕ) → among t ps ≡ false → entry_at t u' ≡ entry_at t u)
    → Strand u r w ps ptr xs
    → Strand u' r w ps ptr xs
unfolding among
strand_kept u u' r w size [] ps ptr same s = λ h. link_end_kept u u' r ptr (s h)
strand_kept u u' r w size (x ∷ xs) ps ptr same s = (
  step_kept s.0 u' size (same (entry_in x) s.0.fresh),
  strand_kept u u' r w size xs (entry_in x ∷ ps) x.slot.undo_ptr (λ t out. same t (or_false_right (eqb t (entry_in x)) (among t ps) out)) s.1,
)

-- freeing an entry that was passed leaves what is behind it
pub strand_freed : (e : ℕ) (u u' : List ℕ) → Frees e u u' → (r : ℕ) (w : Bool) (xs : List Version) (ps : List ℕ) (ptr : ℕ)
    → Strand u r w (e ∷ ps) ptr xs
    → Strand u' r w (e ∷ ps) ptr xs
strand_freed e u u' f r w xs ps ptr =
    strand_kept u u' r w f.size xs (e ∷ ps) ptr
    (λ t out. f.others t (among_apart t e (e ∷ ps) out (among_first e ps)))

-- ---- what a treatment of a strand keeps

pub keeps_refl : (r : ℕ) (ps u : List ℕ) → Keeps r ps u u
keeps_refl r ps u = record { of_row = of_row_refl r u; copies = copies_refl u; passed = λ t h. refl }

pub keeps_fewer : (r e : ℕ) (ps u u' : List ℕ) → Keeps r (e ∷ ps) u u' → Keeps r ps u u'
keeps_fewer r e ps u u' k = record { of_row = k.of_row; copies = k.copies; passed = λ t h. k.passed t (among_later t e ps h) }

-- the entry just passed
pub keeps_first : (r e : ℕ) (ps u u' : List ℕ) → Keeps r (e ∷ ps) u u' → entry_at e u' ≡ entry_at e u
keeps_first r e ps u u' k = k.passed e (among_first e ps)

-- the entry of the first version freed, and the others then treated
pub keeps_freed : {u : List ℕ} {r : ℕ} {ps : List ℕ} {ptr : ℕ} {x : Version} (u₁ u₂ : List ℕ) → Step u r ps ptr x → Frees (entry_in x) u u₁
    → Keeps r (entry_in x ∷ ps) u₁ u₂
    → Keeps r ps u u₂
keeps_freed {u} {r} {ps} {ptr} {x} u₁ u₂ s f k =
    let e : ℕ = entry_in x in
    record {
      of_row = of_row_trans r u u₁ u₂ (frees_of_row e r u u₁ f (step_row s)) k.of_row;
      copies = copies_trans u u₁ u₂ (frees_copies e u u₁ f) k.copies;
      passed = λ t h. k.passed t (among_later t e ps h) ∙ f.others t (λ z. among_apart e t ps s.fresh h (sym z));
    }

-- the others treated, and the copy of the first version then written over
pub keeps_cut : {u : List ℕ} {r : ℕ} {ps : List ℕ} {ptr : ℕ} {x : Version} (u₁ : List ℕ) (m : Slot) → Step u r ps ptr x → SlotFit m
    → Keeps r (entry_in x ∷ ps) u u₁
    → Keeps r ps u (cut_copy (entry_in x) m u₁)
keeps_cut {u} {r} {ps} {ptr} {x} u₁ m s fit k =
    let e : ℕ = entry_in x in
    let here : e < entries u₁ = subst (λ (n : ℕ). e < n * 101) (sym k.of_row.size) (step_inside s) in
    let row : (entry_at e u₁).row ≡ r = ap (λ (q : Entry). q.row) (keeps_first r e ps u u₁ k) ∙ step_row s in
    record {
      of_row = of_row_trans r u u₁ (cut_copy e m u₁) k.of_row (cut_copy_of_row e r m u₁ here fit row);
      copies = copies_trans u u₁ (cut_copy e m u₁) k.copies (cut_copy_copies e m u₁ here fit);
      passed =
          λ t h.
          entry_at_stored_other (cut_copy_is e m u₁) t (λ z. among_apart e t ps s.fresh h (sym z))
          ∙ k.passed t (among_later t e ps h);
    }

-- ---- a chain is a strand

module _ (u : List ℕ) (r : ℕ) where
  abbrev IsStrand : List ℕ → ℕ → Chain → Type 0
  IsStrand ps ptr c = Strand u r c.whole ps ptr c.versions

  pub chain_strand : (fuel : ℕ) (ps : List ℕ) (ptr : ℕ)
      → Strand u r (chain_from u r fuel ps ptr).whole ps ptr (chain_from u r fuel ps ptr).versions
  chain_strand zero ps ptr = on (link_of u r ptr) refl
    where
      on : (l : Link) → link_of u r ptr ≡ l → IsStrand ps ptr (chain_from u r zero ps ptr)
      on End h = subst (IsStrand ps ptr) (sym (chain_from_end u r zero ps ptr h)) (λ w. h)
      on Break h = subst (IsStrand ps ptr) (sym (chain_from_break u r zero ps ptr h)) (λ w. absurd (false≢true w))
      on (To e m) h = subst (IsStrand ps ptr) (sym (chain_from_full u r ps ptr e m h)) (λ w. absurd (false≢true w))
  chain_strand (suc fuel) ps ptr = on (link_of u r ptr) refl (λ e m. chain_strand fuel (e ∷ ps) m.copy.undo_ptr)
    where
      on : (l : Link) → link_of u r ptr ≡ l
          → ((e : ℕ) (m : Entry) → IsStrand (e ∷ ps) m.copy.undo_ptr (chain_from u r fuel (e ∷ ps) m.copy.undo_ptr))
          → IsStrand ps ptr (chain_from u r (suc fuel) ps ptr)
      on End h ih = subst (IsStrand ps ptr) (sym (chain_from_end u r (suc fuel) ps ptr h)) (λ w. h)
      on Break h ih = subst (IsStrand ps ptr) (sym (chain_from_break u r (suc fuel) ps ptr h)) (λ w. absurd (false≢true w))
      on (To e m) h ih = by (among e ps) refl
        where
          by : (b : Bool) → among e ps ≡ b → IsStrand ps ptr (chain_from u r (suc fuel) ps ptr)
          by true p = subst (IsStrand ps ptr) (sym (chain_from_passed u r ps ptr e m h (suc fuel) p)) (λ w. absurd (false≢true w))
          by false p =
              subst (IsStrand ps ptr) (sym (chain_from_on u r ps ptr e m h fuel p))
              (record { entry = m; to = h; fresh = p; is = refl }, ih e m)

  -- and has at most as many versions as there are entries to pass
  pub chain_few : (fuel : ℕ) (ps : List ℕ) (ptr : ℕ) → length (chain_from u r fuel ps ptr).versions ≤ fuel
  chain_few zero ps ptr = on (link_of u r ptr) refl
    where
      on : (l : Link) → link_of u r ptr ≡ l → length (chain_from u r zero ps ptr).versions ≤ 0
      on End h = omega (arith, ap (λ (c : Chain). length c.versions) (chain_from_end u r zero ps ptr h))
      on Break h = omega (arith, ap (λ (c : Chain). length c.versions) (chain_from_break u r zero ps ptr h))
      on (To e m) h = omega (arith, ap (λ (c : Chain). length c.versions) (chain_from_full u r ps ptr e m h))
  chain_few (suc fuel) ps ptr = on (link_of u r ptr) refl (λ e m. chain_few fuel (e ∷ ps) m.copy.undo_ptr)
    where
      on : (l : Link) → link_of u r ptr ≡ l
          → ((e : ℕ) (m : Entry) → length (chain_from u r fuel (e ∷ ps) m.copy.undo_ptr).versions ≤ fuel)
          → length (chain_from u r (suc fuel) ps ptr).versions ≤ suc fuel
      on End h ih = omega (arith, ap (λ (c : Chain). length c.versions) (chain_from_end u r (suc fuel) ps ptr h))
      on Break h ih = omega (arith, ap (λ (c : Chain). length c.versions) (chain_from_break u r (suc fuel) ps ptr h))
      on (To e m) h ih = by (among e ps) refl
        where
          by : (b : Bool) → among e ps ≡ b → length (chain_from u r (suc fuel) ps ptr).versions ≤ suc fuel
          by true p = omega (arith, ap (λ (c : Chain). length c.versions) (chain_from_passed u r ps ptr e m h (suc fuel) p))
          by false p = omega (arith, ap (λ (c : Chain). length c.versions) (chain_from_on u r ps ptr e m h fuel p), ih e m)

  -- a strand that ends is a whole chain
  pub strand_chain : (xs : List Version) (fuel : ℕ) (ps : List ℕ) (ptr : ℕ) → length xs ≤ fuel → Strand u r true ps ptr xs
      → chain_from u r fuel ps ptr ≡ record { versions = xs; whole = true }
  strand_chain [] fuel ps ptr few s = chain_from_end u r fuel ps ptr (s refl)
  strand_chain (x ∷ xs) zero ps ptr few s = absurd (omega arith)
  strand_chain (x ∷ xs) (suc fuel) ps ptr few s =
      chain_from_on u r ps ptr (entry_in x) s.0.entry s.0.to fuel s.0.fresh
      ∙ ap (λ (y : Version). onto y (chain_from u r fuel (entry_in x ∷ ps) y.slot.undo_ptr)) (sym s.0.is)
      ∙ ap (onto x) (strand_chain xs fuel (entry_in x ∷ ps) x.slot.undo_ptr (omega arith) s.1)

-- ---- the chain of a row

-- a slot m, and a strand behind it
pub chain_of_strand : (d u : List ℕ) (r : ℕ) (m : Slot) (xs : List Version) → slot_at r d ≡ m → (m.create ≡ 0 → ⊥)
    → length xs ≤ entries u
    → Strand u r true [] m.undo_ptr xs
    → chain_of d u r ≡ record { versions = record { place = Data r; slot = m } ∷ xs; whole = true }
chain_of_strand d u r m xs is used few s =
    chain_of_slot d u r m is used
    ∙ ap (onto (record { place = Data r; slot = m })) (strand_chain u r xs (entries u) [] m.undo_ptr few s)
