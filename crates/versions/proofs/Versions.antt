-- What insert, update and delete do to chains ("01, Writes, withdrawal, sweep"): the row's own chain gets a version, or its first one
-- ends; every other chain is as it was; whole chains stay whole. Assumes nothing.
use mathlib.Core.Path.{◌≡◌, refl, sym, ap, subst, ◌∙◌}
use mathlib.Core.Bool.{Bool, true, false, ◌||◌, cond}
use mathlib.Core.List.{List, [], ◌∷◌}
use Prim.Native.Nat.{ℕ, zero, suc, ◌+◌, ◌-◌, ◌/◌, ◌*◌, ◌<◌, ◌^◌}
use native.Mathlib.Omega.{arith}
use lib.ListN.{length}
use lib.Dec.{eqb}
use borrow.Author.Tests.{eqb-true, eqb-false, ne_eqb}
use Rattle.kind.specs.Kind.{pages, rows, entries}
use Rattle.pointer.specs.declared.Lead.{Lead}
use Rattle.pointer.specs.declared.Lead.TheVariants.{Nowhere as Nothing, Entry as ToEntry, Astray}
use Rattle.pointer.specs.Pointer.{lead_of, pointer_to}
use Rattle.pointer.proofs.PointerLaws.{lead_of_pointer_to, lead_of_zero, pointer_to_below}
use Rattle.records.specs.declared.slot.Slot.{Slot}
use Rattle.records.specs.declared.entry.Entry.{Entry}
use Rattle.records.specs.Slot.{slot_at, body_at}
use Rattle.records.specs.Entry.{entry_at}
use Rattle.records.proofs.Slots.{SlotFit, slots_lie}
use Rattle.records.proofs.Entries.{entries_lie}
use Rattle.records.proofs.Bodies.{length_body_at}
use Rattle.records.proofs.Fits.{fit_slot, slot_at_fit}
use Rattle.chain.specs.declared.Place.TheVariants.{Data, Undo}
use Rattle.chain.specs.declared.Link.{Link}
use Rattle.chain.specs.declared.Link.TheVariants.{End, Break, To}
use Rattle.chain.specs.Chain.{Chain, ended, onto, among, unfit, chain_from, chain_of, link_at, link_of}
use Rattle.chain.proofs.Links.{unfit_free, unfit_other, carries_unfit, Real, link_real}
use Rattle.chain.proofs.Chains.{copy_of, chain_from_end, chain_from_break, chain_from_passed, chain_from_on, chain_from_full}
use Rattle.chain.proofs.Enough.{more}
use Rattle.chain.proofs.Rows.{broken, chain_of_used, chain_of_slot, chain_of_agree}
use Rattle.page.proofs.Stored.{StoredEntry, length_stored, slot_at_stored_other, entry_at_stored_other}
use Rattle.touching.proofs.Touchings.{with_slot_is, slot_at_with_slot, with_meta_is, slot_at_with_meta, with_entry_is, entry_at_with_entry}
use Rattle.writing.specs.Writing.{made, expired, kept, inserted, updated_undo, updated_data, deleted}
use Rattle.versions.specs.Versions.{older, AllWhole, Fits, Takes}

-- the chain of an occupied row: its slot, and what is older
older_used : (d u : List ℕ) (r : ℕ) → ((slot_at r d).create ≡ 0 → ⊥) → older (chain_of d u r) ≡ chain_from u r (entries u) [] (slot_at r d).undo_ptr
older_used d u r used = ap older (chain_of_used d u r used)

-- so its first version is its slot
pub chain_of_first : (d u : List ℕ) (r : ℕ) → ((slot_at r d).create ≡ 0 → ⊥)
    → chain_of d u r ≡ onto (record { place = Data r; slot = slot_at r d }) (older (chain_of d u r))
chain_of_first d u r used =
    chain_of_used d u r used
    ∙ ap (onto (record { place = Data r; slot = slot_at r d })) (sym (older_used d u r used))

-- ---- what is written fits its fields

module _ {n c r : ℕ} {d : List ℕ} (f : Fits n c r d) where
  made_fit : (ptr : ℕ) → ptr < 2 ^ 64 → SlotFit (made n c ptr)
  made_fit ptr h = fit_slot (made n c ptr) f.number (omega arith) h f.statement (omega arith)

  expired_fit : SlotFit (expired n c (slot_at r d))
  expired_fit =
      let old : SlotFit (slot_at r d) = slot_at_fit r d f.bytes f.row in
      fit_slot (expired n c (slot_at r d)) old.0 f.number old.1.1.0 old.1.1.1.0 f.statement

  number_some : n ≡ 0 → ⊥
  number_some z = omega (arith, f.some)

-- ---- whole chains stay whole: r is the row written

whole_after : (d d' u u' : List ℕ) (r : ℕ) → length d' ≡ length d
    → ((t : ℕ) → (t ≡ r → ⊥) → chain_of d' u' t ≡ chain_of d u t)
    → (chain_of d' u' r).whole ≡ true
    → AllWhole d u
    → AllWhole d' u'
whole_after d d' u u' r long other own all t h = by (eqb t r) refl
  where
    by : (b : Bool) → eqb t r ≡ b → (chain_of d' u' t).whole ≡ true
    by true k = subst (λ (x : ℕ). (chain_of d' u' x).whole ≡ true) (sym (eqb-true t r k)) own
    by false k =
        let inside : t < rows d = subst (λ (x : ℕ). t < x / 8192 * 127) long h in
        ap (λ (x : Chain). x.whole) (other t (eqb-false t r k)) ∙ all t inside

-- ---- insert: "create = S, cmd = its statement, other metadata 0"

module _ (n c r : ℕ) (body d u : List ℕ) (long : length body ≡ 32) where
  pub chain_of_inserted_other : (t : ℕ) → (t ≡ r → ⊥) → chain_of (inserted n c r body d) u t ≡ chain_of d u t
  unfolding inserted
  chain_of_inserted_other t ne =
      chain_of_agree u u t (λ ptr. refl) d (inserted n c r body d) refl (slot_at_stored_other (with_slot_is n r (made n c 0) body d long) t ne)

  module _ (f : Fits n c r d) where
    -- the one new version, whole. That the row was empty is no premise: nothing of what it held is left
    pub chain_of_inserted_own : chain_of (inserted n c r body d) u r ≡ onto (record { place = Data r; slot = made n c 0 }) (ended true)
    unfolding inserted link_of
    chain_of_inserted_own =
        chain_of_slot (inserted n c r body d) u r (made n c 0)
        (slot_at_with_slot n r (made n c 0) body d long f.row (made_fit f 0 (omega arith)))
        (number_some f)
        ∙ ap (onto (record { place = Data r; slot = made n c 0 })) (chain_from_end u r (entries u) [] 0 (ap (link_at u r) (lead_of_zero (pages u))))

    pub whole_inserted : AllWhole d u → AllWhole (inserted n c r body d) u
    unfolding inserted
    whole_inserted =
        whole_after d (inserted n c r body d) u u r (length_stored slots_lie (with_slot_is n r (made n c 0) body d long))
        chain_of_inserted_other
        (ap (λ (x : Chain). x.whole) chain_of_inserted_own)

-- ---- delete: "sets expire and expire_cmd"

module _ (n c r : ℕ) (d u : List ℕ) where
  pub chain_of_deleted_other : (t : ℕ) → (t ≡ r → ⊥) → chain_of (deleted n c r d) u t ≡ chain_of d u t
  unfolding deleted
  chain_of_deleted_other t ne =
      chain_of_agree u u t (λ ptr. refl) d (deleted n c r d) refl (slot_at_stored_other (with_meta_is n r (expired n c (slot_at r d)) d) t ne)

  module _ (f : Fits n c r d) (used : (slot_at r d).create ≡ 0 → ⊥) where
    -- the first version has its expirer, and what is older is as it was
    pub chain_of_deleted_own : chain_of (deleted n c r d) u r ≡ onto (record { place = Data r; slot = expired n c (slot_at r d) }) (older (chain_of d u r))
    unfolding deleted
    chain_of_deleted_own =
        chain_of_slot (deleted n c r d) u r (expired n c (slot_at r d))
        (slot_at_with_meta n r (expired n c (slot_at r d)) d f.row (expired_fit f))
        used
        ∙ ap (onto (record { place = Data r; slot = expired n c (slot_at r d) })) (sym (older_used d u r used))

    pub whole_deleted : AllWhole d u → AllWhole (deleted n c r d) u
    unfolding deleted
    whole_deleted all =
        whole_after d (deleted n c r d) u u r (length_stored slots_lie (with_meta_is n r (expired n c (slot_at r d)) d))
        chain_of_deleted_other
        (ap (λ (x : Chain). x.whole) chain_of_deleted_own ∙ all r f.row)
        all

-- ---- update: a free entry is taken

-- u' is u with entry e, which was free, taken for row r
record Taken (r e : ℕ) (u u' : List ℕ) : Type 0 where
  pub size : pages u' ≡ pages u
  pub free : (entry_at e u).writer ≡ 0
  pub row : (entry_at e u').row ≡ r
  pub others : (q : ℕ) → (q ≡ e → ⊥) → entry_at q u' ≡ entry_at q u

module _ {r e : ℕ} {u u' : List ℕ} (k : Taken r e u u') where
  -- before, a pointer to e breaks its chain, because e is free; afterwards it breaks the chain of another row, because e is row r's
  free_break : (t : ℕ) → link_at u t (ToEntry e) ≡ Break
  free_break t = ap (λ (b : Bool). cond b Break (To e (entry_at e u))) (unfit_free t (entry_at e u) k.free)

  other_break : (t : ℕ) → (t ≡ r → ⊥) → link_at u' t (ToEntry e) ≡ Break
  other_break t ne = ap (λ (b : Bool). cond b Break (To e (entry_at e u'))) (unfit_other t (entry_at e u') (λ z. ne (sym z ∙ k.row)))

  -- any other link is as it was
  lead_agree : (t : ℕ) (l : Lead) → (l ≡ ToEntry e → link_at u' t (ToEntry e) ≡ link_at u t (ToEntry e)) → link_at u' t l ≡ link_at u t l
  lead_agree t Nothing f = refl
  lead_agree t Astray f = refl
  lead_agree t (ToEntry q) f = by (eqb q e) refl
    where
      by : (b : Bool) → eqb q e ≡ b → link_at u' t (ToEntry q) ≡ link_at u t (ToEntry q)
      by true h =
          let same : q ≡ e = eqb-true q e h in
          subst (λ (x : ℕ). link_at u' t (ToEntry x) ≡ link_at u t (ToEntry x)) (sym same) (f (ap ToEntry same))
      by false h = ap (λ (m : Entry). cond (unfit t m) Break (To q m)) (k.others q (eqb-false q e h))

  link_agree : (t ptr : ℕ) → (lead_of (pages u) ptr ≡ ToEntry e → link_at u' t (ToEntry e) ≡ link_at u t (ToEntry e)) → link_of u' t ptr ≡ link_of u t ptr
  unfolding link_of
  link_agree t ptr f = ap (λ (n : ℕ). link_at u' t (lead_of n ptr)) k.size ∙ lead_agree t (lead_of (pages u) ptr) f

  link_other : (t : ℕ) → (t ≡ r → ⊥) → (ptr : ℕ) → link_of u' t ptr ≡ link_of u t ptr
  link_other t ne ptr = link_agree t ptr (λ h. other_break t ne ∙ sym (free_break t))

  -- a link that is no break does not lead to e
  link_met : (t ptr : ℕ) → (link_of u t ptr ≡ Break → ⊥) → link_of u' t ptr ≡ link_of u t ptr
  unfolding link_of
  link_met t ptr goes = link_agree t ptr (λ h. absurd (goes (ap (link_at u t) h ∙ free_break t)))

  link_apart : (t ptr q : ℕ) (m : Entry) → link_of u t ptr ≡ To q m → q ≡ e → ⊥
  link_apart t ptr q m h same =
      let real : Real u t ptr q m = link_real u t ptr q m h in
      real.carries.used (ap (λ (x : Entry). x.writer) real.stands ∙ ap (λ (x : ℕ). (entry_at x u).writer) same ∙ k.free)

  -- a whole chain never meets e, so it is the same chain where e is taken and counts as passed: ps are the entries passed in u, qs
  -- those passed in u'
  module _ (t : ℕ) where
    same_end : (fuel : ℕ) (ps qs : List ℕ) (ptr : ℕ) → link_of u t ptr ≡ End → chain_from u' t fuel qs ptr ≡ chain_from u t fuel ps ptr
    same_end fuel ps qs ptr h = chain_from_end u' t fuel qs ptr (link_met t ptr goes ∙ h) ∙ sym (chain_from_end u t fuel ps ptr h)
      where
        goes : link_of u t ptr ≡ Break → ⊥
        goes l = let z : ◌≡◌ {A = ℕ} 0 1 = cc in omega arith

    same_chain : (fuel : ℕ) (ps qs : List ℕ) (ptr : ℕ)
        → ((q : ℕ) → (q ≡ e → ⊥) → among q qs ≡ among q ps)
        → (chain_from u t fuel ps ptr).whole ≡ true
        → chain_from u' t fuel qs ptr ≡ chain_from u t fuel ps ptr
    unfolding among
    same_chain zero ps qs ptr s w = on (link_of u t ptr) refl
      where
        on : (l : Link) → link_of u t ptr ≡ l → chain_from u' t zero qs ptr ≡ chain_from u t zero ps ptr
        on End h = same_end zero ps qs ptr h
        on Break h = absurd (broken (chain_from u t zero ps ptr) (chain_from_break u t zero ps ptr h) w)
        on (To q m) h = absurd (broken (chain_from u t zero ps ptr) (chain_from_full u t ps ptr q m h) w)
    same_chain (suc fuel) ps qs ptr s w = on (link_of u t ptr) refl (λ q m. same_chain fuel (q ∷ ps) (q ∷ qs) m.copy.undo_ptr)
      where
        more_passed : (p q : ℕ) → (q ≡ e → ⊥) → among q (p ∷ qs) ≡ among q (p ∷ ps)
        more_passed p q ne = ap (λ (b : Bool). eqb q p || b) (s q ne)

        on : (l : Link) → link_of u t ptr ≡ l
            → ((q : ℕ) (m : Entry) → ((x : ℕ) → (x ≡ e → ⊥) → among x (q ∷ qs) ≡ among x (q ∷ ps))
            → (chain_from u t fuel (q ∷ ps) m.copy.undo_ptr).whole ≡ true
            → chain_from u' t fuel (q ∷ qs) m.copy.undo_ptr ≡ chain_from u t fuel (q ∷ ps) m.copy.undo_ptr)
            → chain_from u' t (suc fuel) qs ptr ≡ chain_from u t (suc fuel) ps ptr
        on End h g = same_end (suc fuel) ps qs ptr h
        on Break h g = absurd (broken (chain_from u t (suc fuel) ps ptr) (chain_from_break u t (suc fuel) ps ptr h) w)
        on (To q m) h g = by (among q ps) refl
          where
            goes : link_of u t ptr ≡ Break → ⊥
            goes l = let z : ◌≡◌ {A = ℕ} 0 1 = cc in omega arith

            by : (b : Bool) → among q ps ≡ b → chain_from u' t (suc fuel) qs ptr ≡ chain_from u t (suc fuel) ps ptr
            by true p = absurd (broken (chain_from u t (suc fuel) ps ptr) (chain_from_passed u t ps ptr q m h (suc fuel) p) w)
            by false p =
                let on-u : chain_from u t (suc fuel) ps ptr ≡ onto (copy_of q m) (chain_from u t fuel (q ∷ ps) m.copy.undo_ptr) =
                chain_from_on u t ps ptr q m h fuel p
                in
                chain_from_on u' t qs ptr q m (link_met t ptr goes ∙ h) fuel (s q (link_apart t ptr q m h) ∙ p)
                ∙ ap (onto (copy_of q m)) (g q m (more_passed q) (sym (ap (λ (x : Chain). x.whole) on-u) ∙ w))
                ∙ sym on-u

-- "The slot then has create = S, expire 0, a pointer to the entry": data' and undo' are what update leaves
module _ (n c r e : ℕ) (body d u : List ℕ) (f : Fits n c r d) (g : Takes r e u) (long : length body ≡ 32) where
  abbrev entry : Entry
  entry = kept n c r (slot_at r d)

  abbrev slot : Slot
  slot = made n c (pointer_to e)

  abbrev data' : List ℕ
  data' = updated_data n c r e body d

  abbrev undo' : List ℕ
  undo' = updated_undo n c r e d u

  entry_is : entry_at e undo' ≡ entry
  unfolding updated_undo
  entry_is = entry_at_with_entry n e entry (body_at r d) u (length_body_at r d f.row) g.here (f.number, (g.row, (omega arith, expired_fit f)))

  slot_is : slot_at r data' ≡ slot
  unfolding updated_data
  slot_is = slot_at_with_slot n r slot body d long f.row (made_fit f (pointer_to e) (pointer_to_below e g.entry))

  taken : Taken r e u undo'
  unfolding updated_undo
  taken =
      let w : StoredEntry e u undo' = with_entry_is n e entry (body_at r d) u (length_body_at r d f.row) in
      record {
        size = ap (λ (x : ℕ). x / 8192) (length_stored entries_lie w);
        free = g.free;
        row = ap (λ (m : Entry). m.row) entry_is;
        others = entry_at_stored_other w;
      }

  entries_same : entries undo' ≡ entries u
  entries_same = ap (λ (x : ℕ). x * 101) taken.size

  -- this asks for no wholeness: a chain of another row that led to e was broken there, because e was free, and is broken there still,
  -- because e is now row r's
  pub chain_of_updated_other : (t : ℕ) → (t ≡ r → ⊥) → chain_of (updated_data n c r e body d) (updated_undo n c r e d u) t ≡ chain_of d u t
  unfolding updated_data
  chain_of_updated_other t ne =
      chain_of_agree u undo' t (link_other taken t ne) d data' entries_same (slot_at_stored_other (with_slot_is n r slot body d long) t ne)

  module _ (used : (slot_at r d).create ≡ 0 → ⊥) where
    -- the new slot leads to the copy
    link_copy : link_of undo' r (pointer_to e) ≡ To e entry
    unfolding link_of
    link_copy =
        ap (λ (x : ℕ). link_at undo' r (lead_of x (pointer_to e))) taken.size
        ∙ ap (link_at undo' r) (lead_of_pointer_to (pages u) e g.here g.few)
        ∙ ap (λ (m : Entry). cond (unfit r m) Break (To e m)) entry_is
        ∙ ap (λ (b : Bool). cond b Break (To e entry)) (carries_unfit r entry (record { used = number_some f; row = refl; some = used }))

    module _ (whole : (chain_of d u r).whole ≡ true) where
      -- and the copy to what was older; there is one entry fewer to pass, which is fuel enough, since e was passed
      behind_copy : chain_from undo' r (entries u - 1) (e ∷ []) (slot_at r d).undo_ptr ≡ older (chain_of d u r)
      unfolding among
      behind_copy =
          let ptr : ℕ = (slot_at r d).undo_ptr in
          let was : older (chain_of d u r) ≡ chain_from u r (entries u) [] ptr = older_used d u r used in
          let all : entries u - 1 + 1 ≡ entries u = omega (arith, g.here) in
          sym (more undo' r 1 (entries u - 1) (e ∷ []) ptr (refl, tt) (omega (arith, g.here, entries_same), tt) (omega (arith, entries_same)))
          ∙ ap (λ (x : ℕ). chain_from undo' r x (e ∷ []) ptr) all
          ∙ same_chain taken r (entries u) [] (e ∷ []) ptr (λ q ne. ap (λ (b : Bool). b || false) (ne_eqb q e ne)) (sym (ap (λ (x : Chain). x.whole) was) ∙ whole)
          ∙ sym was

      pub chain_of_updated_own : chain_of (updated_data n c r e body d) (updated_undo n c r e d u) r
          ≡ onto (record { place = Data r; slot = made n c (pointer_to e) })
          (onto (record { place = Undo e; slot = expired n c (slot_at r d) }) (older (chain_of d u r)))
      unfolding among
      chain_of_updated_own =
          let size : entries undo' ≡ suc (entries u - 1) = omega (arith, g.here, entries_same) in
          chain_of_slot data' undo' r slot slot_is (number_some f)
          ∙ ap (onto (record { place = Data r; slot = slot }))
          (ap (λ (x : ℕ). chain_from undo' r x [] (pointer_to e)) size
          ∙ chain_from_on undo' r [] (pointer_to e) e entry link_copy (entries u - 1) refl
          ∙ ap (onto (copy_of e entry)) behind_copy)

    pub whole_updated : AllWhole d u → AllWhole (updated_data n c r e body d) (updated_undo n c r e d u)
    unfolding updated_data
    whole_updated all =
        whole_after d data' u undo' r (length_stored slots_lie (with_slot_is n r slot body d long)) chain_of_updated_other
        (ap (λ (x : Chain). x.whole) (chain_of_updated_own (all r f.row)) ∙ all r f.row)
        all
