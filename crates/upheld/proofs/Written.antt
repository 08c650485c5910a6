-- What insert, update and delete make of the rows, seen as the machine's ("01, Writes, withdrawal, sweep"): the row written has the
-- versions that the machine says, and every other row is as it was. Each write keeps the length. Assumes nothing.
use mathlib.Core.Path.{◌≡◌, refl, sym, ap, ap₂, subst, ◌∙◌}
use mathlib.Core.Bool.{Bool, true, false, cond}
use mathlib.Core.List.{List, [], ◌∷◌}
use Prim.Native.Nat.{ℕ, ◌/◌, ◌*◌, ◌<◌}
use lib.ListN.{length}
use lib.Dec.{eqb, ltb}
use borrow.Author.Tests.{eqb-true, eqb-false, lt-ltb}
use Rattle.kind.specs.Kind.{rows, entries}
use Rattle.pointer.specs.Pointer.{pointer_to}
use Rattle.records.specs.declared.slot.Slot.{Slot}
use Rattle.records.specs.declared.entry.Entry.{Entry}
use Rattle.records.specs.Slot.{slot_at, body_at}
use Rattle.records.specs.Entry.{entry_at, copy_body_at}
use Rattle.records.proofs.Bodies.{length_body_at}
use Rattle.page.proofs.Stored.{body_at_stored_other, copy_body_at_stored_other}
use Rattle.touching.proofs.Touchings.{with_slot_is, body_at_with_slot, with_meta_is, body_at_with_meta, with_entry_is, copy_body_at_with_entry, length_with_meta, length_with_slot, length_with_entry}
use Rattle.writing.specs.Writing.{made, expired, kept, inserted, updated_undo, updated_data, deleted}
use Rattle.chain.specs.declared.Place.{Place}
use Rattle.chain.specs.declared.Place.TheVariants.{Nowhere, Data, Undo}
use Rattle.chain.specs.Chain.{Version, Chain, chain_from, chain_of}
use Rattle.chain.specs.Walk.{body_of}
use Rattle.chain.proofs.Bodies.{slot_body}
use Rattle.chain.proofs.Links.{link_real}
use Rattle.chain.proofs.Rows.{chain_of_empty, chain_of_used}
use Rattle.versions.specs.Versions.{older, Fits, Takes}
use Rattle.versions.proofs.Versions.{chain_of_first, chain_of_inserted_other, chain_of_inserted_own, chain_of_deleted_other, chain_of_deleted_own, chain_of_updated_other, chain_of_updated_own}
use Rattle.strands.specs.Strands.{entry_in, Strand}
use Rattle.strands.proofs.Runs.{step_place, step_entry, chain_strand}
use Rattle.machine.specs.Table.{put}
use Rattle.machine.specs.Machine.{Version as Held, fresh, expire_first}
use Rattle.seen.specs.Seen.{all_held, row_of}

-- ---- where the versions of a row lie

-- P holds of the place of every version
abbrev Each : (Place → Type 0) → List Version → Type 0
Each P [] = Unit
Each P (x ∷ xs) = P x.place × Each P xs

-- an entry in use
abbrev InUse : List ℕ → Place → Type 0
InUse u Nowhere = ⊥
InUse u (Data r) = ⊥
InUse u (Undo e) = (entry_at e u).writer ≡ 0 → ⊥

strand_each : (u : List ℕ) (r : ℕ) (w : Bool) (ps : List ℕ) (ptr : ℕ) (xs : List Version) → Strand u r w ps ptr xs → Each (InUse u) xs
strand_each u r w ps ptr [] s = tt
strand_each u r w ps ptr (x ∷ xs) s = (
  subst (InUse u) (sym (step_place s.0))
      (subst (λ (m : Entry). m.writer ≡ 0 → ⊥) (step_entry s.0) (link_real u r ptr (entry_in x) s.0.entry s.0.to).carries.used),
  strand_each u r w (entry_in x ∷ ps) x.slot.undo_ptr xs s.1,
)

-- what is older than the slot lies in entries in use
older_each : (d u : List ℕ) (r : ℕ) → ((slot_at r d).create ≡ 0 → ⊥) → Each (InUse u) (older (chain_of d u r)).versions
older_each d u r used =
    let from : Chain = chain_from u r (entries u) [] (slot_at r d).undo_ptr in
    subst (λ (c : Chain). Each (InUse u) (older c).versions) (sym (chain_of_used d u r used))
    (strand_each u r from.whole [] (slot_at r d).undo_ptr from.versions (chain_strand u r (entries u) [] (slot_at r d).undo_ptr))

-- ---- bodies

-- a version as the machine has it, by its metadata and its body
abbrev pub held : Slot → List ℕ → Held
held m b = record { create = m.create; cmd = m.cmd; expire = m.expire; expire_cmd = m.expire_cmd; body = b }

-- d' and u' are d and u with row r written: the bodies of other slots and of entries in use are as they were
record Leaves (r : ℕ) (d d' u u' : List ℕ) : Type 0 where
  pub size_data : length d' ≡ length d
  pub size_undo : length u' ≡ length u
  pub slots : (t : ℕ) → (t ≡ r → ⊥) → body_at t d' ≡ body_at t d
  pub copies : (e : ℕ) → ((entry_at e u).writer ≡ 0 → ⊥) → copy_body_at e u' ≡ copy_body_at e u

module _ (r : ℕ) (d d' u u' : List ℕ) (k : Leaves r d d' u u') where
  -- what the row's slot and an entry then carry
  slot_now : r < rows d → body_of (Data r) d' u' ≡ body_at r d'
  slot_now h = slot_body d' u' r (subst (λ (x : ℕ). r < x / 8192 * 127) (sym k.size_data) h)

  copy_now : (e : ℕ) → e < entries u → body_of (Undo e) d' u' ≡ copy_body_at e u'
  unfolding body_of
  copy_now e h = rw (k.size_undo, lt-ltb e (entries u) h)

  slot_kept : (t : ℕ) → (t ≡ r → ⊥) → body_of (Data t) d' u' ≡ body_of (Data t) d u
  unfolding body_of
  slot_kept t ne = ap₂ (λ (n : ℕ) (b : List ℕ). cond (ltb t (n / 8192 * 127)) b []) k.size_data (k.slots t ne)

  copy_kept : (p : Place) → InUse u p → body_of p d' u' ≡ body_of p d u
  unfolding body_of
  copy_kept Nowhere h = refl
  copy_kept (Data t) h = absurd h
  copy_kept (Undo e) h = ap₂ (λ (n : ℕ) (b : List ℕ). cond (ltb e (n / 8192 * 101)) b []) k.size_undo (k.copies e h)

  copies_kept : (xs : List Version) → Each (InUse u) xs → all_held d' u' xs ≡ all_held d u xs
  copies_kept [] h = refl
  copies_kept (x ∷ xs) h = ap₂ (λ (b : List ℕ) (vs : List Held). held x.slot b ∷ vs) (copy_kept x.place h.0) (copies_kept xs h.1)

  older_kept : (t : ℕ) → ((slot_at t d).create ≡ 0 → ⊥)
      → all_held d' u' (older (chain_of d u t)).versions ≡ all_held d u (older (chain_of d u t)).versions
  older_kept t used = copies_kept (older (chain_of d u t)).versions (older_each d u t used)

  -- another row whose chain is as it was
  other_kept : (t : ℕ) → (t ≡ r → ⊥) → chain_of d' u' t ≡ chain_of d u t
      → all_held d' u' (chain_of d' u' t).versions ≡ all_held d u (chain_of d u t).versions
  other_kept t ne same = ap (λ (c : Chain). all_held d' u' c.versions) same ∙ by (eqb (slot_at t d).create 0) refl
    where
      Kept : Chain → Type 0
      Kept c = all_held d' u' c.versions ≡ all_held d u c.versions

      by : (b : Bool) → eqb (slot_at t d).create 0 ≡ b → Kept (chain_of d u t)
      by true h = subst Kept (sym (chain_of_empty d u t (eqb-true (slot_at t d).create 0 h))) refl
      by false h =
          let used : (slot_at t d).create ≡ 0 → ⊥ = eqb-false (slot_at t d).create 0 h in
          subst Kept (sym (chain_of_first d u t used))
          (ap₂ (λ (b : List ℕ) (vs : List Held). held (slot_at t d) b ∷ vs) (slot_kept t ne) (older_kept t used))

  -- so all rows, where r then has the versions vs
  rows_put : (vs : List Held) → r < rows d → ((t : ℕ) → (t ≡ r → ⊥) → chain_of d' u' t ≡ chain_of d u t)
      → all_held d' u' (chain_of d' u' r).versions ≡ vs
      → (q : ℕ) → row_of d' u' q ≡ put (row_of d u) r vs q
  rows_put vs row other own q = by (eqb q r) refl
    where
      sized : row_of d' u' q ≡ cond (ltb q (rows d)) (all_held d' u' (chain_of d' u' q).versions) []
      sized = ap (λ (n : ℕ). cond (ltb q (n / 8192 * 127)) (all_held d' u' (chain_of d' u' q).versions) []) k.size_data

      by : (b : Bool) → eqb q r ≡ b → row_of d' u' q ≡ cond b vs (row_of d u q)
      by true h =
          let here : q ≡ r = eqb-true q r h in
          sized
          ∙ ap (λ (t : ℕ). cond (ltb t (rows d)) (all_held d' u' (chain_of d' u' t).versions) []) here
          ∙ ap (λ (b : Bool). cond b (all_held d' u' (chain_of d' u' r).versions) []) (lt-ltb r (rows d) row)
          ∙ own
      by false h =
          let ne : q ≡ r → ⊥ = eqb-false q r h in
          sized ∙ ap (λ (vs : List Held). cond (ltb q (rows d)) vs []) (other_kept q ne (other q ne))

-- the row as it was: its slot's version, and what is older
row_first : (d u : List ℕ) (r : ℕ) → r < rows d → ((slot_at r d).create ≡ 0 → ⊥)
    → row_of d u r ≡ held (slot_at r d) (body_at r d) ∷ all_held d u (older (chain_of d u r)).versions
row_first d u r row used =
    ap (λ (b : Bool). cond b (all_held d u (chain_of d u r).versions) []) (lt-ltb r (rows d) row)
    ∙ ap (λ (c : Chain). all_held d u c.versions) (chain_of_first d u r used)
    ∙ ap (λ (b : List ℕ). held (slot_at r d) b ∷ all_held d u (older (chain_of d u r)).versions) (slot_body d u r row)

-- ---- lengths

pub length_inserted : (n c r : ℕ) (body d : List ℕ) → length (inserted n c r body d) ≡ length d
unfolding inserted
length_inserted n c r body d = length_with_slot n r (made n c 0) d body

pub length_deleted : (n c r : ℕ) (d : List ℕ) → length (deleted n c r d) ≡ length d
unfolding deleted
length_deleted n c r d = length_with_meta n r (expired n c (slot_at r d)) d

pub length_updated_data : (n c r e : ℕ) (body d : List ℕ) → length (updated_data n c r e body d) ≡ length d
unfolding updated_data
length_updated_data n c r e body d = length_with_slot n r (made n c (pointer_to e)) d body

pub length_updated_undo : (n c r e : ℕ) (d u : List ℕ) → length (updated_undo n c r e d u) ≡ length u
unfolding updated_undo
length_updated_undo n c r e d u = length_with_entry n e (kept n c r (slot_at r d)) (body_at r d) u

-- ---- insert

module _ (n c r : ℕ) (body d u : List ℕ) (long : length body ≡ 32) (f : Fits n c r d) where
  inserted_leaves : Leaves r d (inserted n c r body d) u u
  unfolding inserted
  inserted_leaves =
      record {
        size_data = length_inserted n c r body d;
        size_undo = refl;
        slots = body_at_stored_other (with_slot_is n r (made n c 0) body d long);
        copies = λ e h. refl;
      }

  inserted_body : body_at r (inserted n c r body d) ≡ body
  unfolding inserted
  inserted_body = body_at_with_slot n r (made n c 0) body d long f.row

  pub insert_rows : (q : ℕ) → row_of (inserted n c r body d) u q ≡ put (row_of d u) r (fresh n c body ∷ []) q
  insert_rows =
      rows_put r d (inserted n c r body d) u u inserted_leaves (fresh n c body ∷ []) f.row (chain_of_inserted_other n c r body d u long)
      (ap (λ (x : Chain). all_held (inserted n c r body d) u x.versions) (chain_of_inserted_own n c r body d u long f)
      ∙ ap (λ (b : List ℕ). fresh n c b ∷ [])
      (slot_now r d (inserted n c r body d) u u inserted_leaves f.row ∙ inserted_body))

-- ---- delete

module _ (n c r : ℕ) (d u : List ℕ) (f : Fits n c r d) (used : (slot_at r d).create ≡ 0 → ⊥) where
  deleted_leaves : Leaves r d (deleted n c r d) u u
  unfolding deleted
  deleted_leaves =
      record {
        size_data = length_deleted n c r d;
        size_undo = refl;
        slots = body_at_stored_other (with_meta_is n r (expired n c (slot_at r d)) d);
        copies = λ e h. refl;
      }

  deleted_body : body_at r (deleted n c r d) ≡ body_at r d
  unfolding deleted
  deleted_body = body_at_with_meta n r (expired n c (slot_at r d)) d f.row

  pub delete_rows : (q : ℕ) → row_of (deleted n c r d) u q ≡ put (row_of d u) r (expire_first n c (row_of d u r)) q
  delete_rows =
      rows_put r d (deleted n c r d) u u deleted_leaves (expire_first n c (row_of d u r)) f.row (chain_of_deleted_other n c r d u)
      (ap (λ (x : Chain). all_held (deleted n c r d) u x.versions) (chain_of_deleted_own n c r d u f used)
      ∙ ap₂ (λ (b : List ℕ) (vs : List Held). held (expired n c (slot_at r d)) b ∷ vs)
      (slot_now r d (deleted n c r d) u u deleted_leaves f.row ∙ deleted_body)
      (older_kept r d (deleted n c r d) u u deleted_leaves r used)
      ∙ sym (ap (expire_first n c) (row_first d u r f.row used)))

-- ---- update

module _ (n c r e : ℕ) (body d u : List ℕ) (f : Fits n c r d) (g : Takes r e u) (long : length body ≡ 32) where
  -- the entry taken was free, so it is none of those in use
  updated_leaves : Leaves r d (updated_data n c r e body d) u (updated_undo n c r e d u)
  unfolding updated_data updated_undo
  updated_leaves =
      record {
        size_data = length_updated_data n c r e body d;
        size_undo = length_updated_undo n c r e d u;
        slots = body_at_stored_other (with_slot_is n r (made n c (pointer_to e)) body d long);
        copies =
            λ t h.
            copy_body_at_stored_other (with_entry_is n e (kept n c r (slot_at r d)) (body_at r d) u (length_body_at r d f.row)) t
            (λ z. h (ap (λ (x : ℕ). (entry_at x u).writer) z ∙ g.free));
      }

  updated_body : body_at r (updated_data n c r e body d) ≡ body
  unfolding updated_data
  updated_body = body_at_with_slot n r (made n c (pointer_to e)) body d long f.row

  updated_copy : copy_body_at e (updated_undo n c r e d u) ≡ body_at r d
  unfolding updated_undo
  updated_copy = copy_body_at_with_entry n e (kept n c r (slot_at r d)) (body_at r d) u (length_body_at r d f.row) g.here

  module _ (used : (slot_at r d).create ≡ 0 → ⊥) (whole : (chain_of d u r).whole ≡ true) where
    pub update_rows : (q : ℕ) → row_of (updated_data n c r e body d) (updated_undo n c r e d u) q
        ≡ put (row_of d u) r (fresh n c body ∷ expire_first n c (row_of d u r)) q
    update_rows =
        rows_put r d d' u u' updated_leaves (fresh n c body ∷ expire_first n c (row_of d u r)) f.row
        (chain_of_updated_other n c r e body d u f g long)
        (ap (λ (x : Chain). all_held d' u' x.versions) (chain_of_updated_own n c r e body d u f g long used whole)
        ∙ ap₂ (λ (b : List ℕ) (vs : List Held). fresh n c b ∷ vs)
        (slot_now r d d' u u' updated_leaves f.row ∙ updated_body)
        (ap₂ (λ (b : List ℕ) (vs : List Held). held (expired n c (slot_at r d)) b ∷ vs)
        (copy_now r d d' u u' updated_leaves e g.here ∙ updated_copy)
        (older_kept r d d' u u' updated_leaves r used)
        ∙ sym (ap (expire_first n c) (row_first d u r f.row used))))
      where
        d' : List ℕ
        d' = updated_data n c r e body d

        u' : List ℕ
        u' = updated_undo n c r e d u
