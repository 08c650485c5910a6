-- Accepted inserts, updates and deletes, byte by byte ("01, The page", "01, Writes, withdrawal, sweep"): the page of the row that is
-- written, and of the entry that is taken, gets the session's number and its count, and nothing else is written. Assumes nothing.
use mathlib.Core.Path.{◌≡◌, refl, sym, ap, subst, ◌∙◌}
use mathlib.Core.List.{List}
use Prim.Native.Nat.{ℕ, ◌^◌, ◌<◌}
use native.Mathlib.Omega.{arith}
use Rattle.places.specs.Open.{place_in}
use Rattle.desk.specs.declared.Desk.{Desk}
use Rattle.kind.specs.Kind.{data_kind, undo_kind}
use Rattle.kind.specs.Areas.{Areas}
use Rattle.records.specs.Slot.{slot_bytes, slot_at, body_at}
use Rattle.records.specs.Entry.{entry_bytes}
use Rattle.records.proofs.Bodies.{length_body_at, body_at_short}
use Rattle.pointer.specs.Pointer.{pointer_to}
use Rattle.vacant.specs.Vacant.{lowest_empty, lowest_free}
use Rattle.admit.proofs.Admissions.{admits_session}
use Rattle.writing.specs.Writing.{made, expired, kept, inserted, updated_undo, updated_data, deleted}
use Rattle.rows.specs.Rows.{view_in, updated}
use Rattle.rows.proofs.Accepted.{Session, inserts, insert_does, deletes, delete_does, updates, update_does}
use Rattle.touching.proofs.Touchings.{slot_bytes_with_slot, slot_bytes_with_meta, entry_bytes_with_entry}
use Rattle.traces.specs.Traces.{Touched, TouchedAt, InsertTouches, DeleteTouches, UpdateTouches, InsertBytes, DeleteBytes, UpdateBytes}
use Rattle.traces.proofs.Records.{with_slot_touches, with_meta_touches, with_entry_touches}

-- an admitted session's number fits its field
module _ (a : Areas) (d : Desk) (x : ℕ) where
  number_fits : Session a.«data» a.undo a.status d x → x < 2 ^ 64
  number_fits h = omega (arith, admits_session a.«data» a.undo a.status d x (place_in x d.numbers) h)

pub insert_touches : InsertTouches
unfolding inserted
insert_touches a d x body ok =
    let i = inserts a.«data» a.undo a.status d x body ok in
    subst (λ (y : (ℕ × ℕ) × List ℕ). TouchedAt data_kind (Touched data_kind x) (lowest_empty a.«data») a.«data» y.1)
    (sym (insert_does a.«data» a.undo a.status d x body ok))
    (with_slot_touches x (number_fits a d x i.session) (lowest_empty a.«data») a.«data» i.room
    (made x (view_in d x).statement 0) body (omega (arith, i.long)))

pub delete_touches : DeleteTouches
unfolding deleted
delete_touches a d x r ok =
    let i = deletes a.«data» a.undo a.status d x r ok in
    subst (λ (y : (ℕ × Desk) × List ℕ). TouchedAt data_kind (Touched data_kind x) r a.«data» y.1)
    (sym (delete_does a.«data» a.undo a.status d x r ok))
    (with_meta_touches x (number_fits a d x i.session) r a.«data» i.writable.inside
    (expired x (view_in d x).statement (slot_at r a.«data»)))

pub update_touches : UpdateTouches
unfolding updated updated_data updated_undo
update_touches a d x r body ok =
    let i = updates a.«data» a.undo a.status d x r body ok in
    let fits : x < 2 ^ 64 = number_fits a d x i.session in
    let e : ℕ = lowest_free a.undo in
    let c : ℕ = (view_in d x).statement in
    subst
    (λ (y : (ℕ × Desk) × Areas).
    TouchedAt data_kind (Touched data_kind x) r a.«data» y.1.«data»
    × TouchedAt undo_kind (Touched undo_kind x) (lowest_free a.undo) a.undo y.1.undo
    × (y.1.status ≡ a.status))
    (sym (update_does a.«data» a.undo a.status d x r body ok)) (
      with_slot_touches x fits r a.«data» i.writable.inside (made x c (pointer_to e)) body (omega (arith, i.long)),
      with_entry_touches x fits e a.undo i.room (kept x c r (slot_at r a.«data»)) (body_at r a.«data») (body_at_short r a.«data»),
      refl,
    )

-- ---- what is written, byte by byte

pub insert_bytes : InsertBytes
unfolding inserted
insert_bytes a d x body ok =
    let i = inserts a.«data» a.undo a.status d x body ok in
    ap (λ (y : (ℕ × ℕ) × List ℕ). slot_bytes (lowest_empty a.«data») y.1) (insert_does a.«data» a.undo a.status d x body ok)
    ∙ slot_bytes_with_slot x (lowest_empty a.«data») (made x (view_in d x).statement 0) a.«data» i.room body i.long

pub delete_bytes : DeleteBytes
unfolding deleted
delete_bytes a d x r ok =
    let i = deletes a.«data» a.undo a.status d x r ok in
    ap (λ (y : (ℕ × Desk) × List ℕ). slot_bytes r y.1) (delete_does a.«data» a.undo a.status d x r ok)
    ∙ slot_bytes_with_meta x r (expired x (view_in d x).statement (slot_at r a.«data»)) a.«data» i.writable.inside

pub update_bytes : UpdateBytes
unfolding updated updated_data updated_undo
update_bytes a d x r body ok =
    let i = updates a.«data» a.undo a.status d x r body ok in
    let does = update_does a.«data» a.undo a.status d x r body ok in
    let e : ℕ = lowest_free a.undo in
    let c : ℕ = (view_in d x).statement in (
      ap (λ (y : (ℕ × Desk) × Areas). slot_bytes r y.1.«data») does
          ∙ slot_bytes_with_slot x r (made x c (pointer_to e)) a.«data» i.writable.inside body i.long,
      ap (λ (y : (ℕ × Desk) × Areas). entry_bytes e y.1.undo) does
          ∙ entry_bytes_with_entry x e (kept x c r (slot_at r a.«data»)) (body_at r a.«data») a.undo i.room (length_body_at r a.«data» i.writable.inside),
    )
