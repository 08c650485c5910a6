-- Insert, update, delete, withdraw and sweep keep every header right but for its checksum ("01, The page", "01, Writes, withdrawal,
-- sweep"), whatever they write. Assumes nothing.
use mathlib.Core.Path.{◌≡◌}
use mathlib.Core.List.{List}
use Prim.Native.Nat.{ℕ, ◌≤◌}
use native.Mathlib.Omega.{arith}
use lib.ListN.{length}
use Rattle.little.specs.Little.{Bytes}
use Rattle.kind.specs.Kind.{data_kind, undo_kind}
use Rattle.kind.specs.Areas.{Both}
use Rattle.pointer.specs.Pointer.{pointer_to}
use Rattle.records.specs.declared.slot.Slot.{Slot}
use Rattle.records.specs.Slot.{slot_at, body_at, unlinked}
use Rattle.records.proofs.Bodies.{body_at_short, copy_body_at_short, bytes_body_at, bytes_copy_body_at}
use Rattle.chain.specs.declared.Place.{Place}
use Rattle.chain.specs.declared.Place.TheVariants.{Nowhere, Data, Undo}
use Rattle.writing.specs.Writing.{made, expired, kept, inserted, updated_undo, updated_data, deleted}
use Rattle.putback.specs.PutBack.{freed_at, copy_body}
use Rattle.undoing.specs.Undoing.{undone}
use Rattle.trimming.specs.Trimming.{swept_at, cut_at}
use Rattle.sweeping.specs.Sweeping.{swept_from}
use Rattle.outcomes.proofs.Kept.{Withdraws, Trims, undone_keeps, swept_keeps}
use Rattle.keep.proofs.Promises.{Sealable}
use Rattle.upheld.proofs.Records.{sealable_with_slot, sealable_with_meta, sealable_with_entry, sealable_without_slot, sealable_without_entry, sealable_swept_slot, sealable_swept_entry, sealable_cut_slot, sealable_cut_copy}

-- ---- the body of a copy, or none

copy_body_short : (x : Place) (u : List ℕ) → length (copy_body x u) ≤ 32
copy_body_short (Undo e) u = copy_body_at_short e u
copy_body_short (Data r) u = omega arith
copy_body_short Nowhere u = omega arith

bytes_copy_body : (x : Place) (u : List ℕ) → Bytes u → Bytes (copy_body x u)
bytes_copy_body (Undo e) u b = bytes_copy_body_at e u b
bytes_copy_body (Data r) u b = tt
bytes_copy_body Nowhere u b = tt

-- ---- insert, delete, update

pub sealable_inserted : (n c r : ℕ) (body d : List ℕ) → length body ≡ 32 → Bytes body → Sealable data_kind d
    → Sealable data_kind (inserted n c r body d)
unfolding inserted
sealable_inserted n c r body d long b h = sealable_with_slot r d h n (made n c 0) body (omega arith) b

pub sealable_deleted : (n c r : ℕ) (d : List ℕ) → Sealable data_kind d → Sealable data_kind (deleted n c r d)
unfolding deleted
sealable_deleted n c r d h = sealable_with_meta r d h n (expired n c (slot_at r d))

pub sealable_updated_data : (n c r e : ℕ) (body d : List ℕ) → length body ≡ 32 → Bytes body → Sealable data_kind d
    → Sealable data_kind (updated_data n c r e body d)
unfolding updated_data
sealable_updated_data n c r e body d long b h = sealable_with_slot r d h n (made n c (pointer_to e)) body (omega arith) b

pub sealable_updated_undo : (n c r e : ℕ) (d u : List ℕ) → Bytes d → Sealable undo_kind u
    → Sealable undo_kind (updated_undo n c r e d u)
unfolding updated_undo
sealable_updated_undo n c r e d u b h =
    sealable_with_entry e u h n (kept n c r (slot_at r d)) (body_at r d) (body_at_short r d) (bytes_body_at r d b)

-- ---- data and undo together

abbrev Upright : Both → Type 0
Upright p = Sealable data_kind p.«data» × Sealable undo_kind p.undo

-- ---- withdraw

freed_at_upright : (n : ℕ) (x : Place) (u : List ℕ) → Sealable undo_kind u → Sealable undo_kind (freed_at n x u)
freed_at_upright n (Undo e) u h = sealable_without_entry e u h n
freed_at_upright n (Data r) u h = h
freed_at_upright n Nowhere u h = h

withdraws_upright : (n : ℕ) → Withdraws n Upright
withdraws_upright n =
    record {
      empties = λ r p h. (sealable_without_slot r p.«data» h.0 n, h.1);
      clears = λ r m p h. (sealable_with_meta r p.«data» h.0 n m, h.1);
      puts = λ r m x p h. (
        sealable_with_slot r p.«data» h.0 n m (copy_body x p.undo) (copy_body_short x p.undo) (bytes_copy_body x p.undo h.1.bytes),
        freed_at_upright n x p.undo h.1,
      );
      frees = λ x p h. (h.0, freed_at_upright n x p.undo h.1);
    }

pub sealable_undone : (n k : ℕ) (d u : List ℕ) → Sealable data_kind d → Sealable undo_kind u
    → Sealable data_kind (undone n k d u).«data» × Sealable undo_kind (undone n k d u).undo
sealable_undone n k d u hd hu = undone_keeps n k Upright (withdraws_upright n) d u (hd, hu)

-- ---- sweep

swept_at_upright : (x : Place) (u : List ℕ) → Sealable undo_kind u → Sealable undo_kind (swept_at x u)
swept_at_upright (Undo e) u h = sealable_swept_entry e u h
swept_at_upright (Data r) u h = h
swept_at_upright Nowhere u h = h

cut_at_upright : (x : Place) (m : Slot) (p : Both) → Upright p → Upright (cut_at x m p)
cut_at_upright (Data r) m p h = (sealable_cut_slot r p.«data» h.0 (unlinked m), h.1)
cut_at_upright (Undo e) m p h = (h.0, sealable_cut_copy e p.undo h.1 (unlinked m))
cut_at_upright Nowhere m p h = h

trims_upright : Trims Upright
trims_upright =
    record {
      empties = λ r p h. (sealable_swept_slot r p.«data» h.0, h.1);
      frees = λ x p h. (h.0, swept_at_upright x p.undo h.1);
      cuts = cut_at_upright;
    }

pub sealable_swept : (m : ℕ) (s : List ℕ) (first n : ℕ) (p : Both) → Sealable data_kind p.«data»
    → Sealable undo_kind p.undo
    → Sealable data_kind (swept_from m s first n p).«data» × Sealable undo_kind (swept_from m s first n p).undo
sealable_swept m s first n p hd hu = swept_keeps m s Upright trims_upright first n p (hd, hu)
