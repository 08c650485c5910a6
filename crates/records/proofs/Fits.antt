-- What is read from bytes fits its fields, so that it can be written back; and what the writers store leaves bytes bytes. Assumes
-- nothing.
use mathlib.Core.Path.{◌≡◌}
use mathlib.Core.List.{List, ◌++◌}
use Prim.Native.Nat.{ℕ, ◌+◌, ◌<◌, ◌^◌}
use native.Mathlib.Omega.{arith}
use lib.ListN.{length, replicate}
use lib.Seq.{sets, length-sets}
use Rattle.little.specs.Little.{part, bytes_of, Bytes}
use Rattle.little.proofs.Parts.{length_part}
use Rattle.little.proofs.AllBytes.{bytes_part, bytes_sets, bytes_append, bytes_bytes_of, bytes_zeros, little_part_below}
use Rattle.kind.specs.Kind.{rows, entries}
use Rattle.kind.specs.Place.{record_at}
use Rattle.kind.proofs.Places.{length_record_at}
use Rattle.records.specs.declared.slot.Slot.{Slot}
use Rattle.records.specs.declared.entry.Entry.{Entry}
use Rattle.records.specs.Slot.{slot_of, slot_fields, slot_place, slot_bytes, slot_at, put_slot, put_meta, clear_slot}
use Rattle.records.specs.Entry.{entry_of, entry_fields, entry_place, entry_bytes, entry_at, put_entry, put_copy, clear_entry}
use Rattle.records.proofs.Slots.{SlotFit, slots_lie, slot_inside}
use Rattle.records.proofs.Entries.{entries_lie, entry_inside}

-- ---- what is read fits

pub fit_slot : (m : Slot) → m.create < 2 ^ 64 → m.expire < 2 ^ 64 → m.undo_ptr < 2 ^ 64 → m.cmd < 2 ^ 32 → m.expire_cmd < 2 ^ 32 → SlotFit m
fit_slot m a b p x y = (a, (b, (p, (x, (y, tt)))))

slot_of_fit : (b : List ℕ) → Bytes b → length b ≡ 64 → SlotFit (slot_of b)
unfolding slot_of
slot_of_fit b own long =
    fit_slot (slot_of b)
    (little_part_below 0 8 b own (omega arith))
    (little_part_below 8 8 b own (omega arith))
    (little_part_below 16 8 b own (omega arith))
    (little_part_below 24 4 b own (omega arith))
    (little_part_below 28 4 b own (omega arith))

pub slot_at_fit : (r : ℕ) (d : List ℕ) → Bytes d → r < rows d → SlotFit (slot_at r d)
unfolding slot_at record_at
slot_at_fit r d b h =
    slot_of_fit (slot_bytes r d) (bytes_part (slot_place r) 64 d b) (length_record_at slots_lie r d (slot_inside r d h))

pub copy_fit : (e : ℕ) (u : List ℕ) → Bytes u → e < entries u → SlotFit (entry_at e u).copy
unfolding entry_at entry_of record_at
copy_fit e u b h =
    let long : length (entry_bytes e u) ≡ 80 = length_record_at entries_lie e u (entry_inside e u h) in
    slot_of_fit (part 16 64 (entry_bytes e u)) (bytes_part 16 64 (entry_bytes e u) (bytes_part (entry_place e) 80 u b))
    (length_part 16 64 (entry_bytes e u) (omega arith))

-- ---- the length stays, whatever body is written

pub length_put_slot : (r : ℕ) (m : Slot) (body d : List ℕ) → length (put_slot r m body d) ≡ length d
unfolding put_slot
length_put_slot r m body d = length-sets d (slot_place r) (bytes_of (slot_fields m) ++ body)

pub length_put_entry : (e : ℕ) (m : Entry) (body u : List ℕ) → length (put_entry e m body u) ≡ length u
unfolding put_entry
length_put_entry e m body u = length-sets u (entry_place e) (bytes_of (entry_fields m) ++ body)

-- ---- bytes stay bytes

-- fields with a body behind them, stored at any place
bytes_stored : (at : ℕ) (fs : List (ℕ × ℕ)) (body s : List ℕ) → Bytes body → Bytes s → Bytes (sets s at (bytes_of fs ++ body))
bytes_stored at fs body s own b =
    bytes_sets (bytes_of fs ++ body) s at (bytes_append (bytes_of fs) body (bytes_bytes_of fs) own) b

module _ (r : ℕ) (d : List ℕ) (b : Bytes d) where
  pub bytes_put_meta : (m : Slot) → Bytes (put_meta r m d)
  unfolding put_meta
  bytes_put_meta m = bytes_sets (bytes_of (slot_fields m)) d (slot_place r) (bytes_bytes_of (slot_fields m)) b

  pub bytes_put_slot : (m : Slot) (body : List ℕ) → Bytes body → Bytes (put_slot r m body d)
  unfolding put_slot
  bytes_put_slot m body own = bytes_stored (slot_place r) (slot_fields m) body d own b

  pub bytes_clear_slot : Bytes (clear_slot r d)
  unfolding clear_slot
  bytes_clear_slot = bytes_sets (replicate 64 0) d (slot_place r) (bytes_zeros 64) b

module _ (e : ℕ) (u : List ℕ) (b : Bytes u) where
  pub bytes_put_entry : (m : Entry) (body : List ℕ) → Bytes body → Bytes (put_entry e m body u)
  unfolding put_entry
  bytes_put_entry m body own = bytes_stored (entry_place e) (entry_fields m) body u own b

  pub bytes_put_copy : (m : Slot) → Bytes (put_copy e m u)
  unfolding put_copy
  bytes_put_copy m = bytes_sets (bytes_of (slot_fields m)) u (entry_place e + 16) (bytes_bytes_of (slot_fields m)) b

  pub bytes_clear_entry : Bytes (clear_entry e u)
  unfolding clear_entry
  bytes_clear_entry = bytes_sets (replicate 80 0) u (entry_place e) (bytes_zeros 80) b
