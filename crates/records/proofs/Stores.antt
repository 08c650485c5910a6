-- Records whose metadata is written, that are emptied or freed, or have their pointer cut, byte by byte ("01, The page": "Whatever is
-- emptied or freed becomes all zeros"). Assumes nothing.
use mathlib.Core.Path.{◌≡◌, refl, sym, ap, ◌∙◌}
use mathlib.Core.List.{List, ◌++◌}
use Prim.Native.Nat.{ℕ, ◌+◌, ◌≤◌, ◌<◌}
use native.Mathlib.Omega.{arith}
use lib.ListN.{length, drop, replicate, length-drop, length-replicate}
use lib.Seq.{sets, length-sets, take_all}
use Rattle.little.specs.Little.{little, digits, part, bytes_of, Bytes}
use Rattle.little.proofs.Parts.{part_sets_below, part_sets_above, sets_front}
use Rattle.little.proofs.AllBytes.{bytes_part, bytes_sets, bytes_zeros, sets_little}
use Rattle.kind.specs.Kind.{rows, entries}
use Rattle.kind.specs.Place.{record_at}
use Rattle.kind.proofs.Places.{length_record_at, record_at_sets, record_at_front, record_at_store}
use Rattle.records.specs.declared.slot.Slot.{Slot}
use Rattle.records.specs.Slot.{slot_of, slot_fields, slot_place, slot_bytes, slot_at, body_at, put_meta, clear_slot, unlinked}
use Rattle.records.specs.Entry.{entry_of, entry_place, entry_bytes, entry_at, put_copy, clear_entry}
use Rattle.records.proofs.Slots.{slots_lie, slot_inside, length_slot_fields, slot_of_read, slot_fields_stores}
use Rattle.records.proofs.Entries.{entries_lie, entry_inside}

-- ---- metadata written: the body stays

pub slot_bytes_put_meta : (r : ℕ) (m : Slot) (s : List ℕ) → r < rows s → slot_bytes r (put_meta r m s) ≡ bytes_of (slot_fields m) ++ body_at r s
unfolding put_meta body_at part
slot_bytes_put_meta r m s row =
    let vs : List ℕ = bytes_of (slot_fields m) in
    let long : length (slot_bytes r s) ≡ 64 = length_record_at slots_lie r s (slot_inside r s row) in
    record_at_front slots_lie r s vs (omega (arith, length_slot_fields m))
    ∙ sets_front (slot_bytes r s) vs (omega (arith, length_slot_fields m))
    ∙ ap (λ (n : ℕ). vs ++ drop n (slot_bytes r s)) (length_slot_fields m)
    ∙ ap (λ (l : List ℕ). vs ++ l) (sym (take_all 32 (drop 32 (slot_bytes r s)) (omega (arith, length-drop 32 (slot_bytes r s)))))

-- ---- emptied and freed

pub slot_bytes_clear_slot : (r : ℕ) (s : List ℕ) → r < rows s → slot_bytes r (clear_slot r s) ≡ replicate 64 0
unfolding clear_slot
slot_bytes_clear_slot r s row = record_at_sets slots_lie r s (replicate 64 0) (length-replicate {A = ℕ} 64 0) (slot_inside r s row)

pub entry_bytes_clear_entry : (e : ℕ) (u : List ℕ) → e < entries u → entry_bytes e (clear_entry e u) ≡ replicate 80 0
unfolding clear_entry
entry_bytes_clear_entry e u here = record_at_sets entries_lie e u (replicate 80 0) (length-replicate {A = ℕ} 80 0) (entry_inside e u here)

-- ---- metadata stored over itself, but for the pointer: that becomes eight zeros, and nothing else changes

zeros : digits 8 0 ≡ replicate 8 0
unfolding digits
zeros = refl

cut_stored : (at : ℕ) (m : Slot) (s : List ℕ) → Bytes s → at + 32 ≤ length s
    → m.create ≡ little (part at 8 s)
    → m.expire ≡ little (part (at + 8) 8 s)
    → m.undo_ptr ≡ 0
    → m.cmd ≡ little (part (at + 24) 4 s)
    → m.expire_cmd ≡ little (part (at + 28) 4 s)
    → sets s at (bytes_of (slot_fields m)) ≡ sets s (at + 16) (replicate 8 0)
cut_stored at m s b h create expire none cmd ended =
    sym
    (slot_fields_stores s at m
    (sym (sets_little at 8 m.create s b (omega arith) create))
    (sym (sets_little (at + 8) 8 m.expire s b (omega arith) expire))
    (ap (sets s (at + 16)) (sym zeros ∙ ap (digits 8) (sym none)))
    (sym
    (sets_little (at + 24) 4 m.cmd cut own (omega (arith, long))
    (cmd ∙ ap little (sym (part_sets_above (at + 24) 4 s (at + 16) (replicate 8 0) (omega (arith, length-replicate {A = ℕ} 8 0)))))))
    (sym
    (sets_little (at + 28) 4 m.expire_cmd cut own (omega (arith, long))
    (ended ∙ ap little (sym (part_sets_above (at + 28) 4 s (at + 16) (replicate 8 0) (omega (arith, length-replicate {A = ℕ} 8 0))))))))
  where
    cut : List ℕ
    cut = sets s (at + 16) (replicate 8 0)

    long : length (sets s (at + 16) (replicate 8 0)) ≡ length s
    long = length-sets s (at + 16) (replicate 8 0)

    own : Bytes (sets s (at + 16) (replicate 8 0))
    own = bytes_sets (replicate 8 0) s (at + 16) (bytes_zeros 8) b

-- an older version's pointer cut off
pub slot_bytes_cut : (r : ℕ) (s : List ℕ) → Bytes s → r < rows s
    → slot_bytes r (put_meta r (unlinked (slot_at r s)) s) ≡ sets (slot_bytes r s) 16 (replicate 8 0)
unfolding put_meta slot_at slot_of record_at
slot_bytes_cut r s b row =
    let m : Slot = unlinked (slot_at r s) in
    record_at_front slots_lie r s (bytes_of (slot_fields m)) (omega (arith, length_slot_fields m))
    ∙ cut_stored 0 m (slot_bytes r s) (bytes_part (slot_place r) 64 s b) (omega (arith, length_record_at slots_lie r s (slot_inside r s row))) refl refl refl refl refl

pub entry_bytes_cut : (e : ℕ) (u : List ℕ) → Bytes u → e < entries u
    → entry_bytes e (put_copy e (unlinked (entry_at e u).copy) u) ≡ sets (entry_bytes e u) 32 (replicate 8 0)
unfolding put_copy entry_at entry_of record_at
entry_bytes_cut e u b here =
    let m : Slot = unlinked (slot_of (part 16 64 (entry_bytes e u))) in
    let is = slot_of_read 16 (entry_bytes e u) refl refl refl refl refl in
    record_at_store entries_lie e 16 u (bytes_of (slot_fields m)) (omega (arith, length_slot_fields m))
    ∙ cut_stored 16 m (entry_bytes e u) (bytes_part (entry_place e) 80 u b) (omega (arith, length_record_at entries_lie e u (entry_inside e u here)))
    (ap (λ (q : Slot). q.create) (sym is))
    (ap (λ (q : Slot). q.expire) (sym is))
    refl
    (ap (λ (q : Slot). q.cmd) (sym is))
    (ap (λ (q : Slot). q.expire_cmd) (sym is))

-- and creator and writer are as they were
pub create_cut : (b : List ℕ) → (slot_of (sets b 16 (replicate 8 0))).create ≡ (slot_of b).create
unfolding slot_of
create_cut b = ap little (part_sets_below 0 8 b 16 (replicate 8 0) (omega arith))

pub writer_cut : (b : List ℕ) → (entry_of (sets b 32 (replicate 8 0))).writer ≡ (entry_of b).writer
unfolding entry_of
writer_cut b = ap little (part_sets_below 0 8 b 32 (replicate 8 0) (omega arith))
