-- The laws of slots: how metadata is read and stored, reading what was put, other rows, headers and lengths unchanged.
-- Callers cite these and unfold nothing. Assumes nothing.
use mathlib.Core.Path.{◌≡◌, refl, sym, ap, ◌∙◌}
use mathlib.Core.List.{List, [], ◌++◌, append-nil}
use Prim.Native.Nat.{ℕ, ◌+◌, ◌/◌, ◌≤◌, ◌<◌}
use native.Mathlib.Nat.{add-zero}
use native.Mathlib.Omega.{arith}
use lib.ListN.{length, drop, replicate, length-append, length-replicate}
use lib.Seq.{sets}
use Rattle.little.specs.Little.{little, digits, part, bytes_of}
use Rattle.little.proofs.Parts.{part_part, part_all, part_skip, part_sets_above, sets_append, sets_front}
use Rattle.little.proofs.Fields.{little_field, length_bytes_of, writes, writes_sets, Fit}
use Rattle.records.specs.declared.slot.Slot.{Slot}
use Rattle.kind.specs.Kind.{rows}
use Rattle.kind.specs.Place.{record_at}
use Rattle.records.specs.Slot.{slot_of, slot_fields, slot_place, slot_bytes, slot_at, body_at, put_slot, put_meta, clear_slot}
use Rattle.kind.proofs.Places.{Lie, place_in, length_record_at, record_at_front, record_at_sets, Within, within_front, within_other}

-- ---- metadata in bytes

-- the fields, where they lie
slot_of_part : (at : ℕ) (s : List ℕ)
    → slot_of (part at 64 s) ≡ record {
      create = little (part at 8 s);
      expire = little (part (at + 8) 8 s);
      undo_ptr = little (part (at + 16) 8 s);
      cmd = little (part (at + 24) 4 s);
      expire_cmd = little (part (at + 28) 4 s);
    }
unfolding slot_of
slot_of_part at s =
    let inner : (k w : ℕ) → k + w ≤ 64 → part k w (part at 64 s) ≡ part (at + k) w s = λ k w h. part_part k w at 64 s h in
    rw (inner 0 8 (omega arith), add-zero, inner 8 8 (omega arith), inner 16 8 (omega arith), inner 24 4 (omega arith), inner 28 4 (omega arith))

-- the same of what was read
pub slot_of_read : {a b q x y : ℕ} (at : ℕ) (s : List ℕ)
    → a ≡ little (part at 8 s)
    → b ≡ little (part (at + 8) 8 s)
    → q ≡ little (part (at + 16) 8 s)
    → x ≡ little (part (at + 24) 4 s)
    → y ≡ little (part (at + 28) 4 s)
    → ◌≡◌ {A = Slot} (record { create = a; expire = b; undo_ptr = q; cmd = x; expire_cmd = y }) (slot_of (part at 64 s))
slot_of_read at s ea eb eq ex ey = rw (slot_of_part at s) (cc)

-- stored field by field
sets_slot_fields : (s : List ℕ) (at : ℕ) (m : Slot)
    → sets s at (bytes_of (slot_fields m)) ≡ writes (sets s at (digits 8 m.create)) at 8 (drop 1 (slot_fields m)) []
sets_slot_fields s at m =
    ap (sets s at) (sym (append-nil (bytes_of (slot_fields m))))
    ∙ ap (λ (n : ℕ). sets s n (bytes_of (slot_fields m) ++ [])) (sym (add-zero at))
    ∙ sym (writes_sets s at 0 (slot_fields m) [])
    ∙ ap (λ (n : ℕ). writes (sets s n (digits 8 m.create)) at 8 (drop 1 (slot_fields m)) []) (add-zero at)

-- the stores, one after the other
pub slot_fields_stores : {y₁ y₂ y₃ y₄ y₅ : List ℕ} (s : List ℕ) (at : ℕ) (m : Slot)
    → y₁ ≡ sets s at (digits 8 m.create)
    → y₂ ≡ sets y₁ (at + 8) (digits 8 m.expire)
    → y₃ ≡ sets y₂ (at + 16) (digits 8 m.undo_ptr)
    → y₄ ≡ sets y₃ (at + 24) (digits 4 m.cmd)
    → y₅ ≡ sets y₄ (at + 28) (digits 4 m.expire_cmd)
    → y₅ ≡ sets s at (bytes_of (slot_fields m))
slot_fields_stores s at m e₁ e₂ e₃ e₄ e₅ = rw (sets_slot_fields s at m) (cc)

-- row r written whole: metadata, then body
put_slot_stores : (r : ℕ) (m : Slot) (body s : List ℕ)
    → put_slot r m body s ≡ sets (sets s (slot_place r) (bytes_of (slot_fields m))) (slot_place r + 32) body
unfolding put_slot
put_slot_stores r m body s =
    sets_append s (slot_place r) (bytes_of (slot_fields m)) body
    ∙ ap (λ (n : ℕ). sets (sets s (slot_place r) (bytes_of (slot_fields m))) (slot_place r + n) body) (length_bytes_of (slot_fields m))

-- ---- what the functions compute: `at` is the place that they found

pub slot_at_read : {at : ℕ} {m : Slot} (r : ℕ) (s : List ℕ) → at ≡ slot_place r → m ≡ slot_of (part at 64 s) → m ≡ slot_at r s
unfolding slot_at record_at
slot_at_read r s e h = h ∙ ap (λ (n : ℕ). slot_of (part n 64 s)) e

pub put_slot_stored : {at : ℕ} {y z : List ℕ} (r : ℕ) (m : Slot) (body s : List ℕ)
    → at ≡ slot_place r
    → y ≡ sets s at (bytes_of (slot_fields m))
    → z ≡ sets y (at + 32) body
    → z ≡ put_slot r m body s
put_slot_stored r m body s e h q = rw (put_slot_stores r m body s) (cc)

pub put_meta_stored : {at : ℕ} {y : List ℕ} (r : ℕ) (m : Slot) (s : List ℕ)
    → at ≡ slot_place r
    → y ≡ sets s at (bytes_of (slot_fields m))
    → y ≡ put_meta r m s
unfolding put_meta
put_meta_stored r m s e h = h ∙ ap (λ (n : ℕ). sets s n (bytes_of (slot_fields m))) e

pub clear_slot_stored : {at : ℕ} {y : List ℕ} (r : ℕ) (s : List ℕ) → at ≡ slot_place r → y ≡ sets s at (replicate 64 0) → y ≡ clear_slot r s
unfolding clear_slot
clear_slot_stored r s e h = h ∙ ap (λ (n : ℕ). sets s n (replicate 64 0)) e

-- ---- the slots of an area

pub slots_lie : Lie 8192 64 127
slots_lie = record { some = omega arith; room = omega arith }

-- a row of the area lies in it
pub slot_inside : (r : ℕ) (s : List ℕ) → r < rows s → slot_place r + 64 ≤ length s
slot_inside r s h = omega (arith, place_in slots_lie (length s / 8192) r h)

-- each number of m fits its field, which a struct of Rattle's always does
abbrev pub SlotFit : Slot → Type 0
SlotFit m = Fit (slot_fields m)

pub length_slot_fields : (m : Slot) → length (bytes_of (slot_fields m)) ≡ 32
length_slot_fields m = length_bytes_of (slot_fields m)

-- metadata is read back from its bytes, whatever stands behind them
pub slot_of_slot_fields : (m : Slot) (rest : List ℕ) → SlotFit m → slot_of (bytes_of (slot_fields m) ++ rest) ≡ m
unfolding slot_of
slot_of_slot_fields m rest f =
    simp (
      little_field 0 (slot_fields m) rest (omega arith) f.0,
      little_field 1 (slot_fields m) rest (omega arith) f.1.0,
      little_field 2 (slot_fields m) rest (omega arith) f.1.1.0,
      little_field 3 (slot_fields m) rest (omega arith) f.1.1.1.0,
      little_field 4 (slot_fields m) rest (omega arith) f.1.1.1.1.0,
    )

-- a slot's bytes: metadata and body
pub length_slot : (m : Slot) (body : List ℕ) → length body ≡ 32 → length (bytes_of (slot_fields m) ++ body) ≡ 64
length_slot m body h = omega (arith, length-append (bytes_of (slot_fields m)) body, length_slot_fields m)

pub body_slot : (m : Slot) (body : List ℕ) → length body ≡ 32 → part 32 32 (bytes_of (slot_fields m) ++ body) ≡ body
body_slot m body h = part_skip (bytes_of (slot_fields m)) body 32 0 32 (length_slot_fields m) ∙ part_all 32 body (omega arith)

-- what an empty slot says
pub slot_of_zeros : slot_of (replicate 64 0) ≡ record { create = 0; expire = 0; undo_ptr = 0; cmd = 0; expire_cmd = 0 }
unfolding slot_of part little
slot_of_zeros = refl

-- ---- the writers store inside the slot of their row: what that leaves of other rows, headers, pages and the length is said of
-- `Within`, once, in Places

abbrev pub WithinSlot : ℕ → List ℕ → List ℕ → Type 0
WithinSlot = Within 8192 64 127

-- a body may be short
pub put_slot_within : (r : ℕ) (m : Slot) (body s : List ℕ) → length body ≤ 32 → WithinSlot r s (put_slot r m body s)
unfolding put_slot
put_slot_within r m body s h =
    within_front slots_lie r s (bytes_of (slot_fields m) ++ body)
    (omega (arith, length-append (bytes_of (slot_fields m)) body, length_slot_fields m))

pub put_meta_within : (r : ℕ) (m : Slot) (s : List ℕ) → WithinSlot r s (put_meta r m s)
unfolding put_meta
put_meta_within r m s =
    within_front slots_lie r s (bytes_of (slot_fields m)) (omega (arith, length_slot_fields m))

pub clear_slot_within : (r : ℕ) (s : List ℕ) → WithinSlot r s (clear_slot r s)
unfolding clear_slot
clear_slot_within r s =
    within_front slots_lie r s (replicate 64 0) (omega (arith, length-replicate {A = ℕ} 64 0))

-- where the bytes of its slot are as they were, a row is
module _ (s y : List ℕ) (t : ℕ) (same : slot_bytes t y ≡ slot_bytes t s) where
  pub slot_at_same : slot_at t y ≡ slot_at t s
  unfolding slot_at
  slot_at_same = ap slot_of same

  pub body_at_same : body_at t y ≡ body_at t s
  unfolding body_at
  body_at_same = ap (part 32 32) same

-- another row is
module _ {r : ℕ} {s y : List ℕ} (w : WithinSlot r s y) (t : ℕ) (ne : t ≡ r → ⊥) where
  pub slot_at_within_other : slot_at t y ≡ slot_at t s
  slot_at_within_other = slot_at_same s y t (within_other slots_lie w t ne)

  pub body_at_within_other : body_at t y ≡ body_at t s
  body_at_within_other = body_at_same s y t (within_other slots_lie w t ne)

-- ---- reading what was put

module _ (r : ℕ) (m : Slot) (body s : List ℕ) (row : r < rows s) (long : length body ≡ 32) where
  pub slot_bytes_put_slot : slot_bytes r (put_slot r m body s) ≡ bytes_of (slot_fields m) ++ body
  unfolding put_slot
  slot_bytes_put_slot =
      record_at_sets slots_lie r s (bytes_of (slot_fields m) ++ body) (length_slot m body long) (slot_inside r s row)

  pub slot_at_put_slot_same : SlotFit m → slot_at r (put_slot r m body s) ≡ m
  unfolding slot_at
  slot_at_put_slot_same f = ap slot_of slot_bytes_put_slot ∙ slot_of_slot_fields m body f

  pub body_at_put_slot_same : body_at r (put_slot r m body s) ≡ body
  unfolding body_at
  body_at_put_slot_same = ap (part 32 32) slot_bytes_put_slot ∙ body_slot m body long

module _ (r : ℕ) (m : Slot) (s : List ℕ) (row : r < rows s) where
  pub slot_at_put_meta_same : SlotFit m → slot_at r (put_meta r m s) ≡ m
  unfolding slot_at put_meta
  slot_at_put_meta_same f =
      ap slot_of
      (record_at_front slots_lie r s (bytes_of (slot_fields m)) (omega (arith, length_slot_fields m))
      ∙ sets_front (slot_bytes r s) (bytes_of (slot_fields m)) (omega (arith, length_slot_fields m, length_slot_bytes)))
      ∙ slot_of_slot_fields m (drop (length (bytes_of (slot_fields m))) (slot_bytes r s)) f
    where
      length_slot_bytes : length (slot_bytes r s) ≡ 64
      length_slot_bytes = length_record_at slots_lie r s (slot_inside r s row)

  pub body_at_put_meta_same : body_at r (put_meta r m s) ≡ body_at r s
  unfolding body_at put_meta
  body_at_put_meta_same =
      ap (part 32 32) (record_at_front slots_lie r s (bytes_of (slot_fields m)) (omega (arith, length_slot_fields m)))
      ∙ part_sets_above 32 32 (slot_bytes r s) 0 (bytes_of (slot_fields m)) (omega (arith, length_slot_fields m))

  pub slot_at_clear_slot_same : slot_at r (clear_slot r s) ≡ slot_of (replicate 64 0)
  unfolding slot_at clear_slot
  slot_at_clear_slot_same =
      ap slot_of (record_at_sets slots_lie r s (replicate 64 0) (length-replicate {A = ℕ} 64 0) (slot_inside r s row))
