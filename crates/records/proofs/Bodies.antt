-- Where a body lies in its area, how long it is, and that it is of bytes, for all who read one. Assumes nothing.
use mathlib.Core.Path.{◌≡◌, sym, ap, ◌∙◌}
use mathlib.Core.List.{List}
use Prim.Native.Nat.{ℕ, ◌+◌, ◌-◌, ◌≤◌, ◌<◌}
use native.Mathlib.Nat.{min-le_left}
use native.Mathlib.Omega.{arith}
use lib.ListN.{length, take, drop, length-take}
use Rattle.little.specs.Little.{part, Bytes}
use Rattle.little.proofs.Parts.{length_part, part_part}
use Rattle.little.proofs.AllBytes.{bytes_part}
use Rattle.kind.specs.Kind.{rows, entries}
use Rattle.kind.specs.Place.{record_at}
use Rattle.kind.proofs.Places.{length_record_at}
use Rattle.records.specs.Slot.{slot_place, slot_bytes, body_at}
use Rattle.records.specs.Entry.{entry_place, entry_bytes, copy_body_at}
use Rattle.records.proofs.Slots.{slots_lie, slot_inside}
use Rattle.records.proofs.Entries.{entries_lie, entry_inside}

-- 32 bytes, cut out by a start and an end
cut : (at k : ℕ) (s : List ℕ) → take (at + k + 32 - (at + k)) (drop (at + k) s) ≡ part (at + k) 32 s
unfolding part
cut at k s = let w : at + k + 32 - (at + k) ≡ 32 = omega arith in ap (λ (n : ℕ). take n (drop (at + k) s)) w

-- the 32 bytes behind the metadata of row r are its body: `at` is the place of its slot, as the code found it
pub body_at_cut : {at : ℕ} (r : ℕ) (d : List ℕ) → at ≡ slot_place r → take (at + 32 + 32 - (at + 32)) (drop (at + 32) d) ≡ body_at r d
unfolding body_at record_at
body_at_cut {at} r d found =
    cut at 32 d ∙ ap (λ (n : ℕ). part (n + 32) 32 d) found ∙ sym (part_part 32 32 (slot_place r) 64 d (omega arith))

-- and those behind the metadata of the copy in entry e are the copy's
pub copy_body_at_cut : {at : ℕ} (e : ℕ) (u : List ℕ) → at ≡ entry_place e → take (at + 48 + 32 - (at + 48)) (drop (at + 48) u) ≡ copy_body_at e u
unfolding copy_body_at record_at
copy_body_at_cut {at} e u found =
    cut at 48 u ∙ ap (λ (n : ℕ). part (n + 48) 32 u) found ∙ sym (part_part 48 32 (entry_place e) 80 u (omega arith))

-- a body is 32 bytes long
pub length_body_at : (r : ℕ) (d : List ℕ) → r < rows d → length (body_at r d) ≡ 32
unfolding body_at
length_body_at r d h =
    length_part 32 32 (slot_bytes r d) (omega (arith, length_record_at slots_lie r d (slot_inside r d h)))

pub length_copy_body_at : (e : ℕ) (u : List ℕ) → e < entries u → length (copy_body_at e u) ≡ 32
unfolding copy_body_at
length_copy_body_at e u h =
    length_part 48 32 (entry_bytes e u) (omega (arith, length_record_at entries_lie e u (entry_inside e u h)))

-- and never longer, wherever it is read
part_short : (at w : ℕ) (s : List ℕ) → length (part at w s) ≤ w
unfolding part
part_short at w s = omega (arith, length-take w (drop at s), min-le_left w (length (drop at s)))

pub body_at_short : (r : ℕ) (d : List ℕ) → length (body_at r d) ≤ 32
unfolding body_at
body_at_short r d = part_short 32 32 (slot_bytes r d)

pub copy_body_at_short : (e : ℕ) (u : List ℕ) → length (copy_body_at e u) ≤ 32
unfolding copy_body_at
copy_body_at_short e u = part_short 48 32 (entry_bytes e u)

-- in an area of bytes it is of bytes
pub bytes_body_at : (r : ℕ) (d : List ℕ) → Bytes d → Bytes (body_at r d)
unfolding body_at record_at
bytes_body_at r d b = bytes_part 32 32 (slot_bytes r d) (bytes_part (slot_place r) 64 d b)

pub bytes_copy_body_at : (e : ℕ) (u : List ℕ) → Bytes u → Bytes (copy_body_at e u)
unfolding copy_body_at record_at
bytes_copy_body_at e u b = bytes_part 48 32 (entry_bytes e u) (bytes_part (entry_place e) 80 u b)
