-- The laws of undo entries, as those of slots. Assumes nothing.
use mathlib.Core.Path.{◌≡◌, refl, sym, ap, ◌∙◌}
use mathlib.Core.List.{List, [], ◌∷◌, ◌++◌, append_assoc}
use Prim.Native.Nat.{ℕ, ◌+◌, ◌/◌, ◌≤◌, ◌<◌}
use native.Mathlib.Nat.{add-zero}
use native.Mathlib.Omega.{arith}
use lib.ListN.{length, drop, replicate, length-append, length-replicate}
use lib.Seq.{sets}
use Rattle.little.specs.Little.{little, digits, part, bytes_of}
use Rattle.little.proofs.Parts.{length_part, part_part, part_all, part_skip, part_sets_below, part_sets_above, part_sets_inside_front, sets_append, sets_front}
use Rattle.little.proofs.Fields.{Fit, little_field, length_bytes_of, bytes_of_append, writes, writes_sets}
use Rattle.records.specs.declared.slot.Slot.{Slot}
use Rattle.records.specs.declared.entry.Entry.{Entry}
use Rattle.kind.specs.Kind.{entries}
use Rattle.kind.specs.Place.{record_at}
use Rattle.records.specs.Slot.{slot_of, slot_fields}
use Rattle.records.specs.Entry.{entry_of, entry_fields, entry_place, entry_bytes, entry_at, copy_body_at, put_entry, put_copy, clear_entry}
use Rattle.records.proofs.Slots.{SlotFit, length_slot_fields, length_slot, slot_of_slot_fields}
use Rattle.kind.proofs.Places.{Lie, place_in, length_record_at, record_at_store, record_at_sets, Within, within_front, within_other}

-- ---- entries in bytes

pub entries_lie : Lie 8192 80 101
entries_lie = record { some = omega arith; room = omega arith }

-- an entry of the area lies in it
pub entry_inside : (e : ℕ) (u : List ℕ) → e < entries u → entry_place e + 80 ≤ length u
entry_inside e u h = omega (arith, place_in entries_lie (length u / 8192) e h)

-- the fields, where they lie
entry_of_parts : (at : ℕ) (u : List ℕ)
    → entry_of (part at 80 u) ≡ record {
      writer = little (part at 8 u);
      row = little (part (at + 8) 4 u);
      copy = slot_of (part (at + 16) 64 u);
    }
unfolding entry_of
entry_of_parts at u =
    let inner : (k w : ℕ) → k + w ≤ 80 → part k w (part at 80 u) ≡ part (at + k) w u =
    λ k w h. part_part k w at 80 u h
    in
    rw (inner 0 8 (omega arith), add-zero, inner 8 4 (omega arith), inner 16 64 (omega arith))

-- entry e written whole: writer, row, zero, the copy's metadata, the copy's body
put_entry_stores : (e : ℕ) (m : Entry) (body u : List ℕ)
    → put_entry e m body u
    ≡ sets
    (sets
    (sets (sets (sets u (entry_place e) (digits 8 m.writer)) (entry_place e + 8) (digits 4 m.row)) (entry_place e + 12) (digits 4 0))
    (entry_place e + 16)
    (bytes_of (slot_fields m.copy)))
    (entry_place e + 48)
    body
unfolding put_entry
put_entry_stores e m body u =
    let at : ℕ = entry_place e in
    let fs : List (ℕ × ℕ) = (8, m.writer) ∷ (4, m.row) ∷ (4, 0) ∷ [] in
    let copy : List ℕ = bytes_of (slot_fields m.copy) in
    let front : List ℕ = sets (sets (sets u at (digits 8 m.writer)) (at + 8) (digits 4 m.row)) (at + 12) (digits 4 0) in
    ap (λ (l : List ℕ). sets u at (l ++ body)) (bytes_of_append fs (slot_fields m.copy))
    ∙ ap (sets u at) (append_assoc (bytes_of fs) copy body)
    ∙ ap (λ (n : ℕ). sets u n (bytes_of fs ++ (copy ++ body))) (sym (add-zero at))
    ∙ sym (writes_sets u at 0 fs (copy ++ body))
    ∙ ap (λ (n : ℕ). writes (sets u n (digits 8 m.writer)) at 8 ((4, m.row) ∷ (4, 0) ∷ []) (copy ++ body)) (add-zero at)
    ∙ sets_append front (at + 16) copy body
    ∙ ap (λ (n : ℕ). sets (sets front (at + 16) copy) n body) (omega (arith, length_bytes_of (slot_fields m.copy)))

-- ---- what the functions compute: `at` is the place that they found

pub entry_of_read : {w r : ℕ} {m : Slot} (at : ℕ) (u : List ℕ)
    → w ≡ little (part at 8 u)
    → r ≡ little (part (at + 8) 4 u)
    → m ≡ slot_of (part (at + 16) 64 u)
    → ◌≡◌ {A = Entry} (record { writer = w; row = r; copy = m }) (entry_of (part at 80 u))
entry_of_read at u ew er em = rw (entry_of_parts at u) (cc)

pub entry_at_read : {at : ℕ} {m : Entry} (e : ℕ) (u : List ℕ) → at ≡ entry_place e → m ≡ entry_of (part at 80 u) → m ≡ entry_at e u
unfolding entry_at record_at
entry_at_read e u p h = h ∙ ap (λ (n : ℕ). entry_of (part n 80 u)) p

pub put_entry_stored : {at : ℕ} {y₁ y₂ y₃ y₄ y₅ : List ℕ} (e : ℕ) (m : Entry) (body u : List ℕ)
    → at ≡ entry_place e
    → y₁ ≡ sets u at (digits 8 m.writer)
    → y₂ ≡ sets y₁ (at + 8) (digits 4 m.row)
    → y₃ ≡ sets y₂ (at + 12) (digits 4 0)
    → y₄ ≡ sets y₃ (at + 16) (bytes_of (slot_fields m.copy))
    → y₅ ≡ sets y₄ (at + 48) body
    → y₅ ≡ put_entry e m body u
put_entry_stored e m body u p e₁ e₂ e₃ e₄ e₅ = rw (put_entry_stores e m body u) (cc)

pub put_copy_stored : {at : ℕ} {y : List ℕ} (e : ℕ) (m : Slot) (u : List ℕ)
    → at ≡ entry_place e
    → y ≡ sets u (at + 16) (bytes_of (slot_fields m))
    → y ≡ put_copy e m u
unfolding put_copy
put_copy_stored e m u p h = h ∙ ap (λ (n : ℕ). sets u (n + 16) (bytes_of (slot_fields m))) p

pub clear_entry_stored : {at : ℕ} {y : List ℕ} (e : ℕ) (u : List ℕ) → at ≡ entry_place e → y ≡ sets u at (replicate 80 0) → y ≡ clear_entry e u
unfolding clear_entry
clear_entry_stored e u p h = h ∙ ap (λ (n : ℕ). sets u n (replicate 80 0)) p

-- ---- entries as fields

abbrev pub EntryFit : Entry → Type 0
EntryFit m = Fit (entry_fields m)

pub length_entry_fields : (m : Entry) → length (bytes_of (entry_fields m)) ≡ 48
length_entry_fields m = length_bytes_of (entry_fields m)

pub length_entry : (m : Entry) (body : List ℕ) → length body ≡ 32 → length (bytes_of (entry_fields m) ++ body) ≡ 80
length_entry m body h = omega (arith, length-append (bytes_of (entry_fields m)) body, length_entry_fields m)

pub body_entry : (m : Entry) (body : List ℕ) → length body ≡ 32 → part 48 32 (bytes_of (entry_fields m) ++ body) ≡ body
body_entry m body h = part_skip (bytes_of (entry_fields m)) body 48 0 32 (length_entry_fields m) ∙ part_all 32 body (omega arith)

-- an entry is read back from its bytes
pub entry_of_entry_fields : (m : Entry) (body : List ℕ) → length body ≡ 32 → EntryFit m → entry_of (bytes_of (entry_fields m) ++ body) ≡ m
unfolding entry_of
entry_of_entry_fields m body h f =
    let fs : List (ℕ × ℕ) = (8, m.writer) ∷ (4, m.row) ∷ (4, 0) ∷ [] in
    let copy : part 16 64 (bytes_of (entry_fields m) ++ body) ≡ bytes_of (slot_fields m.copy) ++ body =
    ap (λ (l : List ℕ). part 16 64 (l ++ body)) (bytes_of_append fs (slot_fields m.copy))
    ∙ ap (part 16 64) (append_assoc (bytes_of fs) (bytes_of (slot_fields m.copy)) body)
    ∙ part_skip (bytes_of fs) (bytes_of (slot_fields m.copy) ++ body) 16 0 64 (length_bytes_of fs)
    ∙ part_all 64 (bytes_of (slot_fields m.copy) ++ body) (omega (arith, length_slot m.copy body h))
    in
    simp (
      little_field 0 (entry_fields m) body (omega arith) f.0,
      little_field 1 (entry_fields m) body (omega arith) f.1.0,
      copy,
      slot_of_slot_fields m.copy body f.1.1.1,
    )

-- what a free entry says
pub entry_of_zeros : entry_of (replicate 80 0) ≡ record { writer = 0; row = 0; copy = slot_of (replicate 64 0) }
unfolding entry_of part little
entry_of_zeros = refl

-- ---- the writers store inside their entry

abbrev pub WithinEntry : ℕ → List ℕ → List ℕ → Type 0
WithinEntry = Within 8192 80 101

pub put_entry_within : (e : ℕ) (m : Entry) (body u : List ℕ) → length body ≤ 32 → WithinEntry e u (put_entry e m body u)
unfolding put_entry
put_entry_within e m body u h =
    within_front entries_lie e u (bytes_of (entry_fields m) ++ body)
    (omega (arith, length-append (bytes_of (entry_fields m)) body, length_entry_fields m))

pub put_copy_within : (e : ℕ) (m : Slot) (u : List ℕ) → WithinEntry e u (put_copy e m u)
unfolding put_copy
put_copy_within e m u =
    record { from = 16; bytes = bytes_of (slot_fields m); inside = omega (arith, length_slot_fields m); is = refl }

pub clear_entry_within : (e : ℕ) (u : List ℕ) → WithinEntry e u (clear_entry e u)
unfolding clear_entry
clear_entry_within e u = within_front entries_lie e u (replicate 80 0) (omega (arith, length-replicate {A = ℕ} 80 0))

-- where its bytes are as they were, an entry is
module _ (u y : List ℕ) (t : ℕ) (same : entry_bytes t y ≡ entry_bytes t u) where
  pub entry_at_same : entry_at t y ≡ entry_at t u
  unfolding entry_at
  entry_at_same = ap entry_of same

  pub copy_body_at_same : copy_body_at t y ≡ copy_body_at t u
  unfolding copy_body_at
  copy_body_at_same = ap (part 48 32) same

-- another entry is
module _ {e : ℕ} {u y : List ℕ} (w : WithinEntry e u y) (t : ℕ) (ne : t ≡ e → ⊥) where
  pub entry_at_within_other : entry_at t y ≡ entry_at t u
  entry_at_within_other = entry_at_same u y t (within_other entries_lie w t ne)

  pub copy_body_at_within_other : copy_body_at t y ≡ copy_body_at t u
  copy_body_at_within_other = copy_body_at_same u y t (within_other entries_lie w t ne)

-- ---- reading what was put

module _ (e : ℕ) (m : Entry) (body u : List ℕ) (here : e < entries u) (long : length body ≡ 32) where
  pub entry_bytes_put_entry : entry_bytes e (put_entry e m body u) ≡ bytes_of (entry_fields m) ++ body
  unfolding put_entry
  entry_bytes_put_entry = record_at_sets entries_lie e u (bytes_of (entry_fields m) ++ body) (length_entry m body long) (entry_inside e u here)

  pub entry_at_put_entry_same : EntryFit m → entry_at e (put_entry e m body u) ≡ m
  unfolding entry_at
  entry_at_put_entry_same f = ap entry_of entry_bytes_put_entry ∙ entry_of_entry_fields m body long f

  pub copy_body_at_put_entry_same : copy_body_at e (put_entry e m body u) ≡ body
  unfolding copy_body_at
  copy_body_at_put_entry_same = ap (part 48 32) entry_bytes_put_entry ∙ body_entry m body long

module _ (e : ℕ) (m : Slot) (u : List ℕ) (here : e < entries u) where
  entry_bytes_put_copy : entry_bytes e (put_copy e m u) ≡ sets (entry_bytes e u) 16 (bytes_of (slot_fields m))
  unfolding put_copy
  entry_bytes_put_copy = record_at_store entries_lie e 16 u (bytes_of (slot_fields m)) (omega (arith, length_slot_fields m))

  pub copy_body_at_put_copy_same : copy_body_at e (put_copy e m u) ≡ copy_body_at e u
  unfolding copy_body_at
  copy_body_at_put_copy_same =
      ap (part 48 32) entry_bytes_put_copy ∙ part_sets_above 48 32 (entry_bytes e u) 16 (bytes_of (slot_fields m)) (omega (arith, length_slot_fields m))

  pub entry_at_put_copy_same : SlotFit m → entry_at e (put_copy e m u) ≡ record { writer = (entry_at e u).writer; row = (entry_at e u).row; copy = m }
  unfolding entry_at entry_of
  entry_at_put_copy_same f =
      let b : List ℕ = entry_bytes e u in
      let long : length b ≡ 80 = length_record_at entries_lie e u (entry_inside e u here) in
      let vs : List ℕ = bytes_of (slot_fields m) in
      let copy : slot_of (part 16 64 (sets b 16 vs)) ≡ m =
      ap slot_of
      (part_sets_inside_front 16 64 b vs (omega (arith, length_slot_fields m))
      ∙ sets_front (part 16 64 b) vs (omega (arith, length_slot_fields m, length_part 16 64 b (omega arith))))
      ∙ slot_of_slot_fields m (drop (length vs) (part 16 64 b)) f
      in
      rw (entry_bytes_put_copy, part_sets_below 0 8 b 16 vs (omega arith), part_sets_below 8 4 b 16 vs (omega arith), copy)

  pub entry_at_clear_entry_same : entry_at e (clear_entry e u) ≡ entry_of (replicate 80 0)
  unfolding entry_at clear_entry
  entry_at_clear_entry_same =
      ap entry_of (record_at_sets entries_lie e u (replicate 80 0) (length-replicate {A = ℕ} 80 0) (entry_inside e u here))
