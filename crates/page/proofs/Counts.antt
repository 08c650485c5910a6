-- Laws of counting and touching: what is counted are the slots and entries in use, and touching leaves every record as it was.
-- Assumes nothing.
use mathlib.Core.Path.{◌≡◌, sym, ap, ◌∙◌}
use mathlib.Core.Bool.{not}
use mathlib.Core.List.{List}
use Prim.Native.Nat.{ℕ, ◌+◌, ◌*◌, ◌-◌, ◌≤◌, ◌<◌}
use native.Mathlib.Nat.{add-zero}
use native.Mathlib.Omega.{arith}
use lib.ListN.{length, take, drop}
use lib.Seq.{sets}
use lib.Dec.{eqb}
use Rattle.ground.specs.Range.{count_below}
use Rattle.ground.proofs.Ranges.{count_agree}
use Rattle.little.specs.Little.{little, digits, part, Bytes}
use Rattle.little.proofs.Digits.{length_digits}
use Rattle.little.proofs.Parts.{part_part, part_sets_above}
use Rattle.kind.specs.declared.Kind.{Kind}
use Rattle.kind.specs.Kind.{data_kind, undo_kind}
use Rattle.kind.specs.Place.{number_of, place_of, record_at}
use Rattle.records.specs.Slot.{slot_of, slot_at, body_at}
use Rattle.records.specs.Entry.{entry_of, entry_at, copy_body_at}
use Rattle.page.specs.Header.{page_at, txn_id, item_count, put_field}
use Rattle.page.specs.Count.{in_use, items_in, counted, touched}
use Rattle.page.proofs.Headers.{page_at_lent, length_put_field, bytes_put_field}
use Rattle.kind.proofs.Places.{Lie, multiple_more, place_of_number_of, record_at_header}
use Rattle.records.proofs.Slots.{slots_lie, slot_at_same, body_at_same}
use Rattle.records.proofs.Entries.{entries_lie, entry_at_same, copy_body_at_same}

-- ---- counting

-- the store of a count: n is what was counted, y what the area then is
pub counted_store : {y : List ℕ} (k : Kind) (p : ℕ) (s : List ℕ) (n : ℕ)
    → n ≡ items_in k (take (p * 8192 + 8192 - p * 8192) (drop (p * 8192) s))
    → y ≡ sets s (p * 8192 + 38) (digits 2 n)
    → y ≡ counted k p s
unfolding counted put_field
counted_store k p s n h q = q ∙ ap (λ (v : ℕ). sets s (p * 8192 + 38) (digits 2 v)) (h ∙ ap (items_in k) (page_at_lent p s))

-- what is stored into the header is no record
pub items_in_header : (k : Kind) (o : ℕ) (page vs : List ℕ) → o + length vs ≤ 48 → items_in k (sets page o vs) ≡ items_in k page
unfolding items_in in_use
items_in_header k o page vs h =
    count_agree (in_use k.size (sets page o vs)) (in_use k.size page) k.count
    (λ i l. ap (λ (b : List ℕ). not (eqb (little b) 0)) (part_sets_above (48 + i * k.size) 8 page o vs (omega arith)))

-- record i of page p is in use where its first 8 bytes, as record of the area, are not 0
in_use_record_at : {size count : ℕ} → Lie 8192 size count → 8 ≤ size → (p i : ℕ) (s : List ℕ) → i < count
    → in_use size (page_at p s) i ≡ not (eqb (little (part 0 8 (record_at 8192 size count (number_of count p i) s))) 0)
unfolding in_use page_at record_at
in_use_record_at {size} {count} lie wide p i s h =
    let at : ℕ = place_of 8192 size count (number_of count p i) in
    let here : at + 0 ≡ p * 8192 + (48 + i * size) = add-zero at ∙ place_of_number_of lie p i h in
    ap (λ (l : List ℕ). not (eqb (little l) 0))
    (part_part (48 + i * size) 8 (p * 8192) 8192 s (omega (arith, multiple_more i count size h, lie.room))
    ∙ ap (λ (n : ℕ). part n 8 s) (sym here)
    ∙ sym (part_part 0 8 at size s wide))

-- which are a slot's create, and an entry's writer
pub in_use_slot : (p i : ℕ) (d : List ℕ) → i < 127 → in_use 64 (page_at p d) i ≡ not (eqb (slot_at (number_of 127 p i) d).create 0)
unfolding slot_at slot_of
in_use_slot p i d h = in_use_record_at slots_lie (omega arith) p i d h

pub in_use_entry : (p i : ℕ) (u : List ℕ) → i < 101 → in_use 80 (page_at p u) i ≡ not (eqb (entry_at (number_of 101 p i) u).writer 0)
unfolding entry_at entry_of
in_use_entry p i u h = in_use_record_at entries_lie (omega arith) p i u h

-- "its slots with create not 0"
pub items_in_data : (p : ℕ) (s : List ℕ)
    → items_in data_kind (page_at p s) ≡ count_below (λ (i : ℕ). not (eqb (slot_at (number_of 127 p i) s).create 0)) 127
unfolding items_in
items_in_data p s =
    count_agree (in_use 64 (page_at p s)) (λ (i : ℕ). not (eqb (slot_at (number_of 127 p i) s).create 0)) 127
    (λ i h. in_use_slot p i s h)

-- "its entries with writer not 0"
pub items_in_undo : (p : ℕ) (u : List ℕ)
    → items_in undo_kind (page_at p u) ≡ count_below (λ (i : ℕ). not (eqb (entry_at (number_of 101 p i) u).writer 0)) 101
unfolding items_in
items_in_undo p u =
    count_agree (in_use 80 (page_at p u)) (λ (i : ℕ). not (eqb (entry_at (number_of 101 p i) u).writer 0)) 101
    (λ i h. in_use_entry p i u h)

-- ---- touching

pub length_counted : (k : Kind) (p : ℕ) (s : List ℕ) → length (counted k p s) ≡ length s
unfolding counted
length_counted k p s = length_put_field item_count p (items_in k (page_at p s)) s

pub length_touched : (k : Kind) (p txn : ℕ) (s : List ℕ) → length (touched k p txn s) ≡ length s
unfolding touched
length_touched k p txn s = length_put_field txn_id p txn (counted k p s) ∙ length_counted k p s

pub bytes_counted : (k : Kind) (p : ℕ) (s : List ℕ) → Bytes s → Bytes (counted k p s)
unfolding counted
bytes_counted k p s h = bytes_put_field item_count p (items_in k (page_at p s)) s h

pub bytes_touched : (k : Kind) (p txn : ℕ) (s : List ℕ) → Bytes s → Bytes (touched k p txn s)
unfolding touched
bytes_touched k p txn s h = bytes_put_field txn_id p txn (counted k p s) (bytes_counted k p s h)

-- a field of a header is put: every record is as it was
pub record_at_put_field : {size count : ℕ} → Lie 8192 size count → (f : ℕ × ℕ) (p v r : ℕ) (s : List ℕ) → f.0 + f.1 ≤ 48
    → record_at 8192 size count r (put_field f p v s) ≡ record_at 8192 size count r s
unfolding put_field
record_at_put_field lie f p v r s h = record_at_header lie p f.0 r (digits f.1 v) s (omega (arith, length_digits f.1 v))

module _ {size count : ℕ} (lie : Lie 8192 size count) (k : Kind) (p r : ℕ) (s : List ℕ) where
  pub record_at_counted : record_at 8192 size count r (counted k p s) ≡ record_at 8192 size count r s
  unfolding counted
  record_at_counted = record_at_put_field lie item_count p (items_in k (page_at p s)) r s (omega arith)

  pub record_at_touched : (txn : ℕ) → record_at 8192 size count r (touched k p txn s) ≡ record_at 8192 size count r s
  unfolding touched
  record_at_touched txn = record_at_put_field lie txn_id p txn r (counted k p s) (omega arith) ∙ record_at_counted

module _ (k : Kind) (p r : ℕ) (s : List ℕ) where
  pub slot_at_counted : slot_at r (counted k p s) ≡ slot_at r s
  slot_at_counted = slot_at_same s (counted k p s) r (record_at_counted slots_lie k p r s)

  pub body_at_counted : body_at r (counted k p s) ≡ body_at r s
  body_at_counted = body_at_same s (counted k p s) r (record_at_counted slots_lie k p r s)

  pub slot_at_touched : (txn : ℕ) → slot_at r (touched k p txn s) ≡ slot_at r s
  slot_at_touched txn = slot_at_same s (touched k p txn s) r (record_at_touched slots_lie k p r s txn)

  pub body_at_touched : (txn : ℕ) → body_at r (touched k p txn s) ≡ body_at r s
  body_at_touched txn = body_at_same s (touched k p txn s) r (record_at_touched slots_lie k p r s txn)

  pub entry_at_counted : entry_at r (counted k p s) ≡ entry_at r s
  entry_at_counted = entry_at_same s (counted k p s) r (record_at_counted entries_lie k p r s)

  pub copy_body_at_counted : copy_body_at r (counted k p s) ≡ copy_body_at r s
  copy_body_at_counted = copy_body_at_same s (counted k p s) r (record_at_counted entries_lie k p r s)

  pub entry_at_touched : (txn : ℕ) → entry_at r (touched k p txn s) ≡ entry_at r s
  entry_at_touched txn = entry_at_same s (touched k p txn s) r (record_at_touched entries_lie k p r s txn)

  pub copy_body_at_touched : (txn : ℕ) → copy_body_at r (touched k p txn s) ≡ copy_body_at r s
  copy_body_at_touched txn = copy_body_at_same s (touched k p txn s) r (record_at_touched entries_lie k p r s txn)
