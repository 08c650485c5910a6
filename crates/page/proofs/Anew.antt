-- Counting anew, early or late: two counts may change places, and so may a count and a store into a record of another page; and a count
-- before a store into a record is of no account where the page is counted after it. For the sweep, which counts each page that it has
-- written in once, at its end. Assumes nothing.
use mathlib.Core.Path.{◌≡◌, refl, sym, ap, ◌∙◌}
use mathlib.Core.Logic.{⊎_elim}
use mathlib.Core.List.{List}
use Prim.Native.Nat.{ℕ, ◌+◌, ◌*◌, ◌/◌, ◌%◌, ◌≤◌, ◌<◌}
use native.Mathlib.Nat.{add-zero, mul-le-mul_right, mod-lt}
use native.Mathlib.Omega.{arith}
use lib.ListN.{length, replicate, length-replicate}
use lib.Seq.{sets}
use Rattle.ground.proofs.Ranges.{lt_or_le}
use Rattle.little.specs.Little.{digits, bytes_of}
use Rattle.little.proofs.Digits.{length_digits}
use Rattle.little.proofs.Parts.{sets_comm, sets_again}
use Rattle.kind.specs.declared.Kind.{Kind}
use Rattle.kind.specs.Place.{place_of}
use Rattle.kind.proofs.Places.{Lie, Within, multiple_more, within_page}
use Rattle.records.specs.declared.slot.Slot.{Slot}
use Rattle.records.specs.Slot.{slot_fields, slot_place, put_meta, clear_slot}
use Rattle.records.specs.Entry.{entry_place, put_copy, clear_entry}
use Rattle.records.proofs.Slots.{length_slot_fields}
use Rattle.page.specs.Header.{page_at, item_count, put_field}
use Rattle.page.specs.Count.{items_in, counted}
use Rattle.page.proofs.Headers.{page_at_put_field_same, page_at_put_field_other}
use Rattle.page.proofs.Counts.{items_in_header}

-- ---- fields of headers, put one after the other

-- of two pages
put_field_comm : (f : ℕ × ℕ) (p q a b : ℕ) (s : List ℕ) → f.0 + f.1 ≤ 8192 → (q ≡ p → ⊥)
    → put_field f q b (put_field f p a s) ≡ put_field f p a (put_field f q b s)
unfolding put_field
put_field_comm f p q a b s h ne =
    ⊎_elim
    (λ (l : q < p). sets_comm s (q * 8192 + f.0) (digits f.1 b) (p * 8192 + f.0) (digits f.1 a) (omega (arith, length_digits f.1 b)))
    (λ (l : p ≤ q).
    sym
    (sets_comm s (p * 8192 + f.0) (digits f.1 a) (q * 8192 + f.0) (digits f.1 b) (omega (arith, length_digits f.1 a, ne))))
    (lt_or_le q p)

-- of one page
put_field_again : (f : ℕ × ℕ) (p a b : ℕ) (s : List ℕ) → put_field f p b (put_field f p a s) ≡ put_field f p b s
unfolding put_field
put_field_again f p a b s =
    sets_again s (p * 8192 + f.0) (digits f.1 a) (digits f.1 b) (length_digits f.1 a ∙ sym (length_digits f.1 b))

-- ---- counts, one after the other

-- of two pages
pub counted_comm : (k : Kind) (p q : ℕ) (s : List ℕ) → (q ≡ p → ⊥) → counted k q (counted k p s) ≡ counted k p (counted k q s)
unfolding counted
counted_comm k p q s ne =
    let a : ℕ = items_in k (page_at p s) in
    let b : ℕ = items_in k (page_at q s) in
    ap (λ (l : List ℕ). put_field item_count q (items_in k l) (put_field item_count p a s)) (page_at_put_field_other item_count p q a s (omega arith) ne)
    ∙ put_field_comm item_count p q a b s (omega arith) ne
    ∙ ap (λ (l : List ℕ). put_field item_count p (items_in k l) (put_field item_count q b s))
    (sym (page_at_put_field_other item_count q p b s (omega arith) (λ (e : p ≡ q). ne (sym e))))

-- whatever the count said before
counted_again : (k : Kind) (p v : ℕ) (s : List ℕ) → counted k p (put_field item_count p v s) ≡ counted k p s
unfolding counted
counted_again k p v s =
    ap (λ (n : ℕ). put_field item_count p n (put_field item_count p v s))
    (ap (items_in k) (page_at_put_field_same item_count p v s (omega arith))
    ∙ items_in_header k 38 (page_at p s) (digits 2 v) (omega (arith, length_digits 2 v)))
    ∙ put_field_again item_count p v (items_in k (page_at p s)) s

-- ---- a store into a record: f stores the same bytes at the same place of record r, in any area

pub record Writes (size count r : ℕ) (f : List ℕ → List ℕ) : Type 0 where
  pub from : ℕ
  pub bytes : List ℕ
  pub inside : from + length bytes ≤ size
  pub is : (s : List ℕ) → f s ≡ sets s (place_of 8192 size count r + from) bytes

module _ {size count r : ℕ} {f : List ℕ → List ℕ} (lie : Lie 8192 size count) (w : Writes size count r f) where
  pub writes_within : (s : List ℕ) → Within 8192 size count r s (f s)
  writes_within s = record { from = w.from; bytes = w.bytes; inside = w.inside; is = w.is s }

  -- a field of a header is no byte of a record
  put_field_writes : (g : ℕ × ℕ) (p v : ℕ) (s : List ℕ) → g.0 + g.1 ≤ 48 → put_field g p v (f s) ≡ f (put_field g p v s)
  unfolding put_field
  put_field_writes g p v s h =
      let at : ℕ = place_of 8192 size count r + w.from in
      let field : List ℕ = digits g.1 v in
      ap (λ (l : List ℕ). sets l (p * 8192 + g.0) field) (w.is s)
      ∙ ⊎_elim
      (λ (l : r / count < p).
      sym
      (sets_comm s at w.bytes (p * 8192 + g.0) field
      (omega (arith, w.inside, lie.room, multiple_more (r % count) count size (mod-lt r lie.some)))))
      (λ (l : p ≤ r / count).
      sets_comm s (p * 8192 + g.0) field at w.bytes
      (omega (arith, length_digits g.1 v, mul-le-mul_right {m = p} {n = r / count} 8192 l)))
      (lt_or_le (r / count) p)
      ∙ sym (w.is (sets s (p * 8192 + g.0) field))

  -- and no other page is counted by it
  pub counted_writes_other : (k : Kind) (q : ℕ) (s : List ℕ) → (q ≡ r / count → ⊥) → counted k q (f s) ≡ f (counted k q s)
  unfolding counted page_at
  counted_writes_other k q s ne =
      ap (λ (l : List ℕ). put_field item_count q (items_in k l) (f s)) (within_page lie (writes_within s) q ne)
      ∙ put_field_writes item_count q (items_in k (page_at q s)) s (omega arith)

  -- counted afterwards, a page need not be counted before
  counted_early : (k : Kind) (p : ℕ) (s : List ℕ) → f (counted k p s) ≡ put_field item_count p (items_in k (page_at p s)) (f s)
  unfolding counted
  counted_early k p s = sym (put_field_writes item_count p (items_in k (page_at p s)) s (omega arith))

  pub counted_writes_same : (k : Kind) (p : ℕ) (s : List ℕ) → counted k p (f (counted k p s)) ≡ counted k p (f s)
  counted_writes_same k p s = ap (counted k p) (counted_early k p s) ∙ counted_again k p (items_in k (page_at p s)) (f s)

-- ---- the sweep's four writers are such stores

pub clear_slot_writes : (r : ℕ) → Writes 64 127 r (clear_slot r)
unfolding clear_slot
clear_slot_writes r =
    record {
      from = 0;
      bytes = replicate 64 0;
      inside = omega (arith, length-replicate {A = ℕ} 64 0);
      is = λ s. ap (λ (n : ℕ). sets s n (replicate 64 0)) (sym (add-zero (slot_place r)));
    }

pub put_meta_writes : (r : ℕ) (m : Slot) → Writes 64 127 r (put_meta r m)
unfolding put_meta
put_meta_writes r m =
    record {
      from = 0;
      bytes = bytes_of (slot_fields m);
      inside = omega (arith, length_slot_fields m);
      is = λ s. ap (λ (n : ℕ). sets s n (bytes_of (slot_fields m))) (sym (add-zero (slot_place r)));
    }

pub clear_entry_writes : (e : ℕ) → Writes 80 101 e (clear_entry e)
unfolding clear_entry
clear_entry_writes e =
    record {
      from = 0;
      bytes = replicate 80 0;
      inside = omega (arith, length-replicate {A = ℕ} 80 0);
      is = λ u. ap (λ (n : ℕ). sets u n (replicate 80 0)) (sym (add-zero (entry_place e)));
    }

pub put_copy_writes : (e : ℕ) (m : Slot) → Writes 80 101 e (put_copy e m)
unfolding put_copy
put_copy_writes e m =
    record {
      from = 16;
      bytes = bytes_of (slot_fields m);
      inside = omega (arith, length_slot_fields m);
      is = λ u. refl;
    }
