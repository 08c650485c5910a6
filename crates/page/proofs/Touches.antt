-- Touching and counting, byte by byte ("01, The page"): what the two fields then say, that every other byte of the header stays, and that
-- the records of a page are parts of it. Assumes nothing.
use mathlib.Core.Path.{◌≡◌, sym, ap, ◌∙◌}
use mathlib.Core.List.{List}
use Prim.Native.Nat.{ℕ, ◌+◌, ◌*◌, ◌/◌, ◌%◌, ◌^◌, ◌≤◌, ◌<◌}
use native.Mathlib.Nat.{mod-lt}
use native.Mathlib.Omega.{arith}
use lib.ListN.{length}
use Rattle.ground.proofs.Ranges.{count_le}
use Rattle.little.specs.Little.{little, digits, part}
use Rattle.little.proofs.Digits.{length_digits}
use Rattle.little.proofs.Parts.{part_part, part_sets_below, part_sets_above}
use Rattle.kind.specs.declared.Kind.{Kind}
use Rattle.kind.specs.Place.{record_at}
use Rattle.kind.proofs.Places.{Lie, Within, multiple_more, within_header, within_behind}
use Rattle.page.specs.Header.{page_at, txn_id, item_count, field_in, put_field}
use Rattle.page.specs.Count.{in_use, items_in, counted, touched}
use Rattle.page.proofs.Headers.{page_at_put_field_same, page_at_put_field_other, field_in_put_field}
use Rattle.page.proofs.Counts.{items_in_header, length_counted}

-- ---- parts of page p, by their place in the area

part_page_at : (p o n : ℕ) (s : List ℕ) → o + n ≤ 8192 → part o n (page_at p s) ≡ part (p * 8192 + o) n s
unfolding page_at
part_page_at p o n s h = part_part o n (p * 8192) 8192 s h

-- a record is one: where its page keeps every byte, it does
module _ {size count : ℕ} (lie : Lie 8192 size count) (t : ℕ) where
  record_at_page_at : (s : List ℕ) → record_at 8192 size count t s ≡ part (48 + t % count * size) size (page_at (t / count) s)
  unfolding record_at
  record_at_page_at s =
      sym (part_page_at (t / count) (48 + t % count * size) size s (omega (arith, lie.room, multiple_more (t % count) count size (mod-lt t lie.some))))

  pub record_at_page : (s y : List ℕ) → page_at (t / count) y ≡ page_at (t / count) s → record_at 8192 size count t y ≡ record_at 8192 size count t s
  record_at_page s y same =
      record_at_page_at y ∙ ap (part (48 + t % count * size) size) same ∙ sym (record_at_page_at s)

-- a store inside a record leaves every part of every header
pub part_within : {size count r : ℕ} {s y : List ℕ} → Lie 8192 size count → Within 8192 size count r s y → (p o n : ℕ) → o + n ≤ 48
    → part o n (page_at p y) ≡ part o n (page_at p s)
part_within {size} {count} {r} {s} {y} lie w p o n h =
    part_page_at p o n y (omega arith) ∙ within_header lie w p o n h ∙ sym (part_page_at p o n s (omega arith))

-- and every byte behind the last record
pub part_within_behind : {size count r : ℕ} {s y : List ℕ} → Lie 8192 size count → Within 8192 size count r s y → (p o n : ℕ)
    → 48 + count * size ≤ o
    → o + n ≤ 8192
    → part o n (page_at p y) ≡ part o n (page_at p s)
part_within_behind {size} {count} {r} {s} {y} lie w p o n low high =
    part_page_at p o n y high ∙ within_behind lie w p o n low high ∙ sym (part_page_at p o n s high)

-- ---- a field put: the parts before it and behind it

module _ (f : ℕ × ℕ) (p v : ℕ) (s : List ℕ) (room : f.0 + f.1 ≤ 8192) (o n : ℕ) where
  pub part_put_field_before : o + n ≤ f.0 → part o n (page_at p (put_field f p v s)) ≡ part o n (page_at p s)
  part_put_field_before h =
      ap (part o n) (page_at_put_field_same f p v s room) ∙ part_sets_below o n (page_at p s) f.0 (digits f.1 v) h

  pub part_put_field_after : f.0 + f.1 ≤ o → part o n (page_at p (put_field f p v s)) ≡ part o n (page_at p s)
  part_put_field_after h =
      ap (part o n) (page_at_put_field_same f p v s room)
      ∙ part_sets_above o n (page_at p s) f.0 (digits f.1 v) (omega (arith, length_digits f.1 v))

-- no record is counted by a field of the header
items_in_put_field : (k : Kind) (f : ℕ × ℕ) (p v : ℕ) (s : List ℕ) → f.0 + f.1 ≤ 48
    → items_in k (page_at p (put_field f p v s)) ≡ items_in k (page_at p s)
items_in_put_field k f p v s h =
    ap (items_in k) (page_at_put_field_same f p v s (omega arith))
    ∙ items_in_header k f.0 (page_at p s) (digits f.1 v) (omega (arith, length_digits f.1 v))

-- no more are counted than there are
pub items_in_few : (k : Kind) (page : List ℕ) → items_in k page ≤ k.count
unfolding items_in
items_in_few k page = count_le (in_use k.size page) k.count

-- ---- page p counted anew

module _ (k : Kind) (p : ℕ) (s : List ℕ) where
  -- "its slots with create not 0, or its entries with writer not 0": of the page as it then is
  pub items_counted : k.count < 65536 → p * 8192 + 8192 ≤ length s
      → field_in item_count (page_at p (counted k p s)) ≡ items_in k (page_at p (counted k p s))
  unfolding counted
  items_counted few inside =
      field_in_put_field item_count p (items_in k (page_at p s)) s (omega arith) (omega (arith, items_in_few k (page_at p s))) (omega arith)
      ∙ sym (items_in_put_field k item_count p (items_in k (page_at p s)) s (omega arith))

  -- what stands before item_count, and what behind it
  pub part_counted_before : (o n : ℕ) → o + n ≤ 38 → part o n (page_at p (counted k p s)) ≡ part o n (page_at p s)
  unfolding counted
  part_counted_before o n h = part_put_field_before item_count p (items_in k (page_at p s)) s (omega arith) o n h

  pub part_counted_after : (o n : ℕ) → 40 ≤ o → part o n (page_at p (counted k p s)) ≡ part o n (page_at p s)
  unfolding counted
  part_counted_after o n h = part_put_field_after item_count p (items_in k (page_at p s)) s (omega arith) o n h

  -- another page
  pub page_at_counted_other : (q : ℕ) → (q ≡ p → ⊥) → page_at q (counted k p s) ≡ page_at q s
  unfolding counted
  page_at_counted_other q ne = page_at_put_field_other item_count p q (items_in k (page_at p s)) s (omega arith) ne

  -- ---- and touched by session n

  module _ (n : ℕ) where
    -- "gets the session's number as txn_id"
    pub number_touched : n < 2 ^ 64 → p * 8192 + 8192 ≤ length s → field_in txn_id (page_at p (touched k p n s)) ≡ n
    unfolding touched
    number_touched fits inside = field_in_put_field txn_id p n (counted k p s) (omega arith) fits (omega (arith, length_counted k p s))

    pub items_touched : k.count < 65536 → p * 8192 + 8192 ≤ length s
        → field_in item_count (page_at p (touched k p n s)) ≡ items_in k (page_at p (touched k p n s))
    unfolding touched
    items_touched few inside =
        ap little (part_put_field_after txn_id p n (counted k p s) (omega arith) 38 2 (omega arith))
        ∙ items_counted few inside
        ∙ sym (items_in_put_field k txn_id p n (counted k p s) (omega arith))

    -- what stands before txn_id, between the two, and behind item_count
    pub part_touched_before : (o w : ℕ) → o + w ≤ 8 → part o w (page_at p (touched k p n s)) ≡ part o w (page_at p s)
    unfolding touched
    part_touched_before o w h = part_put_field_before txn_id p n (counted k p s) (omega arith) o w h ∙ part_counted_before o w (omega arith)

    pub part_touched_between : (o w : ℕ) → 16 ≤ o → o + w ≤ 38 → part o w (page_at p (touched k p n s)) ≡ part o w (page_at p s)
    unfolding touched
    part_touched_between o w h l = part_put_field_after txn_id p n (counted k p s) (omega arith) o w h ∙ part_counted_before o w l

    pub part_touched_after : (o w : ℕ) → 40 ≤ o → part o w (page_at p (touched k p n s)) ≡ part o w (page_at p s)
    unfolding touched
    part_touched_after o w h = part_put_field_after txn_id p n (counted k p s) (omega arith) o w (omega arith) ∙ part_counted_after o w h

    pub page_at_touched_other : (q : ℕ) → (q ≡ p → ⊥) → page_at q (touched k p n s) ≡ page_at q s
    unfolding touched
    page_at_touched_other q ne = page_at_put_field_other txn_id p q n (counted k p s) (omega arith) ne ∙ page_at_counted_other q ne
