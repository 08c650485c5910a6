-- When a header is right but for its checksum: it is so by its 48 bytes and the count of its page alone, whatever txn_id and checksum
-- say, and a count written anew keeps it so. Then of the pages of an area: what a field, a status and a record stored leave of that.
-- Assumes nothing.
use mathlib.Core.Path.{◌≡◌, refl, sym, ap, ap₂, subst, ◌∙◌}
use mathlib.Core.Bool.{Bool, true, ◌&&◌}
use mathlib.Core.List.{List, [], ◌∷◌, ◌++◌}
use Prim.Native.Nat.{ℕ, ◌+◌, ◌/◌, ◌%◌, ◌^◌, ◌≤◌, ◌<◌}
use native.Mathlib.Nat.{add-zero, zero-add, add_assoc, mod-lt, one-le-pow}
use native.Mathlib.Omega.{arith}
use lib.ListN.{length, take, drop}
use lib.Seq.{sets}
use lib.Dec.{eqb}
use borrow.Author.Tests.{eqb-true}
use Rattle.ground.specs.Range.{count_below}
use Rattle.ground.proofs.Ranges.{and_true_left, and_true_right}
use Rattle.little.specs.Little.{little, digits, part, holds}
use Rattle.little.proofs.Digits.{length_digits, digits_low}
use Rattle.little.proofs.Parts.{part_part, part_sets_below, part_sets_above, little_sets}
use Rattle.little.proofs.Fields.{widths, holds_sets}
use Rattle.kind.specs.declared.Kind.{Kind}
use Rattle.kind.specs.Kind.{pages, status_kind}
use Rattle.kind.proofs.Places.{Lie, Within, within_header, length_within}
use Rattle.status.specs.declared.Status.{Status}
use Rattle.status.specs.Status.{put_status}
use Rattle.page.specs.Header.{header, page_at, txn_id, checksum, item_count, field_in, put_field}
use Rattle.page.specs.Count.{items_in, counted}
use Rattle.page.proofs.Counts.{items_in_header}
use Rattle.page.proofs.Touches.{items_in_few}
use Rattle.page.proofs.Headers.{length_page_at, page_at_put_field_same, field_in_header, header_at, header_put_status}
use Rattle.whole.specs.Whole.{header_right}

-- ---- fields that are held

-- in the front of a list as in the list
holds_front : (n : ℕ) (s : List ℕ) (at : ℕ) (fs : List (ℕ × ℕ)) → at + widths fs ≤ n → holds (part 0 n s) at fs ≡ holds s at fs
unfolding holds
holds_front n s at [] h = refl
holds_front n s at (f ∷ fs) h =
    ap₂ (λ (l : List ℕ) (b : Bool). eqb (little l) f.1 && b)
    (part_part at f.0 0 n s (omega arith) ∙ ap (λ (i : ℕ). part i f.0 s) (zero-add at))
    (holds_front n s (at + f.0) fs (omega arith))

-- a field that is held says its value
pub holds_said : (s : List ℕ) (at : ℕ) (before : List (ℕ × ℕ)) (w v : ℕ) (after : List (ℕ × ℕ)) → holds s at (before ++ (w, v) ∷ after) ≡ true
    → little (part (at + widths before) w s) ≡ v
unfolding holds
holds_said s at [] w v after h =
    rw add-zero (eqb-true (little (part at w s)) v (and_true_left (eqb (little (part at w s)) v) (holds s (at + w) after) h))
holds_said s at (f ∷ before) w v after h =
    rw (← add_assoc)
    (holds_said s (at + f.0) before w v after
    (and_true_right (eqb (little (part at f.0 s)) f.1) (holds s (at + f.0) (before ++ (w, v) ∷ after)) h))

-- a field that may say anything, stored anew
holds_anew : (s : List ℕ) (at : ℕ) (before : List (ℕ × ℕ)) (w v : ℕ) (after : List (ℕ × ℕ)) → at + widths before + w ≤ length s
    → holds (sets s (at + widths before) (digits w v)) at
    (before ++ (w, little (part (at + widths before) w (sets s (at + widths before) (digits w v)))) ∷ after)
    ≡ holds s at (before ++ (w, little (part (at + widths before) w s)) ∷ after)
holds_anew s at before w v after h = subst Anew (digits_low w v) low
  where
    o : ℕ
    o = at + widths before

    Anew : List ℕ → Type 0
    Anew ds =
        holds (sets s o ds) at (before ++ (w, little (part o w (sets s o ds))) ∷ after)
        ≡ holds s at (before ++ (w, little (part o w s)) ∷ after)

    fits : v % 256 ^ w < 256 ^ w
    fits = mod-lt v (one-le-pow w 256 (omega arith))

    low : Anew (digits w (v % 256 ^ w))
    low =
        ap (λ (x : ℕ). holds (sets s o (digits w (v % 256 ^ w))) at (before ++ (w, x) ∷ after)) (little_sets s o w (v % 256 ^ w) fits h)
        ∙ holds_sets s at before w (v % 256 ^ w) after fits h

-- ---- a page whose item_count should be n

abbrev right_with : Kind → ℕ → ℕ → List ℕ → Bool
right_with k id n page = holds page 0 (header k id (field_in txn_id page) (field_in checksum page) n)

-- it is right by the bytes of its header alone
right_with_front : (k : Kind) (id n : ℕ) (page : List ℕ) → right_with k id n (part 0 48 page) ≡ right_with k id n page
right_with_front k id n page =
    rw (part_part 8 8 0 48 page (omega arith), part_part 20 4 0 48 page (omega arith))
    (holds_front 48 page 0 (header k id (field_in txn_id page) (field_in checksum page) n) (omega arith))

right_with_same : (k : Kind) (id n : ℕ) (x y : List ℕ) → part 0 48 y ≡ part 0 48 x → right_with k id n y ≡ right_with k id n x
right_with_same k id n x y e =
    sym (right_with_front k id n y) ∙ ap (right_with k id n) e ∙ right_with_front k id n x

module _ (k : Kind) (id : ℕ) (page : List ℕ) (long : length page ≡ 8192) where
  -- txn_id and checksum may say anything
  header_right_txn_id : (v : ℕ) → header_right k id (sets page 8 (digits 8 v)) ≡ header_right k id page
  unfolding header_right
  header_right_txn_id v =
      let wide : length (digits 8 v) ≡ 8 = length_digits 8 v in
      rw (part_sets_above 20 4 page 8 (digits 8 v) (omega arith), items_in_header k 8 page (digits 8 v) (omega arith))
      (holds_anew page 0 (take 1 fields) 8 v (drop 2 fields) (omega arith))
    where
      fields : List (ℕ × ℕ)
      fields = header k id 0 (field_in checksum page) (items_in k page)

  pub header_right_checksum : (v : ℕ) → header_right k id (sets page 20 (digits 4 v)) ≡ header_right k id page
  unfolding header_right
  header_right_checksum v =
      rw (part_sets_below 8 8 page 20 (digits 4 v) (omega arith), items_in_header k 20 page (digits 4 v) (omega (arith, length_digits 4 v)))
      (holds_anew page 0 (take 3 fields) 4 v (drop 4 fields) (omega arith))
    where
      fields : List (ℕ × ℕ)
      fields = header k id (field_in txn_id page) 0 (items_in k page)

  -- a count written anew
  right_with_count : (n : ℕ) → n < 65536 → right_with k id n (sets page 38 (digits 2 n)) ≡ right_with k id (field_in item_count page) page
  right_with_count n fits =
      rw (part_sets_below 8 8 page 38 (digits 2 n) (omega arith), part_sets_below 20 4 page 38 (digits 2 n) (omega arith))
      (holds_sets page 0 (take 8 fields) 2 n (drop 9 fields) fits (omega arith))
    where
      fields : List (ℕ × ℕ)
      fields = header k id (field_in txn_id page) (field_in checksum page) n

  -- over the header of a page that was right
  header_right_counted : (was : List ℕ) → part 0 48 page ≡ part 0 48 was → k.count < 65536 → header_right k id was ≡ true
      → header_right k id (sets page 38 (digits 2 (items_in k page))) ≡ true
  unfolding header_right
  header_right_counted was same few h =
      rw (items_in_header k 38 page (digits 2 (items_in k page)) (omega (arith, length_digits 2 (items_in k page))))
      (right_with_count (items_in k page) (omega (arith, items_in_few k page))
      ∙ ap (λ (n : ℕ). right_with k id n page) said
      ∙ right_with_same k id (items_in k was) was page same
      ∙ h)
    where
      fields : List (ℕ × ℕ)
      fields = header k id (field_in txn_id was) (field_in checksum was) 0

      said : field_in item_count page ≡ items_in k was
      said = field_in_header item_count was page (omega arith) same ∙ holds_said was 0 (take 8 fields) 2 (items_in k was) (drop 9 fields) h

-- ---- page q of an area

-- a field that may say anything, put into it
header_right_put : (k : Kind) (id : ℕ) (f : ℕ × ℕ) (q v : ℕ) (s : List ℕ) → f.0 + f.1 ≤ 8192
    → ((page : List ℕ) → length page ≡ 8192 → header_right k id (sets page f.0 (digits f.1 v)) ≡ header_right k id page)
    → q < pages s
    → header_right k id (page_at q (put_field f q v s)) ≡ header_right k id (page_at q s)
header_right_put k id f q v s room free l =
    ap (header_right k id) (page_at_put_field_same f q v s room) ∙ free (page_at q s) (length_page_at q s (omega arith))

module _ (k : Kind) (id q v : ℕ) (s : List ℕ) where
  pub header_right_put_txn_id : q < pages s → header_right k id (page_at q (put_field txn_id q v s)) ≡ header_right k id (page_at q s)
  header_right_put_txn_id = header_right_put k id txn_id q v s (omega arith) (λ page long. header_right_txn_id k id page long v)

  pub header_right_put_checksum : q < pages s → header_right k id (page_at q (put_field checksum q v s)) ≡ header_right k id (page_at q s)
  header_right_put_checksum = header_right_put k id checksum q v s (omega arith) (λ page long. header_right_checksum k id page long v)

-- a status put: its page has no records
pub header_right_put_status : (id p n : ℕ) (v : Status) (s : List ℕ)
    → header_right status_kind id (page_at p (put_status n v s)) ≡ header_right status_kind id (page_at p s)
unfolding header_right items_in count_below
header_right_put_status id p n v s = right_with_same status_kind id 0 (page_at p s) (page_at p (put_status n v s)) (header_put_status p n v s)

-- y is s with bytes of record r stored; then the page of r is counted anew
module _ (k : Kind) (lie : Lie 8192 k.size k.count) {r : ℕ} {s y : List ℕ} (w : Within 8192 k.size k.count r s y) where
  abbrev home : ℕ
  home = r / k.count

  pub header_right_recounted : (id : ℕ) → k.count < 65536 → r / k.count < pages s
      → header_right k id (page_at (r / k.count) s) ≡ true
      → header_right k id (page_at (r / k.count) (counted k (r / k.count) y)) ≡ true
  unfolding counted
  header_right_recounted id few l right =
      ap (header_right k id) (page_at_put_field_same item_count home (items_in k (page_at home y)) y (omega arith))
      ∙ header_right_counted k id (page_at home y) (length_page_at home y (omega (arith, length_within lie w))) (page_at home s)
      (header_at home y ∙ within_header lie w home 0 48 (omega arith) ∙ sym (header_at home s))
      few right
