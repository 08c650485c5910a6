-- Laws of right pages: a page is right once it is sealed where its header was right but for the checksum, and a fresh page is
-- right, with nothing in it; sealing leaves every record and status as it was. Assumes nothing.
use mathlib.Core.Path.{◌≡◌, refl, sym, ap, ◌∙◌}
use mathlib.Core.Bool.{Bool, true, false, not}
use mathlib.Core.List.{List, ◌++◌}
use Prim.Native.Nat.{ℕ, ◌+◌, ◌*◌, ◌/◌, ◌%◌, ◌^◌, ◌<◌}
use native.Mathlib.Nat.{one-le-pow, div-eq_of_lt}
use native.Mathlib.Omega.{arith}
use lib.ListN.{length, take, drop, get_or, replicate}
use lib.Seq.{sets, length-sets}
use lib.Dec.{eqb}
use borrow.Author.Tests.{eqb-true, eqb-false}
use Rattle.ground.proofs.Ranges.{count_none}
use Rattle.little.specs.Little.{little, digits, part, bytes_of, Bytes}
use Rattle.little.proofs.Digits.{length_digits}
use Rattle.little.proofs.Parts.{part_front, part_skip, part_sets_below, part_sets_above, sets_again, little_byte, little_part_zeros}
use Rattle.little.proofs.Fields.{Fit, length_bytes_of, little_field, holds_bytes_of, holds_sets}
use Rattle.little.proofs.AllBytes.{bytes_sets, bytes_append, bytes_digits, bytes_zeros, bytes_bytes_of, bytes_at}
use Rattle.crc.specs.Crc.{crc_of}
use Rattle.crc.proofs.CrcLaws.{crc_below}
use Rattle.kind.specs.declared.Kind.{Kind}
use Rattle.kind.specs.Kind.{data_kind, undo_kind, status_kind}
use Rattle.kind.specs.Place.{record_at}
use Rattle.kind.proofs.Places.{Lie}
use Rattle.records.specs.Slot.{slot_at, body_at}
use Rattle.records.specs.Entry.{entry_at, copy_body_at}
use Rattle.records.proofs.Slots.{slots_lie, slot_at_same, body_at_same}
use Rattle.records.proofs.Entries.{entries_lie, entry_at_same, copy_body_at_same}
use Rattle.page.specs.Header.{header, page_at, txn_id, checksum, field_in}
use Rattle.page.specs.Count.{in_use, items_in}
use Rattle.status.specs.declared.Status.TheVariants.{InWork}
use Rattle.status.specs.Status.{status_shift, status_of, status_at}
use Rattle.status.proofs.StatusLaws.{unit_pos, status_at_page}
use Rattle.whole.specs.Whole.{checksum_of, page_right, header_right, sealed_page, blank_page, fresh_page}
use Rattle.page.proofs.Headers.{length_put_field, page_at_put_field_same, page_at_put_field_other, status_at_put_field}
use Rattle.page.proofs.Counts.{items_in_header, record_at_put_field}
use Rattle.whole.proofs.Wholes.{length_blank_page}
use Rattle.whole.proofs.Headers.{header_right_checksum}

-- ---- the checksum of a page: it fits its field, and the field does not count

pub checksum_of_fits : (page : List ℕ) → Bytes page → checksum_of page < 256 ^ 4
unfolding checksum_of
checksum_of_fits page h =
    crc_below (sets page 20 (digits 4 0)) (bytes_at (sets page 20 (digits 4 0)) (bytes_sets (digits 4 0) page 20 (bytes_digits 4 0) h))

pub checksum_of_store : (page : List ℕ) (v : ℕ) → checksum_of (sets page 20 (digits 4 v)) ≡ checksum_of page
unfolding checksum_of
checksum_of_store page v = ap crc_of (sets_again page 20 (digits 4 v) (digits 4 0) (length_digits 4 v ∙ sym (length_digits 4 0)))

-- ---- sealing page p of an area

pub length_sealed_page : (p : ℕ) (s : List ℕ) → length (sealed_page p s) ≡ length s
unfolding sealed_page
length_sealed_page p s = length_put_field checksum p (checksum_of (page_at p s)) s

pub page_at_sealed_page_same : (p : ℕ) (s : List ℕ) → page_at p (sealed_page p s) ≡ sets (page_at p s) 20 (digits 4 (checksum_of (page_at p s)))
unfolding sealed_page
page_at_sealed_page_same p s = page_at_put_field_same checksum p (checksum_of (page_at p s)) s (omega arith)

pub page_at_sealed_page_other : (p q : ℕ) (s : List ℕ) → (q ≡ p → ⊥) → page_at q (sealed_page p s) ≡ page_at q s
unfolding sealed_page
page_at_sealed_page_other p q s ne = page_at_put_field_other checksum p q (checksum_of (page_at p s)) s (omega arith) ne

-- a checksum is no byte of a status
pub status_at_sealed_page : (n p : ℕ) (s : List ℕ) → status_at n (sealed_page p s) ≡ status_at n s
unfolding sealed_page
status_at_sealed_page n p s = status_at_put_field checksum n p (checksum_of (page_at p s)) s (omega arith)

-- nor of a record
module _ (r p : ℕ) (s : List ℕ) where
  record_at_sealed_page : {size count : ℕ} → Lie 8192 size count → record_at 8192 size count r (sealed_page p s) ≡ record_at 8192 size count r s
  unfolding sealed_page
  record_at_sealed_page lie = record_at_put_field lie checksum p (checksum_of (page_at p s)) r s (omega arith)

  pub slot_at_sealed_page : slot_at r (sealed_page p s) ≡ slot_at r s
  slot_at_sealed_page = slot_at_same s (sealed_page p s) r (record_at_sealed_page slots_lie)

  pub body_at_sealed_page : body_at r (sealed_page p s) ≡ body_at r s
  body_at_sealed_page = body_at_same s (sealed_page p s) r (record_at_sealed_page slots_lie)

  pub entry_at_sealed_page : entry_at r (sealed_page p s) ≡ entry_at r s
  entry_at_sealed_page = entry_at_same s (sealed_page p s) r (record_at_sealed_page entries_lie)

  pub copy_body_at_sealed_page : copy_body_at r (sealed_page p s) ≡ copy_body_at r s
  copy_body_at_sealed_page = copy_body_at_same s (sealed_page p s) r (record_at_sealed_page entries_lie)

-- nor of a txn_id
pub txn_id_sealed_page : (p q : ℕ) (s : List ℕ) → field_in txn_id (page_at q (sealed_page p s)) ≡ field_in txn_id (page_at q s)
txn_id_sealed_page p q s = by (eqb q p) refl
  where
    by : (t : Bool) → eqb q p ≡ t → field_in txn_id (page_at q (sealed_page p s)) ≡ field_in txn_id (page_at q s)
    by true e =
        let same : q ≡ p = eqb-true q p e in
        ap (λ (n : ℕ). field_in txn_id (page_at n (sealed_page p s))) same
        ∙ ap (field_in txn_id) (page_at_sealed_page_same p s)
        ∙ ap little (part_sets_below 8 8 (page_at p s) 20 (digits 4 (checksum_of (page_at p s))) (omega arith))
        ∙ ap (λ (n : ℕ). field_in txn_id (page_at n s)) (sym same)
    by false e = ap (field_in txn_id) (page_at_sealed_page_other p q s (eqb-false q p e))

-- ---- a page is right once it is sealed, where its header was right but for the checksum

pub page_right_sealed : (k : Kind) (id : ℕ) (page : List ℕ) → length page ≡ 8192 → Bytes page
    → page_right k id (sets page 20 (digits 4 (checksum_of page))) ≡ header_right k id page
unfolding page_right header_right
page_right_sealed k id page l h =
    rw (part_sets_below 8 8 page 20 sum (omega arith), checksum_of_store page (checksum_of page), items)
    (holds_sets page 0 (take 3 fields) 4 (checksum_of page) (drop 4 fields) (checksum_of_fits page h) (omega arith))
  where
    sum : List ℕ
    sum = digits 4 (checksum_of page)

    items : items_in k (sets page 20 sum) ≡ items_in k page
    items = items_in_header k 20 page sum (omega (arith, length_digits 4 (checksum_of page)))

    fields : List (ℕ × ℕ)
    fields = header k id (field_in txn_id page) 0 (items_in k page)

-- ---- a fresh page is right

-- a kind whose numbers fit their fields
pub record Fitting (k : Kind) : Type 0 where
  pub free_fits : k.free < 65536
  pub code_fits : k.code < 256
  pub engine_fits : k.engine < 256

pub fitting_data : Fitting data_kind
fitting_data = record { free_fits = omega arith; code_fits = omega arith; engine_fits = omega arith }

pub fitting_undo : Fitting undo_kind
fitting_undo = record { free_fits = omega arith; code_fits = omega arith; engine_fits = omega arith }

pub fitting_status : Fitting status_kind
fitting_status = record { free_fits = omega arith; code_fits = omega arith; engine_fits = omega arith }

-- a header with n zeros behind it
module _ (k : Kind) (id n : ℕ) where
  behind_zeros : (a w : ℕ) → little (part (48 + a) w (bytes_of (header k id 0 0 0) ++ replicate n 0)) ≡ 0
  behind_zeros a w =
      ap little (part_skip (bytes_of (header k id 0 0 0)) (replicate n 0) 48 a w (length_bytes_of (header k id 0 0 0))) ∙ little_part_zeros a w n

  items_zeros : items_in k (bytes_of (header k id 0 0 0) ++ replicate n 0) ≡ 0
  unfolding items_in in_use
  items_zeros =
      count_none (in_use k.size (bytes_of (header k id 0 0 0) ++ replicate n 0)) k.count
      (λ i h. ap (λ (v : ℕ). not (eqb v 0)) (behind_zeros (i * k.size) 8))

  txn_zeros : field_in txn_id (bytes_of (header k id 0 0 0) ++ replicate n 0) ≡ 0
  txn_zeros = little_field 1 (header k id 0 0 0) (replicate n 0) (omega arith) (omega arith)

  checksum_zeros : field_in checksum (bytes_of (header k id 0 0 0) ++ replicate n 0) ≡ 0
  checksum_zeros = little_field 3 (header k id 0 0 0) (replicate n 0) (omega arith) (omega arith)

  right_zeros : Fitting k → id < 256 ^ 4 → header_right k id (bytes_of (header k id 0 0 0) ++ replicate n 0) ≡ true
  unfolding header_right
  right_zeros fit h =
      rw (txn_zeros, checksum_zeros, items_zeros)
      (holds_bytes_of (bytes_of (header k id 0 0 0) ++ replicate n 0) 0 (header k id 0 0 0) fits
      (part_front (bytes_of (header k id 0 0 0)) (replicate n 0) 48 (length_bytes_of (header k id 0 0 0))))
    where
      z : (w : ℕ) → 0 < 256 ^ w
      z w = one-le-pow w 256 (omega arith)

      fits : Fit (header k id 0 0 0)
      fits =
          let last : Fit (drop 11 (header k id 0 0 0)) = (fit.code_fits, (fit.engine_fits, (z 1, (omega arith, tt)))) in
          (z 8, (z 8, (h, (z 4, (z 4, (z 4, (z 4, (fit.free_fits, (z 2, (z 2, (z 2, last)))))))))))

-- before its checksum is written, and after
module _ (k : Kind) (id : ℕ) where
  pub bytes_blank_page : Bytes (blank_page k id)
  unfolding blank_page
  bytes_blank_page = bytes_append (bytes_of (header k id 0 0 0)) (replicate 8144 0) (bytes_bytes_of (header k id 0 0 0)) (bytes_zeros 8144)

  pub header_right_blank_page : Fitting k → id < 256 ^ 4 → header_right k id (blank_page k id) ≡ true
  unfolding blank_page
  header_right_blank_page fit h = right_zeros k id 8144 fit h

  abbrev sum : List ℕ
  sum = digits 4 (checksum_of (blank_page k id))

  pub length_fresh_page : length (fresh_page k id) ≡ 8192
  unfolding fresh_page
  length_fresh_page = length-sets (blank_page k id) 20 sum ∙ length_blank_page k id

  pub txn_id_fresh_page : field_in txn_id (fresh_page k id) ≡ 0
  unfolding fresh_page blank_page
  txn_id_fresh_page = ap little (part_sets_below 8 8 (blank_page k id) 20 sum (omega arith)) ∙ txn_zeros k id 8144

  pub page_right_fresh_page : Fitting k → id < 256 ^ 4 → page_right k id (fresh_page k id) ≡ true
  unfolding fresh_page
  page_right_fresh_page fit h = page_right_sealed k id (blank_page k id) (length_blank_page k id) bytes_blank_page ∙ header_right_blank_page fit h

  pub header_right_fresh_page : Fitting k → id < 256 ^ 4 → header_right k id (fresh_page k id) ≡ true
  unfolding fresh_page
  header_right_fresh_page fit h =
      header_right_checksum k id (blank_page k id) (length_blank_page k id) (checksum_of (blank_page k id)) ∙ header_right_blank_page fit h

  pub bytes_fresh_page : Bytes (fresh_page k id)
  unfolding fresh_page
  bytes_fresh_page = bytes_sets sum (blank_page k id) 20 (bytes_digits 4 (checksum_of (blank_page k id))) bytes_blank_page

  -- behind its header are zeros: no record is in use, and every number is in work
  zeros_behind : (a w : ℕ) → little (part (48 + a) w (fresh_page k id)) ≡ 0
  unfolding fresh_page blank_page
  zeros_behind a w =
      ap little (part_sets_above (48 + a) w (blank_page k id) 20 sum (omega (arith, length_digits 4 (checksum_of (blank_page k id)))))
      ∙ behind_zeros k id 8144 a w

  pub in_use_fresh_page : (size i : ℕ) → in_use size (fresh_page k id) i ≡ false
  unfolding in_use
  in_use_fresh_page size i = ap (λ (v : ℕ). not (eqb v 0)) (zeros_behind (i * size) 8)

  pub status_at_fresh_page : (n : ℕ) → n < 32576 → status_at n (fresh_page k id) ≡ InWork
  status_at_fresh_page n h =
      status_at_page n (fresh_page k id) h
      ∙ ap (λ (b : ℕ). status_of (b / 2 ^ status_shift n % 4)) byte
      ∙ ap (λ (b : ℕ). status_of (b % 4)) (div-eq_of_lt (unit_pos n))
    where
      byte : get_or (fresh_page k id) (48 + n / 4) 0 ≡ 0
      byte = sym (little_byte (48 + n / 4) (fresh_page k id) (omega (arith, length_fresh_page))) ∙ zeros_behind (n / 4) 1
