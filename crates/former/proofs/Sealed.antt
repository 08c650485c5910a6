-- A store that the old seal has sealed is answered 3, whatever it holds: its status page says the old number, and where all else of it is right,
-- that is not the new one. Assumes nothing.
use mathlib.Core.Path.{◌≡◌, refl, sym, ap, ◌∙◌}
use mathlib.Core.Bool.{Bool, true, false}
use mathlib.Core.List.{List}
use Prim.Native.Nat.{ℕ, zero, suc, ◌<◌}
use native.Mathlib.Omega.{arith}
use lib.Dec.{eqb, leb}
use lib.ListN.{length}
use borrow.Author.Tests.{eqb-true, eqb-false}
use Rattle.ground.proofs.Ranges.{and_true_right}
use Rattle.little.specs.Little.{Bytes}
use Rattle.kind.specs.Kind.{pages, status_kind}
use Rattle.kind.specs.Areas.{Areas, bad_length}
use Rattle.page.specs.Header.{page_at, checksum, field_in, put_field}
use Rattle.page.proofs.Headers.{length_page_at, bytes_page_at, length_put_field, bytes_put_field, page_at_put_field_same, field_in_put_field}
use Rattle.whole.specs.Whole.{checksum_of, header_right}
use Rattle.desk.specs.Desk.{no_desk}
use Rattle.keep.specs.Whole.{highest, store_right}
use Rattle.keep.specs.Keep.{open_rule}
use Rattle.keep.proofs.Calls.{open_3}
use Rattle.former.specs.Former.{former_checksum, sealed_page_by, sealed_area_by, sealed_by, page_right_by, former_sealed, agree}
use Rattle.former.proofs.Numbers.{former_store, former_fits}
use Rattle.former.proofs.Stores.{header_says, page_right_lem, lengths_ok_lem, one_page, status_differs, right_parts, store_right_today}

length_sealed_area_by : (sum : List ℕ → ℕ) (n : ℕ) (s : List ℕ) → length (sealed_area_by sum n s) ≡ length s
unfolding sealed_area_by sealed_page_by
length_sealed_area_by sum zero s = refl
length_sealed_area_by sum (suc n) s =
    length_put_field checksum n (sum (page_at n (sealed_area_by sum n s))) (sealed_area_by sum n s) ∙ length_sealed_area_by sum n s

-- ---- its status page

module _ (s : List ℕ) (long : length s ≡ 8192) (b : Bytes s) where
  abbrev was : List ℕ
  was = page_at 0 s

  abbrev after : List ℕ
  after = put_field checksum 0 (former_checksum was) s

  status_sealed : sealed_area_by former_checksum (pages s) s ≡ after
  unfolding sealed_area_by sealed_page_by
  status_sealed =
      let one : pages s ≡ 1 = omega (arith, long) in
      ap (λ (n : ℕ). sealed_area_by former_checksum n s) one

  says_former : field_in checksum (page_at 0 after) ≡ former_checksum (page_at 0 after)
  says_former =
      field_in_put_field checksum 0 (former_checksum was) s (omega arith)
      (former_fits was (length_page_at 0 s (omega (arith, long))) (bytes_page_at 0 s b))
      (omega (arith, long))
      ∙ sym (ap former_checksum (page_at_put_field_same checksum 0 (former_checksum was) s (omega arith)) ∙ former_store was (former_checksum was))

  status_wrong : page_right_by checksum_of status_kind 1 (page_at 0 after) ≡ true → leb (highest after) 32575 ≡ true → ⊥
  unfolding page_right_by agree
  status_wrong right few =
      let says : field_in checksum (page_at 0 after) ≡ checksum_of (page_at 0 after) =
      eqb-true (field_in checksum (page_at 0 after)) (checksum_of (page_at 0 after))
      (and_true_right (header_right status_kind 1 (page_at 0 after)) (eqb (field_in checksum (page_at 0 after)) (checksum_of (page_at 0 after)))
      (sym (header_says status_kind 1 (checksum_of (page_at 0 after)) (page_at 0 after)) ∙ right)) in
      eqb-false (former_checksum (page_at 0 after)) (checksum_of (page_at 0 after))
      (status_differs after (checksum_of (page_at 0 after)) (length_put_field checksum 0 (former_checksum was) s ∙ long)
      (bytes_put_field checksum 0 (former_checksum was) s b) right few)
      (sym says_former ∙ says)

-- ---- the whole store

pub sealed_before_lem : (a : Areas) → Bytes a.status → bad_length a ≡ false → open_rule (former_sealed a) ≡ (3, no_desk)
unfolding sealed_by
sealed_before_lem a b lengths =
    open_3 (former_sealed a).«data» (former_sealed a).undo (former_sealed a).status
    (rw (
      length_sealed_area_by former_checksum (pages a.«data») a.«data»,
      length_sealed_area_by former_checksum (pages a.undo) a.undo,
      length_sealed_area_by former_checksum (pages a.status) a.status,
    )
    (lengths_ok_lem a lengths))
    (wrong (store_right (former_sealed a)) refl)
  where
    long : length a.status ≡ 8192
    long = one_page a lengths

    wrong : (t : Bool) → store_right (former_sealed a) ≡ t → store_right (former_sealed a) ≡ false
    wrong true e =
        let right = right_parts checksum_of (former_sealed a) (store_right_today (former_sealed a) ∙ e) in
        let some : 0 < pages (former_sealed a).status = omega (arith, length_sealed_area_by former_checksum (pages a.status) a.status, long) in
        let is = status_sealed a.status long b in
        absurd
        (status_wrong a.status long b
        (ap (λ (y : List ℕ). page_right_by checksum_of status_kind 1 (page_at 0 y)) (sym is)
        ∙ page_right_lem checksum_of status_kind (former_sealed a).status right.in_status 0 some)
        (ap (λ (y : List ℕ). leb (highest y) 32575) (sym is) ∙ right.few))
    wrong false e = e
