-- What format, seal and open promise, over their rules alone: each leaves one answer, a refused call changes nothing, and open takes
-- up what format wrote and what seal sealed. Assumes nothing.
use mathlib.Core.Path.{◌≡◌, refl, sym, ap, ◌∙◌}
use mathlib.Core.Logic.{⊎_elim}
use mathlib.Core.Bool.{true, false, not}
use mathlib.Core.List.{List, [], ◌∷◌, ◌++◌}
use Prim.Native.Nat.{ℕ, zero, suc, ◌+◌, ◌*◌, ◌^◌, ◌≤◌, ◌<◌}
use native.Mathlib.Nat.{eq-or-lt_of_le, le_of_suc-le-suc}
use native.Mathlib.Numerals.{add-one}
use native.Mathlib.Omega.{arith}
use lib.ListN.{length, length-append}
use lib.Seq.{sets}
use lib.Dec.{leb, ltb}
use borrow.Author.Tests.{not-false}
use Rattle.std.specs.Prelude.{Result}
use Rattle.ground.specs.Refuse.{first_of}
use Rattle.ground.specs.Range.{all_below}
use Rattle.ground.specs.Does.{Does}
use Rattle.ground.proofs.Ranges.{all_intro, all_agree}
use Rattle.ground.proofs.Refusals.{first_of_none, settled}
use Rattle.ground.proofs.Once.{once}
use Rattle.answer.specs.declared.Refusal.{Refusal}
use Rattle.answer.specs.Code.{number_of}
use Rattle.answer.proofs.Codes.{answered_once, done_once}
use Rattle.little.specs.Little.{digits, Bytes}
use Rattle.little.proofs.AllBytes.{bytes_append}
use Rattle.places.specs.Open.{open_count}
use Rattle.desk.specs.declared.Desk.{Desk}
use Rattle.desk.specs.Desk.{fresh_desk, no_desk}
use Rattle.desk.specs.Sound.{sound}
use Rattle.kind.specs.declared.Kind.{Kind}
use Rattle.kind.specs.Kind.{pages, data_kind, undo_kind, status_kind, lengths_ok}
use Rattle.kind.specs.Areas.{Areas, bad_length}
use Rattle.page.specs.Header.{page_at, txn_id, field_in}
use Rattle.status.specs.declared.Status.TheVariants.{InWork}
use Rattle.status.specs.Status.{status_at}
use Rattle.whole.specs.Whole.{checksum_of, page_right, header_right, sealed_page, fresh_page}
use Rattle.kind.proofs.Lengths.{Lent, AllLent, all_lent}
use Rattle.page.proofs.Headers.{length_page_at, bytes_page_at, page_at_append, page_at_behind}
use Rattle.whole.proofs.Rights.{Fitting, fitting_data, fitting_undo, fitting_status, length_sealed_page, status_at_sealed_page, txn_id_sealed_page, page_at_sealed_page_same, page_at_sealed_page_other, page_right_sealed, length_fresh_page, bytes_fresh_page, txn_id_fresh_page, status_at_fresh_page, page_right_fresh_page}
use Rattle.keep.specs.Whole.{fresh_area, sealed_area, area_right, highest, ended, all_ended, store_right}
use Rattle.keep.specs.Keep.{said, format_refusal, formatted, format_rule, seal_refusal, sealed, seal_rule, open_refusal, open_rule}

-- ---- one answer: no second result meets a contract

pub said_injective : (r r' : Result Desk Refusal) → said r ≡ said r' → r ≡ r'
said_injective r r' e =
    answered_once r r' (ap (λ (p : ℕ × Desk). p.0) e)
    (λ d d' is is'. ap desk_told (sym is) ∙ ap (λ (p : ℕ × Desk). p.1) e ∙ ap desk_told is')
  where
    desk_told : Result Desk Refusal → Desk
    desk_told answered = (said answered).1

pub format_once : (a : Areas) (r r' : Result Desk Refusal) (x x' : Areas) → Does (format_rule a) (said r) x → Does (format_rule a) (said r') x' → (r ≡ r') × (x ≡ x')
format_once a r r' x x' p q = (said_injective r r' (once p q).0, (once p q).1)

pub seal_once : (a : Areas) (d : Desk) (r r' : Result (Unit {0}) Refusal) (x x' : Areas)
    → Does (seal_rule a d) (number_of r) x
    → Does (seal_rule a d) (number_of r') x'
    → (r ≡ r') × (x ≡ x')
seal_once a d r r' x x' p q = (done_once r r' (once p q).0, (once p q).1)

pub open_once : (a : Areas) (r r' : Result Desk Refusal) → said r ≡ open_rule a → said r' ≡ open_rule a → r ≡ r'
open_once a r r' p q = said_injective r r' (p ∙ sym q)

-- ---- a refused call changes nothing, and what an accepted one leaves

module _ (a : Areas) where
  pub format_refused : ((format_rule a).0.0 ≡ 0 → ⊥) → (format_rule a).1 ≡ a
  unfolding format_rule
  format_refused =
      settled ((0, fresh_desk 1), formatted a) (λ (n : ℕ). ((n, no_desk), a)) (format_refusal a)
      (λ (y : (ℕ × Desk) × Areas). (y.0.0 ≡ 0 → ⊥) → y.1 ≡ a)
      (λ e h. absurd (h refl))
      (λ m h. refl)

  pub format_accepted : (format_rule a).0.0 ≡ 0 → (bad_length a ≡ false) × (format_rule a ≡ ((0, fresh_desk 1), formatted a))
  unfolding format_rule format_refusal
  format_accepted =
      settled ((0, fresh_desk 1), formatted a) (λ (n : ℕ). ((n, no_desk), a)) (format_refusal a)
      (λ (y : (ℕ × Desk) × Areas). y.0.0 ≡ 0 → (bad_length a ≡ false) × (y ≡ ((0, fresh_desk 1), formatted a)))
      (λ e h. ((first_of_none (bad_length a) 1 0 (λ z. omega arith) e).0, refl))
      (λ m h. absurd (omega arith))

  module _ (d : Desk) where
    pub seal_refused : ((seal_rule a d).0 ≡ 0 → ⊥) → (seal_rule a d).1 ≡ a
    unfolding seal_rule
    seal_refused =
        settled (0, sealed a) (λ (n : ℕ). (n, a)) (seal_refusal a d)
        (λ (y : ℕ × Areas). (y.0 ≡ 0 → ⊥) → y.1 ≡ a)
        (λ e h. absurd (h refl))
        (λ m h. refl)

    pub seal_accepted : (seal_rule a d).0 ≡ 0 → (bad_length a ≡ false) × (seal_rule a d ≡ (0, sealed a))
    unfolding seal_rule seal_refusal
    seal_accepted =
        settled (0, sealed a) (λ (n : ℕ). (n, a)) (seal_refusal a d)
        (λ (y : ℕ × Areas). y.0 ≡ 0 → (bad_length a ≡ false) × (y ≡ (0, sealed a)))
        (λ e h. (
          (first_of_none (bad_length a) 1 (first_of ((not (sound d), 2) ∷ (ltb 0 (open_count d.numbers), 15) ∷ [])) (λ z. omega arith) e).0,
          refl,
        ))
        (λ m h. absurd (omega arith))

-- ---- fresh areas

pub length_fresh_area : (k : Kind) (n : ℕ) → length (fresh_area k n) ≡ n * 8192
unfolding fresh_area
length_fresh_area k zero = refl
length_fresh_area k (suc n) =
    omega (arith, length-append (fresh_area k n) (fresh_page k (suc n)), length_fresh_area k n, length_fresh_page k (suc n))

pub bytes_fresh_area : (k : Kind) (n : ℕ) → Bytes (fresh_area k n)
unfolding fresh_area
bytes_fresh_area k zero = tt
bytes_fresh_area k (suc n) = bytes_append (fresh_area k n) (fresh_page k (suc n)) (bytes_fresh_area k n) (bytes_fresh_page k (suc n))

pub page_at_fresh_area : (k : Kind) (n p : ℕ) → p < n → page_at p (fresh_area k n) ≡ fresh_page k (p + 1)
unfolding fresh_area
page_at_fresh_area k zero p h = absurd (omega arith)
page_at_fresh_area k (suc n) p h =
    ⊎_elim
    (λ (e : p ≡ n).
    ap (λ (m : ℕ). page_at m (fresh_area k n ++ fresh_page k (suc n))) e
    ∙ page_at_behind n (fresh_area k n) (fresh_page k (suc n)) (length_fresh_area k n) (length_fresh_page k (suc n))
    ∙ ap (fresh_page k) (ap suc (sym e) ∙ sym (add-one p)))
    (λ (l : p < n).
    page_at_append p (fresh_area k n) (fresh_page k (suc n)) (omega (arith, length_fresh_area k n)) ∙ page_at_fresh_area k n p l)
    (eq-or-lt_of_le (le_of_suc-le-suc h))

pages_fresh_area : (k : Kind) (n : ℕ) → pages (fresh_area k n) ≡ n
pages_fresh_area k n = omega (arith, length_fresh_area k n)

pub area_right_fresh_area : (k : Kind) (n : ℕ) → Fitting k → n < 256 ^ 4 → area_right k (fresh_area k n) ≡ true
unfolding area_right
area_right_fresh_area k n fit h =
    all_intro (λ (p : ℕ). page_right k (p + 1) (page_at p (fresh_area k n))) (pages (fresh_area k n))
    (λ p l.
    let below : p < n = omega (arith, pages_fresh_area k n) in
    ap (page_right k (p + 1)) (page_at_fresh_area k n p below) ∙ page_right_fresh_page k (p + 1) fit (omega arith))

pub highest_fresh_area : (k : Kind) (n : ℕ) → 0 < n → highest (fresh_area k n) ≡ 0
unfolding highest
highest_fresh_area k n h = ap (field_in txn_id) (page_at_fresh_area k n 0 h) ∙ txn_id_fresh_page k 1

-- every number is in work
pub status_at_fresh_area : (k : Kind) (n : ℕ) → n < 32576 → status_at n (fresh_area k 1) ≡ InWork
unfolding fresh_area
status_at_fresh_area k n h = status_at_fresh_page k 1 n h

-- ---- sealed areas

-- what sealing a page leaves as it was, sealing an area does
pub sealed_area_keeps : {A : Type 0} (view : List ℕ → A) → ((p : ℕ) (s : List ℕ) → view (sealed_page p s) ≡ view s)
    → (n : ℕ) (s : List ℕ) → view (sealed_area n s) ≡ view s
unfolding sealed_area
sealed_area_keeps view keeps zero s = refl
sealed_area_keeps view keeps (suc n) s = keeps n (sealed_area n s) ∙ sealed_area_keeps view keeps n s

pub length_sealed_area : (n : ℕ) (s : List ℕ) → length (sealed_area n s) ≡ length s
length_sealed_area = sealed_area_keeps length length_sealed_page

-- the pages that are not sealed yet, and those that are
pub page_at_sealed_area_above : (n p : ℕ) (s : List ℕ) → n ≤ p → page_at p (sealed_area n s) ≡ page_at p s
unfolding sealed_area
page_at_sealed_area_above zero p s h = refl
page_at_sealed_area_above (suc n) p s h =
    page_at_sealed_page_other n p (sealed_area n s) (λ e. omega arith) ∙ page_at_sealed_area_above n p s (omega arith)

pub page_at_sealed_area : (n p : ℕ) (s : List ℕ) → p < n → page_at p (sealed_area n s) ≡ sets (page_at p s) 20 (digits 4 (checksum_of (page_at p s)))
unfolding sealed_area
page_at_sealed_area zero p s h = absurd (omega arith)
page_at_sealed_area (suc n) p s h =
    ⊎_elim
    (λ (e : p ≡ n).
    ap (λ (m : ℕ). page_at p (sealed_page m (sealed_area n s))) (sym e)
    ∙ page_at_sealed_page_same p (sealed_area n s)
    ∙ ap (λ (l : List ℕ). sets l 20 (digits 4 (checksum_of l))) (page_at_sealed_area_above n p s (omega arith)))
    (λ (l : p < n). page_at_sealed_page_other n p (sealed_area n s) (λ e. omega arith) ∙ page_at_sealed_area n p s l)
    (eq-or-lt_of_le (le_of_suc-le-suc h))

pub page_right_sealed_area : (k : Kind) (s : List ℕ) (p : ℕ) → p < pages s → Bytes s
    → page_right k (p + 1) (page_at p (sealed_area (pages s) s)) ≡ header_right k (p + 1) (page_at p s)
page_right_sealed_area k s p h b =
    ap (page_right k (p + 1)) (page_at_sealed_area (pages s) p s h)
    ∙ page_right_sealed k (p + 1) (page_at p s) (length_page_at p s (omega arith)) (bytes_page_at p s b)

-- sealing changes no number handed out and no status
pub highest_sealed_area : (n : ℕ) (s : List ℕ) → highest (sealed_area n s) ≡ highest s
unfolding highest
highest_sealed_area = sealed_area_keeps highest (λ p s. txn_id_sealed_page p 0 s)

pub status_at_sealed_area : (n m : ℕ) (s : List ℕ) → status_at m (sealed_area n s) ≡ status_at m s
status_at_sealed_area n m s = sealed_area_keeps (status_at m) (status_at_sealed_page m) n s

all_ended_sealed_area : (n m : ℕ) (s : List ℕ) → all_ended m (sealed_area n s) ≡ all_ended m s
unfolding all_ended
all_ended_sealed_area n m s =
    all_agree (λ (i : ℕ). ended (status_at (i + 1) (sealed_area n s))) (λ (i : ℕ). ended (status_at (i + 1) s)) m
    (λ i h. ap ended (status_at_sealed_area n (i + 1) s))

-- an area of bytes whose headers and counts are right but for the checksums
pub record Sealable (k : Kind) (s : List ℕ) : Type 0 where
  pub bytes : Bytes s
  pub headers : (p : ℕ) → p < pages s → header_right k (p + 1) (page_at p s) ≡ true

pub area_right_sealed_area : (k : Kind) (s : List ℕ) → Sealable k s → area_right k (sealed_area (pages s) s) ≡ true
unfolding area_right
area_right_sealed_area k s h =
    all_intro (λ (p : ℕ). page_right k (p + 1) (page_at p (sealed_area (pages s) s))) (pages (sealed_area (pages s) s))
    (λ p l.
    let below : p < pages s = omega (arith, length_sealed_area (pages s) s) in
    page_right_sealed_area k s p below h.bytes ∙ h.headers p below)

-- ---- open after format and after seal

open_accepts : (a : Areas)
    → bad_length a ≡ false
    → area_right data_kind a.«data» ≡ true
    → area_right undo_kind a.undo ≡ true
    → area_right status_kind a.status ≡ true
    → leb (highest a.status) 32575 ≡ true
    → all_ended (highest a.status) a.status ≡ true
    → open_rule a ≡ (0, fresh_desk (highest a.status + 1))
unfolding open_rule open_refusal store_right
open_accepts a l d u s t e = rw (l, d, u, s, t, e)

-- a formatted area is as long as it was
pub length_refreshed : (k : Kind) (most : ℕ) (s : List ℕ) → Lent most (length s) → length (fresh_area k (pages s)) ≡ length s
length_refreshed k most s l = length_fresh_area k (pages s) ∙ sym l.whole

pub open_format : (a : Areas) → bad_length a ≡ false → open_rule (formatted a) ≡ (0, fresh_desk 1)
unfolding formatted all_ended all_below
open_format a h =
    by
    (all_lent (length a.«data») (length a.undo) (length a.status)
    (not-false (lengths_ok (length a.«data») (length a.undo) (length a.status)) h))
  where
    by : AllLent (length a.«data») (length a.undo) (length a.status) → open_rule (formatted a) ≡ (0, fresh_desk 1)
    by l =
        let top : highest (fresh_area status_kind (pages a.status)) ≡ 0 = highest_fresh_area status_kind (pages a.status) l.in_status.some in
        open_accepts (formatted a)
        (rw (
          length_refreshed data_kind 64 a.«data» l.in_data,
          length_refreshed undo_kind 64 a.undo l.in_undo,
          length_refreshed status_kind 1 a.status l.in_status,
        )
        h)
        (area_right_fresh_area data_kind (pages a.«data») fitting_data (omega (arith, l.in_data.few)))
        (area_right_fresh_area undo_kind (pages a.undo) fitting_undo (omega (arith, l.in_undo.few)))
        (area_right_fresh_area status_kind (pages a.status) fitting_status (omega (arith, l.in_status.few)))
        (rw top)
        (rw top)
        ∙ ap (λ (n : ℕ). (0, fresh_desk (n + 1))) top

pub open_seal : (a : Areas)
    → bad_length a ≡ false
    → Sealable data_kind a.«data»
    → Sealable undo_kind a.undo
    → Sealable status_kind a.status
    → leb (highest a.status) 32575 ≡ true
    → all_ended (highest a.status) a.status ≡ true
    → open_rule (sealed a) ≡ (0, fresh_desk (highest a.status + 1))
unfolding sealed
open_seal a l d u s t e =
    let top : highest (sealed_area (pages a.status) a.status) ≡ highest a.status = highest_sealed_area (pages a.status) a.status in
    open_accepts (sealed a)
    (rw (
      length_sealed_area (pages a.«data») a.«data»,
      length_sealed_area (pages a.undo) a.undo,
      length_sealed_area (pages a.status) a.status,
    )
    l)
    (area_right_sealed_area data_kind a.«data» d)
    (area_right_sealed_area undo_kind a.undo u)
    (area_right_sealed_area status_kind a.status s)
    (rw top t)
    (rw (top, all_ended_sealed_area (pages a.status) (highest a.status) a.status) e)
    ∙ ap (λ (n : ℕ). (0, fresh_desk (n + 1))) top
