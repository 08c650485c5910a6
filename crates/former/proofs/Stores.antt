-- Stores that the old open accepts: what the new one asks of them is that the two numbers agree. Assumes nothing.
use mathlib.Core.Path.{◌≡◌, refl, sym, ap, ap₂, ◌∙◌}
use mathlib.Core.Bool.{Bool, true, false, not, ◌&&◌, and-true, and-false}
use mathlib.Core.List.{List, [], ◌∷◌}
use Prim.Native.Nat.{ℕ, ◌+◌, ◌<◌}
use native.Mathlib.Omega.{arith}
use lib.Dec.{eqb, leb}
use lib.ListN.{length, take, drop}
use borrow.Author.Tests.{eqb-true, leb-true, not-false}
use Rattle.ground.specs.Refuse.{first_of}
use Rattle.ground.proofs.Ranges.{and_true_left, and_true_right, all_at, all_agree}
use Rattle.ground.proofs.Refusals.{first_of_none, settled}
use Rattle.little.specs.Little.{holds, Bytes}
use Rattle.kind.specs.declared.Kind.{Kind}
use Rattle.kind.specs.Kind.{pages, data_kind, undo_kind, status_kind, lengths_ok}
use Rattle.kind.specs.Areas.{Areas, bad_length}
use Rattle.kind.proofs.Lengths.{status_length}
use Rattle.page.specs.Header.{header, page_at, txn_id, checksum, field_in}
use Rattle.page.specs.Count.{items_in}
use Rattle.page.proofs.Headers.{length_page_at, bytes_page_at}
use Rattle.whole.specs.Whole.{checksum_of, page_right, header_right}
use Rattle.whole.proofs.Headers.{holds_said}
use Rattle.desk.specs.declared.Desk.{Desk}
use Rattle.desk.specs.Desk.{fresh_desk, no_desk}
use Rattle.keep.specs.Whole.{area_right, highest, all_ended, store_right}
use Rattle.keep.proofs.Promises.{Sealable}
use Rattle.former.specs.Former.{former_checksum, page_right_by, area_right_by, store_right_by, open_by, former_open, agree, area_agrees, store_agrees}
use Rattle.former.proofs.Numbers.{first_differs}

-- ---- a page

-- a header is right with the checksum v where it is right but for the checksum, and says v
pub header_says : (k : Kind) (id v : ℕ) (page : List ℕ)
    → holds page 0 (header k id (field_in txn_id page) v (items_in k page)) ≡ (header_right k id page && eqb (field_in checksum page) v)
unfolding header_right holds
header_says k id v page = by (eqb (field_in checksum page) v) refl
  where
    by : (t : Bool) → eqb (field_in checksum page) v ≡ t
        → holds page 0 (header k id (field_in txn_id page) v (items_in k page)) ≡ (header_right k id page && t)
    by true e =
        ap (λ (x : ℕ). holds page 0 (header k id (field_in txn_id page) x (items_in k page))) (sym (eqb-true (field_in checksum page) v e))
        ∙ sym (and-true (header_right k id page))
    by false e = rw e (simp and-false)

-- a page that was right under the old rule
module _ (k : Kind) (id : ℕ) (page : List ℕ) (right : page_right_by former_checksum k id page ≡ true) where
  says : (header_right k id page && eqb (field_in checksum page) (former_checksum page)) ≡ true
  unfolding page_right_by
  says = sym (header_says k id (former_checksum page) page) ∙ right

  pub page_header : header_right k id page ≡ true
  page_header = and_true_left (header_right k id page) (eqb (field_in checksum page) (former_checksum page)) says

  page_agrees : page_right k id page ≡ agree page
  unfolding page_right agree
  page_agrees =
      header_says k id (checksum_of page) page
      ∙ ap₂ (λ (b : Bool) (x : ℕ). b && eqb x (checksum_of page)) page_header
      (eqb-true (field_in checksum page) (former_checksum page)
      (and_true_right (header_right k id page) (eqb (field_in checksum page) (former_checksum page)) says))

-- ---- an area

-- each of its pages is right
pub page_right_lem : (sum : List ℕ → ℕ) (k : Kind) (s : List ℕ) → area_right_by sum k s ≡ true
    → (p : ℕ) → p < pages s → page_right_by sum k (p + 1) (page_at p s) ≡ true
unfolding area_right_by
page_right_lem sum k s right = all_at (λ (p : ℕ). page_right_by sum k (p + 1) (page_at p s)) (pages s) right

-- an area that was right under the old rule
module _ (k : Kind) (s : List ℕ) (right : area_right_by former_checksum k s ≡ true) where
  area_agrees_lem : area_right k s ≡ area_agrees s
  unfolding area_right area_agrees
  area_agrees_lem =
      all_agree (λ (p : ℕ). page_right k (p + 1) (page_at p s)) (λ (p : ℕ). agree (page_at p s)) (pages s)
      (λ p l. page_agrees k (p + 1) (page_at p s) (page_right_lem former_checksum k s right p l))

  pub sealable : Bytes s → Sealable k s
  sealable b = record { bytes = b; headers = λ p l. page_header k (p + 1) (page_at p s) (page_right_lem former_checksum k s right p l) }

-- ---- the status page

pub lengths_ok_lem : (a : Areas) → bad_length a ≡ false → lengths_ok (length a.«data») (length a.undo) (length a.status) ≡ true
lengths_ok_lem a h = not-false (lengths_ok (length a.«data») (length a.undo) (length a.status)) h

pub one_page : (a : Areas) → bad_length a ≡ false → length a.status ≡ 8192
one_page a h = status_length (length a.«data») (length a.undo) (length a.status) (lengths_ok_lem a h)

-- where nothing but the checksum may be wrong, whatever checksum the header should say
pub status_differs : (s : List ℕ) (v : ℕ) → length s ≡ 8192 → Bytes s
    → holds (page_at 0 s) 0 (header status_kind 1 (field_in txn_id (page_at 0 s)) v (items_in status_kind (page_at 0 s))) ≡ true
    → leb (highest s) 32575 ≡ true
    → agree (page_at 0 s) ≡ false
unfolding highest
status_differs s v long b right few =
    first_differs page (length_page_at 0 s (omega (arith, long))) (bytes_page_at 0 s b)
    (holds_said page 0 (take 0 fields) 8 0 (drop 1 fields) right)
    (holds_said page 0 (take 2 fields) 4 1 (drop 3 fields) right)
    (leb-true (field_in txn_id page) 32575 few)
  where
    page : List ℕ
    page = page_at 0 s

    fields : List (ℕ × ℕ)
    fields = header status_kind 1 (field_in txn_id page) v (items_in status_kind page)

-- ---- a store

-- what open has found, when it takes a store for right
pub record Right (sum : List ℕ → ℕ) (a : Areas) : Type 0 where
  pub in_data : area_right_by sum data_kind a.«data» ≡ true
  pub in_undo : area_right_by sum undo_kind a.undo ≡ true
  pub in_status : area_right_by sum status_kind a.status ≡ true
  pub few : leb (highest a.status) 32575 ≡ true
  pub ended : all_ended (highest a.status) a.status ≡ true

pub right_parts : (sum : List ℕ → ℕ) (a : Areas) → store_right_by sum a ≡ true → Right sum a
unfolding store_right_by
right_parts sum a e =
    record {
      in_data = and_true_left d u two;
      in_undo = and_true_right d u two;
      in_status = and_true_right (d && u) s three;
      few = and_true_right (d && u && s) l four;
      ended = and_true_right (d && u && s && l) (all_ended (highest a.status) a.status) e;
    }
  where
    d : Bool
    d = area_right_by sum data_kind a.«data»

    u : Bool
    u = area_right_by sum undo_kind a.undo

    s : Bool
    s = area_right_by sum status_kind a.status

    l : Bool
    l = leb (highest a.status) 32575

    four : (d && u && s && l) ≡ true
    four = and_true_left (d && u && s && l) (all_ended (highest a.status) a.status) e

    three : (d && u && s) ≡ true
    three = and_true_left (d && u && s) l four

    two : (d && u) ≡ true
    two = and_true_left (d && u) s three

-- with today's checksum this is today's rule
pub store_right_today : (a : Areas) → store_right_by checksum_of a ≡ store_right a
unfolding store_right_by area_right_by page_right_by store_right area_right page_right
store_right_today a = refl

-- a store that the old open accepts
pub record Accepted (a : Areas) : Type 0 where
  pub lengths : bad_length a ≡ false
  pub found : Right former_checksum a
  pub answered : former_open a ≡ (0, fresh_desk (highest a.status + 1))

-- nothing refused it
none_refused : (a : Areas) → (former_open a).0 ≡ 0
    → (first_of ((bad_length a, 1) ∷ (not (store_right_by former_checksum a), 3) ∷ []) ≡ 0)
    × (former_open a ≡ (0, fresh_desk (highest a.status + 1)))
unfolding open_by
none_refused a =
    settled (0, fresh_desk (highest a.status + 1)) (λ (n : ℕ). (n, no_desk)) refusal
    (λ (y : ℕ × Desk). y.0 ≡ 0 → (refusal ≡ 0) × (y ≡ (0, fresh_desk (highest a.status + 1))))
    (λ e h. (e, refl))
    (λ m h. absurd (omega arith))
  where
    refusal : ℕ
    refusal = first_of ((bad_length a, 1) ∷ (not (store_right_by former_checksum a), 3) ∷ [])

pub accepted : (a : Areas) → (former_open a).0 ≡ 0 → Accepted a
accepted a e = record { lengths = none.0; found = right_parts former_checksum a right; answered = (none_refused a e).1 }
  where
    none : (bad_length a ≡ false) × (first_of ((not (store_right_by former_checksum a), 3) ∷ []) ≡ 0)
    none = first_of_none (bad_length a) 1 (first_of ((not (store_right_by former_checksum a), 3) ∷ [])) (λ z. omega arith) (none_refused a e).0

    right : store_right_by former_checksum a ≡ true
    right = not-false (store_right_by former_checksum a) (first_of_none (not (store_right_by former_checksum a)) 3 0 (λ z. omega arith) none.1).0

pub store_agrees_lem : (a : Areas) → Right former_checksum a → store_right a ≡ store_agrees a
unfolding store_right store_agrees
store_agrees_lem a h =
    rw (
      area_agrees_lem data_kind a.«data» h.in_data,
      area_agrees_lem undo_kind a.undo h.in_undo,
      area_agrees_lem status_kind a.status h.in_status,
      h.few,
      h.ended,
    )
    (and-true (area_agrees a.«data» && area_agrees a.undo && area_agrees a.status && true)
    ∙ and-true (area_agrees a.«data» && area_agrees a.undo && area_agrees a.status))
