-- What becomes of a store that was sealed under the old rule. Assumes nothing.
use mathlib.Core.Path.{◌≡◌, refl, sym, ap, ◌∙◌}
use mathlib.Core.Bool.{Bool, true, false, ◌&&◌, and-false}
use mathlib.Core.List.{List}
use Prim.Native.Nat.{ℕ, zero, suc, ◌+◌, ◌≤◌}
use native.Mathlib.Omega.{arith}
use borrow.Author.Tests.{leb-true}
use Rattle.ground.proofs.Ranges.{all_fails}
use Rattle.little.specs.Little.{Bytes}
use Rattle.kind.specs.Kind.{pages, data_kind, undo_kind, status_kind}
use Rattle.kind.specs.Areas.{Areas}
use Rattle.kind.proofs.Lengths.{areas_eq}
use Rattle.page.specs.Header.{page_at}
use Rattle.whole.specs.Whole.{checksum_of, sealed_page}
use Rattle.desk.specs.declared.Desk.{Desk}
use Rattle.desk.specs.Desk.{fresh_desk, no_desk}
use Rattle.desk.proofs.Sounds.{fresh_sound, fresh_closed}
use Rattle.keep.specs.Whole.{sealed_area, highest}
use Rattle.keep.specs.Keep.{sealed, seal_rule, open_refusal, open_rule}
use Rattle.keep.proofs.Calls.{seal_0, open_0, open_3}
use Rattle.keep.proofs.Promises.{open_seal}
use Rattle.former.specs.Former.{former_checksum, sealed_page_by, sealed_area_by, sealed_by, page_right_by, open_by, former_open, agree, area_agrees, store_agrees, Former}
use Rattle.former.proofs.Numbers.{agree_left, agree_two}
use Rattle.former.proofs.Stores.{lengths_ok_lem, one_page, status_differs, page_right_lem, sealable, store_right_today, Accepted, accepted, store_agrees_lem}
use Rattle.former.proofs.Sealed.{sealed_before_lem}

-- ---- today's seal and open

sealed_area_today : (n : ℕ) (s : List ℕ) → sealed_area_by checksum_of n s ≡ sealed_area n s
unfolding sealed_area_by sealed_page_by sealed_area sealed_page
sealed_area_today zero s = refl
sealed_area_today (suc n) s = ap (sealed_page n) (sealed_area_today n s)

seals : (a : Areas) → sealed_by checksum_of a ≡ sealed a
unfolding sealed_by sealed
seals a =
    areas_eq (sealed_area_today (pages a.«data») a.«data») (sealed_area_today (pages a.undo) a.undo)
    (sealed_area_today (pages a.status) a.status)

opens : (a : Areas) → open_by checksum_of a ≡ open_rule a
unfolding open_by open_rule open_refusal
opens a = rw (store_right_today a) refl

-- ---- a store that the old open accepts

module _ (a : Areas) (h : Accepted a) where
  differing : store_agrees a ≡ false → open_rule a ≡ (3, no_desk)
  differing e = open_3 a.«data» a.undo a.status (lengths_ok_lem a h.lengths) (store_agrees_lem a h.found ∙ e)

  agreeing : store_agrees a ≡ true → open_rule a ≡ former_open a
  agreeing e = open_0 a.«data» a.undo a.status (lengths_ok_lem a h.lengths) (store_agrees_lem a h.found ∙ e) ∙ sym h.answered

  its_status : Bytes a.status → agree (page_at 0 a.status) ≡ false
  unfolding page_right_by
  its_status b =
      status_differs a.status (former_checksum (page_at 0 a.status)) (one_page a h.lengths) b
      (page_right_lem former_checksum status_kind a.status h.found.in_status 0 (omega (arith, one_page a h.lengths)))
      h.found.few

  always : Bytes a.status → open_rule a ≡ (3, no_desk)
  unfolding store_agrees area_agrees
  always b =
      differing
      (ap (λ (t : Bool). area_agrees a.«data» && area_agrees a.undo && t)
      (all_fails (λ (p : ℕ). agree (page_at p a.status)) (pages a.status) 0 (omega (arith, one_page a h.lengths)) (its_status b))
      ∙ and-false (area_agrees a.«data» && area_agrees a.undo))

  -- ---- sealed anew

  abbrev desk : Desk
  desk = fresh_desk (highest a.status + 1)

  seal_done_lem : seal_rule a desk ≡ (0, sealed a)
  seal_done_lem =
      let few : highest a.status ≤ 32575 = leb-true (highest a.status) 32575 h.found.few in
      seal_0 a.«data» a.undo a.status (lengths_ok_lem a h.lengths) desk
      (fresh_sound (highest a.status + 1) (omega arith) (omega arith))
      (fresh_closed (highest a.status + 1))

  opens_anew : Bytes a.«data» → Bytes a.undo → Bytes a.status → open_rule (sealed a) ≡ (0, desk)
  opens_anew bd bu bs =
      open_seal a h.lengths
      (sealable data_kind a.«data» h.found.in_data bd)
      (sealable undo_kind a.undo h.found.in_undo bu)
      (sealable status_kind a.status h.found.in_status bs)
      h.found.few
      h.found.ended

  sealed_anew_lem : Bytes a.«data» → Bytes a.undo → Bytes a.status
      → ((seal_rule a (former_open a).1).0 ≡ 0) × (open_rule (seal_rule a (former_open a).1).1 ≡ former_open a)
  sealed_anew_lem bd bu bs =
      let done : seal_rule a (former_open a).1 ≡ (0, sealed a) = ap (λ (r : ℕ × Desk). seal_rule a r.1) h.answered ∙ seal_done_lem in
      (ap (λ (y : ℕ × Areas). y.0) done, ap (λ (y : ℕ × Areas). open_rule y.1) done ∙ opens_anew bd bu bs ∙ sym h.answered)

pub former : Former
former =
    record {
      seals = seals;
      opens = opens;
      differing = λ a e. differing a (accepted a e);
      agreeing = λ a e. agreeing a (accepted a e);
      left = agree_left;
      two = agree_two;
      always = λ a b e. always a (accepted a e) b;
      sealed_before = sealed_before_lem;
      sealed_anew = λ a bd bu bs e. sealed_anew_lem a (accepted a e) bd bu bs;
    }
