-- The header of the status page after an accepted begin, commit and withdraw ("01, The page"): begin writes its txn_id, and no other byte of
-- it is written. Assumes nothing.
use mathlib.Core.Path.{◌≡◌, sym, subst, ◌∙◌}
use mathlib.Core.Bool.{not}
use mathlib.Core.List.{List}
use Prim.Native.Nat.{ℕ, ◌^◌, ◌<◌}
use native.Mathlib.Omega.{arith}
use lib.ListN.{length}
use borrow.Author.Tests.{not-false}
use Rattle.ground.proofs.Refusals.{first_of_none}
use Rattle.little.specs.Little.{part}
use Rattle.desk.specs.declared.Desk.{Desk}
use Rattle.desk.specs.Sound.{sound}
use Rattle.sessions.proofs.Changes.{sound_parts}
use Rattle.kind.specs.Areas.{Areas, bad_length}
use Rattle.kind.proofs.Lengths.{status_length}
use Rattle.status.specs.declared.Status.TheVariants.{InWork, Committed, Withdrawn}
use Rattle.status.specs.Status.{put_status}
use Rattle.status.proofs.StatusLaws.{length_put_status}
use Rattle.page.specs.Header.{page_at, txn_id, field_in, put_field}
use Rattle.page.proofs.Headers.{field_in_put_field, part_header, header_put_status}
use Rattle.page.proofs.Touches.{part_put_field_before, part_put_field_after}
use Rattle.turns.specs.Turns.{begin_refusal, begin_rule, commit_rule}
use Rattle.undoing.specs.Undoing.{withdrawn, withdraw_rule}
use Rattle.traces.specs.Traces.{BeginHeader, CommitHeader, WithdrawHeader}

module _ (a : Areas) (d : Desk) where
  -- what begin leaves where nothing is refused
  abbrev put : List ℕ
  put = put_status d.next InWork a.status

  begin_does : begin_refusal a d ≡ 0 → put_field txn_id 0 d.next (put_status d.next InWork a.status) ≡ (begin_rule a d).1
  unfolding begin_rule
  begin_does ok = sym (rw ok)

  -- the area is one page, and the number fits its field
  begin_asks : begin_refusal a d ≡ 0 → (length a.status ≡ 8192) × (d.next < 2 ^ 64)
  unfolding begin_refusal
  begin_asks ok =
      let l = first_of_none (bad_length a) 1 _ (λ z. omega arith) ok in
      let b = first_of_none (not (sound d)) 2 _ (λ z. omega arith) l.1 in (
        status_length (length a.«data») (length a.undo) (length a.status) (not-false _ l.0),
        omega (arith, (sound_parts d (not-false _ b.0)).last),
      )

pub begin_header : BeginHeader
begin_header a d ok =
    let h = begin_asks a d ok in
    let same = header_put_status 0 d.next InWork a.status in
    subst
    (λ (z : List ℕ).
    (field_in txn_id (page_at 0 z) ≡ d.next)
    × (part 0 8 (page_at 0 z) ≡ part 0 8 (page_at 0 a.status))
    × (part 16 32 (page_at 0 z) ≡ part 16 32 (page_at 0 a.status)))
    (begin_does a d ok) (
      field_in_put_field txn_id 0 d.next (put a d) (omega arith) h.1 (omega (arith, h.0, length_put_status d.next InWork a.status)),
      part_put_field_before txn_id 0 d.next (put a d) (omega arith) 0 8 (omega arith)
          ∙ part_header 0 8 (page_at 0 a.status) (page_at 0 (put a d)) (omega arith) same,
      part_put_field_after txn_id 0 d.next (put a d) (omega arith) 16 32 (omega arith)
          ∙ part_header 16 32 (page_at 0 a.status) (page_at 0 (put a d)) (omega arith) same,
    )

pub commit_header : CommitHeader
unfolding commit_rule
commit_header a d x ok = rw ok (header_put_status 0 x Committed a.status)

pub withdraw_header : WithdrawHeader
unfolding withdraw_rule withdrawn
withdraw_header a d x ok = rw ok (header_put_status 0 x Withdrawn a.status)
