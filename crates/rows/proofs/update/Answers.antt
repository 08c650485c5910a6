-- `rows::update` meets its contract: by what admission says, then by the body, by what is asked of the row, and by the
-- room. Assumes nothing.
use mathlib.Core.Path.{refl, sym, ap, ◌∙◌}
use Prim.Native.Nat.{◌<◌}
use native.Mathlib.Omega.{arith}
use lib.ListN.{length}
use Rattle.ground.proofs.Once.{does_case}
use Rattle.std.specs.Prelude.{Err}
use Rattle.answer.specs.Code.{number_of}
use Rattle.answer.proofs.Codes.{handed_on}
use Rattle.kind.specs.Kind.{entries}
use Rattle.kind.proofs.Lengths.{AllLent, areas_eq}
use Rattle.words.specs.Words.{desk_in}
use Rattle.admit.specs.Admit.{said}
use Rattle.admit.proofs.Admissions.{Unspoiled, admits_unspoiled, admits_place, admits_status, admits_lent}
use Rattle.rows.proofs.Calls.{small_number, none_vacant, some_vacant, write_inside, desk_told, update_refused, update_5, update_no_lem, update_11, update_0}
use Rattle.rows.proofs.update.Goals as goal
use Rattle.rows.proofs.update.Goals.{In_ok-k}

-- the session was admitted, at the place that admission gave, and is not spoiled
admitted : (c : goal.In_ok-k)
    → let start = c.args in
    Unspoiled start.«data».now start.undo.now start.status.now (desk_in start.desk.now) start.session c.in_ok-k.k
admitted c = admits_unspoiled _ _ _ _ _ _ (sym c.admit_unspoiled.ensures ∙ c.in_ok-k.was)

pub returns-in_err-k-clause-does : goal.returns-in_err-k-clause-does
returns-in_err-k-clause-does c =
    does_case
    (update_refused _ _ _ _ _ _ _ _ (sym c.admit_unspoiled.ensures ∙ c.in_err-k.was))
    (ap (λ r. said r c.args.desk.now) (handed_on _ c.from_residual.ensures.1))
    refl

pub returns-then-body-ne-BODY-clause-does : goal.returns-then-body-ne-BODY-clause-does
returns-then-body-ne-BODY-clause-does c =
    does_case (update_5 _ _ _ _ _ _ _ _ (admitted (goal.at.returns-then-body-ne-BODY-clause-does c).In_ok-k) c.if-body-ne-BODY.true) refl refl

pub statement-statement-requires : goal.statement-statement-requires
statement-statement-requires c = admits_place _ _ _ _ _ _ (admitted (goal.at.statement-statement-requires c).In_ok-k).admitted

pub seen_by-view-requires : goal.seen_by-view-requires
seen_by-view-requires c = admits_place _ _ _ _ _ _ (admitted (goal.at.seen_by-view-requires c).In_ok-k).admitted

pub invariant_of-page : goal.invariant_of-page
invariant_of-page c = record { whole = admits_status _ _ _ _ _ _ (admitted (goal.at.invariant_of-page c).In_ok-k).admitted }

pub unwritten-requires : goal.unwritten-requires
unwritten-requires c = admits_place _ _ _ _ _ _ (admitted (goal.at.unwritten-requires c).In_ok-k).admitted

pub returns-in-Err-clause-does : goal.returns-in-Err-clause-does
returns-in-Err-clause-does c =
    let a = admitted (goal.at.returns-in-Err-clause-does c).In_ok-k in
    does_case
    (update_no_lem _ _ _ _ _ _ _ _ a c.if-body-ne-BODY.false c.seen_by-view.ensures _ (sym (ap number_of c.in-Err.is) ∙ c.may_write.ensures))
    (desk_told _ _ _ _ _ _ a c.unwritten.ensures.0 c.unwritten.ensures.1)
    refl

-- where nothing is refused, how many pages were lent
lent : (c : goal.In_ok-k)
    → let start = c.args in
    AllLent (length start.«data».now) (length start.undo.now) (length start.status.now)
lent c = admits_lent _ _ _ _ _ _ (admitted c).admitted

pub lowest_free-requires : goal.lowest_free-requires
lowest_free-requires c = let few = (lent (goal.at.lowest_free-requires c).In_ok-k).in_undo.few in omega (arith, few)

pub returns-in_err-e-clause-does : goal.returns-in_err-e-clause-does
returns-in_err-e-clause-does c =
    let none = none_vacant c.lowest_free.ensures (sym c.in_err-e.was ∙ c.ok_or.ensures.value) in
    does_case
    (update_11 _ _ _ _ _ _ _ _ (admitted (goal.at.returns-in_err-e-clause-does c).In_ok-k) c.if-body-ne-BODY.false c.seen_by-view.ensures c.in_default.ensures none.1)
    (ap (λ r. said r c.args.desk.now) (handed_on _ c.from_residual-in_err-e.ensures.1 ∙ ap Err none.0))
    refl

pub update_at-requires : goal.update_at-requires
update_at-requires c =
    let fits = lent (goal.at.update_at-requires c).In_ok-k in
    let inside = write_inside _ _ _ _ _ c.in_default.ensures in
    let some = some_vacant c.lowest_free.ensures (sym c.in_ok-e.was ∙ c.ok_or.ensures.value) in
    let room : c.in_ok-e.e < entries c.args.undo.now = omega (arith, some.0, some.1) in
    (inside, small_number fits.in_data.few (omega arith) inside, room, small_number fits.in_undo.few (omega arith) room, c.if-body-ne-BODY.false)

pub returns-clause-does : goal.returns-clause-does
returns-clause-does c =
    let some = some_vacant c.lowest_free.ensures (sym c.in_ok-e.was ∙ c.ok_or.ensures.value) in
    does_case
    (update_0 _ _ _ _ _ _ _ _ (admitted (goal.at.returns-clause-does c).In_ok-k) c.if-body-ne-BODY.false c.seen_by-view.ensures c.in_default.ensures some.0 some.1 c.statement-statement.ensures)
    refl
    (areas_eq c.update_at.ensures.leaves_data c.update_at.ensures.leaves_undo refl)
