-- `rows::delete` meets its contract: by what admission says, then by what is asked of the row. Assumes nothing.
use mathlib.Core.Path.{refl, sym, ap, ◌∙◌}
use Rattle.ground.proofs.Once.{does_case}
use Rattle.answer.specs.Code.{number_of}
use Rattle.answer.proofs.Codes.{handed_on}
use Rattle.words.specs.Words.{desk_in}
use Rattle.admit.specs.Admit.{said}
use Rattle.admit.proofs.Admissions.{Unspoiled, admits_unspoiled, admits_place, admits_status}
use Rattle.rows.proofs.Calls.{write_inside, desk_told, delete_refused, delete_no_lem, delete_0}
use Rattle.rows.proofs.delete.Goals as goal
use Rattle.rows.proofs.delete.Goals.{In_ok-k}

-- the session was admitted, at the place that admission gave, and is not spoiled
admitted : (c : goal.In_ok-k)
    → let start = c.args in
    Unspoiled start.«data».now start.undo.now start.status.now (desk_in start.desk.now) start.session c.in_ok-k.k
admitted c = admits_unspoiled _ _ _ _ _ _ (sym c.admit_unspoiled.ensures ∙ c.in_ok-k.was)

pub returns-in_err-k-clause-does : goal.returns-in_err-k-clause-does
returns-in_err-k-clause-does c =
    does_case
    (delete_refused _ _ _ _ _ _ _ (sym c.admit_unspoiled.ensures ∙ c.in_err-k.was))
    (ap (λ r. said r c.args.desk.now) (handed_on _ c.from_residual.ensures.1))
    refl

pub statement-statement-requires : goal.statement-statement-requires
statement-statement-requires c = admits_place _ _ _ _ _ _ (admitted (goal.at.statement-statement-requires c).In_ok-k).admitted

pub seen_by-view-requires : goal.seen_by-view-requires
seen_by-view-requires c = admits_place _ _ _ _ _ _ (admitted (goal.at.seen_by-view-requires c).In_ok-k).admitted

pub invariant_of-page : goal.invariant_of-page
invariant_of-page c = record { whole = admits_status _ _ _ _ _ _ (admitted (goal.at.invariant_of-page c).In_ok-k).admitted }

pub unwritten-requires : goal.unwritten-requires
unwritten-requires c = admits_place _ _ _ _ _ _ (admitted (goal.at.unwritten-requires c).In_ok-k).admitted

pub returns-in-Err-clause-does : goal.returns-in-Err-clause-does
returns-in-Err-clause-does c =
    let a = admitted (goal.at.returns-in-Err-clause-does c).In_ok-k in
    does_case
    (delete_no_lem _ _ _ _ _ _ _ a c.seen_by-view.ensures _ (sym (ap number_of c.in-Err.is) ∙ c.may_write.ensures))
    (desk_told _ _ _ _ _ _ a c.unwritten.ensures.0 c.unwritten.ensures.1)
    refl

pub delete_at-requires : goal.delete_at-requires
delete_at-requires c = write_inside _ _ _ _ _ c.in_default.ensures

pub returns-clause-does : goal.returns-clause-does
returns-clause-does c =
    does_case
    (delete_0 _ _ _ _ _ _ _ (admitted (goal.at.returns-clause-does c).In_ok-k) c.seen_by-view.ensures c.statement-statement.ensures c.in_default.ensures)
    refl
    c.delete_at.ensures
