-- `rows::insert` meets its contract: by what admission says, then by the body and the room. Assumes nothing.
use mathlib.Core.Path.{refl, sym, ap, ◌∙◌}
use native.Mathlib.Omega.{arith}
use Rattle.answer.specs.declared.Refusal.{Refusal}
use Rattle.answer.specs.Code.{code_of}
use Rattle.answer.proofs.Codes.{handed_on}
use Rattle.ground.proofs.Once.{does_case}
use Rattle.words.specs.Words.{desk_in}
use Rattle.admit.proofs.Admissions.{Unspoiled, admits_unspoiled, admits_place, admits_lent}
use Rattle.rows.specs.Rows.{said_inserted}
use Rattle.rows.proofs.Calls.{none_vacant, some_vacant, insert_refused, insert_5, insert_11, insert_0}
use Rattle.rows.proofs.insert.Goals as goal
use Rattle.rows.proofs.insert.Goals.{In_ok-k}

-- the session was admitted, at the place that admission gave, and is not spoiled
admitted : (c : goal.In_ok-k)
    → let start = c.args in
    Unspoiled start.«data».now start.undo.now start.status.now (desk_in start.desk.now) start.session c.in_ok-k.k
admitted c = admits_unspoiled _ _ _ _ _ _ (sym c.admit_unspoiled.ensures ∙ c.in_ok-k.was)

pub returns-in_err-k : goal.returns-in_err-k
returns-in_err-k c =
    does_case
    (insert_refused _ _ _ _ _ _ _ (sym c.admit_unspoiled.ensures ∙ c.in_err-k.was))
    (ap said_inserted (handed_on _ c.from_residual.ensures.1))
    refl

pub returns-then-body-ne-BODY : goal.returns-then-body-ne-BODY
returns-then-body-ne-BODY c = does_case (insert_5 _ _ _ _ _ _ _ (admitted (goal.at.returns-then-body-ne-BODY c).In_ok-k) c.if-body-ne-BODY.true) refl refl

pub lowest_empty-requires : goal.lowest_empty-requires
lowest_empty-requires c = let few = (admits_lent _ _ _ _ _ _ (admitted (goal.at.lowest_empty-requires c).In_ok-k).admitted).in_data.few in omega (arith, few)

pub returns-in_err-row : goal.returns-in_err-row
returns-in_err-row c =
    let none = none_vacant c.lowest_empty.ensures (sym c.in_err-row.was ∙ c.ok_or.ensures.value) in
    does_case
    (insert_11 _ _ _ _ _ _ _ (admitted (goal.at.returns-in_err-row c).In_ok-k) c.if-body-ne-BODY.false none.1)
    (ap said_inserted (handed_on _ c.from_residual-in_err-row.ensures.1) ∙ ap (λ (e : Refusal). (code_of e, 0)) none.0)
    refl

pub statement-requires : goal.statement-requires
statement-requires c = admits_place _ _ _ _ _ _ (admitted (goal.at.statement-requires c).In_ok-k).admitted

pub insert_at-requires : goal.insert_at-requires
insert_at-requires c =
    let some = some_vacant c.lowest_empty.ensures (sym c.in_ok-row.was ∙ c.ok_or.ensures.value) in
    (omega (arith, some.0, some.1), c.if-body-ne-BODY.false)

pub returns : goal.returns
returns c =
    let some = some_vacant c.lowest_empty.ensures (sym c.in_ok-row.was ∙ c.ok_or.ensures.value) in
    does_case
    (insert_0 _ _ _ _ _ _ _ (admitted (goal.at.returns c).In_ok-k) c.if-body-ne-BODY.false some.0 some.1 c.statement.ensures c.insert_at.ensures)
    refl
    refl
