-- `undoing::withdraw` meets its contract where nothing is refused. Assumes nothing.
use mathlib.Core.Path.{refl, ap, ◌∙◌}
use borrow.Author.Rules.{rules}
use Rattle.ground.proofs.Once.{does_case}
use Rattle.desk.specs.declared.Desk.{Desk}
use Rattle.desk.specs.Turns.{closed}
use Rattle.admit.proofs.Admissions.{admits}
use Rattle.undoing.proofs.Calls.{withdraw_0}
use Rattle.undoing.proofs.withdraw.Goals as goal

pub returns-clause-does : goal.returns-clause-does
returns-clause-does c =
    does_case
    (withdraw_0 _ _ _ _ _ _ (admits _ _ _ _ _ _ (search rules)) c.is_broken.ensures c.if-is_broken.false c.undo_rows.ensures c.put_status.ensures)
    (ap (λ (d : Desk). (0, d)) (c.put_desk.ensures.1 ∙ c.withdraw-new.ensures ∙ ap (closed _) c.desk_in.ensures))
    refl
