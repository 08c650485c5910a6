-- `rows::read` meets its contract: by what admission says, then by what was sought. Assumes nothing.
use mathlib.Core.Path.{sym, ap, ◌∙◌}
use borrow.Author.Rules.{rules}
use Rattle.answer.proofs.Codes.{handed_on}
use Rattle.words.specs.Words.{desk_in}
use Rattle.admit.proofs.Admissions.{Admits, admits, admits_place, admits_status}
use Rattle.rows.specs.Rows.{said_seen}
use Rattle.rows.proofs.Calls.{read_refused, read_sought}
use Rattle.rows.proofs.read.Goals as goal
use Rattle.rows.proofs.read.Goals.{In_ok-k}

-- the session was admitted, at the place that admission gave
admitted : (c : goal.In_ok-k)
    → let start = c.args in
    Admits start.«data».now start.undo.now start.status.now (desk_in start.desk.now) start.session c.in_ok-k.k
admitted c = admits _ _ _ _ _ _ (sym c.admit.ensures ∙ c.in_ok-k.was)

pub returns-in_err-k : goal.returns-in_err-k
returns-in_err-k c = ap said_seen (handed_on _ c.from_residual.ensures.1) ∙ sym (read_refused _ _ _ _ _ _ _ (sym c.admit.ensures ∙ c.in_err-k.was))

pub seen_by-view-requires : goal.seen_by-view-requires
seen_by-view-requires c = admits_place _ _ _ _ _ _ (admitted (goal.at.seen_by-view-requires c).In_ok-k)

pub invariant_of-seek : goal.invariant_of-seek
invariant_of-seek c = record { whole = admits_status _ _ _ _ _ _ (admitted (goal.at.invariant_of-seek c).In_ok-k) }

pub returns : goal.returns
returns c = read_sought _ _ _ _ _ _ _ (admitted (goal.at.returns c).In_ok-k) c.seen_by-view.ensures _ _ c.seek.ensures (search rules)
