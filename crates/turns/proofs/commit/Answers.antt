-- `turns::commit` meets its contract: the session has a number and a place, and the status page is one. Assumes nothing.
use mathlib.Core.Path.{sym, ◌∙◌}
use Rattle.turns.proofs.Calls.{bounds}
use Rattle.turns.proofs.commit.Goals as goal

pub put_status-requires : goal.put_status-requires
put_status-requires c = let b = bounds _ _ _ _ _ _ (sym c.admit_unspoiled.ensures ∙ c.in_ok-k.was) in (b.number, b.page)

pub commit-new-requires : goal.commit-new-requires
commit-new-requires c = (bounds _ _ _ _ _ _ (sym c.admit_unspoiled.ensures ∙ c.in_ok-k.was)).place
