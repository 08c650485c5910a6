-- `turns::next` meets its contract: the place that admission gave is one of a session. Assumes nothing.
use mathlib.Core.Path.{sym, ◌∙◌}
use Rattle.turns.proofs.Calls.{bounds}
use Rattle.turns.proofs.next.Goals as goal

pub statement-requires : goal.statement-requires
statement-requires c = (bounds _ _ _ _ _ _ (sym c.admit_unspoiled.ensures ∙ c.in_ok-k.was)).place
