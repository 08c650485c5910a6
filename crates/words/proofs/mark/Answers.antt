-- `words::mark` meets its contract: what is lent is the desk. Assumes nothing.
use mathlib.Core.Path.{ap, ◌∙◌}
use Rattle.desk.specs.Turns.{mark}
use Rattle.words.proofs.mark.Goals as goal

pub returns : goal.returns
unfolding mark
returns c = c.mark.ensures ∙ ap mark c.lent-next.ensures
