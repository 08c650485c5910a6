-- `words::is_sound` meets its contract: what is lent is the desk. Assumes nothing.
use mathlib.Core.Path.{ap, ◌∙◌}
use Rattle.desk.specs.Sound.{sound}
use Rattle.words.proofs.is_sound.Goals as goal

pub returns : goal.returns
unfolding sound
returns c = c.columns_sound.ensures ∙ ap sound c.lent.ensures
