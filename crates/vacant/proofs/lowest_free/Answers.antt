-- `vacant::lowest_free` meets its contract. Assumes nothing.
use mathlib.Core.Path.{ap, ◌∙◌}
use Rattle.ground.specs.Range.{found_below}
use Rattle.kind.specs.Kind.{entries}
use Rattle.vacant.proofs.Vacants.{lowest_undo}
use Rattle.vacant.proofs.lowest_free.Goals as goal

pub returns : goal.returns
returns c = c.lowest_of.ensures ∙ ap (found_below (entries c.args.undo.now)) (lowest_undo _)
