-- `vacant::lowest_empty` meets its contract. Assumes nothing.
use mathlib.Core.Path.{ap, ◌∙◌}
use Rattle.ground.specs.Range.{found_below}
use Rattle.kind.specs.Kind.{rows}
use Rattle.vacant.proofs.Vacants.{lowest_data}
use Rattle.vacant.proofs.lowest_empty.Goals as goal

pub returns : goal.returns
returns c = c.lowest_of.ensures ∙ ap (found_below (rows c.args.data.now)) (lowest_data _)
