-- `line::Fields::next` meets its contract. Assumes nothing.
use mathlib.Core.Path.{ap, ◌∙◌}
use Rattle.line.specs.Line.{left}
use Rattle.line.proofs.Taken.{end_inside, left_next}
use Rattle.line.proofs.Fields.next.Goals as goal

pub split_at-requires : goal.split_at-requires
split_at-requires c = end_inside _ _ c.find-end.ensures

pub returns : goal.returns
returns c =
    ap left c.in_ok-rest.was
    ∙ left_next _ _ _ _ _ c.find-end.ensures c.split_at.ensures.front c.split_at.ensures.back c.get-self.ensures.lookup.0
