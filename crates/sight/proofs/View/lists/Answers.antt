-- `sight::View::lists` meets its contract. Assumes nothing.
use Rattle.std.proofs.Common.{eqb, tests, rules, ◌∙◌}
use Rattle.std.proofs.lemmas.Iterator.{YieldsList-from_slice}
use Rattle.std.proofs.lemmas.Iterator.Consumers.{YieldsList-at}
use Rattle.std.proofs.lemmas.Iterator.Search.{any_from_yields_List}
use Rattle.ground.proofs.Strides.{steps_of, start_of, YieldsList-from_all}
use Rattle.sight.proofs.Sights.{any_listed}
use Rattle.sight.proofs.View.lists.Goals as goal

pub returns : goal.returns
returns c =
    any_from_yields_List {steps = steps_of c.any.ensures.runs.0} {v = λ m. m.now} {s = start_of c.any.ensures.runs.1} {all = c.args.self.list.now}
    (λ m. eqb m c.args.x) _ _ _ c.any.ensures.ran
    (search (rules, YieldsList-from_slice, YieldsList-from_all, YieldsList-at))
    (λ m b q k. search (rules, tests))
    ∙ any_listed c.args.x c.args.self.list.now
