-- `lines::before` meets its contract: where the first b stands is what `position` answers. Assumes nothing.
use mathlib.Core.Path.{◌≡◌}
use native.Mathlib.Omega.{arith}
use lib.Dec.{eqb}
use Rattle.std.proofs.Common.{rules, tests}
use Rattle.std.proofs.lemmas.Iterator.{YieldsList-from_slice}
use Rattle.std.proofs.lemmas.Iterator.Consumers.{YieldsList-at}
use Rattle.std.proofs.lemmas.Iterator.Search.{position_from_yields_List}
use Rattle.std.specs.List.{position}
use Rattle.ground.proofs.Strides.{steps_of, start_of, YieldsList-from_each}
use Rattle.lines.proofs.Spans.{before_position}
use Rattle.lines.proofs.before.Goals as goal

pub returns : goal.returns
returns c =
    let s = c.args.s.now in
    let found : c.position.result ≡ position (λ x. eqb x c.args.b) s =
    position_from_yields_List {steps = steps_of c.position.ensures.runs.0} {v = λ x. x.now} {s = start_of c.position.ensures.runs.1} {all = s}
    (λ x. eqb x c.args.b) _ _ c.position.result c.position.ensures.ran
    (search (rules, YieldsList-from_slice, YieldsList-from_each, YieldsList-at))
    (λ x b q k. search (rules, tests)) in
    grind (arith, found, before_position c.args.b s)
