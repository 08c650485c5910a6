-- `keep::all_ended` meets its contract. Assumes nothing.
use mathlib.Core.Path.{refl, ◌∙◌}
use native.Mathlib.Omega.{arith}
use Rattle.std.proofs.Common.{rules}
use borrow.Author.Tests.{tests}
use Rattle.std.proofs.lemmas.Iterator.{YieldsList-from_range}
use Rattle.std.proofs.lemmas.Iterator.Search.{all_from_yields_List}
use Rattle.ground.specs.Range.{all_below}
use Rattle.keep.specs.Whole.{all_ended}
use Rattle.keep.proofs.Pages.{ended_at}
use Rattle.keep.proofs.Ranges.{all_range}
use Rattle.keep.proofs.all_ended.Goals as goal

pub returns : goal.returns
unfolding all_ended all_below
returns c =
    let n = c.args.highest in
    let f = ended_at c.args.status.now in
    all_from_yields_List f _ _ _ c.all.ensures.ran (YieldsList-from_range 0 n n refl (omega arith)) (λ x b q k. search (rules, tests))
    ∙ all_range f 0 n n (omega arith)
