-- `sweeping::are_whole` meets its contract: each row of the range is asked. Assumes nothing.
use mathlib.Core.Path.{refl, ◌∙◌}
use mathlib.Core.Bool.{Bool}
use Prim.Native.Nat.{ℕ}
use native.Mathlib.Omega.{arith}
use Rattle.std.proofs.Common.{rules, tests}
use Rattle.std.proofs.lemmas.Iterator.{YieldsList-from_range}
use Rattle.std.proofs.lemmas.Iterator.Search.{all_from_yields_List}
use Rattle.ground.proofs.Runs.{list_all_below}
use Rattle.chain.specs.Chain.{chain_of}
use Rattle.sweeping.specs.Sweeping.{all_whole}
use Rattle.sweeping.proofs.are_whole.Goals as goal

pub returns : goal.returns
unfolding all_whole
returns c =
    let whole : ℕ → Bool = λ r. (chain_of c.args.«data».now c.args.undo.now r).whole in
    all_from_yields_List whole _ _ _ c.all.ensures.ran (YieldsList-from_range _ _ _ refl (omega arith)) (λ x b q k. search (rules, tests))
    ∙ list_all_below whole c.args.first c.args.n
