-- `columns::least` meets its contract: it folds over the used places. Assumes nothing.
use mathlib.Core.Path.{◌≡◌, ◌∙◌}
use mathlib.Core.Bool.{not}
use Prim.Native.Nat.{ℕ, min}
use lib.Dec.{eqb}
use borrow.Author.Rules.{rules}
use Rattle.std.specs.List.{fold, filter}
use Rattle.columns.proofs.Columns.{smallest_fold}
use Rattle.columns.proofs.least.Goals as goal

-- what the chain gives
chain : (c : goal.After-fold) → c.fold.result ≡ fold (λ (low x : ℕ). min low x) c.args.m (filter (λ x. not (eqb x 0)) c.args.column.now)
chain c = search rules

pub returns : goal.returns
returns c = chain c ∙ smallest_fold _ _
