-- `columns::pull_up` meets its contract: later places are copied down, and zeros written behind them. Assumes nothing.
use borrow.Author.Rules.{rules}
use Rattle.columns.proofs.Columns.{pulled}
use Rattle.columns.proofs.pull_up.Goals as goal

pub returns : goal.returns
returns c = pulled _ _ _ _ _ c.requires c.copy_within.ensures.after (c.fill.ensures.after (λ y e. search rules))
