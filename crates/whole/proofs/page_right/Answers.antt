-- `whole::page_right` meets its contract. Assumes nothing.
use mathlib.Core.Path.{sym, ap, ◌∙◌}
use Prim.Native.Nat.{◌+◌}
use Rattle.page.proofs.Headers.{page_at_lent}
use Rattle.whole.specs.Whole.{checksum_of, page_right}
use borrow.Author.Rules.{rules}
use Rattle.whole.proofs.page_right.Goals as goal

pub right_with-requires : goal.right_with-requires
right_with-requires c =
    (search rules, c.requires.2, c.requires.3 ∙ ap checksum_of (sym (page_at_lent c.args.p c.args.s.now)))

pub returns : goal.returns
returns c =
    c.right_with.ensures ∙ ap (page_right c.args.k (c.args.p + 1)) (page_at_lent c.args.p c.args.s.now)
