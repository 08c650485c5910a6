-- `columns::put_list` meets its contract: one part of the lists is written. Assumes nothing.
use Rattle.columns.proofs.Columns.{put_mid_sets}
use native.Mathlib.Omega.{arith}
use borrow.Author.Rules.{rules}
use Rattle.columns.proofs.put_list.Goals as goal

pub returns : goal.returns
returns c = put_mid_sets _ _ _ _ _ _ (omega arith) c.copy_from_slice.ensures.after (search rules) (search rules)
