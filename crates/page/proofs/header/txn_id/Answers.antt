-- `page::header::txn_id` meets its contract. Assumes nothing.
use mathlib.Core.Path.{sym, ◌∙◌}
use native.Mathlib.Omega.{arith}
use Rattle.page.specs.Header.{txn_id}
use Rattle.page.proofs.Headers.{field_in_page_at}
use Rattle.page.proofs.header.txn_id.Goals as goal

pub returns : goal.returns
returns c = c.get.ensures ∙ sym (field_in_page_at txn_id _ _ (omega arith))
