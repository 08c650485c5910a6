-- `whole::seal_page` meets its contract. Assumes nothing.
use mathlib.Core.Path.{refl, ap, ◌∙◌}
use Rattle.page.proofs.Headers.{page_at_lent}
use Rattle.whole.specs.Whole.{checksum_of}
use Rattle.whole.proofs.Wholes.{sealed_page_put}
use Rattle.whole.proofs.seal_page.Goals as goal

pub returns : goal.returns
returns c =
    sealed_page_put c.args.p _ _ (c.checksum-sum.ensures ∙ ap checksum_of (page_at_lent c.args.p c.args.s.now)) refl
    c.put_checksum.ensures
