-- `whole::checksum` meets its contract: of what the page begins with, carried on over the rest. Assumes nothing.
use mathlib.Core.Path.{ap, ◌∙◌}
use lib.ListN.{length}
use Rattle.whole.specs.Whole.{checksum_of}
use Rattle.whole.proofs.Wholes.{checksum_of_more}
use Rattle.whole.proofs.Abreast.{page_at_whole}
use Rattle.whole.proofs.checksum.Goals as goal

pub returns : goal.returns
returns c =
    let whole = page_at_whole _ c.requires in
    checksum_of_more _ (ap length whole ∙ c.requires) c.start.ensures c.rest.ensures.0 c.crc32c_more.ensures
    ∙ ap checksum_of whole
