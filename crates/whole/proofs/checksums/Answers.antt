-- `whole::checksums` meets its contract: each of the four as one is. Assumes nothing.
use Rattle.whole.proofs.Abreast.{checksums_more}
use Rattle.whole.proofs.checksums.Goals as goal

pub returns : goal.returns
returns c =
    checksums_more _ _ c.requires c.starts.ensures
    c.rest.ensures.0 c.rest-2.ensures.0 c.rest-3.ensures.0 c.rest-4.ensures.0
    c.crc32c_four_more.ensures
