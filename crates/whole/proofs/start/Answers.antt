-- `whole::start` meets its contract: of what stands before the checksum, carried on over four zeros. Assumes nothing.
use mathlib.Core.Path.{refl}
use Rattle.little.specs.Little.{digits}
use Rattle.whole.proofs.Wholes.{start_more}
use Rattle.whole.proofs.start.Goals as goal

pub returns : goal.returns
unfolding digits
returns c =
    start_more _ c.front.ensures.0 refl c.crc32c-c.ensures c.crc32c_more.ensures
