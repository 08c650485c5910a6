-- `whole::starts` meets its contract: each of the four as one is. Assumes nothing.
use mathlib.Core.Path.{refl}
use Rattle.little.specs.Little.{digits}
use Rattle.whole.proofs.Abreast.{starts_more}
use Rattle.whole.proofs.starts.Goals as goal

pub returns : goal.returns
unfolding digits
returns c =
    starts_more _ _ c.front.ensures.0 c.front-2.ensures.0 c.front-3.ensures.0 c.front-4.ensures.0
    refl
    c.crc32c_four-c.ensures
    c.crc32c_four_more.ensures
