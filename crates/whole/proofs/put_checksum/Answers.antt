-- `whole::put_checksum` meets its contract. Assumes nothing.
use Rattle.page.specs.Header.{put_field}
use Rattle.whole.proofs.put_checksum.Goals as goal

pub returns : goal.returns
unfolding put_field
returns c = c.put.ensures
