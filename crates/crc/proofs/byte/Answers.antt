-- `crc::byte` meets its contract: one look at the table is a byte. Assumes nothing.
use Rattle.crc.proofs.CrcLaws.{byte_step_by}
use Rattle.crc.proofs.byte.Goals as goal

pub returns : goal.returns
returns c = byte_step_by _ c.args.c c.args.b c.requires c.ranges.b.fits c.from.ensures
