-- `crc::table::of_bytes` meets its contract: the checker computes the table by its rule, and compares all its entries with the
-- program's at once. Assumes nothing.
use mathlib.Core.Path.{refl}
use Rattle.crc.specs.Crc.{step_by, step, steps}
use Rattle.crc.specs.Table.{tab_from, step_table}
use Rattle.crc.proofs.table.of_bytes.Goals as goal

pub returns : goal.returns
unfolding step_by step steps tab_from step_table
returns c = refl
