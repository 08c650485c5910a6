-- a byte is the number that it writes
use mathlib.Core.Path.{sym}
use native.Mathlib.Omega.{arith}
use Rattle.little.proofs.Parts.{little_byte}
use Rattle.little.proofs.U8Number.get.Goals as goal

pub returns : goal.returns
returns c = sym (little_byte _ _ (omega arith))
