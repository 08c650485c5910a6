use native.Mathlib.Omega.{arith}
use Rattle.std.specs.Int.{w16}
use Rattle.little.proofs.Parts.{little_read}
use Rattle.little.proofs.U16Number.get.Goals as goal

pub returns : goal.returns
returns c = grind (arith, little_read w16 _ _ _ _ c.from_le_bytes.ensures c.bytes.ensures (omega arith) c.requires)
