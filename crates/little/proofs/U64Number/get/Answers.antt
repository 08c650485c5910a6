use native.Mathlib.Omega.{arith}
use Rattle.std.specs.Int.{w64}
use Rattle.little.proofs.Parts.{little_read}
use Rattle.little.proofs.U64Number.get.Goals as goal

pub returns : goal.returns
returns c = grind (arith, little_read w64 _ _ _ _ c.from_le_bytes.ensures c.bytes.ensures (omega arith) c.requires)
