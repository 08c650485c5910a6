use mathlib.Core.Path.{ap, ◌∙◌}
use native.Mathlib.Omega.{arith}
use Rattle.std.specs.Int.{w32}
use lib.Seq.{sets}
use Rattle.little.proofs.Digits.{digits_written}
use Rattle.little.proofs.U32Number.put.Goals as goal

pub returns : goal.returns
returns c = c.put_bytes.ensures ∙ ap (sets c.args.s.now c.args.at) (digits_written w32 _ c.to_le_bytes.ensures (omega arith))
