use mathlib.Core.Path.{ap, ◌∙◌}
use native.Mathlib.Omega.{arith}
use Rattle.std.specs.Int.{w64}
use lib.Seq.{sets}
use Rattle.little.proofs.Digits.{digits_written}
use Rattle.little.proofs.U64Number.put.Goals as goal

pub returns : goal.returns
returns c = c.put_bytes.ensures ∙ ap (sets c.args.s.now c.args.at) (digits_written w64 _ c.to_le_bytes.ensures (omega arith))
