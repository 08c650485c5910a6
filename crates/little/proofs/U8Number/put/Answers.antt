-- a byte is its own one digit
use mathlib.Core.Path.{◌≡◌}
use Prim.Native.Nat.{◌%◌}
use native.Mathlib.Omega.{arith}
use Rattle.little.specs.Little.{digits}
use Rattle.little.proofs.U8Number.put.Goals as goal

pub returns : goal.returns
unfolding digits
returns c = let low : c.args.v % 256 ≡ c.args.v = omega arith in rw low
