-- `whole::front` meets its contract. Assumes nothing.
use Prim.Native.Nat.{◌*◌}
use native.Mathlib.Omega.{arith}
use Rattle.whole.proofs.Abreast.{part_lent}
use Rattle.whole.proofs.front.Goals as goal

pub returns : goal.returns
returns c = part_lent c.args.p 0 20 (c.args.p * 8192) c.args.s.now (omega arith) c.requires (omega arith)
