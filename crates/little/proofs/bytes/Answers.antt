-- `little::bytes` meets its contract: what is copied is the part. Assumes nothing.
use mathlib.Core.Path.{ap, ◌∙◌}
use native.Mathlib.Omega.{arith}
use lib.ListN.{take, drop}
use Rattle.little.specs.Little.{part}
use Rattle.little.proofs.bytes.Goals as goal

pub returns : goal.returns
unfolding part
returns g c = c.copy_from_slice.ensures.after ∙ ap (λ n. take n (drop c.args.at c.args.s.now)) (omega arith)
