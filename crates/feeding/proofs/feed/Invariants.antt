-- The loop of `feeding::feed`: the text and the answers have their buffers' room, and there is some behind what is kept. Assumes nothing.
use Prim.Native.Nat.{◌≤◌}
use mathlib.Core.Path.{◌≡◌}
use lib.ListN.{length}
use Rattle.line.specs.Line.{longest}
use Rattle.feeding.proofs.feed.Given as goal

abbrev pub invariant-loop : goal.invariant-loop
invariant-loop g l = (l.kept ≤ longest) × (length l.text ≡ 65536) × (length l.out ≡ 65536)
