-- The loop of `feeding::serve`: what is left of the text stands as some runs of it leave it. Assumes nothing.
use Prim.Native.Nat.{◌+◌, ◌-◌, ◌≤◌}
use lib.ListN.{length, drop}
use Rattle.kind.specs.Areas.{areas}
use Rattle.script.specs.Script.{carried}
use Rattle.feeding.specs.Feeding.{stand}
use Rattle.feeding.proofs.Served.{Sofar}
use Rattle.feeding.proofs.serve.Given as goal

abbrev pub invariant-loop-s : goal.invariant-loop-s
invariant-loop-s g l =
    (l.at ≤ length l.text)
    × Sofar l.last (length l.fn.out) (stand (carried l.fn.footing (areas l.fn.«data» l.fn.undo l.fn.status)) l.text) (stand (carried l.s (areas l.«data» l.undo l.status)) (drop l.at l.text))

abbrev pub decreases-loop-s : goal.decreases-loop-s
decreases-loop-s g l = length l.text + 1 - l.at
