-- `freeing::tally` meets its contract. The loop's invariant: the first p pages are tallied. Assumes nothing.
use mathlib.Core.Path.{◌≡◌}
use Rattle.freeing.specs.Tally.{tallied_to}
use Rattle.freeing.proofs.tally.Given as goal

abbrev pub invariant-loop-p : goal.invariant-loop-p
invariant-loop-p l = l.s ≡ tallied_to l.k l.due l.p l.initial.s
