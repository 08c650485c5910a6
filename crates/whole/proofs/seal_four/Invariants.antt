-- `whole::seal_four` meets its contract. The loop's invariant: so many pages from p on are sealed. Assumes nothing.
use mathlib.Core.Path.{◌≡◌}
use Rattle.whole.proofs.Abreast.{sealed_on}
use Rattle.whole.proofs.seal_four.Given as goal

abbrev pub invariant-loop-i : goal.invariant-loop-i
invariant-loop-i l = l.s ≡ sealed_on l.p l.i l.initial.s
