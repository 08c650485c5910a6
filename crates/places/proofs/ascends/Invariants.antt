-- `places::ascends` meets its contract. The loop's invariant: the places passed are placed, and `low` is what a number here has to
-- exceed. Assumes nothing.
use Rattle.places.proofs.Places.{Run}
use Rattle.places.proofs.ascends.Given as goal

abbrev pub invariant-loop-i : goal.invariant-loop-i
invariant-loop-i l = Run l.top l.places 0 l.i l.low
