-- `places::sessions_sound` meets its contract. The loop's invariant: the numbers ascend, and the places passed are sound. Assumes
-- nothing.
use mathlib.Core.Path.{◌≡◌}
use mathlib.Core.Bool.{true}
use Rattle.ground.specs.Range.{all_below}
use Rattle.columns.specs.Limits.{sessions}
use Rattle.places.specs.Places.{ascending, session_sound}
use Rattle.places.proofs.sessions_sound.Given as goal

abbrev pub invariant-loop-k : goal.invariant-loop-k
invariant-loop-k l =
    (ascending l.next l.numbers 0 sessions ≡ true) × (all_below (session_sound l.numbers l.statements l.marks l.lists) l.k ≡ true)
