-- When a desk is sound ("01, Sessions and sight": "Anything else is an unsound desk"). Over columns, so that the check needs no copy
-- of the desk. Assumes nothing.
use Rattle.std.specs.Prelude.{ℕ, Bool, ◌&&◌, List, leb}
use Rattle.ground.specs.Range.{all_below}
use Rattle.columns.specs.Limits.{sessions}
use Rattle.places.specs.Places.{ascending, session_sound}
use Rattle.desk.specs.declared.Desk.{Desk}
use Rattle.desk.specs.Desk.{first_number, last_next}

-- "the next number (1 to 32,576) and at most 16 open sessions in ascending order. Each has its number (below next)"
unfoldable pub sound_columns : ℕ → List ℕ → List ℕ → List ℕ → List ℕ → Bool
sound_columns next numbers statements marks lists =
    leb first_number next
    && (leb next last_next
    && (ascending next numbers 0 sessions
    && all_below (session_sound numbers statements marks lists) sessions))

unfoldable pub sound : Desk → Bool
sound d = sound_columns d.next d.numbers d.statements d.marks d.lists
