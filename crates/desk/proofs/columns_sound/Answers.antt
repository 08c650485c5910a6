-- `desk::columns_sound` meets its contract. Assumes nothing.
use mathlib.Core.Path.{◌≡◌}
use mathlib.Core.Bool.{true, false, ◌&&◌, and_assoc}
use lib.Dec.{leb}
use borrow.Author.Rules.{rules}
use Rattle.desk.specs.Desk.{first_number, last_next}
use Rattle.desk.specs.Sound.{sound_columns}
use Rattle.desk.proofs.columns_sound.Goals as goal

-- whether the next number is in its range
within : (c : goal.After-sessions_sound) → (leb first_number c.args.desk.next && leb c.args.desk.next last_next) ≡ true
within c = search rules

beyond : (c : goal.Else-contains) → (leb first_number c.args.desk.next && leb c.args.desk.next last_next) ≡ false
beyond c = search rules

pub returns-then-contains : goal.returns-then-contains
unfolding sound_columns
returns-then-contains c = rw (← and_assoc _ _ _, within c) c.sessions_sound.ensures

pub returns-else-contains : goal.returns-else-contains
unfolding sound_columns
returns-else-contains c = rw (← and_assoc _ _ _, beyond c) c.if-contains.false
