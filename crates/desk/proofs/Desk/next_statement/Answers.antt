-- `Desk::next_statement` meets its contract. Assumes nothing.
use mathlib.Core.Path.{refl}
use Rattle.desk.specs.Turns.{moved}
use Rattle.desk.proofs.Desk.next_statement.Goals as goal

pub returns : goal.returns
unfolding moved
returns c = refl
