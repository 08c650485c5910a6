-- `Desk::fresh` meets its contract. Assumes nothing.
use mathlib.Core.Path.{refl}
use Rattle.desk.specs.Desk.{fresh_desk}
use Rattle.desk.proofs.Desk.fresh.Goals as goal

pub returns : goal.returns
unfolding fresh_desk
returns c = refl
