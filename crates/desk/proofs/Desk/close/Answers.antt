-- `Desk::close` meets its contract. Assumes nothing.
use Rattle.desk.specs.Turns.{closed}
use Rattle.desk.proofs.Desk.close.Goals as goal

pub returns : goal.returns
unfolding closed
returns c =
    λ i. record {
      next = c.args.self.next;
      numbers = c.pull_up.ensures i;
      statements = c.pull_up-2.ensures i;
      marks = c.pull_up-3.ensures i;
      lists = c.pull_up-4.ensures i;
    }
