-- `Desk::begin` meets its contract. Assumes nothing.
use mathlib.Core.Path.{ap, ◌∙◌}
use Prim.Native.Nat.{ℕ, ◌+◌, ◌*◌}
use lib.ListN.{set, take}
use lib.Seq.{sets}
use Rattle.columns.specs.Limits.{members}
use Rattle.desk.specs.Desk.{first_statement}
use Rattle.desk.specs.Turns.{begun}
use Rattle.desk.proofs.Desk.begin.Goals as goal

pub returns : goal.returns
unfolding begun
returns c =
    let k = c.open_count-k.ensures.0 in
    let desk = c.args.self in
    λ i. record {
      next = desk.next + 1;
      numbers = set desk.numbers (k i) desk.next;
      statements = set desk.statements (k i) first_statement;
      marks = set desk.marks (k i) 0;
      lists = (c.put_list.ensures ∙ ap (λ (n : ℕ). sets desk.lists (n * members) (take members desk.numbers)) k) i;
    }
