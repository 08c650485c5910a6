-- `lines::find` meets its contract. Assumes nothing.
use native.Mathlib.Omega.{arith}
use Rattle.lines.proofs.Spans.{before_end, before_length}
use Rattle.lines.proofs.find.Goals as goal

pub overflow_add-result : goal.overflow_add-result
overflow_add-result c = omega (arith, c.in-Some.ensures.lookup, c.before-in-Some.ensures, before_length c.args.b c.in-Some.rest.now)

pub returns-in-None : goal.returns-in-None
returns-in-None c = omega (arith, c.in-None.ensures.lookup, before_end c.args.b c.args.from c.args.s.now)
