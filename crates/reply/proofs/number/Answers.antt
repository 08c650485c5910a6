-- `reply::number` meets its contract: a tab, and the number behind it. Assumes nothing.
use mathlib.Core.Path.{sym, ap}
use Prim.Native.Nat.{ℕ, ◌+◌}
use native.Mathlib.Omega.{arith}
use lib.ListN.{length-set}
use Rattle.numeral.specs.Numeral.{numeral_of}
use Rattle.numeral.proofs.Laws.{numeral_length}
use Rattle.reply.proofs.Sayings.{says_append, says_byte, says_as, tabbed_one}
use Rattle.reply.proofs.number.Goals as goal

pub overflow_add-result-2 : goal.overflow_add-result-2
overflow_add-result-2 c =
    omega (arith, numeral_length c.args.n, c.put_number.ensures.counts)

pub returns : goal.returns
returns c =
    let call = c.put_number in
    says_as (sym (tabbed_one (numeral_of c.args.n)))
    (says_append (says_byte 9 c.args.at c.args.out.now (omega (arith, c.requires)))
    (record { ends = ap (λ (n : ℕ). c.args.at + 1 + n) call.ensures.counts; leaves = call.ensures.leaves; within = simp length-set (omega (arith, numeral_length c.args.n, call.ensures.counts, c.requires)) }))
