-- `reply::plain` meets its contract: the code, and a newline behind it. Assumes nothing.
use mathlib.Core.Path.{sym, ap}
use Prim.Native.Nat.{ℕ, ◌+◌}
use native.Mathlib.Omega.{arith}
use Rattle.numeral.specs.Numeral.{numeral_of}
use Rattle.numeral.proofs.Laws.{numeral_length}
use Rattle.reply.specs.Reply.{longest}
use Rattle.reply.proofs.Sayings.{says_append, says_as, answer_plain}
use Rattle.reply.proofs.plain.Goals as goal

pub put_number-requires : goal.put_number-requires
unfolding longest
put_number-requires c = omega arith

pub overflow_add-e : goal.overflow_add-e
unfolding longest
overflow_add-e c =
    omega (arith, numeral_length c.args.code, c.put_number.ensures.counts)

pub end-requires : goal.end-requires
unfolding longest
end-requires c =
    let call = c.put_number in
    omega (arith, numeral_length c.args.code, call.ensures.counts)

pub returns : goal.returns
unfolding longest
returns c =
    let call = c.put_number in
    says_as (sym (answer_plain c.args.code))
    (says_append {a = numeral_of c.args.code}
    (record { ends = ap (λ (n : ℕ). c.args.at + n) call.ensures.counts; leaves = call.ensures.leaves; within = omega (arith, numeral_length c.args.code, call.ensures.counts, c.requires) })
    c.end.ensures)
