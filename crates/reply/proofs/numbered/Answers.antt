-- `reply::numbered` meets its contract: a zero, the number behind a tab, and a newline, or the code alone. Assumes nothing.
use mathlib.Core.List.{[], ◌∷◌}
use native.Mathlib.Omega.{arith}
use lib.ListN.{length-set}
use Rattle.numeral.specs.Numeral.{numeral_of}
use Rattle.reply.specs.Reply.{longest}
use Rattle.reply.proofs.Sayings.{number_within, says_append, says_byte, says_refused, says_fields}
use Rattle.reply.proofs.numbered.Goals as goal

pub returns-then-code-ne-DONE : goal.returns-then-code-ne-DONE
returns-then-code-ne-DONE c =
    says_refused c.args.code (numeral_of c.args.n ∷ []) c.if-code-ne-DONE.true c.plain.ensures

pub bounds-out-at : goal.bounds-out-at
unfolding longest
bounds-out-at c = omega arith

pub number-e-requires : goal.number-e-requires
unfolding longest
number-e-requires c = simp length-set (omega arith)

pub end-requires : goal.end-requires
unfolding longest
end-requires c =
    let field = c.number-e.ensures in
    omega (arith, simp length-set at (number_within c.args.n field))

pub returns : goal.returns
unfolding longest
returns c =
    says_fields c.args.code (numeral_of c.args.n ∷ []) c.if-code-ne-DONE.false
    (says_append (says_byte 48 c.args.at c.args.out.now (omega (arith, c.requires))) c.number-e.ensures)
    c.end.ensures
