-- `reply::paired` meets its contract: a zero, the numbers behind tabs, and a newline, or the code alone. Assumes nothing.
use mathlib.Core.Path.{sym}
use mathlib.Core.List.{[], ◌∷◌}
use native.Mathlib.Omega.{arith}
use lib.ListN.{length-set}
use Rattle.numeral.specs.Numeral.{numeral_of}
use Rattle.reply.specs.Reply.{longest}
use Rattle.reply.proofs.Sayings.{number_within, says_append, says_byte, says_as, says_refused, says_fields, tabbed_two}
use Rattle.reply.proofs.paired.Goals as goal

pub returns-then-code-ne-DONE : goal.returns-then-code-ne-DONE
returns-then-code-ne-DONE c =
    says_refused c.args.code (numeral_of c.args.n ∷ numeral_of c.args.m ∷ []) c.if-code-ne-DONE.true c.plain.ensures

pub bounds-out-at : goal.bounds-out-at
unfolding longest
bounds-out-at c = omega arith

pub number-mid-requires : goal.number-mid-requires
unfolding longest
number-mid-requires c = simp length-set (omega arith)

pub number-last-requires : goal.number-last-requires
unfolding longest
number-last-requires c =
    let field = c.number-mid.ensures in
    omega (arith, simp length-set at (number_within c.args.n field))

pub end-requires : goal.end-requires
unfolding longest
end-requires c =
    omega (
      arith,
      simp length-set at (number_within c.args.n c.number-mid.ensures),
      number_within c.args.m c.number-last.ensures,
    )

pub returns : goal.returns
unfolding longest
returns c =
    says_fields c.args.code (numeral_of c.args.n ∷ numeral_of c.args.m ∷ []) c.if-code-ne-DONE.false
    (says_append (says_byte 48 c.args.at c.args.out.now (omega (arith, c.requires)))
    (says_as (sym (tabbed_two (numeral_of c.args.n) (numeral_of c.args.m)))
    (says_append c.number-mid.ensures c.number-last.ensures)))
    c.end.ensures
