-- `reply::bodied` meets its contract: a zero, the number and the body behind tabs, and a newline, or the code alone. Assumes nothing.
use mathlib.Core.Path.{sym}
use mathlib.Core.List.{[], ◌∷◌}
use native.Mathlib.Omega.{arith}
use lib.ListN.{length-set}
use Rattle.numeral.specs.Numeral.{numeral_of, hex_of}
use Rattle.reply.specs.Reply.{longest}
use Rattle.reply.proofs.Sayings.{number_within, body_within, says_append, says_byte, says_as, says_refused, says_fields, tabbed_two}
use Rattle.reply.proofs.bodied.Goals as goal

pub returns-then-code-ne-DONE : goal.returns-then-code-ne-DONE
returns-then-code-ne-DONE c =
    says_refused c.args.code (numeral_of c.args.n ∷ hex_of c.args.body.now ∷ []) c.if-code-ne-DONE.true c.plain.ensures

pub bounds-out-at : goal.bounds-out-at
unfolding longest
bounds-out-at c = omega arith

pub number-e-requires : goal.number-e-requires
unfolding longest
number-e-requires c = simp length-set (omega arith)

pub body_field-f-requires : goal.body_field-f-requires
unfolding longest
body_field-f-requires c =
    let field = c.number-e.ensures in (
      c.requires.0,
      omega (arith, simp length-set at (number_within c.args.n field)),
    )

pub end-requires : goal.end-requires
unfolding longest
end-requires c =
    omega (
      arith,
      simp length-set at (number_within c.args.n c.number-e.ensures),
      body_within c.args.body.now c.requires.0 c.body_field-f.ensures,
    )

pub returns : goal.returns
unfolding longest
returns c =
    says_fields c.args.code (numeral_of c.args.n ∷ hex_of c.args.body.now ∷ []) c.if-code-ne-DONE.false
    (says_append (says_byte 48 c.args.at c.args.out.now (omega (arith, c.requires)))
    (says_as (sym (tabbed_two (numeral_of c.args.n) (hex_of c.args.body.now)))
    (says_append c.number-e.ensures c.body_field-f.ensures)))
    c.end.ensures
