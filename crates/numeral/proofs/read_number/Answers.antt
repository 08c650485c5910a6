-- `numeral::read_number` meets its contract. Assumes nothing.
use mathlib.Core.Path.{sym, ◌∙◌}
use native.Mathlib.Omega.{arith}
use Rattle.numeral.proofs.Numbers.{number_begun, number_begins, read_none, read_digit, read_end}
use Rattle.numeral.proofs.read_number.Goals as goal

pub returns-then-not-begins : goal.returns-then-not-begins
returns-then-not-begins c = sym (number_begun _ (sym (c.if-not-begins.ensures)))

pub loop-b-init : goal.loop-b-init
loop-b-init c = (omega arith, number_begins _ (sym (c.if-not-begins.ensures)))

pub returns-in_err-said : goal.returns-in_err-said
returns-in_err-said c =
    c.from_residual.ensures ∙ sym (read_none _ _ _ c.loop-b-test.true c.in_err-said.ensures) ∙ c.loop-b.invariant.1

pub loop-b-preserved : goal.loop-b-preserved
loop-b-preserved c =
    let more = read_digit _ _ _ c.loop-b-test.true c.in_ok-said.ensures in
    (more.0, more.1 ∙ c.loop-b.invariant.1)

pub returns : goal.returns
returns c = sym (read_end _ _ _ c.loop-b-test.false c.loop-b.invariant.0) ∙ c.loop-b.invariant.1
