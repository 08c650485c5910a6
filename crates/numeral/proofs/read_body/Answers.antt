-- `numeral::read_body` meets its contract. Assumes nothing.
use mathlib.Core.Path.{◌∙◌}
use Rattle.numeral.proofs.Bodies.{short_none, reading_start, reading_none, reading_next, reading_end}
use Rattle.numeral.proofs.read_body.Goals as goal

pub returns-then-field-ne64 : goal.returns-then-field-ne64
returns-then-field-ne64 c = short_none _ c.if-field-ne64.true

pub loop-i-init : goal.loop-i-init
loop-i-init c = reading_start _ _ c.if-field-ne64.false c.as_chunks.ensures.front c.as_chunks.ensures.front_len

pub returns-in_err-body : goal.returns-in_err-body
returns-in_err-body c =
    c.from_residual.ensures ∙ reading_none _ _ _ _ c.loop-i.invariant c.loop-i-test.true c.in_err-body.ensures

pub loop-i-preserved : goal.loop-i-preserved
loop-i-preserved c = reading_next _ _ _ _ c.loop-i.invariant c.loop-i-test.true c.in_ok-body.ensures

pub returns : goal.returns
returns c = reading_end _ _ _ _ c.loop-i.invariant c.loop-i-test.false
