-- `script::rest` meets its contract: one of the four ways. Assumes nothing.
use native.Mathlib.Omega.{arith}
use Rattle.line.specs.Line.{longest}
use Rattle.script.proofs.Rests.{rest_none, rest_unended, rest_waits, rest_long}
use Rattle.script.proofs.rest.Goals as goal

pub returns-then-at-end : goal.returns-then-at-end
unfolding longest
returns-then-at-end c = record { inside = (omega arith, omega arith); rests = rest_none _ _ _ _ _ _ c.requires.0 c.if-last.true c.if-at-end.true }

pub returns-then-last : goal.returns-then-last
returns-then-last c =
    record { inside = (omega arith, c.plain-made.ensures.within); rests = rest_unended _ _ _ _ _ _ c.requires.0 _ _ _ _ c.if-last.true c.if-at-end.false c.in_line.ensures c.from-code.ensures c.plain-made.ensures }

pub returns-then-end-at-le-LONGEST : goal.returns-then-end-at-le-LONGEST
unfolding longest
returns-then-end-at-le-LONGEST c = record { inside = (omega arith, omega arith); rests = rest_waits _ _ _ _ _ _ c.requires.0 c.if-last.false c.if-end-at-le-LONGEST.true }

pub returns : goal.returns
unfolding longest
returns c = record { inside = (omega arith, omega arith); rests = rest_long _ _ _ _ _ _ c.requires.0 _ c.if-last.false c.if-end-at-le-LONGEST.false c.in_line-2.ensures }
