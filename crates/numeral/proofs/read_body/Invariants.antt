use Rattle.numeral.proofs.Bodies.{Reading}
use Rattle.numeral.proofs.read_body.Given as goal

abbrev pub invariant-loop-i : goal.invariant-loop-i
invariant-loop-i l = Reading l.field l.digits l.i l.body
