-- `feeding::serve` meets its contract: each run goes on where the one before it ended, and takes something, or it is the last. Assumes nothing.
use native.Mathlib.Omega.{arith}
use mathlib.Core.Path.{refl}
use Rattle.feeding.proofs.Served.{sofar_start, sofar_next, answered}
use Rattle.feeding.proofs.serve.Goals as goal

pub loop-s-init : goal.loop-s-init
loop-s-init g c = (omega arith, sofar_start _ _ _ _)

pub returns-then-said-taken : goal.returns-then-said-taken
returns-then-said-taken g c =
    answered _ _ _ _ c.args.text.now c.loop-s.at c.loop-s.invariant.1 _ _ _ _ c.loop-s.auto.out c.run-r.ensures.runs c.say-said.result _ c.if-said-taken.true refl

pub loop-s-preserved : goal.loop-s-preserved
loop-s-preserved g c = (
  omega (arith, c.loop-s.invariant.0, c.run-r.ensures.inside.0),
  sofar_next _ _ _ _ _ _ c.loop-s.invariant.1 _ _ _ _ c.loop-s.auto.out c.run-r.ensures.runs,
)
