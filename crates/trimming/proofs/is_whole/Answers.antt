-- `trimming::is_whole` meets its contract. The loop's invariant: from here on the walk that counts, for a test that no version passes,
-- answers what it does from the slot's pointer on. Assumes nothing.
use mathlib.Core.Path.{◌≡◌, refl, sym, ◌∙◌}
use native.Mathlib.Omega.{arith}
use Rattle.chain.specs.Chain.{link_of}
use Rattle.chain.specs.declared.Link.TheVariants.{To}
use Rattle.chain.proofs.Chains.{run_start, run_on}
use Rattle.trimming.proofs.Wholes.{never, whole_empty, whole_end, whole_break, whole_out}
use Rattle.trimming.proofs.is_whole.Goals as goal
use Rattle.trimming.proofs.is_whole.Goals.{In-To}

-- where the link leads to an entry
led : (c : goal.In-To)
    →
    link_of c.args.undo.now c.args.r c.loop.ptr
    ≡ To c.in-To.field-0 c.in-To.n
led c = sym c.follow.ensures ∙ c.in-To.is

pub returns-then-m-eq0 : goal.returns-then-m-eq0
returns-then-m-eq0 c = whole_empty _ _ _ c.read_slot-m.ensures c.if-m-eq0.true

pub loop-init : goal.loop-init
loop-init c = run_start _ _ _ _ _ _

pub loop-preserved : goal.loop-preserved
loop-preserved c =
    sym (run_on _ _ never _ _ _ _ _ (led (goal.at.loop-preserved c).In-To) (omega arith) refl) ∙ c.loop.invariant

pub returns-in-End : goal.returns-in-End
returns-in-End c =
    whole_end _ _ _ c.read_slot-m.ensures c.if-m-eq0.false _ _ c.loop.invariant (sym c.follow.ensures ∙ c.in-End.is)

pub returns-in-Break : goal.returns-in-Break
returns-in-Break c =
    whole_break _ _ _ c.read_slot-m.ensures c.if-m-eq0.false _ _ c.loop.invariant (sym c.follow.ensures ∙ c.in-Break.is)

pub returns-in-To : goal.returns-in-To
returns-in-To c =
    whole_out _ _ _ c.read_slot-m.ensures c.if-m-eq0.false _ _ (omega arith) (led (goal.at.returns-in-To c).In-To) c.loop.invariant
