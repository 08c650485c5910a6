-- `trimming::free_rest` meets its contract. The loop's invariant: freeing the rest of the chain from here on leaves what freeing it from
-- the first pointer on does, of the area tallied. Assumes nothing.
use borrow.Author.Rules.{rules}
use mathlib.Core.Path.{◌≡◌, sym, ◌∙◌}
use native.Mathlib.Omega.{arith}
use lib.ListN.{length}
use Rattle.kind.specs.Kind.{undo_kind}
use Rattle.chain.proofs.Links.{link_real}
use Rattle.freeing.specs.Tally.{tallied}
use Rattle.freeing.proofs.Tallies.{length_tallied}
use Rattle.trimming.proofs.Tallied.{link_of_tallied}
use Rattle.trimming.proofs.Rests.{freed_start, freed_next, freed_end, freed_out}
use Rattle.ground.proofs.Once.{by_halves}
use Rattle.trimming.proofs.free_rest.Goals as goal
use Rattle.trimming.proofs.free_rest.Goals.{At-loop-n}

-- the area tallied is as long as it was lent
long : (c : goal.At-loop-n)
    →
    length (tallied undo_kind c.args.due.now c.args.undo.now) ≡ length c.args.undo.now
long c =
    length_tallied undo_kind c.args.due.now c.args.undo.now

pub loop-n-init : goal.loop-n-init
loop-n-init c = freed_start _ _ _ _

pub sweep_entry-requires : goal.sweep_entry-requires
sweep_entry-requires c =
    ((link_real _ _ _ _ _ (sym c.follow.ensures ∙ c.in-To.is)).inside, search rules)

pub loop-n-preserved : goal.loop-n-preserved
loop-n-preserved c =
    freed_next _ _ _ _ _ _ _ c.loop-n.invariant _ _ (omega (arith, long (goal.at.loop-n-preserved c).At-loop-n)) (c.follow.ensures ∙ sym (link_of_tallied undo_kind _ _ _ _))
    c.in-To.is c.sweep_entry.ensures

pub returns-in_default : goal.returns-in_default
returns-in_default c =
    by_halves (λ p q. record { counts = p; leaves = q })
    (freed_end _ _ _ _ _ _ _ c.loop-n.invariant (c.follow.ensures ∙ sym (link_of_tallied undo_kind _ _ _ _)) c.in_default.not-To)

pub returns : goal.returns
returns c =
    let out = freed_out _ _ _ _ _ _ _ c.loop-n.invariant (omega (arith, long (goal.at.returns c).At-loop-n)) in
    record { counts = omega (arith, out.0); leaves = out.1 }
