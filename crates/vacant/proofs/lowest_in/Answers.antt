-- `vacant::lowest_in` meets its contract. The invariant: the search from record i on is that of the whole page. Assumes nothing.
use mathlib.Core.Path.{sym, ◌∙◌}
use borrow.Author.Tests.{eq-eqb, ne_eqb}
use Rattle.ground.proofs.Ranges.{first_next, found_here, found_nowhere}
use Rattle.vacant.specs.Vacant.{lowest_in}
use Rattle.vacant.proofs.Vacants.{idle_read}
use Rattle.vacant.proofs.lowest_in.Goals as goal

pub returns-then-free : goal.returns-then-free
unfolding lowest_in
returns-then-free c =
    found_here _ _ _ c.loop-i.invariant c.loop-i-test.true (idle_read _ _ c.loop-i.i c.get-free.ensures (eq-eqb _ _ c.if-free.true))

pub loop-i-preserved : goal.loop-i-preserved
loop-i-preserved c =
    sym (first_next _ _ _ c.loop-i-test.true (idle_read _ _ c.loop-i.i c.get-free.ensures (ne_eqb _ _ c.if-free.false))) ∙ c.loop-i.invariant

pub returns : goal.returns
unfolding lowest_in
returns c = found_nowhere _ _ _ c.loop-i.invariant c.loop-i-test.false
