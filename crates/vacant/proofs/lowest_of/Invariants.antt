-- `vacant::lowest_of` meets its contract. The invariant: the search from page p on is that of the whole area. Assumes nothing.
use mathlib.Core.Path.{◌≡◌}
use Rattle.kind.specs.Kind.{pages}
use Rattle.vacant.specs.Vacant.{lowest}
use Rattle.vacant.proofs.Vacants.{lowest_from}
use Rattle.vacant.proofs.lowest_of.Given as goal

abbrev pub invariant-loop-p : goal.invariant-loop-p
invariant-loop-p l = lowest_from l.k l.s (pages l.s) l.p ≡ lowest l.k l.s
