-- `vacant::lowest_of` meets its contract. The invariant: the search from page p on is that of the whole area. Assumes nothing.
use mathlib.Core.Path.{◌≡◌, refl, sym, ap, ◌∙◌}
use Prim.Native.Nat.{ℕ, ◌+◌, ◌*◌, ◌<◌}
use native.Mathlib.Omega.{arith}
use Rattle.ground.specs.Range.{found_below}
use Rattle.ground.proofs.Ranges.{found_inside, found_at_end, one_found, none_found}
use Rattle.kind.specs.Kind.{pages}
use Rattle.kind.proofs.Places.{multiple_more}
use Rattle.vacant.specs.Vacant.{lowest}
use Rattle.vacant.proofs.Vacants.{number_fits, lowest_from, lowest_from_start, lowest_from_here, lowest_from_next, lowest_from_end}
use Rattle.vacant.proofs.lowest_of.Goals as goal

pub loop-p-init : goal.loop-p-init
loop-p-init c = lowest_from_start _ _ refl

pub overflow_add-result : goal.overflow_add-result
overflow_add-result c =
    let found = one_found _ _ (sym c.in-Some.is ∙ c.lowest_in.ensures) in
    omega (arith, found.1, number_fits c.loop-p.p c.args.k.count (omega arith) c.requires.1.few)

pub returns-in-Some : goal.returns-in-Some
returns-in-Some c =
    let k = c.args.k in
    let n : ℕ = pages c.args.s.now in
    let found = one_found _ _ (sym c.in-Some.is ∙ c.lowest_in.ensures) in
    let inside : c.loop-p.p < n = omega arith in
    let place : c.loop-p.p * k.count + c.in-Some.i < n * k.count = omega (arith, found.1, multiple_more c.loop-p.p n k.count inside) in
    sym
    (ap (found_below (n * k.count)) (sym c.loop-p.invariant ∙ lowest_from_here k c.args.s.now n c.loop-p.p inside found.0 found.1)
    ∙ found_inside (n * k.count) _ place)

pub loop-p-preserved : goal.loop-p-preserved
loop-p-preserved c =
    let inside : c.loop-p.p < pages c.args.s.now = omega arith in
    sym (lowest_from_next _ _ _ c.loop-p.p inside refl (none_found _ _ (sym c.in_default.is ∙ c.lowest_in.ensures))) ∙ c.loop-p.invariant

pub returns : goal.returns
returns c =
    let k = c.args.k in
    let s = c.args.s.now in
    let all : c.loop-p.p ≡ pages s = omega arith in
    let end : lowest k s ≡ pages s * k.count = sym c.loop-p.invariant ∙ ap (lowest_from k s (pages s)) all ∙ lowest_from_end k s (pages s) in
    sym (found_at_end _ _ (omega (arith, end)))
