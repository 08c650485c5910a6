-- `keep::area_right` meets its contract: the fours, and then the pages behind them. Assumes nothing.
use mathlib.Core.Path.{◌≡◌, refl, sym, ap, ◌∙◌}
use mathlib.Core.Bool.{Bool, true, false, ◌&&◌}
use Prim.Native.Nat.{ℕ, ◌*◌, ◌-◌, ◌/◌}
use native.Mathlib.Omega.{arith}
use borrow.Author.Tests.{tests}
use Rattle.std.proofs.Common.{rules}
use Rattle.std.specs.List.{list_all, range_with_len}
use Rattle.std.proofs.lemmas.Iterator.{YieldsList-from_range}
use Rattle.std.proofs.lemmas.Iterator.Search.{all_from_yields_List}
use Rattle.ground.specs.Range.{all_below}
use Rattle.ground.proofs.Ranges.{all_short}
use Rattle.whole.specs.Abreast.{right_at}
use Rattle.keep.specs.Whole.{area_right}
use Rattle.keep.proofs.Ranges.{all_range, all_fours, four}
use Rattle.keep.proofs.area_right.Goals as goal
use Rattle.keep.proofs.area_right.Goals.{After-all, After-all-then-all}

-- what was answered of the pages by four, and of those behind them
fours_told : (c : goal.After-all) → c.all.result ≡ all_below (right_at c.args.k c.args.s.now) (4 * (c.pages-n.result / 4))
unfolding all_below
fours_told c =
    let m = c.pages-n.result / 4 in
    let f = right_at c.args.k c.args.s.now in
    all_from_yields_List (λ (q : ℕ). four f (4 * q)) _ _ _ c.all.ensures.ran (YieldsList-from_range 0 m m refl (omega arith)) (λ x b q k. search (rules, tests))
    ∙ all_fours f 0 m (4 * m) (omega arith)

rest_told : (c : goal.After-all-then-all)
    → let m = 4 * (c.pages-n.result / 4) in
    c.all-then-all.result ≡ list_all (right_at c.args.k c.args.s.now) (range_with_len m (c.pages-n.result - m))
rest_told c =
    let m = 4 * (c.pages-n.result / 4) in
    let n = c.pages-n.result in
    all_from_yields_List (right_at c.args.k c.args.s.now) _ _ _ c.all-then-all.ensures.ran (YieldsList-from_range m n (n - m) refl refl) (λ x b q k. search (rules, tests))

pub returns-else-all : goal.returns-else-all
unfolding area_right
returns-else-all c =
    let n = c.pages-n.result in
    let f = right_at c.args.k c.args.s.now in
    let e : all_below f n ≡ false = all_short f (4 * (n / 4)) n (omega arith) (sym (fours_told (goal.at.returns-else-all c).After-all) ∙ c.if-all.false) in
    c.if-all.false ∙ sym e ∙ ap (all_below f) c.pages-n.ensures

pub returns-then-all : goal.returns-then-all
unfolding area_right
returns-then-all c =
    let n = c.pages-n.result in
    let m = 4 * (n / 4) in
    let f = right_at c.args.k c.args.s.now in
    let e : all_below f m ≡ true = sym (fours_told (goal.at.returns-then-all c).After-all) ∙ c.if-all.true in
    rest_told c
    ∙ ap (λ (b : Bool). b && list_all f (range_with_len m (n - m))) (sym e)
    ∙ all_range f m (n - m) n (omega arith)
    ∙ ap (all_below f) c.pages-n.ensures
