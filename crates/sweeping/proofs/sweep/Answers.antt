-- `sweeping::sweep` meets its contract: by what it asks, in this order. Assumes nothing.
use borrow.Author.Rules.{rules}
use mathlib.Core.Path.{◌≡◌, refl, sym, ◌∙◌}
use mathlib.Core.Bool.{true}
use Prim.Native.Nat.{◌+◌}
use native.Mathlib.Omega.{arith}
use lib.ListN.{length}
use Rattle.ground.proofs.Once.{does_case}
use Rattle.desk.specs.Sound.{sound}
use Rattle.words.specs.Words.{desk_in}
use Rattle.kind.specs.Kind.{lengths_ok}
use Rattle.kind.specs.Areas.{both}
use Rattle.strands.specs.Strands.{RowsIn}
use Rattle.sweeping.specs.Sweeping.{treated}
use Rattle.sweeping.proofs.Treats.{inside}
use Rattle.sweeping.proofs.Calls.{treats, sweep_0}
use Rattle.sweeping.proofs.sweep.Goals as goal
use Rattle.sweeping.proofs.sweep.Goals.{Else-not-lengths_ok, Else-not-is_sound, After-min-n}

-- the lengths are allowed, the desk is sound, and so many rows are treated
good : (c : goal.Else-not-lengths_ok)
    →
    lengths_ok (length c.args.«data».now) (length c.args.undo.now) (length c.args.status.now) ≡ true
good c = sym c.lengths_ok.ensures ∙ c.if-not-lengths_ok.false

fine : (c : goal.Else-not-is_sound) → sound (desk_in c.args.desk.now) ≡ true
fine c = sym c.is_sound.ensures ∙ c.if-not-is_sound.false

many : (c : goal.After-min-n) → c.min-n.result ≡ treated c.args.«data».now c.args.first c.args.quota
many c = treats _ _ _ c.rows-rows.ensures c.min-n.ensures

pub returns : goal.returns
returns c =
    let at = goal.at.returns c in
    let d = c.args.«data».now in
    let u = c.args.undo.now in
    let lent : RowsIn (c.args.first + c.min-n.result) (both d u)
    = inside d u c.args.first c.min-n.result (omega (arith, c.min-n.ensures, c.rows-rows.ensures, c.if-first-rows.false)) (λ i. search rules) (λ i. search rules) in
    does_case
    (sweep_0 _ _ _ _ _ _ (good at.Else-not-lengths_ok) (fine at.Else-not-is_sound) c.rows-rows.ensures c.if-first-rows.false (many at.After-min-n) (sym c.are_whole.ensures ∙ c.if-not-are_whole.false)
    lent (c.from.ensures ∙ c.mark.ensures) c.sweep_rows-removed.ensures.counts c.sweep_rows-removed.ensures.leaves)
    refl
    refl
