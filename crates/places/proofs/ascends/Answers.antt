-- `places::ascends` meets its contract. The loop's invariant: the places passed are placed, and `low` is what a number here has to
-- exceed. Assumes nothing.
use mathlib.Core.Path.{◌≡◌, sym, ap, ◌∙◌}
use mathlib.Core.List.{List}
use Prim.Native.Nat.{ℕ, ◌+◌}
use native.Mathlib.Nat.{zero-add}
use native.Mathlib.Omega.{arith}
use lib.ListN.{length, get_or}
use Rattle.places.proofs.Places.{run_start, run_number, run_fails}
use Rattle.places.proofs.Runs.{behind_all}
use Rattle.places.proofs.ascends.Goals as goal

-- the place that a turn is at
here : (l : List ℕ) (i : ℕ) → get_or l i 0 ≡ get_or l (0 + i) 0
here l i = ap (λ (k : ℕ). get_or l k 0) (sym (zero-add i))

pub loop-i-init : goal.loop-i-init
loop-i-init c = run_start _ _ _

pub returns-then-x-eq0 : goal.returns-then-x-eq0
returns-then-x-eq0 c = c.unused.ensures ∙ behind_all _ _ _ c.loop-i.invariant.passed c.if-x-eq0.true (omega arith)

pub returns-else-x-top : goal.returns-else-x-top
returns-else-x-top c = sym (run_fails _ _ _ c.loop-i.invariant (here c.args.places.now c.loop-i.i) c.if-x-eq0.false c.if-x-top.false _ (omega arith))

pub loop-i-preserved : goal.loop-i-preserved
loop-i-preserved c = run_number _ _ _ c.loop-i.invariant (here c.args.places.now c.loop-i.i) c.if-x-eq0.false c.if-x-top.true

pub returns : goal.returns
returns c =
    let all : c.loop-i.i ≡ length c.args.places.now = omega arith in
    sym (rw (← all) c.loop-i.invariant.passed)
