-- `keep::seal_area` meets its contract. The invariants: the first 4 q pages are sealed; then the first p. Assumes nothing.
use mathlib.Core.Path.{◌≡◌}
use Prim.Native.Nat.{◌*◌}
use Rattle.keep.specs.Whole.{sealed_area}
use Rattle.keep.proofs.seal_area.Given as goal

abbrev pub invariant-loop-q : goal.invariant-loop-q
invariant-loop-q l = l.s ≡ sealed_area (4 * l.q) l.fn.s

abbrev pub invariant-loop-p : goal.invariant-loop-p
invariant-loop-p l = l.s ≡ sealed_area l.p l.fn.s
