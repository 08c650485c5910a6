-- Contradictions, as the other files cite them. Assumes nothing.
use Prim.Native.Nat.{ℕ}
use mathlib.Core.Path.{◌≡◌}
use mathlib.Core.Bool.{Bool, true, false}
use mathlib.Core.Option.{Option, none, some}
use native.Mathlib.Omega.{arith}

pub no_none : {A : Type 0} {X : Type 0} (a : A) → ◌≡◌ {A = Option A} none (some a) → X
no_none a e = let z : ◌≡◌ {A = ℕ} 0 1 = cc in absurd (omega arith)

pub true_false : {X : Type 0} (b : Bool) → b ≡ true → b ≡ false → X
true_false b e f = let z : ◌≡◌ {A = ℕ} 0 1 = cc in absurd (omega arith)
