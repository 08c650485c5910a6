-- `station::chirimok_sweep` meets its contract: the call of the desk that the words say. Assumes nothing.
use Prim.Native.Nat.{ℕ}
use mathlib.Core.Path.{refl, sym, ap}
use mathlib.Core.List.{List, [], ◌∷◌}
use Rattle.std.specs.Prelude.{Result}
use Rattle.answer.specs.declared.Refusal.{Refusal}
use Rattle.kind.specs.Areas.{Areas}
use Rattle.sweeping.specs.declared.Swept.{Swept}
use Rattle.sweeping.specs.Sweeping.{next_of, removed_of}
use Rattle.station.specs.Station.{sweep_call}
use Rattle.station.proofs.Calls.{calls}
use Rattle.station.proofs.chirimok_sweep.Goals as goal

-- what is reported: the next row, and the versions removed
abbrev reported : ℕ × ℕ × ℕ → List ℕ
reported y = y.1 ∷ y.2 ∷ []

abbrev reported_of : Result Swept Refusal → List ℕ
reported_of r = next_of r ∷ removed_of r ∷ []

pub returns-in-Ok : goal.returns-in-Ok
unfolding sweep_call
returns-in-Ok c =
    calls
    (λ (y : ℕ × ℕ × ℕ). y.0)
    (λ (a : Areas). a)
    (λ (y : ℕ × ℕ × ℕ). c.args.desk.now)
    reported
    _
    c.sweep-swept.ensures
    c.code-code.ensures
    refl
    (ap reported_of (sym c.in-Ok.is))

pub returns-in-Err : goal.returns-in-Err
unfolding sweep_call
returns-in-Err c =
    calls
    (λ (y : ℕ × ℕ × ℕ). y.0)
    (λ (a : Areas). a)
    (λ (y : ℕ × ℕ × ℕ). c.args.desk.now)
    reported
    _
    c.sweep-swept.ensures
    c.code-code.ensures
    refl
    (ap reported_of (sym c.in-Err.is))
