-- `station::chirimok_insert` meets its contract: the call of the desk that the words say. Assumes nothing.
use Prim.Native.Nat.{ℕ}
use mathlib.Core.Path.{refl, ap}
use mathlib.Core.List.{List, [], ◌∷◌}
use Rattle.kind.specs.Areas.{areas}
use Rattle.station.specs.Station.{insert_call}
use Rattle.station.proofs.Calls.{calls}
use Rattle.station.proofs.chirimok_insert.Goals as goal

pub returns : goal.returns
unfolding insert_call
returns c =
    calls
    (λ (y : ℕ × ℕ). y.0)
    (λ (d : List ℕ). areas d c.args.undo.now c.args.status.now)
    (λ (y : ℕ × ℕ). c.args.desk.now)
    (λ (y : ℕ × ℕ). y.1 ∷ [])
    _
    c.insert-inserted.ensures
    c.code-code.ensures
    refl
    (ap (λ (n : ℕ). n ∷ []) c.unwrap_or.ensures)
