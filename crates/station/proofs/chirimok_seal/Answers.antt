-- `station::chirimok_seal` meets its contract: the call of the desk that the words say. Assumes nothing.
use Prim.Native.Nat.{ℕ}
use mathlib.Core.Path.{refl}
use mathlib.Core.List.{[]}
use Rattle.kind.specs.Areas.{Areas}
use Rattle.station.specs.Station.{seal_call}
use Rattle.station.proofs.Calls.{calls}
use Rattle.station.proofs.chirimok_seal.Goals as goal

pub returns : goal.returns
unfolding seal_call
returns c =
    calls
    (λ (y : ℕ). y)
    (λ (a : Areas). a)
    (λ (y : ℕ). c.args.desk.now)
    (λ (y : ℕ). [])
    _
    c.seal.ensures
    c.code.ensures
    refl
    refl
