-- `station::chirimok_read` meets its contract: the call of the desk that the words say. Assumes nothing.
use Prim.Native.Nat.{ℕ}
use mathlib.Core.Path.{refl, sym, ap, ◌∙◌}
use mathlib.Core.List.{List, [], ◌∷◌}
use Rattle.std.specs.Prelude.{Result}
use Rattle.answer.specs.declared.Refusal.{Refusal}
use Rattle.kind.specs.Areas.{Areas, areas}
use Rattle.chain.specs.declared.Found.{Found}
use Rattle.chain.specs.declared.Place.{Place}
use Rattle.rows.specs.Rows.{place_seen, looked_at}
use Rattle.station.specs.Station.{lies_of, read_call}
use Rattle.station.proofs.Calls.{calls, reads}
use Rattle.station.proofs.chirimok_read.Goals as goal

-- what is reported: how many versions were looked at, and where the body lies
abbrev reported : List ℕ → List ℕ → ℕ × Place × ℕ → List ℕ
reported d u y = y.2 ∷ (lies_of y.1 d u).0 ∷ (lies_of y.1 d u).1 ∷ []

abbrev reported_of : List ℕ → List ℕ → Result Found Refusal → List ℕ
reported_of d u r = looked_at r ∷ (lies_of (place_seen r) d u).0 ∷ (lies_of (place_seen r) d u).1 ∷ []

pub returns-in-Ok : goal.returns-in-Ok
unfolding read_call
returns-in-Ok c =
    let found = ap (λ (l : ℕ × ℕ). c.in-Ok.found.looked ∷ l.0 ∷ l.1 ∷ []) c.lies-area.ensures in
    calls
    (λ (y : ℕ × Place × ℕ). y.0)
    (λ (a : Areas). a)
    (λ (y : ℕ × Place × ℕ). c.args.desk.now)
    (reported c.args.«data».now c.args.undo.now)
    _
    (reads _ (areas c.args.«data».now c.args.undo.now c.args.status.now) c.read-read.ensures)
    c.code-code.ensures
    refl
    (found ∙ ap (reported_of c.args.«data».now c.args.undo.now) (sym c.in-Ok.is))

pub returns-in-Err : goal.returns-in-Err
unfolding lies_of read_call
returns-in-Err c =
    calls
    (λ (y : ℕ × Place × ℕ). y.0)
    (λ (a : Areas). a)
    (λ (y : ℕ × Place × ℕ). c.args.desk.now)
    (reported c.args.«data».now c.args.undo.now)
    _
    (reads _ (areas c.args.«data».now c.args.undo.now c.args.status.now) c.read-read.ensures)
    c.code-code.ensures
    refl
    (ap (reported_of c.args.«data».now c.args.undo.now) (sym c.in-Err.is))
