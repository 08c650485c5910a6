-- `station::chirimok_begin` meets its contract: the call of the desk that the words say, and the desk's words. Assumes nothing.
use Prim.Native.Nat.{ℕ}
use mathlib.Core.Path.{ap, ◌∙◌}
use mathlib.Core.List.{List, [], ◌∷◌}
use native.Mathlib.Omega.{arith}
use Rattle.kind.specs.Areas.{areas}
use Rattle.turns.proofs.Promises.{begin_refused}
use Rattle.ground.specs.Refuse.{kept}
use Rattle.desk.specs.declared.Desk.{Desk}
use Rattle.words.specs.Words.{words_of}
use Rattle.station.specs.Station.{begin_call}
use Rattle.station.proofs.Calls.{calls, kept_words}
use Rattle.station.proofs.chirimok_begin.Goals as goal

pub returns : goal.returns
unfolding begin_call
returns c =
    calls
    (λ (y : ℕ × ℕ × Desk). y.0)
    (λ (s : List ℕ). areas c.args.«data».now c.args.undo.now s)
    (λ (y : ℕ × ℕ × Desk). kept y.0 (words_of y.2) c.args.desk.now)
    (λ (y : ℕ × ℕ × Desk). y.1 ∷ [])
    _
    c.begin-begun.ensures.does
    c.code-code.ensures
    (kept_words _ _ c.begin-begun.ensures.desks.0 c.begin-begun.ensures.desks.1 _ (λ ne. ap (λ (y : ℕ × ℕ × Desk). y.2) c.begin-begun.ensures.does.answers ∙ (begin_refused _ _ (λ e. ne (ap (λ (y : ℕ × ℕ × Desk). y.0) c.begin-begun.ensures.does.answers ∙ e))).0))
    (ap (λ (n : ℕ). n ∷ []) (omega (arith, c.unwrap_or.ensures)))
