-- `station::chirimok_next` meets its contract: the call of the desk that the words say, and the desk's words. Assumes nothing.
use Prim.Native.Nat.{ℕ}
use mathlib.Core.Path.{refl, ap, ◌∙◌}
use mathlib.Core.List.{[]}
use Rattle.kind.specs.Areas.{Areas, areas}
use Rattle.turns.proofs.Promises.{next_refused_leaves}
use Rattle.ground.specs.Refuse.{kept}
use Rattle.desk.specs.declared.Desk.{Desk}
use Rattle.words.specs.Words.{words_of}
use Rattle.station.specs.Station.{next_call}
use Rattle.station.proofs.Calls.{calls, kept_words, reads}
use Rattle.station.proofs.chirimok_next.Goals as goal

pub returns : goal.returns
unfolding next_call
returns c =
    calls
    (λ (y : ℕ × Desk). y.0)
    (λ (a : Areas). a)
    (λ (y : ℕ × Desk). kept y.0 (words_of y.1) c.args.desk.now)
    (λ (y : ℕ × Desk). [])
    _
    (reads _ (areas c.args.«data».now c.args.undo.now c.args.status.now) c.next.ensures.does)
    c.code.ensures
    (kept_words _ _ c.next.ensures.desks.0 c.next.ensures.desks.1 _ (λ ne. ap (λ (y : ℕ × Desk). y.1) c.next.ensures.does ∙ next_refused_leaves _ _ _ (λ e. ne (ap (λ (y : ℕ × Desk). y.0) c.next.ensures.does ∙ e))))
    refl
