-- `station::chirimok_commit` meets its contract: the call of the desk that the words say, and the desk's words. Assumes nothing.
use Prim.Native.Nat.{ℕ}
use mathlib.Core.Path.{refl, ap, ◌∙◌}
use mathlib.Core.List.{List, []}
use Rattle.kind.specs.Areas.{areas}
use Rattle.turns.proofs.Promises.{commit_refused_leaves}
use Rattle.ground.specs.Refuse.{kept}
use Rattle.desk.specs.declared.Desk.{Desk}
use Rattle.words.specs.Words.{words_of}
use Rattle.station.specs.Station.{commit_call}
use Rattle.station.proofs.Calls.{calls, kept_words}
use Rattle.station.proofs.chirimok_commit.Goals as goal

pub returns : goal.returns
unfolding commit_call
returns c =
    calls
    (λ (y : ℕ × Desk). y.0)
    (λ (s : List ℕ). areas c.args.«data».now c.args.undo.now s)
    (λ (y : ℕ × Desk). kept y.0 (words_of y.1) c.args.desk.now)
    (λ (y : ℕ × Desk). [])
    _
    c.commit.ensures.does
    c.code.ensures
    (kept_words _ _ c.commit.ensures.desks.0 c.commit.ensures.desks.1 _ (λ ne. ap (λ (y : ℕ × Desk). y.1) c.commit.ensures.does.answers ∙ (commit_refused_leaves _ _ _ (λ e. ne (ap (λ (y : ℕ × Desk). y.0) c.commit.ensures.does.answers ∙ e))).0))
    refl
