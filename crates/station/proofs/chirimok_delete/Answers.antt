-- `station::chirimok_delete` meets its contract: the call of the desk that the words say, and the desk's words, which change only by the mark
-- of a 10. Assumes nothing.
use Prim.Native.Nat.{ℕ}
use mathlib.Core.Path.{refl, ap, ◌∙◌}
use mathlib.Core.Bool.{cond}
use mathlib.Core.List.{List, []}
use lib.Dec.{eqb}
use Rattle.kind.specs.Areas.{areas}
use Rattle.desk.specs.declared.Desk.{Desk}
use Rattle.words.specs.Words.{words_of}
use Rattle.rows.proofs.Promises.{delete_desk}
use Rattle.station.specs.Station.{delete_call}
use Rattle.station.proofs.Calls.{calls, marked_words}
use Rattle.station.proofs.chirimok_delete.Goals as goal

pub returns : goal.returns
unfolding delete_call
returns c =
    let done = c.delete.ensures.does in
    calls
    (λ (y : ℕ × Desk). y.0)
    (λ (d : List ℕ). areas d c.args.undo.now c.args.status.now)
    (λ (y : ℕ × Desk). cond (eqb y.0 10) (words_of y.1) c.args.desk.now)
    (λ (y : ℕ × Desk). [])
    _
    done
    c.code.ensures
    (marked_words _ _ c.delete.ensures.desks.0 c.delete.ensures.desks.1 c.args.session (ap (λ (y : ℕ × Desk). y.0) done.answers) (ap (λ (y : ℕ × Desk). y.1) done.answers ∙ delete_desk _ _ _ _))
    refl
