-- `station::chirimok_update` meets its contract: the call of the desk that the words say, and the desk's words, which change only by the mark
-- of a 10. Assumes nothing.
use Prim.Native.Nat.{ℕ}
use mathlib.Core.Path.{refl, ap, ◌∙◌}
use mathlib.Core.Bool.{cond}
use mathlib.Core.List.{[]}
use lib.Dec.{eqb}
use Rattle.kind.specs.Areas.{Areas}
use Rattle.desk.specs.declared.Desk.{Desk}
use Rattle.words.specs.Words.{words_of}
use Rattle.rows.proofs.Promises.{update_desk}
use Rattle.station.specs.Station.{update_call}
use Rattle.station.proofs.Calls.{calls, marked_words}
use Rattle.station.proofs.chirimok_update.Goals as goal

pub returns : goal.returns
unfolding update_call
returns c =
    let done = c.update.ensures.does in
    calls
    (λ (y : ℕ × Desk). y.0)
    (λ (a : Areas). a)
    (λ (y : ℕ × Desk). cond (eqb y.0 10) (words_of y.1) c.args.desk.now)
    (λ (y : ℕ × Desk). [])
    _
    done
    c.code.ensures
    (marked_words _ _ c.update.ensures.desks.0 c.update.ensures.desks.1 c.args.session (ap (λ (y : ℕ × Desk). y.0) done.answers) (ap (λ (y : ℕ × Desk). y.1) done.answers ∙ update_desk _ _ _ _ _))
    refl
