-- `station::chirimok_withdraw` meets its contract: the call of the desk that the words say, and the desk's words. Assumes nothing.
use Prim.Native.Nat.{ℕ}
use mathlib.Core.Path.{refl, ap, ◌∙◌}
use mathlib.Core.List.{[]}
use Rattle.kind.specs.Areas.{Areas}
use Rattle.undoing.proofs.Promises.{withdraw_refused_leaves}
use Rattle.ground.specs.Refuse.{kept}
use Rattle.desk.specs.declared.Desk.{Desk}
use Rattle.words.specs.Words.{words_of}
use Rattle.station.specs.Station.{withdraw_call}
use Rattle.station.proofs.Calls.{calls, kept_words}
use Rattle.station.proofs.chirimok_withdraw.Goals as goal

pub returns : goal.returns
unfolding withdraw_call
returns c =
    calls
    (λ (y : ℕ × Desk). y.0)
    (λ (a : Areas). a)
    (λ (y : ℕ × Desk). kept y.0 (words_of y.1) c.args.desk.now)
    (λ (y : ℕ × Desk). [])
    _
    c.withdraw.ensures.does
    c.code.ensures
    (kept_words _ _ c.withdraw.ensures.desks.0 c.withdraw.ensures.desks.1 _ (λ ne. ap (λ (y : ℕ × Desk). y.1) c.withdraw.ensures.does.answers ∙ (withdraw_refused_leaves _ _ _ (λ e. ne (ap (λ (y : ℕ × Desk). y.0) c.withdraw.ensures.does.answers ∙ e))).0))
    refl
