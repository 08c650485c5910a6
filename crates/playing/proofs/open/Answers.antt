-- `playing::open` meets its contract: the call, its line, and the desk that stays. Assumes nothing.
use Prim.Native.Nat.{ℕ}
use mathlib.Core.Path.{refl, sym, ap, ◌∙◌}
use Rattle.ground.specs.Refuse.{kept}
use Rattle.answer.proofs.Codes.{kept_answered}
use Rattle.desk.specs.declared.Desk.{Desk}
use Rattle.desk.specs.Desk.{no_desk}
use Rattle.playing.proofs.Playings.{plays}
use Rattle.playing.proofs.open.Goals as goal

pub returns : goal.returns
returns c =
    let done = c.open-opened.ensures in
    let stays = sym (kept_answered c.open-opened.result no_desk c.args.desk) ∙ ap (λ (y : ℕ × Desk). kept y.0 y.1 c.args.desk) done in
    plays _ _ _ _ _ _ _ (c.code-code.ensures ∙ ap (λ (y : ℕ × Desk). y.0) done) refl (c.unwrap_or.ensures ∙ stays) refl c.plain-end.ensures
