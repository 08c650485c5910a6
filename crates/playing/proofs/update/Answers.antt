-- `playing::update` meets its contract: the call on the desk's words, the desk that they say then, and its line. Assumes nothing.
use Prim.Native.Nat.{ℕ}
use mathlib.Core.Path.{refl, ap, ◌∙◌}
use Rattle.desk.specs.declared.Desk.{Desk}
use Rattle.kind.specs.Areas.{areas}
use Rattle.calls.specs.Calls.{update_leaves}
use Rattle.playing.proofs.Playings.{plays, on_desk_lem}
use Rattle.playing.proofs.update.Goals as goal

pub returns : goal.returns
returns c =
    let start = c.args in
    let came = areas start.«data».now start.undo.now start.status.now in
    let done = c.update-updated.ensures.does in
    on_desk_lem (λ (d : Desk). update_leaves came d start.session start.row start.body.now) c.words_of-w.ensures.1 (plays _ _ _ _ _ _ _ (c.code-code.ensures ∙ ap (λ (y : ℕ × Desk). y.0) done.answers) refl (c.desk_left-desk.ensures ∙ ap (λ (y : ℕ × Desk). y.1) done.answers) done.leaves c.plain-end.ensures)
