-- `playing::next` meets its contract: the call on the desk's words, the desk that they say then, and its line. Assumes nothing.
use Prim.Native.Nat.{ℕ}
use mathlib.Core.Path.{refl, ap, ◌∙◌}
use Rattle.desk.specs.declared.Desk.{Desk}
use Rattle.kind.specs.Areas.{areas}
use Rattle.calls.specs.Calls.{next_leaves}
use Rattle.playing.proofs.Playings.{plays, on_desk_lem}
use Rattle.playing.proofs.next.Goals as goal

pub returns : goal.returns
returns c =
    let start = c.args in
    let came = areas start.«data».now start.undo.now start.status.now in
    let done = c.next-moved.ensures.does in
    on_desk_lem (λ (d : Desk). next_leaves came d start.session) c.words_of-w.ensures.1 (plays _ _ _ _ _ _ _ (c.code-code.ensures ∙ ap (λ (y : ℕ × Desk). y.0) done) refl (c.desk_left-desk.ensures ∙ ap (λ (y : ℕ × Desk). y.1) done) refl c.plain-end.ensures)
