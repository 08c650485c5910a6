-- `playing::begin` meets its contract: the call on the desk's words, the desk that they say then, and its line. Assumes nothing.
use Prim.Native.Nat.{ℕ}
use mathlib.Core.Path.{ap, ◌∙◌}
use Rattle.desk.specs.declared.Desk.{Desk}
use Rattle.kind.specs.Areas.{areas}
use Rattle.calls.specs.Calls.{begin_leaves}
use Rattle.playing.specs.Playing.{number}
use Rattle.playing.proofs.Playings.{plays, on_desk_lem}
use Rattle.playing.proofs.begin.Goals as goal

pub returns : goal.returns
returns c =
    let start = c.args in
    let came = areas start.«data».now start.undo.now start.status.now in
    let done = c.begin-begun.ensures.does in
    on_desk_lem (begin_leaves came) c.words_of-w.ensures.1 (plays _ _ _ _ _ _ _ (c.code-code.ensures ∙ ap (λ (y : ℕ × ℕ × Desk). y.0) done.answers) (ap number c.unwrap_or.ensures ∙ ap (λ (y : ℕ × ℕ × Desk). number y.1) done.answers) (c.desk_left-desk.ensures ∙ ap (λ (y : ℕ × ℕ × Desk). y.2) done.answers) (ap (areas start.«data».now start.undo.now) done.leaves) c.numbered-end.ensures)
