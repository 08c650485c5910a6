-- `playing::insert` meets its contract: the call on the desk's words, and its line. Assumes nothing.
use Prim.Native.Nat.{ℕ}
use mathlib.Core.Path.{sym, ap, ◌∙◌}
use mathlib.Core.List.{List}
use Rattle.desk.specs.declared.Desk.{Desk}
use Rattle.kind.specs.Areas.{areas}
use Rattle.calls.specs.Calls.{insert_leaves}
use Rattle.playing.specs.Playing.{number}
use Rattle.playing.proofs.Playings.{plays, on_desk_lem}
use Rattle.playing.proofs.insert.Goals as goal

pub returns : goal.returns
returns c =
    let start = c.args in
    let came = areas start.«data».now start.undo.now start.status.now in
    let same = c.words_of-w.ensures.1 in
    let done = c.insert-inserted.ensures in
    on_desk_lem (λ (d : Desk). insert_leaves came d start.session start.body.now) same (plays _ _ _ _ _ _ _ (c.code-code.ensures ∙ ap (λ (y : ℕ × ℕ). y.0) done.answers) (ap number c.unwrap_or.ensures ∙ ap (λ (y : ℕ × ℕ). number y.1) done.answers) (sym same) (ap (λ (d : List ℕ). areas d start.undo.now start.status.now) done.leaves) c.numbered-end.ensures)
