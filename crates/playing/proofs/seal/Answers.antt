-- `playing::seal` meets its contract: the call on the desk's words, and its line. Assumes nothing.
use mathlib.Core.Path.{refl, sym, ◌∙◌}
use Rattle.kind.specs.Areas.{areas}
use Rattle.calls.specs.Calls.{seal_leaves}
use Rattle.playing.proofs.Playings.{plays, on_desk_lem}
use Rattle.playing.proofs.seal.Goals as goal

pub returns : goal.returns
returns c =
    let start = c.args in
    let came = areas start.«data».now start.undo.now start.status.now in
    let same = c.words_of-w.ensures.1 in
    let done = c.seal-sealed.ensures in
    on_desk_lem (seal_leaves came) same (plays _ _ _ _ _ _ _ (c.code-code.ensures ∙ done.answers) refl (sym same) done.leaves c.plain-end.ensures)
