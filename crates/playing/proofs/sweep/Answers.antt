-- `playing::sweep` meets its contract: the call on the desk's words, and its line. Assumes nothing.
use Prim.Native.Nat.{ℕ}
use mathlib.Core.Path.{◌≡◌, sym, ap, ◌∙◌}
use mathlib.Core.List.{List, [], ◌∷◌}
use Rattle.std.specs.Prelude.{Result}
use Rattle.answer.specs.declared.Refusal.{Refusal}
use Rattle.answer.specs.Code.{number_of}
use Rattle.answer.proofs.Codes.{code_of_positive}
use Rattle.desk.specs.declared.Desk.{Desk}
use Rattle.numeral.specs.Numeral.{numeral_of}
use Rattle.kind.specs.Areas.{areas}
use Rattle.reply.proofs.Sayings.{says_refused}
use Rattle.sweeping.specs.declared.Swept.{Swept}
use Rattle.sweeping.specs.Sweeping.{next_of, removed_of}
use Rattle.calls.specs.Calls.{sweep_leaves}
use Rattle.playing.proofs.Playings.{plays, on_desk_lem}
use Rattle.playing.proofs.sweep.Goals as goal

-- the fields of what was swept: the next row, and the versions removed
abbrev fields : ℕ × ℕ × ℕ → List (List ℕ)
fields y = numeral_of y.1 ∷ numeral_of y.2 ∷ []

abbrev swept_fields : Result Swept Refusal → List (List ℕ)
swept_fields r = numeral_of (next_of r) ∷ numeral_of (removed_of r) ∷ []

pub returns-in-Ok : goal.returns-in-Ok
returns-in-Ok c =
    let start = c.args in
    let came = areas start.«data».now start.undo.now start.status.now in
    let same = c.words_of-w.ensures.1 in
    let done = c.sweep-swept.ensures in
    on_desk_lem (λ (d : Desk). sweep_leaves came d start.first start.quota) same (plays _ _ _ _ _ _ _ (c.code-code.ensures ∙ ap (λ (y : ℕ × ℕ × ℕ). y.0) done.answers) (ap swept_fields (sym c.in-Ok.is) ∙ ap fields done.answers) (sym same) done.leaves c.paired-end.ensures)

pub returns-in-Err : goal.returns-in-Err
returns-in-Err c =
    let start = c.args in
    let came = areas start.«data».now start.undo.now start.status.now in
    let same = c.words_of-w.ensures.1 in
    let done = c.sweep-swept.ensures in
    let refused = λ (z : c.code-code.result ≡ 0). code_of_positive c.in-Err.field-0 (sym (c.code-code.ensures ∙ ap number_of c.in-Err.is) ∙ z) in
    on_desk_lem (λ (d : Desk). sweep_leaves came d start.first start.quota) same (plays _ _ _ _ _ _ _ (c.code-code.ensures ∙ ap (λ (y : ℕ × ℕ × ℕ). y.0) done.answers) (ap fields done.answers) (sym same) done.leaves (says_refused _ _ refused c.plain-end.ensures))
