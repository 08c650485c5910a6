-- `playing::read` meets its contract: the call on the desk's words, the body where it lies, and its line. Assumes nothing.
use Prim.Native.Nat.{ℕ, ◌≤◌}
use mathlib.Core.Path.{◌≡◌, refl, sym, ap, subst⁻¹, ◌∙◌}
use mathlib.Core.List.{List, [], ◌∷◌}
use lib.ListN.{length}
use Rattle.std.specs.Prelude.{Result}
use Rattle.answer.specs.declared.Refusal.{Refusal}
use Rattle.answer.specs.Code.{number_of}
use Rattle.answer.proofs.Codes.{code_of_positive}
use Rattle.desk.specs.declared.Desk.{Desk}
use Rattle.chain.specs.declared.Found.{Found}
use Rattle.chain.specs.declared.Place.{Place}
use Rattle.chain.specs.Walk.{body_of}
use Rattle.chain.proofs.Bodies.{body_most}
use Rattle.numeral.specs.Numeral.{numeral_of, hex_of}
use Rattle.kind.specs.Areas.{areas}
use Rattle.reply.proofs.Sayings.{says_refused}
use Rattle.rows.specs.Rows.{place_seen, looked_at}
use Rattle.calls.specs.Calls.{read_leaves}
use Rattle.playing.proofs.Playings.{plays, on_desk_lem}
use borrow.Author.Rules.{rules}
use Rattle.playing.proofs.read.Goals as goal

-- the fields of what was read: the count, and the body where it lies
abbrev fields : List ℕ → List ℕ → ℕ × Place × ℕ → List (List ℕ)
fields d u y = numeral_of y.2 ∷ hex_of (body_of y.1 d u) ∷ []

abbrev read_fields : List ℕ → List ℕ → Result Found Refusal → List (List ℕ)
read_fields d u r = numeral_of (looked_at r) ∷ hex_of (body_of (place_seen r) d u) ∷ []

pub bodied-end-requires : goal.bodied-end-requires
bodied-end-requires c =
    let start = c.args in (
      subst⁻¹ (λ (b : List ℕ). length b ≤ 32) c.body-body.ensures.holds (body_most c.in-Ok.found.place start.«data».now start.undo.now),
      search rules,
    )

pub returns-in-Ok : goal.returns-in-Ok
returns-in-Ok c =
    let start = c.args in
    let came = areas start.«data».now start.undo.now start.status.now in
    let same = c.words_of-w.ensures.1 in
    let done = c.read-read.ensures in
    let body = ap (λ (b : List ℕ). numeral_of c.in-Ok.found.looked ∷ hex_of b ∷ []) c.body-body.ensures.holds in
    let read = ap (read_fields start.«data».now start.undo.now) (sym c.in-Ok.is) in
    on_desk_lem (λ (d : Desk). read_leaves came d start.session start.row) same (plays _ _ _ _ _ _ _ (c.code-code.ensures ∙ ap (λ (y : ℕ × Place × ℕ). y.0) done) (body ∙ read ∙ ap (fields start.«data».now start.undo.now) done) (sym same) refl c.bodied-end.ensures)

pub returns-in-Err : goal.returns-in-Err
returns-in-Err c =
    let start = c.args in
    let came = areas start.«data».now start.undo.now start.status.now in
    let same = c.words_of-w.ensures.1 in
    let done = c.read-read.ensures in
    let refused = λ (z : c.code-code.result ≡ 0). code_of_positive c.in-Err.field-0 (sym (c.code-code.ensures ∙ ap number_of c.in-Err.is) ∙ z) in
    on_desk_lem (λ (d : Desk). read_leaves came d start.session start.row) same (plays _ _ _ _ _ _ _ (c.code-code.ensures ∙ ap (λ (y : ℕ × Place × ℕ). y.0) done) (ap (fields start.«data».now start.undo.now) done) (sym same) refl (says_refused _ _ refused c.plain-end.ensures))
