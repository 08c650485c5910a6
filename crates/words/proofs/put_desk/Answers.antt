-- `words::put_desk` meets its contract: next and the four columns, one behind the other, are the desk's words, and say it. Assumes
-- nothing.
use mathlib.Core.Path.{◌≡◌, ap, ◌∙◌}
use mathlib.Core.List.{List}
use Prim.Native.Nat.{ℕ}
use lib.ListN.{length}
use lib.Seq.{sets}
use Rattle.columns.specs.Limits.{sessions, places}
use Rattle.words.specs.Words.{statements_at, marks_at, lists_at, all_words, desk_in, words_of}
use Rattle.words.proofs.Copies.{columns_stored}
use Rattle.words.proofs.Laws.{desk_back}
use borrow.Author.Rules.{rules}
use Rattle.words.proofs.put_desk.Goals as goal

pub returns : goal.returns
unfolding words_of
returns c =
    let desk = c.args.desk.now in
    let n16 : length desk.numbers ≡ sessions = search rules in
    let s16 : length desk.statements ≡ sessions = search rules in
    let m16 : length desk.marks ≡ sessions = search rules in
    let l240 : length desk.lists ≡ places = search rules in
    let long : length c.args.words.now ≡ all_words = search rules in
    let stored = c.put_part-4.ensures
    ∙ ap (λ (l : List ℕ). sets l lists_at desk.lists)
    (c.put_part-3.ensures
    ∙ ap (λ (l : List ℕ). sets l marks_at desk.marks)
    (c.put_part-2.ensures ∙ ap (λ (l : List ℕ). sets l statements_at desk.statements) c.put_part.ensures))
    ∙ columns_stored desk.next desk.numbers desk.statements desk.marks desk.lists n16 s16 m16 l240 c.args.words.now long in
    (stored, ap desk_in stored ∙ desk_back desk n16 s16 m16 l240)
