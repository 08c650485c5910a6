-- `station::put_kept` meets its contract: by what was answered. Assumes nothing.
use mathlib.Core.Path.{sym, ap, ◌∙◌}
use mathlib.Core.List.{List}
use Prim.Native.Nat.{ℕ}
use Rattle.std.specs.Prelude.{Result}
use Rattle.std.specs.Result.{result_unwrap_or}
use Rattle.ground.specs.Refuse.{kept}
use Rattle.ground.proofs.Refusals.{kept_old}
use Rattle.answer.specs.declared.Refusal.{Refusal}
use Rattle.answer.specs.Code.{number_of}
use Rattle.answer.proofs.Codes.{code_of_positive}
use Rattle.desk.specs.declared.Desk.{Desk}
use Rattle.desk.specs.Desk.{no_desk}
use Rattle.words.specs.Words.{words_of}
use Rattle.station.proofs.put_kept.Goals as goal

-- what is left of words w, by what was answered
abbrev left : List ℕ → Result Desk Refusal → List ℕ
left w r = kept (number_of r) (words_of (result_unwrap_or r no_desk)) w

pub returns-in-Ok : goal.returns-in-Ok
returns-in-Ok c = c.put_desk.ensures.0 ∙ ap (left c.args.words.now) (sym c.in-Ok.is)

pub returns-in_default : goal.returns-in_default
returns-in_default c =
    kept_old _ _ c.args.words.now (code_of_positive c.in_default.field-0) ∙ ap (left c.args.words.now) (sym c.in_default.is)
