-- `line::call_in` meets its contract: each field is taken in its turn. Assumes nothing.
use mathlib.Core.Path.{◌≡◌, refl, sym, ◌∙◌}
use mathlib.Core.Bool.{Bool}
use Rattle.std.proofs.Common.{rules, tests}
use Rattle.std.specs.Prelude.{Some}
use Rattle.line.specs.Line.{bodied, call_in, left, longest, settled}
use Rattle.line.proofs.Taken.{asked, call_long, call_nameless, call_named, no_first, no_second, no_last, all_said, some_left, none_left}
use Rattle.line.proofs.call_in.Goals as goal
use Rattle.line.proofs.call_in.Goals.{After-numbers-n, After-end}

pub returns-then-line-gt-LONGEST : goal.returns-then-line-gt-LONGEST
unfolding longest
returns-then-line-gt-LONGEST c = call_long _ c.if-line-gt-LONGEST.true

pub returns-in_err-next : goal.returns-in_err-next
unfolding longest
returns-in_err-next c = c.from_residual.ensures ∙ sym (call_nameless _ c.if-line-gt-LONGEST.false c.in_err-next.ensures)

-- what the fields behind the name say
said : (c : goal.After-numbers-n) (w : Bool) → w ≡ bodied c.verb_of-verb.result
    → call_in c.args.line.now ≡ asked c.verb_of-verb.result c.numbers-n.result w (left c.next.new.self.rest)
unfolding longest
said c w e = call_named _ _ _ _ w c.if-line-gt-LONGEST.false c.in_ok-next.ensures c.verb_of-verb.ensures c.numbers-n.ensures e

pub returns-in_err-first : goal.returns-in_err-first
returns-in_err-first c =
    c.from_residual-in_err-first.ensures
    ∙ sym (said (goal.at.returns-in_err-first c).After-numbers-n _ refl ∙ no_first _ c.numbers-n.result _ _ _ c.in_err-first.ensures (search (rules, tests)))

pub returns-in_err-second : goal.returns-in_err-second
returns-in_err-second c =
    c.from_residual-in_err-second.ensures
    ∙ sym (said (goal.at.returns-in_err-second c).After-numbers-n _ refl ∙ no_second _ _ _ _ _ _ _ c.in_ok-first.ensures (search (rules, tests)) c.in_err-second.ensures)

pub returns-in_err-body : goal.returns-in_err-body
returns-in_err-body c =
    c.from_residual-in_err-body.ensures
    ∙ sym (said (goal.at.returns-in_err-body c).After-numbers-n _ c.has_body.ensures
    ∙ no_last _ _ _ _ _ _ _ c.in_ok-first.ensures (search (rules, tests)) _ _ c.in_ok-second.ensures c.in_err-body.ensures)

-- and where each that is wanted is there
settles : (c : goal.After-end) → call_in c.args.line.now ≡ settled c.verb_of-verb.result (Some c.in_ok-first.first) (Some c.in_ok-second.second) (Some c.in_ok-body.body) (left c.body.new.self.rest)
unfolding longest
settles c =
    call_named _ _ _ _ _ c.if-line-gt-LONGEST.false c.in_ok-next.ensures c.verb_of-verb.ensures c.numbers-n.ensures c.has_body.ensures
    ∙ all_said _ _ _ _ _ _ _ c.in_ok-first.ensures (search (rules, tests)) _ _ c.in_ok-second.ensures _ _ c.in_ok-body.ensures

pub returns-in_err-end : goal.returns-in_err-end
returns-in_err-end c = c.from_residual-in_err-end.ensures ∙ sym (settles (goal.at.returns-in_err-end c).After-end ∙ some_left _ _ _ _ _ c.in_err-end.ensures)

pub returns : goal.returns
returns c = sym (settles (goal.at.returns c).After-end ∙ none_left _ _ _ _ _ c.in_ok-end.ensures)
