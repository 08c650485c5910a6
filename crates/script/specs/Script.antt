-- A script run on lent areas ("01, The script and one whole run"): the whole output of a text, and what one piece of it does. Assumes
-- nothing.
use Rattle.std.specs.Prelude.{ℕ, ◌+◌, ◌-◌, ◌*◌, ◌≤◌, ◌≡◌, Bool, true, false, not, ◌&&◌, cond, List, [], ◌∷◌, ◌++◌, length, take, drop, eqb, leb, ltb}
use Rattle.std.proofs.lemmas.List.Edits.{sets}
use Rattle.answer.specs.declared.Refusal.TheVariants.{IllFormed as Ill}
use Rattle.answer.specs.Code.{code_of}
use Rattle.kind.specs.Kind.{page_size}
use Rattle.kind.specs.Areas.{Areas, areas}
use Rattle.desk.specs.Desk.{no_desk}
use Rattle.lines.specs.Span.{parts}
use Rattle.line.specs.declared.Verb.{Verb}
use Rattle.line.specs.declared.Verb.TheVariants.{Format, Open, Seal, Begin, Next, Insert, Update, Delete, Read, Commit, Withdraw, Sweep, IllFormed}
use Rattle.line.specs.declared.Command.{Command}
use Rattle.line.specs.Line.{command_of, ill, longest as longest_line}
use Rattle.lines.specs.declared.Line.{Line}
use Rattle.reply.specs.Reply.{answer_line, longest as longest_answer}
use Rattle.rows.specs.Rows.{refused_desk}
use Rattle.calls.specs.Calls.{Left}
use Rattle.playing.specs.Playing.{play_rule, line_of}
use Rattle.script.specs.declared.Footing.{Footing}
use Rattle.script.specs.declared.Stepped.{Stepped}
use Rattle.script.specs.declared.Ran.{Ran}
use Rattle.std.specs.declared.ops.ControlFlow.{ControlFlow}
use Rattle.std.specs.declared.ops.ControlFlow.TheVariants.{Break, Continue}

-- ---- one call

-- "A format line names the data, then the undo pages lent: at most 3 of each": so many bytes, none where it names more
unfoldable pub named : ℕ → ℕ
named pages = cond (leb pages 3) (pages * page_size) 0

-- of an area that is lent in full; none where it is shorter
unfoldable pub lent : ℕ → List ℕ → ℕ
lent n s = cond (leb n (length s)) n 0

abbrev pub is_format : Verb → Bool
is_format Format = true
is_format Open = false
is_format Seal = false
is_format Begin = false
is_format Next = false
is_format Insert = false
is_format Update = false
is_format Delete = false
is_format Read = false
is_format Commit = false
is_format Withdraw = false
is_format Sweep = false
is_format IllFormed = false

-- a format is lent what its line names, any other call what the last accepted format named; before one that is nothing, and nothing is
-- no store: "Before an accepted format every well-formed call but format answers 1"
unfoldable pub data_lent : Command → Footing → List ℕ → ℕ
data_lent c s d = lent (cond (is_format c.verb) (named c.first) s.«data») d

unfoldable pub undo_lent : Command → Footing → List ℕ → ℕ
undo_lent c s u = lent (cond (is_format c.verb) (named c.second) s.undo) u

-- what is carried from one line to the next
pub record Carried : Type 0 where
  pub footing : Footing
  pub lent : Areas

abbrev pub carried : Footing → Areas → Carried
carried s a = record { footing = s; lent = a }

abbrev pub footing : Left → Bool → ℕ → ℕ → Footing → Footing
footing l formats n m s =
    record { desk = l.desk; «data» = cond (formats && eqb l.code 0) n s.«data»; undo = cond (formats && eqb l.code 0) m s.undo; long = false }

-- what a call is lent of what is carried
abbrev pub lent_to : Carried → Command → Areas
lent_to k c =
    areas
    (take (data_lent c k.footing k.lent.«data») k.lent.«data»)
    (take (undo_lent c k.footing k.lent.undo) k.lent.undo)
    k.lent.status

-- what the call leaves of it, and its line
unfoldable pub left_in : Carried → Command → Left
left_in k c = play_rule (lent_to k c) k.footing.desk c

abbrev pub line_in : Carried → Command → List ℕ
line_in k c = line_of c.verb (left_in k c)

-- and what is carried on: what was not lent is as it was
unfoldable pub stepped : Carried → Command → Carried
stepped k c =
    let n = data_lent c k.footing k.lent.«data» in
    let m = undo_lent c k.footing k.lent.undo in
    let l = left_in k c in
    carried
    (footing l (is_format c.verb) n m k.footing)
    (areas (l.lent.«data» ++ drop n k.lent.«data») (l.lent.undo ++ drop m k.lent.undo) l.lent.status)

-- the calls that can be answered 10 ("01, When the desk says no": "8 to 10", of "update, delete"): they change a row that is there
abbrev pub changes_row : Verb → Bool
changes_row Format = false
changes_row Open = false
changes_row Seal = false
changes_row Begin = false
changes_row Next = false
changes_row Insert = false
changes_row Update = true
changes_row Delete = true
changes_row Read = false
changes_row Commit = false
changes_row Withdraw = false
changes_row Sweep = false
changes_row IllFormed = false

-- what refusal n of a call carries on, where its line names session x: "After an answer 10, the desk marks that session spoiled, the one
-- change that refusal makes" ("02, T-07"); else the desk stays, and the lengths that the last accepted format named
abbrev pub refused_footing : Verb → ℕ → ℕ → Footing → Footing
refused_footing v n x s =
    record { desk = cond (changes_row v) (refused_desk n x s.desk) s.desk; «data» = s.«data»; undo = s.undo; long = false }

-- what a step leaves is that: what is carried on, and its line at a place of the buffer, inside it
pub record Steps (k : Carried) (c : Command) (at : ℕ) (buffer : List ℕ) (r : Stepped) (left : Areas) (behind : List ℕ) : Type 0 where
  pub carries : carried r.footing left ≡ stepped k c
  pub ends : r.end ≡ at + length (line_in k c)
  pub writes : behind ≡ sets buffer at (line_in k c)
  pub within : r.end ≤ length buffer

-- ---- one line

-- the call of a line; none where it has been found too long
abbrev pub command_in : Carried → List ℕ → Command
command_in k line = cond k.footing.long ill (command_of line)

-- "answers one 16"
abbrev pub sixteen : List ℕ
sixteen = answer_line (code_of Ill) []

-- ---- a whole text

-- The whole output, line by line. What stands behind the last newline is an unended line, unless it is empty.
unfoldable pub answers : Carried → List (List ℕ) → List ℕ
answers k [] = []
answers k (l ∷ []) = cond (eqb (length l) 0 && not k.footing.long) [] sixteen
answers k (l ∷ m ∷ ls) = line_in k (command_in k l) ++ answers (stepped k (command_in k l)) (m ∷ ls)

-- "newline after each line"
abbrev pub output : Carried → List ℕ → List ℕ
output k text = answers k (parts 10 text)

-- ---- a piece of it

-- the portion of a text that a run is done with: what it said, how much of the text it is done with, what it carries on
pub record Portion : Type 0 where
  pub said : List ℕ
  pub taken : ℕ
  pub on : Carried

abbrev pub portion : List ℕ → ℕ → Carried → Portion
portion said n k = record { said = said; taken = n; on = k }

-- the same, in a line that is too long or not
abbrev pub in_line : Bool → Footing → Footing
in_line b s = record { desk = s.desk; «data» = s.«data»; undo = s.undo; long = b }

-- one line more
unfoldable pub lined : Portion → List ℕ → Portion
lined r l = portion (r.said ++ line_in r.on (command_in r.on l)) (r.taken + length l + 1) (stepped r.on (command_in r.on l))

-- what stands behind the last newline, so many bytes: where no more text comes it is an unended line, unless there is none of it; where it is
-- too long already it is done with, and its line is known to be too long; else it waits for more. What is said, taken and carried on:
unfoldable pub rest_of : Bool → Footing → ℕ → List ℕ × ℕ × Footing
rest_of last s n =
    cond last
    (cond (eqb n 0 && not s.long) ([], 0, s) (sixteen, n, in_line false s))
    (cond (leb n longest_line) ([], 0, s) ([], n, in_line true s))

unfoldable pub rested : Bool → Portion → List ℕ → Portion
rested last r l =
    let w = rest_of last r.on.footing (length l) in
    portion (r.said ++ w.0) (r.taken + w.1) (carried w.2 r.on.lent)

-- what the end of a text leaves is that
pub record Rests (s : Footing) (at n : ℕ) (last : Bool) (made : ℕ) (buffer : List ℕ) (r : Ran) (behind : List ℕ) : Type 0 where
  pub takes : r.taken ≡ at + (rest_of last s n).1
  pub makes : r.made ≡ made + length (rest_of last s n).0
  pub carries : r.footing ≡ (rest_of last s n).2
  pub writes : behind ≡ sets buffer made (rest_of last s n).0

-- no room for one more answer
abbrev pub full : ℕ → Portion → Bool
full room r = ltb room (length r.said + longest_answer)

unfoldable pub run_lines : ℕ → Bool → Portion → List (List ℕ) → Portion
run_lines room last r [] = r
run_lines room last r (l ∷ []) = cond (full room r) r (rested last r l)
run_lines room last r (l ∷ m ∷ ls) = cond (full room r) r (run_lines room last (lined r l) (m ∷ ls))

unfoldable pub run_rule : Carried → List ℕ → Bool → ℕ → Portion
run_rule k text last room = run_lines room last (portion [] 0 k) (parts 10 text)

-- what `run` leaves is the rule's portion
pub record Yields (w : Portion) (buffer : List ℕ) (r : Ran) (left : Areas) (behind : List ℕ) : Type 0 where
  pub takes : r.taken ≡ w.taken
  pub makes : r.made ≡ length w.said
  pub carries : r.footing ≡ w.on.footing
  pub leaves : left ≡ w.on.lent
  pub writes : behind ≡ sets buffer 0 w.said

-- ---- a run, line by line

-- whether a buffer of so many bytes has room for an answer behind those written
abbrev pub room_for : ℕ → ℕ → Bool
room_for room made = leb longest_answer (room - made)

-- what one line leaves: the call of an ended one, and the run goes on behind it; where it is unended, what is left of the text, and the run is
-- done
abbrev pub Goes : Carried → List ℕ → Line → Bool → ℕ → List ℕ → ControlFlow Ran Ran → Areas → List ℕ → Type 0
Goes k text l last made buffer (Continue r) left behind =
    (l.ended ≡ true)
    × Steps k (command_in k (take (l.end - l.start) (drop l.start text))) made buffer (record { footing = r.footing; end = r.made }) left behind
    × (r.taken ≡ l.behind)
Goes k text l last made buffer (Break r) left behind =
    (l.ended ≡ false)
    × Rests k.footing l.start (l.end - l.start) last made buffer r behind
    × (left ≡ k.lent)
    × ((r.taken ≤ length text) × (r.made ≤ length buffer))

-- "Before an accepted format": nothing is lent, and the desk is none
unfoldable pub fresh_footing : Footing
fresh_footing = record { desk = no_desk; «data» = 0; undo = 0; long = false }
