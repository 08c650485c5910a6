-- What a script's lines promise: an ill-formed line prints 16 and leaves the world; before an accepted format every call prints 1; behind an accepted format a read prints the body that
-- the history alone says, with a count, or 7 where it says none. Assumes nothing.
use Prim.Native.Nat.{ℕ, ◌/◌, ◌≤◌, ◌<◌}
use native.Mathlib.Omega.{arith}
use mathlib.Core.Path.{◌≡◌, refl, sym, ap, subst, subst₂, ◌∙◌}
use mathlib.Core.Bool.{Bool, true, false, ◌||◌, cond}
use mathlib.Core.Option.{Option, none, some}
use mathlib.Core.List.{List, [], ◌∷◌}
use lib.ListN.{length}
use Rattle.little.proofs.AllBytes.{bytes_zeros}
use Rattle.sessions.proofs.Changes.{is_open_open}
use Rattle.kind.specs.Kind.{rows}
use Rattle.kind.specs.Areas.{Areas}
use Rattle.kind.proofs.Lengths.{all_lent}
use Rattle.machine.specs.Table.{Body, plain_table, open_in}
use Rattle.machine.specs.Lines.{Verdict, read}
use Rattle.machine.proofs.Basics.{true_false}
use Rattle.history.specs.World.{World, says}
use Rattle.history.specs.Asked.{Matches}
use Rattle.history.specs.Since.{Since}
use Rattle.history.proofs.Runs.{Stands, stands_end}
use Rattle.history.proofs.Promises.{opened_is}
use Rattle.history.proofs.Since.{since_reading}
use Rattle.line.specs.declared.Verb.{Verb}
use Rattle.line.specs.declared.Verb.TheVariants.{Read, IllFormed}
use Rattle.line.specs.declared.Command.{Command}
use Rattle.line.specs.Line.{command_of, command, ill, no_body, Proper, line_of as written}
use Rattle.line.proofs.Back.{command_back}
use Rattle.playing.specs.Playing.{fields_of}
use Rattle.reply.specs.Reply.{answer_line}
use Rattle.reply.proofs.Sayings.{answer_refused}
use Rattle.script.specs.Script.{Carried, carried, left_in, line_in, stepped, command_in, sixteen, answers, lent_to, data_lent, in_line, fresh_footing}
use Rattle.script.proofs.Promises.{fresh_one, refused_stays}
use Rattle.scripted.specs.Scripted.{world_in, call_by, line_for, after_line, printed, onward, history_in, accepted, formats, BeforeFormat, Prints, ScriptReading, OutputReading}
use Rattle.scripted.proofs.Steps.{line_step}
use Rattle.scripted.proofs.Histories.{answers_behind, script_run}

-- ---- an ill-formed line

pub line_ill : (k : Carried) (c : Command) → c.verb ≡ IllFormed → (world_in (stepped k c) ≡ world_in k) × (line_in k c ≡ sixteen)
line_ill k c e = (
  (line_step k c).0 ∙ ap (λ (v : Verb). after_line (world_in k) (call_by v (lent_to k c) c.first c.second c.body)) e,
  (line_step k c).1 ∙ ap (λ (v : Verb). printed (world_in k) (call_by v (lent_to k c) c.first c.second c.body)) e,
)

-- ---- before an accepted format

-- nothing is lent as long as none is accepted, and no line has been found too long where each has ended
abbrev Before : Carried → Type 0
Before k = (k.footing.«data» ≡ 0) × (k.footing.long ≡ false)

none_named : (ls : List (List ℕ)) (k : Carried) → Before k → formats k ls ≡ false → Before (onward k ls)
unfolding stepped
none_named [] k e f = e
none_named (l ∷ ls) k e f = by (accepted k (command_in k l)) refl f (none_named ls (stepped k (command_in k l)))
  where
    by : (b : Bool) → accepted k (command_in k l) ≡ b → (b || formats (stepped k (command_in k l)) ls) ≡ false
        → (Before (stepped k (command_in k l)) → formats (stepped k (command_in k l)) ls ≡ false → Before (onward (stepped k (command_in k l)) ls))
        → Before (onward (stepped k (command_in k l)) ls)
    by true q f ih = true_false true refl f
    by false q f ih =
        ih (ap (λ (b : Bool). cond b (data_lent (command_in k l) k.footing k.lent.«data») k.footing.«data») q ∙ e.0, refl) f

before : (a : Areas) (ls : List (List ℕ)) → formats (carried fresh_footing a) ls ≡ false → Before (onward (carried fresh_footing a) ls)
unfolding fresh_footing
before a ls f = none_named ls (carried fresh_footing a) (refl, refl) f

pub before_format : BeforeFormat
before_format a ls f c v g = (
  answer_refused (left_in k c).code (fields_of c.verb (left_in k c)) some ∙ ap (λ (n : ℕ). answer_line n []) one,
  refused_stays k c some (λ e. omega (arith, one, e)) ∙ ap (λ (b : Bool). carried (in_line b k.footing) k.lent) (sym (before a ls f).1),
)
  where
    k : Carried
    k = onward (carried fresh_footing a) ls

    one : (left_in k c).code ≡ 1
    one = (fresh_one k c (before a ls f).0 v g).0

    some : (left_in k c).code ≡ 0 → ⊥
    some e = omega (arith, one, e)

-- ---- a read

-- what is answered is printed
prints : (n r : ℕ) (b : Option Body) (a : Verdict) → Matches b a → Prints b (line_for (read n r) a)
prints n r none a e = ap (line_for (read n r)) e
prints n r (some b) a (k, e) = (k, ap (line_for (read n r)) e)

-- behind a line that has ended no line has been found too long
short : (ls : List (List ℕ)) (k : Carried) → k.footing.long ≡ false → (onward k ls).footing.long ≡ false
unfolding stepped
short [] k e = e
short (l ∷ ls) k e = short ls (stepped k (command_in k l)) refl

ended : (ls : List (List ℕ)) (k : Carried) → formats k ls ≡ true → (onward k ls).footing.long ≡ false
unfolding stepped
ended [] k e = true_false false e refl
ended (l ∷ ls) k e = short ls (stepped k (command_in k l)) refl

pub script_reading : ScriptReading
script_reading k ls f n o r inside l e =
    subst (λ (c : Command). Prints (plain_table (history_in k ls) n r) (line_in (onward k ls) c)) (sym said)
    (subst (Prints (plain_table (history_in k ls) n r)) (sym (line_step (onward k ls) (command Read n r no_body)).1)
    (prints n r (plain_table (history_in k ls) n r) (says (world_in (onward k ls)) (read n r))
    (since_reading (world_in (onward k ls)) (history_in k ls) (script_run k ls f) n o r inside)))
  where
    said : command_in (onward k ls) l ≡ command Read n r no_body
    said = ap (λ (b : Bool). cond b ill (command_of l)) (ended ls k f) ∙ e

pub output_reading : OutputReading
unfolding answers
output_reading k ls f n o r inside l e text m ms cut = (
  line_in (onward k ls) (command_in (onward k ls) l),
  script_reading k ls f n o r inside l e,
  ap (answers k) cut ∙ answers_behind ls k l (m ∷ ms),
)

-- such a line can be written: the numbers of an open session and of a row are below 2^64
pub read_written : (k : Carried) (ls : List (List ℕ)) → formats k ls ≡ true
    → (n : ℕ) → open_in (history_in k ls) n ≡ true
    → (r : ℕ) → r < rows (world_in (onward k ls)).held.«data»
    → command_of (written (command Read n r no_body)) ≡ command Read n r no_body
read_written k ls f n o r inside = command_back (command Read n r no_body) proper
  where
    w : World
    w = world_in (onward k ls)

    since : Since w (history_in k ls)
    since = script_run k ls f

    stands : Stands w (history_in k ls)
    stands = subst₂ Stands since.ends since.happened (stands_end since.run)

    few : n < 32576
    few = (is_open_open w.desk n stands.good.sound (opened_is w (history_in k ls) stands n ∙ o)).last

    pages : length w.held.«data» / 8192 ≤ 64
    pages = (all_lent (length w.held.«data») (length w.held.undo) (length w.held.status) stands.good.lengths).in_data.few

    proper : Proper (command Read n r no_body)
    proper = record {
      named = λ e. let z : ◌≡◌ {A = ℕ} 0 1 = cc in omega arith;
      first_fits = omega (arith, few);
      second_fits = omega (arith, inside, pages);
      body_long = refl;
      body_bytes = bytes_zeros 32;
      first_unsaid = λ h. absurd (omega (arith, h));
      second_unsaid = λ h. absurd (omega (arith, h));
      body_unsaid = λ h. refl;
    }
