-- A script's lines as a history ("01, The script and one whole run"): the world behind what a script carries from line to line, the call
-- that a line makes on it, the line that its answer is printed as, and what a read of it should print. Assumes nothing.
use Rattle.std.specs.Prelude.{ℕ, ◌<◌, ◌≡◌, Bool, true, false, ◌&&◌, ◌||◌, List, [], ◌∷◌, ◌++◌, eqb}
use Rattle.std.proofs.Math.Option.{Option, none, some}
use Rattle.kind.specs.Kind.{rows}
use Rattle.kind.specs.Areas.{Areas}
use Rattle.machine.specs.Table.{Body, History, plain_table, open_in}
use Rattle.machine.specs.Lines.{Call, format, opens, seal, begin, next, insert, update, delete, read, commit, withdraw, sweep, Verdict, refused, done, history_of}
use Rattle.history.specs.World.{World, world, says, after, lines_of}
use Rattle.lines.specs.Span.{parts}
use Rattle.numeral.specs.Numeral.{numeral_of, hex_of}
use Rattle.line.specs.declared.Verb.{Verb}
use Rattle.line.specs.declared.Verb.TheVariants.{Format, Open, Seal, Begin, Next, Insert, Update, Delete, Read, Commit, Withdraw, Sweep, IllFormed}
use Rattle.line.specs.declared.Command.{Command}
use Rattle.line.specs.Line.{command_of, command, ill, no_body}
use Rattle.reply.specs.Reply.{answer_line}
use Rattle.script.specs.Script.{is_format, Carried, carried, lent_to, left_in, line_in, stepped, command_in, sixteen, answers, output, fresh_footing}

-- ---- one line

-- the world behind it: the part of the areas that the last accepted format named, which is what a call is lent that is no format, and
-- the desk
abbrev pub world_in : Carried → World
world_in k = world (lent_to k ill) k.footing.desk

-- the call that a line makes, by its name, on what it is lent; an ill-formed line makes none
abbrev pub call_by : Verb → Areas → ℕ → ℕ → Body → Option Call
call_by Format a x y body = some (format a.«data» a.undo a.status)
call_by Open a x y body = some opens
call_by Seal a x y body = some seal
call_by Begin a x y body = some begin
call_by Next a x y body = some (next x)
call_by Insert a x y body = some (insert x body)
call_by Update a x y body = some (update x y body)
call_by Delete a x y body = some (delete x y)
call_by Read a x y body = some (read x y)
call_by Commit a x y body = some (commit x)
call_by Withdraw a x y body = some (withdraw x)
call_by Sweep a x y body = some (sweep x y)
call_by IllFormed a x y body = none

abbrev pub made : Carried → Command → Option Call
made k c = call_by c.verb (lent_to k c) c.first c.second c.body

-- "begin the number, insert the row, read count and body, sweep next row and removed, the rest none"
abbrev pub fields_for : Call → ℕ → ℕ → Body → List (List ℕ)
fields_for (format d u s) a b y = []
fields_for opens a b y = []
fields_for seal a b y = []
fields_for begin a b y = numeral_of a ∷ []
fields_for (next x) a b y = []
fields_for (insert x z) a b y = numeral_of a ∷ []
fields_for (update x q z) a b y = []
fields_for (delete x q) a b y = []
fields_for (read x q) a b y = numeral_of a ∷ hex_of y ∷ []
fields_for (commit x) a b y = []
fields_for (withdraw x) a b y = []
fields_for (sweep first quota) a b y = numeral_of a ∷ numeral_of b ∷ []

-- "Answers: the code, and where it is 0 the fields"
abbrev pub line_for : Call → Verdict → List ℕ
line_for c (refused n) = answer_line n []
line_for c (done a b y) = answer_line 0 (fields_for c a b y)

-- what a line does to the world, and what it prints: "An ill-formed, too long or unended line .. answers one 16 and does nothing"
abbrev pub after_line : World → Option Call → World
after_line w none = w
after_line w (some c) = after w c

abbrev pub printed : World → Option Call → List ℕ
printed w none = sixteen
printed w (some c) = line_for c (says w c)

-- a line does to the world what its call does, and prints what that answers
abbrev pub Follows : Carried → Command → Type 0
Follows k c = (world_in (stepped k c) ≡ after_line (world_in k) (made k c)) × (line_in k c ≡ printed (world_in k) (made k c))

-- ---- lines one after the other, each ended by a newline

-- what is carried on from them
abbrev pub onward : Carried → List (List ℕ) → Carried
onward k [] = k
onward k (l ∷ ls) = onward (stepped k (command_in k l)) ls

-- what they print
abbrev pub said_by : Carried → List (List ℕ) → List ℕ
said_by k [] = []
said_by k (l ∷ ls) = line_in k (command_in k l) ++ said_by (stepped k (command_in k l)) ls

-- what each of them makes, and what that prints on a world
abbrev pub made_in : Carried → List (List ℕ) → List (Option Call)
made_in k [] = []
made_in k (l ∷ ls) = made k (command_in k l) ∷ made_in (stepped k (command_in k l)) ls

abbrev pub printed_all : World → List (Option Call) → List ℕ
printed_all w [] = []
printed_all w (o ∷ os) = printed w o ++ printed_all (after_line w o) os

-- the calls among them: an ill-formed line has no part in the history
abbrev pub and_then : Option Call → List Call → List Call
and_then none cs = cs
and_then (some c) cs = c ∷ cs

abbrev pub calls_of : List (Option Call) → List Call
calls_of [] = []
calls_of (o ∷ os) = and_then o (calls_of os)

abbrev pub calls_in : Carried → List (List ℕ) → List Call
calls_in k ls = calls_of (made_in k ls)

-- what they alone say happened: since the last accepted format, which begins the history anew
abbrev pub history_in : Carried → List (List ℕ) → History
history_in k ls = history_of (lines_of (world_in k) (calls_in k ls))

-- a line is a format, and it is accepted
abbrev pub accepted : Carried → Command → Bool
accepted k c = is_format c.verb && eqb (left_in k c).code 0

-- one of them is
abbrev pub formats : Carried → List (List ℕ) → Bool
formats k [] = false
formats k (l ∷ ls) = accepted k (command_in k l) || formats (stepped k (command_in k l)) ls

-- "Before an accepted format every well-formed call but format answers 1": behind any lines of a script of which none is an accepted
-- format, such a line prints 1, and what is carried on is as it was
abbrev pub BeforeFormat : Type 0
BeforeFormat = (a : Areas) (ls : List (List ℕ)) → formats (carried fresh_footing a) ls ≡ false
    → (c : Command) → is_format c.verb ≡ false → (c.verb ≡ IllFormed → ⊥)
    → (line_in (onward (carried fresh_footing a) ls) c ≡ answer_line 1 [])
    × (stepped (onward (carried fresh_footing a) ls) c ≡ onward (carried fresh_footing a) ls)

-- ---- what a read should print

-- a count and the body that the row should have; where it should have none 7, "no version there"
abbrev pub Prints : Option Body → List ℕ → Type 0
Prints none line = line ≡ answer_line 7 []
Prints (some b) line = (k : ℕ) × (line ≡ answer_line 0 (numeral_of k ∷ hex_of b ∷ []))

-- READING, of a script: behind lines of which one is an accepted format, a line that says a read prints what the history of these lines
-- alone says, of every open session and every row of the area
abbrev pub ScriptReading : Type 0
ScriptReading = (k : Carried) (ls : List (List ℕ)) → formats k ls ≡ true
    → (n : ℕ) → open_in (history_in k ls) n ≡ true
    → (r : ℕ) → r < rows (world_in (onward k ls)).held.«data»
    → (l : List ℕ) → command_of l ≡ command Read n r no_body
    → Prints (plain_table (history_in k ls) n r) (line_in (onward k ls) (command_in (onward k ls) l))

-- and in the output of a whole text that line stands behind what the lines before it print
abbrev pub OutputReading : Type 0
OutputReading = (k : Carried) (ls : List (List ℕ)) → formats k ls ≡ true
    → (n : ℕ) → open_in (history_in k ls) n ≡ true
    → (r : ℕ) → r < rows (world_in (onward k ls)).held.«data»
    → (l : List ℕ) → command_of l ≡ command Read n r no_body
    → (text m : List ℕ) (ms : List (List ℕ)) → parts 10 text ≡ ls ++ (l ∷ m ∷ ms)
    → (line : List ℕ)
    × Prints (plain_table (history_in k ls) n r) line
    × (output k text ≡ said_by k ls ++ (line ++ answers (stepped (onward k ls) (command_in (onward k ls) l)) (m ∷ ms)))
