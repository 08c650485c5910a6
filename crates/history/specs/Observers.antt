-- What the words mean by which the theorems of specs/Theorems.antt ask of runs, worlds and readings: so that none of them can be made to
-- ask for more than it says, and a theorem with it to say less. What calls, answers and histories are asked is in machine's
-- specs/Observers.antt. Their proofs are in proofs/About.antt, and in proofs/Promises.antt where they go by the theorems. Assumes nothing.
use Rattle.std.specs.Prelude.{ℕ, suc, ◌≤◌, ◌<◌, ◌≡◌, ◌⊎◌, true, false, List, [], ◌∷◌, ◌++◌}
use Rattle.std.proofs.Math.Option.{none, some}
use Rattle.little.specs.Little.{Bytes}
use Rattle.places.specs.Open.{is_open}
use Rattle.desk.specs.Turns.{is_spoiled}
use Rattle.kind.specs.Kind.{rows}
use Rattle.records.specs.Slot.{slot_at, body_at}
use Rattle.rows.specs.Rows.{view_in}
use Rattle.machine.specs.Table.{Body, plain_table, open_in, statement_of, committed_before, has_written}
use Rattle.machine.specs.Lines.{Call, format, begin, insert, update, delete, read, withdraw, Verdict, refused, done, is_done, given, is_write, spares, Line, history_of}
use Rattle.machine.specs.Observers.{SomeFormat}
use Rattle.history.specs.World.{World, says, after, marking, after_all, lines_of}
use Rattle.history.specs.Spoiled.{replaces, spoiled_in}
use Rattle.history.specs.Asked.{Proper, AllProper, Run, start, end, history, no_format, all_spare, body_read, Matches, Standing, is_empty, standing_in, updates, Withdrawal, withdrawn_world}

-- ---- runs

-- whatever was there, an accepted format and any proper calls behind it are a run: in the end the world is the one that the last call left,
-- and the history is what all lines behind the format say
abbrev pub EveryRun : Type 0
EveryRun = (w : World) (d u s : List ℕ) → is_done (says w (format d u s)) ≡ true → (cs : List Call) → AllProper cs
    → (x : Run) × (start x ≡ after w (format d u s)) × (x.calls ≡ cs)
    × (end x ≡ after_all (after w (format d u s)) cs) × (history x ≡ history_of (lines_of (after w (format d u s)) cs))

-- a call is proper whose body, if it has one, is bytes; and calls are that are so one by one
abbrev pub EveryProper : Type 0
EveryProper = (c : Call) → ((n : ℕ) (b : Body) → c ≡ insert n b → Bytes b) → ((n r : ℕ) (b : Body) → c ≡ update n r b → Bytes b) → Proper c

abbrev pub EveryAllProper : Type 0
EveryAllProper = AllProper [] × ((c : Call) (cs : List Call) → Proper c → AllProper cs → AllProper (c ∷ cs))

-- calls among which there is no format are told from others by formats alone
abbrev pub EveryNoFormat : Type 0
EveryNoFormat = (no_format [] ≡ true) × ((d u s : List ℕ) (cs : List Call) → no_format (format d u s ∷ cs) ≡ false)
    × ((c : Call) (cs : List Call) → (no_format (c ∷ cs) ≡ no_format cs) ⊎ SomeFormat c)

-- calls all leave session n where it is that do so one by one
abbrev pub EveryAllSpare : Type 0
EveryAllSpare = (n : ℕ) → (all_spare n [] ≡ true) × ((c : Call) (cs : List Call) → spares n c ≡ true → all_spare n (c ∷ cs) ≡ all_spare n cs)

-- S's first write on a row, any calls but a format, and S withdrawn are a withdrawal
abbrev pub EveryWithdrawal : Type 0
EveryWithdrawal = (x : Run) (n r : ℕ) → has_written (history x) n r ≡ false
    → (c : Call) → Proper c → is_done (says (end x) c) ≡ true → is_write n r c (given (says (end x) c)) ≡ true
    → (cs : List Call) → AllProper cs → no_format cs ≡ true → is_done (says (after_all (after (end x) c) cs) (withdraw n)) ≡ true
    → (y : Withdrawal x n r) × (withdrawn_world y ≡ after (after_all (after (end x) c) cs) (withdraw n))

-- ---- sessions

-- who is open by the history is open on the desk
abbrev pub OpenOnDesk : Type 0
OpenOnDesk = (x : Run) (n : ℕ) → open_in (history x) n ≡ is_open n (end x).desk.numbers

-- in the statement that it has there
abbrev pub StatementOnDesk : Type 0
StatementOnDesk = (x : Run) (n : ℕ) → open_in (history x) n ≡ true → statement_of (history x) n ≡ (view_in (end x).desk n).statement

-- ---- readings

-- a read answers none by 7, and a body by that body with a count
abbrev pub EveryAnswer : Type 0
EveryAnswer = (a : Verdict) → (Matches none a → a ≡ refused 7) × ((b : Body) → Matches (some b) a → (k : ℕ) × (a ≡ done k 0 b))

-- what a read of any row by an open session says that it holds is what the plain table has
abbrev pub BodyOfTable : Type 0
BodyOfTable = (x : Run) (n : ℕ) → open_in (history x) n ≡ true → (r : ℕ) → body_read (says (end x) (read n r)) ≡ plain_table (history x) n r

-- ---- rows

-- a row is empty exactly where its slot's create is 0
abbrev pub EmptyByCreate : Type 0
EmptyByCreate = (w : World) (r : ℕ)
    → (is_empty w r ≡ true → (slot_at r w.held.«data»).create ≡ 0) × ((slot_at r w.held.«data»).create ≡ 0 → is_empty w r ≡ true)

-- in a row of the area that is not empty stands what its slot has
abbrev pub StandingOfSlot : Type 0
StandingOfSlot = (w : World) (r : ℕ) → r < rows w.held.«data» → ((slot_at r w.held.«data»).create ≡ 0 → ⊥)
    → (s : Standing) × (standing_in w r ≡ some s)
    × (s.body ≡ body_at r w.held.«data») × (s.creator ≡ (slot_at r w.held.«data»).create)
    × (s.creating ≡ (slot_at r w.held.«data»).cmd) × (s.expirer ≡ (slot_at r w.held.«data»).expire)

-- a body that was read by looking at one version alone stands there, and its creator is S or committed before S began
abbrev pub StandingOfRead : Type 0
StandingOfRead = (x : Run) (n r j : ℕ) (b : Body) → says (end x) (read n r) ≡ done 1 j b
    → (s : Standing) × (standing_in (end x) r ≡ some s) × (s.body ≡ b) × ((s.creator ≡ n) ⊎ (committed_before (history x) s.creator n ≡ true))

-- ---- the count of updates

-- none, where nothing was called, or where the row is empty
abbrev pub NoUpdates : Type 0
NoUpdates = (x : Run) (r : ℕ) → (x.calls ≡ []) ⊎ ((slot_at r (end x).held.«data»).create ≡ 0) → updates x r ≡ 0

-- y is x and one more call
abbrev pub Further : Run → Call → Run → Type 0
Further x c y = (start y ≡ start x) × (y.calls ≡ x.calls ++ (c ∷ []))

-- an accepted update of the row adds 1, where the row is not empty behind it
abbrev pub UpdateAdds : Type 0
UpdateAdds = (x y : Run) (n r : ℕ) (b : Body) → Further x (update n r b) y → is_done (says (end x) (update n r b)) ≡ true
    → ((slot_at r (end y).held.«data»).create ≡ 0 → ⊥)
    → updates y r ≡ suc (updates x r)

-- and nothing else adds anything
abbrev pub NothingElseAdds : Type 0
NothingElseAdds = (x y : Run) (c : Call) → Further x c y → (r : ℕ)
    → (updates y r ≤ updates x r) ⊎ ((is_done (says (end x) c) ≡ true) × ((n : ℕ) × (b : Body) × (c ≡ update n r b)))

-- ---- sessions that lost a conflict ("02, T-07")

-- the call is an update or a delete of session n
abbrev pub Replaces : ℕ → Call → Type 0
Replaces n c = ((r : ℕ) × (b : Body) × (c ≡ update n r b)) ⊎ ((r : ℕ) × (c ≡ delete n r))

-- and those are the calls that `replaces` tells
abbrev pub EveryReplaces : Type 0
EveryReplaces = (n : ℕ) (c : Call) → (replaces n c ≡ true → Replaces n c) × (Replaces n c → replaces n c ≡ true)

-- none of these lines is the begin that answered n
abbrev pub NotBegun : ℕ → List Line → Type 0
NotBegun n [] = Unit {0}
NotBegun n (l ∷ ls) = ((b : ℕ) (y : Body) → l.call ≡ begin → l.answer ≡ done n b y → ⊥) × NotBegun n ls

-- among these lines is an update or a delete of session n that was answered 10, and behind it no begin answered n
pub record TenSince (n : ℕ) (ls : List Line) : Type 0 where
  pub front : List Line
  pub line : Line
  pub back : List Line
  pub are : ls ≡ front ++ (line ∷ back)
  pub replacing : Replaces n line.call
  pub answered : line.answer ≡ refused 10
  pub since : NotBegun n back

-- a session is spoiled exactly when some update or delete of it answered 10 since it began
abbrev pub SpoiledExactly : Type 0
SpoiledExactly = (n : ℕ) (ls : List Line) → (spoiled_in ls n ≡ true → TenSince n ls) × (TenSince n ls → spoiled_in ls n ≡ true)

-- a world with an open session marked has the areas and of the desk all but the marks; there that session is spoiled, and of every other that
-- is open it is as it was
abbrev pub MarksAlone : Type 0
MarksAlone = (x : Run) (n : ℕ) → open_in (history x) n ≡ true → let on = marking n (end x) in
    (on.held ≡ (end x).held) × (on.desk.next ≡ (end x).desk.next) × (on.desk.numbers ≡ (end x).desk.numbers)
    × (on.desk.statements ≡ (end x).desk.statements) × (on.desk.lists ≡ (end x).desk.lists) × (is_spoiled n on.desk ≡ true)
    × ((m : ℕ) → open_in (history x) m ≡ true → (m ≡ n → ⊥) → is_spoiled m on.desk ≡ is_spoiled m (end x).desk)
