-- DEMAND 3 as six theorems and the law under them: after any sequence of calls from a format, an open session reads what the history alone
-- says. These are the statements; proofs/Promises.antt has their proofs. Of the crate `machine` they use the lines and the plain table
-- (specs/Lines.antt, specs/Table.antt) and nothing of its machine. Assumes nothing.
use Rattle.std.specs.Prelude.{ℕ, suc, ◌≤◌, ◌<◌, ◌≡◌, true, false, not, ◌&&◌, List, [], length}
use Rattle.std.proofs.Math.Option.{none}
use Rattle.little.specs.Little.{Bytes}
use Rattle.places.specs.Open.{open_count}
use Rattle.desk.specs.Turns.{is_spoiled}
use Rattle.kind.specs.Kind.{lengths_ok, rows, entries}
use Rattle.records.specs.Entry.{entry_at}
use Rattle.sight.specs.Sight.{sees}
use Rattle.doubt.specs.Doubt.{NoneReserved}
use Rattle.rows.specs.Rows.{view_in}
use Rattle.machine.specs.Table.{Body, plain_table, open_in, committed_before, has_written, number_table, when_began, writes_before, statement_of, play, may_write}
use Rattle.machine.specs.Lines.{Call, format, opens, seal, begin, next, insert, update, delete, read, commit, withdraw, sweep, refused, done, is_done}
use Rattle.history.specs.World.{World, says, after, marking, after_all}
use Rattle.history.specs.Spoiled.{replaces, spoiled_in}
use Rattle.history.specs.Asked.{Proper, AllProper, Run, end, lines, history, all_spare, body_read, Matches, is_empty, standing_in, updates, Withdrawal, withdrawn_world}
use Rattle.history.specs.Since.{formats}

-- 1, READING: for every open session and every row, read answers a body exactly when the plain table has one, and then that body;
-- otherwise it answers 7
abbrev pub Reading : Type 0
Reading = (x : Run) (n : ℕ) → open_in (history x) n ≡ true → (r : ℕ) → r < rows (end x).held.«data»
    → Matches (plain_table (history x) n r) (says (end x) (read n r))

-- of a row that the area has not, the plain table has nothing, and read answers 5
abbrev pub ReadingOutside : Type 0
ReadingOutside = (x : Run) (n : ℕ) → open_in (history x) n ≡ true → (r : ℕ) → rows (end x).held.«data» ≤ r
    → (plain_table (history x) n r ≡ none) × (says (end x) (read n r) ≡ refused 5)

-- 2, NOTHING ELSE ALTERS A READING: whatever other sessions do, whatever is swept, sealed or opened, and whatever S itself writes in its
-- present statement, S reads what it read
abbrev pub NothingElse : Type 0
NothingElse = (x : Run) (n : ℕ) → open_in (history x) n ≡ true → (cs : List Call) → AllProper cs → all_spare n cs ≡ true → (r : ℕ)
    → body_read (says (after_all (end x) cs) (read n r)) ≡ body_read (says (end x) (read n r))

-- call by call. What S reads in every row stays where this call is made
abbrev pub Unaltered : Run → ℕ → Call → Type 0
Unaltered x n c = (r : ℕ) → body_read (says (after (end x) c) (read n r)) ≡ body_read (says (end x) (read n r))

-- a sweep of any rows
abbrev pub SweepAltersNone : Type 0
SweepAltersNone = (x : Run) (n : ℕ) → open_in (history x) n ≡ true → (first quota : ℕ) → Unaltered x n (sweep first quota)

-- a seal, an open
abbrev pub KeepingAltersNone : Type 0
KeepingAltersNone = (x : Run) (n : ℕ) → open_in (history x) n ≡ true → Unaltered x n seal × Unaltered x n opens

-- a begin
abbrev pub BeginAltersNone : Type 0
BeginAltersNone = (x : Run) (n : ℕ) → open_in (history x) n ≡ true → Unaltered x n begin

-- an insert, update, delete or read of any row by anybody, S itself in its present statement included
abbrev pub RowCallsAlterNone : Type 0
RowCallsAlterNone = (x : Run) (n : ℕ) → open_in (history x) n ≡ true → (m q : ℕ) (b : Body) → Bytes b
    → Unaltered x n (insert m b) × Unaltered x n (update m q b) × Unaltered x n (delete m q) × Unaltered x n (read m q)

-- a next, commit or withdraw of another session
abbrev pub OthersAlterNone : Type 0
OthersAlterNone = (x : Run) (n : ℕ) → open_in (history x) n ≡ true → (m : ℕ) → (m ≡ n → ⊥)
    → Unaltered x n (next m) × Unaltered x n (commit m) × Unaltered x n (withdraw m)

-- 3, WITHDRAWAL gives each row that S wrote the body, creator and creating statement that it had before S's first write, and the expirer
abbrev pub Restores : Type 0
Restores = (x : Run) (n r : ℕ) (y : Withdrawal x n r) → standing_in (withdrawn_world y) r ≡ standing_in (end x) r

-- empties each row that S inserted
abbrev pub Empties : Type 0
Empties = (x : Run) (n r : ℕ) (y : Withdrawal x n r) (b : Body) → y.write ≡ insert n b → standing_in (withdrawn_world y) r ≡ none

-- and leaves each row that S did not write
abbrev pub Spares : Type 0
Spares = (x : Run) (n r : ℕ) → has_written (history x) n r ≡ false → is_done (says (end x) (withdraw n)) ≡ true
    → standing_in (after (end x) (withdraw n)) r ≡ standing_in (end x) r

-- 4, NO CALL ANSWERS 6
abbrev pub NoSix : Type 0
NoSix = (x : Run) (c : Call) → says (end x) c ≡ refused 6 → ⊥

-- and none answers 17 ("02, T-05": "Histories under demand 3 never meet 17")
abbrev pub NoSeventeen : Type 0
NoSeventeen = (x : Run) (c : Call) → says (end x) c ≡ refused 17 → ⊥

-- because every status is one of three: no call writes 11
abbrev pub NoneReservedEver : Type 0
NoneReservedEver = (x : Run) → NoneReserved (end x).held.status

-- and open straight after an accepted seal is done, so that it never answers 3
abbrev pub SealedOpens : Type 0
SealedOpens = (x : Run) → is_done (says (end x) seal) ≡ true → says (after (end x) seal) opens ≡ done 0 0 []

-- 5, COUNT: an accepted read's count is at most 1 more than the accepted updates of that row since its slot was last empty
abbrev pub Count : Type 0
Count = (x : Run) (n r k j : ℕ) (b : Body) → says (end x) (read n r) ≡ done k j b → k ≤ suc (updates x r)

-- 6, REFUSED CALLS LEAVE THE WORLD AS IT WAS, whatever world it is, but for the mark that a 10 of an update or delete sets ("02, T-07"), and
-- then nothing but that mark
abbrev pub RefusedLeaves : Type 0
RefusedLeaves = (w : World) (c : Call) (n : ℕ) → says w c ≡ refused n
    → ((n ≡ 10 → ⊥) → after w c ≡ w)
    × (n ≡ 10 → (s : ℕ) × (replaces s c ≡ true) × (after w c ≡ marking s w))

-- THE LAW UNDER THEM: S sees X exactly when X committed before S began
abbrev pub SeesExactlyWhenCommittedBefore : Type 0
SeesExactlyWhenCommittedBefore = (x : Run) (n : ℕ) → open_in (history x) n ≡ true → (y : ℕ)
    → sees (view_in (end x).desk n).number (view_in (end x).desk n).list (end x).held.status y ≡ committed_before (history x) y n

-- replayed in the order of numbers instead of commits, the plain table is the same
abbrev pub ByNumber : Type 0
ByNumber = (x : Run) (n r : ℕ)
    → play (number_table (when_began (history x) n)) (writes_before (statement_of (history x) n) (history x) n) r ≡ plain_table (history x) n r

-- ---- sessions that lost a conflict ("02, T-07")

-- NO SESSION THAT WAS EVER ANSWERED 10 IS COMMITTED: where a line answers 10 to S, no later line of the same history commits S, whatever calls
-- lie between them but an accepted format, which begins a history anew
abbrev pub NeverCommitted : Type 0
NeverCommitted = (x : Run) (n : ℕ) (c : Call) → Proper c → replaces n c ≡ true → says (end x) c ≡ refused 10
    → (cs : List Call) → AllProper cs → formats (after (end x) c) cs ≡ false
    → is_done (says (after_all (after (end x) c) cs) (commit n)) ≡ false

-- an open session is marked on the desk exactly where the lines alone say that it is spoiled
abbrev pub SpoiledOnDesk : Type 0
SpoiledOnDesk = (x : Run) (n : ℕ) → open_in (history x) n ≡ true → spoiled_in (lines x) n ≡ is_spoiled n (end x).desk

-- "insert, update, delete, next and commit answer 18" to an open session that is spoiled
abbrev pub SpoiledRefused : Type 0
SpoiledRefused = (x : Run) (n : ℕ) → open_in (history x) n ≡ true → spoiled_in (lines x) n ≡ true → (r : ℕ) (b : Body)
    → (says (end x) (insert n b) ≡ refused 18) × (says (end x) (update n r b) ≡ refused 18) × (says (end x) (delete n r) ≡ refused 18)
    × (says (end x) (next n) ≡ refused 18) × (says (end x) (commit n) ≡ refused 18)

-- ---- no needless refusal

-- a format is done where the lengths are allowed, whatever was there
abbrev pub Formats : Type 0
Formats = (w : World) (d u s : List ℕ) → lengths_ok (length d) (length u) (length s) ≡ true → is_done (says w (format d u s)) ≡ true

-- begin, where fewer than 16 sessions are open and a number is left
abbrev pub Begins : Type 0
Begins = (x : Run) → open_count (end x).desk.numbers < 16 → (end x).desk.next < 32576 → is_done (says (end x) begin) ≡ true

-- next, of an open session whose statement by the history is below 65,535, exactly where it is not spoiled
abbrev pub Nexts : Type 0
Nexts = (x : Run) (n : ℕ) → open_in (history x) n ≡ true → statement_of (history x) n < 65535
    → is_done (says (end x) (next n)) ≡ not (spoiled_in (lines x) n)

-- seal, where by the history no session is open
abbrev pub Seals : Type 0
Seals = (x : Run) → ((n : ℕ) → open_in (history x) n ≡ false) → is_done (says (end x) seal) ≡ true

-- an insert of 32 bytes by an open session, where a row is empty, exactly where the session is not spoiled
abbrev pub Inserts : Type 0
Inserts = (x : Run) (n : ℕ) → open_in (history x) n ≡ true → (b : Body) → length b ≡ 32 → (r : ℕ) → r < rows (end x).held.«data» → is_empty (end x) r ≡ true
    → is_done (says (end x) (insert n b)) ≡ not (spoiled_in (lines x) n)

-- a delete by an open session is done exactly where it is not spoiled and the history alone says that it may write the row: the row's last
-- write that was not withdrawn gave it a body, and is of a session that committed before, or its own of an earlier statement
abbrev pub Deletes : Type 0
Deletes = (x : Run) (n : ℕ) → open_in (history x) n ≡ true → (r : ℕ)
    → is_done (says (end x) (delete n r)) ≡ (not (spoiled_in (lines x) n) && may_write (history x) n r)

-- and so is an update of 32 bytes, where an entry is free
abbrev pub Updates : Type 0
Updates = (x : Run) (n : ℕ) → open_in (history x) n ≡ true → (b : Body) → length b ≡ 32 → (e : ℕ) → e < entries (end x).held.undo → (entry_at e (end x).held.undo).writer ≡ 0
    → (r : ℕ) → is_done (says (end x) (update n r b)) ≡ (not (spoiled_in (lines x) n) && may_write (history x) n r)

-- commit of an open session exactly where it is not spoiled, and withdraw of any
abbrev pub Ends : Type 0
Ends = (x : Run) (n : ℕ) → open_in (history x) n ≡ true
    → (is_done (says (end x) (commit n)) ≡ not (spoiled_in (lines x) n)) × (is_done (says (end x) (withdraw n)) ≡ true)

-- a sweep from any row on
abbrev pub Sweeps : Type 0
Sweeps = (x : Run) (first quota : ℕ) → first ≤ rows (end x).held.«data» → is_done (says (end x) (sweep first quota)) ≡ true
