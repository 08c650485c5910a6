-- What the six theorems of demand 3 ask of a world and of calls: which worlds histories lead to, what a read says, what stands in a row,
-- how often a row was updated. There is no list of versions here, no mark and no rule of sight. Assumes nothing.
use Rattle.std.specs.Prelude.{ℕ, suc, ◌≡◌, Bool, true, false, not, ◌&&◌, cond, List, [], ◌∷◌, eqb, ltb}
use Rattle.std.proofs.Math.Option.{Option, none, some}
use Rattle.little.specs.Little.{Bytes}
use Rattle.kind.specs.Kind.{rows}
use Rattle.records.specs.Slot.{slot_at, body_at}
use Rattle.machine.specs.Table.{Body, History, has_written}
use Rattle.machine.specs.Lines.{Call, format, opens, seal, begin, next, insert, update, delete, read, commit, withdraw, sweep, Verdict, refused, done, is_done, given, is_format, is_update, is_write, spares, Line, history_of}
use Rattle.history.specs.World.{World, says, after, after_all, lines_of}

-- ---- the worlds that histories lead to

-- a call as it can be made: a body is bytes. Every other argument may be anything
abbrev pub Proper : Call → Type 0
Proper (format d u s) = Unit {0}
Proper opens = Unit {0}
Proper seal = Unit {0}
Proper begin = Unit {0}
Proper (next x) = Unit {0}
Proper (insert x y) = Bytes y
Proper (update x q y) = Bytes y
Proper (delete x q) = Unit {0}
Proper (read x q) = Unit {0}
Proper (commit x) = Unit {0}
Proper (withdraw x) = Unit {0}
Proper (sweep first quota) = Unit {0}

abbrev pub AllProper : List Call → Type 0
AllProper [] = Unit {0}
AllProper (c ∷ cs) = Proper c × AllProper cs

-- any calls, accepted or refused, from an accepted format of three areas that anybody lent
pub record Run : Type 0 where
  -- what was there before the format, and the areas that it was given
  pub before : World
  pub «data» : List ℕ
  pub undo : List ℕ
  pub status : List ℕ
  pub formatted : is_done (says before (format «data» undo status)) ≡ true
  pub calls : List Call
  pub proper : AllProper calls

-- the world that the format left, the world in the end, the lines in between, and what they alone say happened
abbrev pub start : Run → World
start x = after x.before (format x.«data» x.undo x.status)

abbrev pub end : Run → World
end x = after_all (start x) x.calls

abbrev pub lines : Run → List Line
lines x = lines_of (start x) x.calls

abbrev pub history : Run → History
history x = history_of (lines x)

-- ---- calls

-- none of them is a format
abbrev pub no_format : List Call → Bool
no_format [] = true
no_format (c ∷ cs) = not (is_format c) && no_format cs

-- all of them leave session n where it is: none is a format, or moves or ends it
abbrev pub all_spare : ℕ → List Call → Bool
all_spare n [] = true
all_spare n (c ∷ cs) = spares n c && all_spare n cs

-- ---- readings

-- what a read says that the row holds
abbrev pub body_read : Verdict → Option Body
body_read (refused n) = none
body_read (done a b y) = some y

-- a read answers the body that the row should have, with a count; where it should have none it answers 7, "no version there"
abbrev pub Matches : Option Body → Verdict → Type 0
Matches none a = a ≡ refused 7
Matches (some b) a = (k : ℕ) × (a ≡ done k 0 b)

-- ---- rows

-- what stands in a row's slot: its body, its creator and its creating statement, and who ended it, 0 for nobody
pub record Standing : Type 0 where
  pub body : Body
  pub creator : ℕ
  pub creating : ℕ
  pub expirer : ℕ

abbrev pub is_empty : World → ℕ → Bool
is_empty w r = eqb (slot_at r w.held.«data»).create 0

abbrev pub standing_in : World → ℕ → Option Standing
standing_in w r =
    cond (ltb r (rows w.held.«data») && not (is_empty w r))
    (some (record {
      body = body_at r w.held.«data»;
      creator = (slot_at r w.held.«data»).create;
      creating = (slot_at r w.held.«data»).cmd;
      expirer = (slot_at r w.held.«data»).expire;
    }))
    none

-- "the accepted updates of that row since its slot was last empty", in these calls, with k before them
abbrev pub updates_from : World → ℕ → ℕ → List Call → ℕ
updates_from w r k [] = k
updates_from w r k (c ∷ cs) =
    updates_from (after w c) r (cond (is_empty (after w c) r) 0 (cond (is_done (says w c) && is_update r c) (suc k) k)) cs

abbrev pub updates : Run → ℕ → ℕ
updates x r = updates_from (start x) r 0 x.calls

-- ---- withdrawals

-- S writes row r for the first time after x, whatever calls follow but a format, and S is withdrawn
pub record Withdrawal (x : Run) (n r : ℕ) : Type 0 where
  pub first : has_written (history x) n r ≡ false
  -- the write, accepted
  pub write : Call
  pub proper : Proper write
  pub accepted : is_done (says (end x) write) ≡ true
  pub writes : is_write n r write (given (says (end x) write)) ≡ true
  -- the calls that follow
  pub calls : List Call
  pub all_proper : AllProper calls
  pub unformatted : no_format calls ≡ true
  -- the withdrawal, accepted
  pub withdrawn : is_done (says (after_all (after (end x) write) calls) (withdraw n)) ≡ true

abbrev pub withdrawn_world : {x : Run} {n r : ℕ} → Withdrawal x n r → World
withdrawn_world {x} {n} {r} y = after (after_all (after (end x) y.write) y.calls) (withdraw n)
