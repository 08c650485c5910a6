-- A history as an auditor has it: lines, each a call with its answer, the oldest first, refused ones too ("01, What the station
-- lends, and who decides", "01, The script and one whole run"). What they say happened is read off the lines alone. Assumes
-- nothing.
use Rattle.std.specs.Prelude.{ℕ, Bool, true, false, not, ◌&&◌, eqb, List, [], ◌∷◌}
use Rattle.std.proofs.Math.Option.{none, some}
use Rattle.machine.specs.Table.{Body, began, moved, wrote, committed, withdrew, History}

-- "Calls: format, open, seal, begin, next statement, insert, update, delete, read, commit, withdraw, sweep", with the session
-- first, then the row, then the body; format with the three areas lent for it, sweep with the first row and the quota
pub data Call : Type 0 where
  format : List ℕ → List ℕ → List ℕ → Call
  opens : Call
  seal : Call
  begin : Call
  next : ℕ → Call
  insert : ℕ → Body → Call
  update : ℕ → ℕ → Body → Call
  delete : ℕ → ℕ → Call
  read : ℕ → ℕ → Call
  commit : ℕ → Call
  withdraw : ℕ → Call
  sweep : ℕ → ℕ → Call

-- refused, under a number of 01's table; or done, with two numbers and a body: "begin the number, insert the row, read count and body,
-- sweep next row and removed, the rest none", and 0 or no bytes where there is none
pub data Verdict : Type 0 where
  refused : ℕ → Verdict
  done : ℕ → ℕ → Body → Verdict

pub record Line : Type 0 where
  pub call : Call
  pub answer : Verdict

-- the call is no format, and neither moves nor ends session n
abbrev pub spares : ℕ → Call → Bool
spares n (format d u s) = false
spares n opens = true
spares n seal = true
spares n begin = true
spares n (next s) = not (eqb n s)
spares n (insert s b) = true
spares n (update s r b) = true
spares n (delete s r) = true
spares n (read s r) = true
spares n (commit s) = not (eqb n s)
spares n (withdraw s) = not (eqb n s)
spares n (sweep r q) = true

-- ---- what a line says

abbrev pub is_done : Verdict → Bool
is_done (refused n) = false
is_done (done a b y) = true

-- the first number of an answer
abbrev pub given : Verdict → ℕ
given (refused n) = 0
given (done a b y) = a

abbrev pub is_format : Call → Bool
is_format (format d u s) = true
is_format opens = false
is_format seal = false
is_format begin = false
is_format (next x) = false
is_format (insert x y) = false
is_format (update x r y) = false
is_format (delete x r) = false
is_format (read x r) = false
is_format (commit x) = false
is_format (withdraw x) = false
is_format (sweep r q) = false

-- an update of row r
abbrev pub is_update : ℕ → Call → Bool
is_update r (update x q y) = eqb r q
is_update r (format d u s) = false
is_update r opens = false
is_update r seal = false
is_update r begin = false
is_update r (next x) = false
is_update r (insert x y) = false
is_update r (delete x q) = false
is_update r (read x q) = false
is_update r (commit x) = false
is_update r (withdraw x) = false
is_update r (sweep q n) = false

-- a write of session n in row r, where the call answered a; insert answers its row
abbrev pub is_write : ℕ → ℕ → Call → ℕ → Bool
is_write n r (insert x y) a = eqb x n && eqb a r
is_write n r (update x q y) a = eqb x n && eqb q r
is_write n r (delete x q) a = eqb x n && eqb q r
is_write n r (format d u s) a = false
is_write n r opens a = false
is_write n r seal a = false
is_write n r begin a = false
is_write n r (next x) a = false
is_write n r (read x q) a = false
is_write n r (commit x) a = false
is_write n r (withdraw x) a = false
is_write n r (sweep q k) a = false

-- ---- what happened

-- what is known to have happened after h and this call, the first number of whose answer is a. A format begins the history anew; open, seal, read and sweep
-- have no part in what is read
abbrev pub told : History → Call → ℕ → History
told h (format d u s) a = []
told h opens a = h
told h seal a = h
told h begin a = began a ∷ h
told h (next s) a = moved s ∷ h
told h (insert s b) a = wrote s a (some b) ∷ h
told h (update s r b) a = wrote s r (some b) ∷ h
told h (delete s r) a = wrote s r none ∷ h
told h (read s r) a = h
told h (commit s) a = committed s ∷ h
told h (withdraw s) a = withdrew s ∷ h
told h (sweep r q) a = h

-- a refused call did nothing
abbrev pub heard : History → Call → Verdict → History
heard h c (refused n) = h
heard h c (done a b x) = told h c a

-- what happened after h and these lines
abbrev pub history_from : History → List Line → History
history_from h [] = h
history_from h (l ∷ ls) = history_from (heard h l.call l.answer) ls

abbrev pub history_of : List Line → History
history_of ls = history_from [] ls
