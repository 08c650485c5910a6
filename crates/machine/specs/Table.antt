-- What a history alone says that a session reads: the plain table of demand 3; and which rows it may write. There is no page here, no
-- version, no mark and no rule of sight; whoever kept a record of the accepted calls can work it out on paper. Assumes nothing.
use Rattle.std.specs.Prelude.{ℕ, suc, Bool, true, false, not, ◌&&◌, ◌||◌, cond, List, [], ◌∷◌, ◌++◌, eqb, ltb}
use Rattle.std.proofs.Math.Option.{Option, none, some}

-- ---- what happened

-- a row's body, as bytes
abbrev pub Body : Type 0
Body = List ℕ

-- an accepted call that has a part in what is read. Sessions go by the number that begin answered
pub data Event : Type 0 where
  -- S began
  began : ℕ → Event
  -- S went on to its next statement
  moved : ℕ → Event
  -- S gave a row a body, by insert or update; or none, by delete
  wrote : ℕ → ℕ → Option Body → Event
  -- S committed
  committed : ℕ → Event
  -- S was withdrawn
  withdrew : ℕ → Event

-- what happened since the format, the newest event first: e ∷ h is e, after h
abbrev pub History : Type 0
History = List Event

-- ---- tables

-- what each row holds, if anything
abbrev pub Table : Type 0
Table = ℕ → Option Body

-- no row holds anything
abbrev pub bare : Table
bare r = none

-- f, with a at n
abbrev pub put : {A : Type 0} → (ℕ → A) → ℕ → A → ℕ → A
put f n a x = cond (eqb x n) a (f x)

-- a write: a row, and what it holds from then on
pub record Write : Type 0 where
  pub row : ℕ
  pub body : Option Body

-- writes made on a table, one after the other
abbrev pub play : Table → List Write → Table
play t [] = t
play t (w ∷ ws) = play (put t w.row w.body) ws

-- ---- who did what

-- the statement that S is in: how often it went on since it began
abbrev pub statement_of : History → ℕ → ℕ
statement_of [] s = 0
statement_of (began n ∷ h) s = cond (eqb s n) 0 (statement_of h s)
statement_of (moved n ∷ h) s = cond (eqb s n) (suc (statement_of h s)) (statement_of h s)
statement_of (wrote n r b ∷ h) s = statement_of h s
statement_of (committed n ∷ h) s = statement_of h s
statement_of (withdrew n ∷ h) s = statement_of h s

-- what S wrote since it began in statements before k, the oldest write first
abbrev pub writes_before : ℕ → History → ℕ → List Write
writes_before k [] s = []
writes_before k (began n ∷ h) s = cond (eqb s n) [] (writes_before k h s)
writes_before k (moved n ∷ h) s = writes_before k h s
writes_before k (wrote n r b ∷ h) s =
    cond (eqb s n && ltb (statement_of h s) k) (writes_before k h s ++ (record { row = r; body = b } ∷ [])) (writes_before k h s)
writes_before k (committed n ∷ h) s = writes_before k h s
writes_before k (withdrew n ∷ h) s = writes_before k h s

-- all that S wrote, its present statement included
abbrev pub writes_of : History → ℕ → List Write
writes_of h s = writes_before (suc (statement_of h s)) h s

-- what each of these sessions wrote, one session after the other
abbrev pub writes_of_all : History → List ℕ → List Write
writes_of_all h [] = []
writes_of_all h (x ∷ xs) = writes_of h x ++ writes_of_all h xs

-- the sessions that committed, in the order in which they did
abbrev pub commits : History → List ℕ
commits [] = []
commits (began n ∷ h) = commits h
commits (moved n ∷ h) = commits h
commits (wrote n r b ∷ h) = commits h
commits (committed n ∷ h) = commits h ++ (n ∷ [])
commits (withdrew n ∷ h) = commits h

-- what had happened when S began
abbrev pub when_began : History → ℕ → History
when_began [] s = []
when_began (began n ∷ h) s = cond (eqb s n) h (when_began h s)
when_began (moved n ∷ h) s = when_began h s
when_began (wrote n r b ∷ h) s = when_began h s
when_began (committed n ∷ h) s = when_began h s
when_began (withdrew n ∷ h) s = when_began h s

-- ---- the plain table

-- the writes of the committed sessions, replayed in commit order. Who was withdrawn is not among them, and what it wrote counts for
-- nothing
abbrev pub committed_table : History → Table
committed_table h = play bare (writes_of_all h (commits h))

-- what S reads: the writes of the sessions committed before S began, replayed in commit order, then S's own from statements before its
-- present one
abbrev pub plain_table : History → ℕ → Table
plain_table h s = play (committed_table (when_began h s)) (writes_before (statement_of h s) h s)

-- ---- the same by numbers

-- x put before the first number above it
abbrev pub placed : ℕ → List ℕ → List ℕ
placed x [] = x ∷ []
placed x (y ∷ l) = cond (ltb x y) (x ∷ y ∷ l) (y ∷ placed x l)

-- these numbers in ascending order
abbrev pub ascending : List ℕ → List ℕ
ascending [] = []
ascending (x ∷ l) = placed x (ascending l)

-- the writes of the committed sessions, replayed in the order of their numbers
abbrev pub number_table : History → Table
number_table h = play bare (writes_of_all h (ascending (commits h)))

-- ---- what the promises ask of a history

abbrev pub member : ℕ → List ℕ → Bool
member x [] = false
member x (y ∷ l) = eqb x y || member x l

-- S is open: it began, and has neither committed nor been withdrawn since
abbrev pub open_in : History → ℕ → Bool
open_in [] s = false
open_in (began n ∷ h) s = eqb s n || open_in h s
open_in (moved n ∷ h) s = open_in h s
open_in (wrote n r b ∷ h) s = open_in h s
open_in (committed n ∷ h) s = not (eqb s n) && open_in h s
open_in (withdrew n ∷ h) s = not (eqb s n) && open_in h s

-- X committed before S began
abbrev pub committed_before : History → ℕ → ℕ → Bool
committed_before h x s = member x (commits (when_began h s))

-- S wrote the row since it began
abbrev pub has_written : History → ℕ → ℕ → Bool
has_written [] s q = false
has_written (began n ∷ h) s q = cond (eqb s n) false (has_written h s q)
has_written (moved n ∷ h) s q = has_written h s q
has_written (wrote n r b ∷ h) s q = (eqb s n && eqb q r) || has_written h s q
has_written (committed n ∷ h) s q = has_written h s q
has_written (withdrew n ∷ h) s q = has_written h s q

-- ---- the last write of a row

-- a write as the history has it: who wrote, in which of its statements, and what the row held from then on
pub record Last : Type 0 where
  pub who : ℕ
  pub statement : ℕ
  pub body : Option Body

-- the row's last write by a session that is not among these and was not withdrawn: whoever was is left out of what lies before. A number
-- is handed out once since the format, so none comes back
abbrev pub last_but : List ℕ → History → ℕ → Option Last
last_but gone [] r = none
last_but gone (began n ∷ h) r = last_but gone h r
last_but gone (moved n ∷ h) r = last_but gone h r
last_but gone (wrote n q b ∷ h) r =
    cond (eqb r q && not (member n gone)) (some (record { who = n; statement = statement_of h n; body = b })) (last_but gone h r)
last_but gone (committed n ∷ h) r = last_but gone h r
last_but gone (withdrew n ∷ h) r = last_but (n ∷ gone) h r

-- the row's last write that was not withdrawn, if there is one
abbrev pub last_write : History → ℕ → Option Last
last_write h r = last_but [] h r

-- ---- who may write a row

abbrev pub gave : Option Body → Bool
gave none = false
gave (some b) = true

-- S may write over this write: it gave the row a body, and is of a session that committed before S began, or S's own of an earlier statement
abbrev pub may_follow : History → ℕ → Option Last → Bool
may_follow h s none = false
may_follow h s (some w) = gave w.body && (committed_before h w.who s || (eqb w.who s && ltb w.statement (statement_of h s)))

-- S may update or delete the row, by the history alone
abbrev pub may_write : History → ℕ → ℕ → Bool
may_write h s r = may_follow h s (last_write h r)
