-- The machine: the store with its bytes left out. A row is the list of its versions, the newest first; the desk is a list of
-- sessions; what a call does is said of these alone, in the words of 01. Its limits (rows, entries, 16 sessions, 32,575 numbers,
-- 65,535 statements) are the store's and not the machine's. Assumes nothing.
use Rattle.std.specs.Prelude.{ℕ, suc, Bool, true, false, not, ◌&&◌, ◌||◌, cond, List, [], ◌∷◌, ◌++◌, eqb, ltb, leb}
use Rattle.std.proofs.Math.Option.{Option, none, some}
use Rattle.machine.specs.Table.{Body, put, member}

-- "00 in work, 01 committed, 10 withdrawn"
pub data Status : Type 0 where
  InWork Committed Withdrawn : Status

-- "create .. expire .. cmd .. expire_cmd .. then a body"; expire 0: none
pub record Version : Type 0 where
  pub create : ℕ
  pub cmd : ℕ
  pub expire : ℕ
  pub expire_cmd : ℕ
  pub body : Body

-- "its number .., its statement .. and the numbers open when it began"
pub record Session : Type 0 where
  pub number : ℕ
  pub statement : ℕ
  pub list : List ℕ

-- the next number, each number's status, the open sessions and each row's versions
pub record Machine : Type 0 where
  pub next : ℕ
  pub status : ℕ → Status
  pub desk : List Session
  pub rows : ℕ → List Version

-- what Format leaves: "everything else empty, and .. a desk without sessions, next = 1"
abbrev pub empty : Machine
empty = record { next = 1; status = λ n. InWork; desk = []; rows = λ r. [] }

-- ---- sight ("01, Sessions and sight")

abbrev pub is_committed : Status → Bool
is_committed InWork = false
is_committed Committed = true
is_committed Withdrawn = false

-- "S sees X when X is not 0, is below S's number, is not in S's list and has status 01"
abbrev pub sees : (ℕ → Status) → Session → ℕ → Bool
sees st s x = not (eqb x 0) && (ltb x s.number && (not (member x s.list) && is_committed (st x)))

-- what X did in statement c counts for S in statement k: "S in an earlier statement or is seen"
abbrev pub counts : (ℕ → Status) → Session → ℕ → ℕ → ℕ → Bool
counts st s k x c = (eqb x s.number && ltb c k) || sees st s x

-- "A version is there for S when its creator" counts "and its expirer" does not "(expire 0: none)"; p tells what counts
abbrev pub there : (ℕ → ℕ → Bool) → Version → Bool
there p v = p v.create v.cmd && (eqb v.expire 0 || not (p v.expire v.expire_cmd))

-- "S reads the first such version"
abbrev pub first_there : (ℕ → ℕ → Bool) → List Version → Option Body
first_there p [] = none
first_there p (v ∷ vs) = cond (there p v) (some v.body) (first_there p vs)

-- "how many versions it looked at, the answer included"
abbrev pub looked_at : (ℕ → ℕ → Bool) → List Version → ℕ
looked_at p [] = 0
looked_at p (v ∷ vs) = cond (there p v) 1 (suc (looked_at p vs))

-- what counts for S now
abbrev pub knows : Machine → Session → ℕ → ℕ → Bool
knows m s = counts m.status s s.statement

-- what S reads in row r
abbrev pub reads : Machine → Session → ℕ → Option Body
reads m s r = first_there (knows m s) (m.rows r)

-- ---- the desk

-- the open session of that number
abbrev pub find : ℕ → List Session → Option Session
find n [] = none
find n (s ∷ l) = cond (eqb n s.number) (some s) (find n l)

abbrev pub is_some : {A : Type 0} → Option A → Bool
is_some none = false
is_some (some a) = true

abbrev pub numbers : List Session → List ℕ
numbers [] = []
numbers (s ∷ l) = s.number ∷ numbers l

-- "closes": the desk without the session
abbrev pub close : ℕ → List Session → List Session
close n [] = []
close n (s ∷ l) = cond (eqb n s.number) (close n l) (s ∷ close n l)

-- "Next statement adds 1"
abbrev pub onward : Session → Session
onward s = record { number = s.number; statement = suc s.statement; list = s.list }

abbrev pub move : ℕ → List Session → List Session
move n [] = []
move n (s ∷ l) = cond (eqb n s.number) (onward s) s ∷ move n l

-- a session that begins now: "the next number, with statement 0" and "the numbers open when it began"
abbrev pub newcomer : Machine → Session
newcomer m = record { number = m.next; statement = 0; list = numbers m.desk }

-- the statement of the session found
abbrev pub statement_in : Option Session → ℕ
statement_in none = 0
statement_in (some s) = s.statement

-- ---- the mark

-- the smallest of a and these
abbrev pub least : ℕ → List ℕ → ℕ
least a [] = a
least a (x ∷ l) = least (cond (ltb x a) x a) l

-- S's number and its list members
abbrev pub held : Session → List ℕ
held s = s.number ∷ s.list

-- "The mark is the smallest among all open sessions' numbers and list members; with none open, the next number": a is the next
-- number, which is above all of those
abbrev pub mark : ℕ → List Session → ℕ
mark a [] = a
mark a (s ∷ l) = mark (least a (held s)) l

-- "whose expirer is committed and below the mark"
abbrev pub dead : (ℕ → Status) → ℕ → Version → Bool
dead st k v = is_committed (st v.expire) && ltb v.expire k

-- ---- what is done to a row ("01, Writes, withdrawal, sweep")

abbrev pub is_nil : {A : Type 0} → List A → Bool
is_nil [] = true
is_nil (x ∷ l) = false

-- "create = S, cmd = its statement, other metadata 0"
abbrev pub fresh : ℕ → ℕ → Body → Version
fresh n c b = record { create = n; cmd = c; expire = 0; expire_cmd = 0; body = b }

-- a version with other expire fields
abbrev pub expired : ℕ → ℕ → Version → Version
expired n c v = record { create = v.create; cmd = v.cmd; expire = n; expire_cmd = c; body = v.body }

-- "sets expire and expire_cmd" of the first version
abbrev pub expire_first : ℕ → ℕ → List Version → List Version
expire_first n c [] = []
expire_first n c (v ∷ vs) = expired n c v ∷ vs

-- x in statement c is S in statement k or later
abbrev pub since : ℕ → ℕ → ℕ → ℕ → Bool
since n k x c = eqb x n && leb k c

-- "put back the copy from its chain, with expire and expire_cmd cleared, and free the entry; repeat until the creator isn't S. If
-- no copy is left, empty the slot"
abbrev pub put_back : (ℕ → ℕ → Bool) → List Version → List Version
put_back q [] = []
put_back q (v ∷ vs) = cond (q v.create v.cmd) (put_back q vs) (expired 0 0 v ∷ vs)

-- "If the slot's creator is S", put back. "If instead only the expirer is S, clear both expire fields"; q tells what is undone
abbrev pub undone : (ℕ → ℕ → Bool) → List Version → List Version
undone q [] = []
undone q (v ∷ vs) =
    cond (q v.create v.cmd) (put_back q vs)
    (cond (q v.expire v.expire_cmd) (expired 0 0 v ∷ vs) (v ∷ vs))

-- "the first version whose expirer is committed and below the mark goes with all older ones"; d tells which
abbrev pub cut : (Version → Bool) → List Version → List Version
cut d [] = []
cut d (v ∷ vs) = cond (d v) [] (v ∷ cut d vs)

-- ---- the calls

-- insert with the row that it took, sweep of one row
pub data Step : Type 0 where
  begin : Step
  next : ℕ → Step
  insert : ℕ → ℕ → Body → Step
  update : ℕ → ℕ → Body → Step
  delete : ℕ → ℕ → Step
  commit : ℕ → Step
  withdraw : ℕ → Step
  sweep : ℕ → Step

-- S may update or delete a row: a version is there, and "No expirer: .. creator S earlier, or seen: go on"
abbrev pub writable : (ℕ → Status) → Option Session → List Version → Bool
writable st none vs = false
writable st (some s) [] = false
writable st (some s) (v ∷ vs) =
    is_some (first_there (counts st s s.statement) (v ∷ vs)) && (eqb v.expire 0 && counts st s s.statement v.create v.cmd)

-- the machine may take the step. The store may refuse for other reasons too, of space and limits
abbrev pub accept : Machine → Step → Bool
accept m begin = true
accept m (next n) = is_some (find n m.desk)
accept m (insert n r b) = is_some (find n m.desk) && is_nil (m.rows r)
accept m (update n r b) = writable m.status (find n m.desk) (m.rows r)
accept m (delete n r) = writable m.status (find n m.desk) (m.rows r)
accept m (commit n) = is_some (find n m.desk)
accept m (withdraw n) = is_some (find n m.desk)
accept m (sweep r) = true

-- row r has other versions
abbrev pub with_row : Machine → ℕ → List Version → Machine
with_row m r vs = record { next = m.next; status = m.status; desk = m.desk; rows = put m.rows r vs }

-- what S did in statement k or later is undone in every row
abbrev pub strike : Machine → ℕ → ℕ → Machine
strike m n k = record { next = m.next; status = m.status; desk = m.desk; rows = λ r. undone (since n k) (m.rows r) }

-- "Commit sets 01 and closes; withdraw sets 10 and closes"
abbrev pub leave : Machine → ℕ → Status → Machine
leave m n a = record { next = m.next; status = put m.status n a; desk = close n m.desk; rows = m.rows }

-- what sweep leaves of row r
abbrev pub swept : Machine → ℕ → List Version
swept m r = cut (dead m.status (mark m.next m.desk)) (m.rows r)

-- the statement that session n is in
abbrev pub presently : Machine → ℕ → ℕ
presently m n = statement_in (find n m.desk)

-- what the step does. Withdraw undoes all from the first statement, 0, on
abbrev pub effect : Machine → Step → Machine
effect m begin =
    record {
      next = suc m.next;
      status = put m.status m.next InWork;
      desk = m.desk ++ (newcomer m ∷ []);
      rows = m.rows;
    }
effect m (next n) = record { next = m.next; status = m.status; desk = move n m.desk; rows = m.rows }
effect m (insert n r b) = with_row m r (fresh n (presently m n) b ∷ [])
effect m (update n r b) = with_row m r (fresh n (presently m n) b ∷ expire_first n (presently m n) (m.rows r))
effect m (delete n r) = with_row m r (expire_first n (presently m n) (m.rows r))
effect m (commit n) = leave m n Committed
effect m (withdraw n) = leave (strike m n 0) n Withdrawn
effect m (sweep r) = with_row m r (swept m r)
