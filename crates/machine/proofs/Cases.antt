-- 01's whole run told by the plain table and by the machine, with nothing but computation ("01, The script and one whole run"); and
-- the gauge pieces that have no bytes in them ("01, Gauge pieces"). Assumes nothing.
use Prim.Native.Nat.{ℕ}
use mathlib.Core.Path.{◌≡◌, refl}
use mathlib.Core.Bool.{true, false}
use mathlib.Core.Option.{Option, none, some}
use mathlib.Core.List.{List, [], ◌∷◌, ◌++◌}
use lib.ListN.{length}
use Rattle.machine.specs.Table.{Body, plain_table, began, wrote, committed, withdrew, last_write, may_write}
use Rattle.machine.specs.Lines.{Call, format, read, Verdict, refused, done, Line, history_of, begin as Begin, insert as Insert, update as Update, delete as Delete, commit as Commit, withdraw as Withdraw, sweep as Sweep}
use Rattle.machine.specs.Machine.{Version, Status, Committed, Session, Machine, empty, reads, find, mark, dead, cut, Step, begin, next, insert, update, delete, commit, sweep, accept, effect}

Z : Body
Z = 0 ∷ []

F : Body
F = 15 ∷ []

-- ---- the run, as its lines say

answers : Call → Verdict → Line
answers c a = record { call = c; answer = a }

line_by_line : List Line
line_by_line =
    answers (format [] [] []) (done 0 0 [])
    ∷ answers Begin (done 1 0 [])
    ∷ answers (Insert 1 Z) (done 0 0 [])
    ∷ answers (Commit 1) (done 0 0 [])
    ∷ answers Begin (done 2 0 [])
    ∷ answers Begin (done 3 0 [])
    ∷ answers (Update 2 0 F) (done 0 0 [])
    ∷ answers (read 3 0) (done 2 0 [])
    ∷ answers (Delete 3 0) (refused 9)
    ∷ answers (Commit 2) (done 0 0 [])
    ∷ []

rest : List Line
rest = answers (Delete 3 0) (refused 10) ∷ answers (Sweep 0 127) (done 127 0 []) ∷ answers (Commit 3) (done 0 0 []) ∷ answers Begin (done 4 0 []) ∷ []

-- session 3 reads Z, though 2 has committed F; session 4 reads F
told_run : (plain_table (history_of line_by_line) 3 0 ≡ some Z) × (plain_table (history_of (line_by_line ++ rest)) 4 0 ≡ some F)
unfolding answers line_by_line rest Z F
told_run = (refl, refl)

-- what a withdrawn session wrote counts for nothing
told_withdrawn : plain_table (history_of (answers Begin (done 1 0 []) ∷ answers (Insert 1 Z) (done 0 0 []) ∷ answers (Withdraw 1)
    (done 0 0 []) ∷ answers Begin (done 2 0 []) ∷ [])) 2 0 ≡ none
unfolding answers Z
told_withdrawn = refl

-- "delete 3 0" is refused, session 4 may write the row; and so may whoever begins after a withdrawal, over what was written before it
told_may : (may_write (history_of line_by_line) 3 0 ≡ false) × (may_write (history_of (line_by_line ++ rest)) 4 0 ≡ true)
    × (last_write (wrote 2 0 none ∷ began 2 ∷ committed 1 ∷ wrote 1 0 (some Z) ∷ began 1 ∷ []) 0 ≡ some (record { who = 2; statement = 0; body = none }))
    × (last_write (withdrew 2 ∷ wrote 2 0 none ∷ began 2 ∷ committed 1 ∷ wrote 1 0 (some Z) ∷ began 1 ∷ []) 0 ≡ some (record { who = 1; statement = 0; body = some Z }))
unfolding answers line_by_line rest Z F
told_may = (refl, refl, refl, refl)

-- ---- the same on the machine

after_all_lem : Machine → List Step → Machine
after_all_lem m [] = m
after_all_lem m (c ∷ cs) = after_all_lem (effect m c) cs

read_as : Option Session → Machine → ℕ → Option Body
read_as none m r = none
read_as (some s) m r = reads m s r

read_by : Machine → ℕ → ℕ → Option Body
read_by m n r = read_as (find n m.desk) m r

half : Machine
half = after_all_lem empty (begin ∷ insert 1 0 Z ∷ commit 1 ∷ begin ∷ begin ∷ update 2 0 F ∷ [])

more : Machine
more = after_all_lem half (commit 2 ∷ sweep 0 ∷ [])

whole : Machine
whole = after_all_lem more (commit 3 ∷ sweep 0 ∷ begin ∷ [])

ran : (read_by half 3 0 ≡ some Z) × (accept half (delete 3 0) ≡ false) × (read_by more 3 0 ≡ some Z) × (accept more (delete 3 0) ≡ false)
    × (length (more.rows 0) ≡ 2) × (read_by whole 4 0 ≡ some F) × (length (whole.rows 0) ≡ 1)
unfolding read_by read_as half more whole after_all_lem Z F
ran = (refl, refl, refl, refl, refl, refl, refl)

-- ---- P5 to P10

mine : Machine
mine = after_all_lem empty (begin ∷ insert 1 0 Z ∷ [])

later : Machine
later = after_all_lem mine (next 1 ∷ [])

s6 : Session
s6 = record { number = 6; statement = 0; list = 5 ∷ [] }

v5 : Version
v5 = record { create = 1; cmd = 0; expire = 5; expire_cmd = 0; body = [] }

committed5 : ℕ → Status
committed5 n = Committed

P5-to-P10 : (read_by mine 1 0 ≡ none) × (read_by later 1 0 ≡ some Z) × (read_by (after_all_lem later (delete 1 0 ∷ [])) 1 0 ≡ some Z)
    × (accept (after_all_lem later (update 1 0 F ∷ [])) (update 1 0 F) ≡ false)
    × (mark 7 (s6 ∷ []) ≡ 5) × (cut (dead committed5 (mark 7 (s6 ∷ []))) (v5 ∷ []) ≡ v5 ∷ [])
    × (mark 6 [] ≡ 6) × (cut (dead committed5 (mark 6 [])) (v5 ∷ []) ≡ [])
unfolding read_by read_as mine later after_all_lem s6 v5 committed5 Z F
P5-to-P10 = (refl, refl, refl, refl, refl, refl, refl, refl)
