-- Which sessions are open, by the history alone and by the machine; and that whoever is in work is open. Assumes nothing.
use Prim.Native.Nat.{ℕ, ◌<◌}
use mathlib.Core.Path.{◌≡◌, refl, ap, sym, ◌∙◌}
use mathlib.Core.Bool.{Bool, true, false, not, ◌&&◌, ◌||◌, cond}
use mathlib.Core.Option.{none, some}
use mathlib.Core.List.{List, [], ◌∷◌, ◌++◌}
use native.Mathlib.Omega.{arith}
use lib.Dec.{eqb}
use borrow.Author.Tests.{eqb-true, eqb-false}
use Rattle.machine.specs.Table.{History, open_in, put}
use Rattle.machine.specs.Machine.{Status, InWork, Committed, Withdrawn, Session, Machine, find, is_some, move, close, onward, newcomer, begin, next, insert, update, delete, commit, withdraw, sweep}
use Rattle.machine.specs.Runs.{start, after, Reach}

-- ---- a session found on a desk that changed

found_append : (n : ℕ) (l : List Session) (t : Session) → is_some (find n (l ++ (t ∷ []))) ≡ (eqb n t.number || is_some (find n l))
found_append n [] t = go (eqb n t.number)
  where
    go : (b : Bool) → is_some (cond b (some t) none) ≡ (b || false)
    go true = refl
    go false = refl
found_append n (s ∷ l) t = go (eqb n s.number) (found_append n l t)
  where
    or_true : (b : Bool) → true ≡ (b || true)
    or_true true = refl
    or_true false = refl

    go : (b : Bool) → is_some (find n (l ++ (t ∷ []))) ≡ (eqb n t.number || is_some (find n l))
        → is_some (cond b (some s) (find n (l ++ (t ∷ [])))) ≡ (eqb n t.number || is_some (cond b (some s) (find n l)))
    go true ih = or_true (eqb n t.number)
    go false ih = ih

found_move : (n m : ℕ) (l : List Session) → is_some (find n (move m l)) ≡ is_some (find n l)
found_move n m [] = refl
found_move n m (s ∷ l) = go (eqb m s.number) (eqb n s.number) (found_move n m l)
  where
    go : (a b : Bool) → is_some (find n (move m l)) ≡ is_some (find n l)
        → is_some (cond (eqb n (cond a (onward s) s).number) (some (cond a (onward s) s)) (find n (move m l)))
        ≡ is_some (cond (eqb n s.number) (some s) (find n l))
    go true b ih = by (eqb n s.number)
      where
        by : (c : Bool) → is_some (cond c (some (onward s)) (find n (move m l))) ≡ is_some (cond c (some s) (find n l))
        by true = refl
        by false = ih
    go false b ih = by (eqb n s.number)
      where
        by : (c : Bool) → is_some (cond c (some s) (find n (move m l))) ≡ is_some (cond c (some s) (find n l))
        by true = refl
        by false = ih

found_close : (n m : ℕ) (l : List Session) → is_some (find n (close m l)) ≡ (not (eqb n m) && is_some (find n l))
found_close n m [] = go (not (eqb n m))
  where
    go : (b : Bool) → false ≡ (b && false)
    go true = refl
    go false = refl
found_close n m (s ∷ l) = go (eqb m s.number) refl (eqb n s.number) refl (eqb n m) refl (found_close n m l)
  where
    go : (a : Bool) → eqb m s.number ≡ a → (b : Bool) → eqb n s.number ≡ b → (c : Bool) → eqb n m ≡ c
        → is_some (find n (close m l)) ≡ (not (eqb n m) && is_some (find n l))
        → is_some (find n (close m (s ∷ l))) ≡ (not (eqb n m) && is_some (find n (s ∷ l)))
    go true e b f true g ih = rw (e, g) (ih ∙ rw g)
    go true e true f false g ih = absurd (eqb-false n m g (eqb-true n s.number f ∙ sym (eqb-true m s.number e)))
    go true e false f false g ih = rw (e, f) ih
    go false e true f true g ih = absurd (eqb-false m s.number e (sym (eqb-true n m g) ∙ eqb-true n s.number f))
    go false e true f false g ih = rw (e, f, g)
    go false e false f c g ih = rw (e, f) ih

-- ---- who is open

-- AN OPEN SESSION, by the history alone, is one that stands on the desk
pub open_is : {m : Machine} {h : History} → Reach m h → (n : ℕ) → is_some (find n m.desk) ≡ open_in h n
open_is start n = refl
open_is (after {m = m} x begin e) n = found_append n m.desk (newcomer m) ∙ ap (λ (b : Bool). eqb n m.next || b) (open_is x n)
open_is (after {m = m} x (next q) e) n = found_move n q m.desk ∙ open_is x n
open_is (after x (insert q r b) e) n = open_is x n
open_is (after x (update q r b) e) n = open_is x n
open_is (after x (delete q r) e) n = open_is x n
open_is (after {m = m} x (commit q) e) n = found_close n q m.desk ∙ ap (λ (b : Bool). not (eqb n q) && b) (open_is x n)
open_is (after {m = m} x (withdraw q) e) n = found_close n q m.desk ∙ ap (λ (b : Bool). not (eqb n q) && b) (open_is x n)
open_is (after x (sweep r) e) n = open_is x n

-- ---- who is in work

-- every number handed out that is in work is an open session's
abbrev AtWork : Machine → Type 0
AtWork m = (n : ℕ) → 0 < n → n < m.next → m.status n ≡ InWork → is_some (find n m.desk) ≡ true

-- one that ended is not in work
left_work : (m : Machine) (q : ℕ) (a : Status) → (a ≡ InWork → ⊥) → AtWork m → (n : ℕ) → 0 < n → n < m.next → put m.status q a n ≡ InWork
    → is_some (find n (close q m.desk)) ≡ true
left_work m q a gone w n p l f = go (eqb n q) refl
  where
    go : (b : Bool) → eqb n q ≡ b → is_some (find n (close q m.desk)) ≡ true
    go true e = absurd (gone (rw e at f))
    go false e = found_close n q m.desk ∙ rw e (w n p l (rw e at f))

committed_ended : Committed ≡ InWork → ⊥
committed_ended e = let z : ◌≡◌ {A = ℕ} 0 1 = cc in absurd (omega arith)

withdrawn_ended : Withdrawn ≡ InWork → ⊥
withdrawn_ended e = let z : ◌≡◌ {A = ℕ} 0 1 = cc in absurd (omega arith)

pub in_work_open : {m : Machine} {h : History} → Reach m h → AtWork m
in_work_open start n p l f = absurd (omega (arith, p, l))
in_work_open (after {m = m} x begin e) n p l f = found_append n m.desk (newcomer m) ∙ go (eqb n m.next) refl (λ (a : n < m.next) (b : m.status n ≡ InWork). in_work_open x n p a b)
  where
    go : (b : Bool) → eqb n m.next ≡ b → (n < m.next → m.status n ≡ InWork → is_some (find n m.desk) ≡ true)
        → (eqb n m.next || is_some (find n m.desk)) ≡ true
    go true g ih = rw g
    go false g ih = rw g (ih (omega (arith, l, eqb-false n m.next g)) (rw g at f))
in_work_open (after {m = m} x (next q) e) n p l f = found_move n q m.desk ∙ in_work_open x n p l f
in_work_open (after x (insert q r b) e) n p l f = in_work_open x n p l f
in_work_open (after x (update q r b) e) n p l f = in_work_open x n p l f
in_work_open (after x (delete q r) e) n p l f = in_work_open x n p l f
in_work_open (after {m = m} x (commit q) e) n p l f = left_work m q Committed committed_ended (λ k q a b. in_work_open x k q a b) n p l f
in_work_open (after {m = m} x (withdraw q) e) n p l f = left_work m q Withdrawn withdrawn_ended (λ k q a b. in_work_open x k q a b) n p l f
in_work_open (after x (sweep r) e) n p l f = in_work_open x n p l f
