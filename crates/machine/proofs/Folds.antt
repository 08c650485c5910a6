-- The plain table by one pass through the history, row by row: what the proofs go by. It is the table of specs/Table wherever a
-- committed session neither writes nor begins again (`Proper`), as in every history of the machine. Assumes nothing.
use Prim.Native.Nat.{ℕ, suc}
use mathlib.Core.Path.{◌≡◌, refl, ap, sym, ◌∙◌}
use mathlib.Core.Bool.{Bool, true, false, ◌&&◌, ◌||◌, cond, and-false}
use mathlib.Core.Option.{Option, none, some, get_or}
use mathlib.Core.List.{List, [], ◌∷◌, ◌++◌, append-nil, append_assoc}
use native.Mathlib.Omega.{arith}
use lib.Dec.{eqb, ltb}
use borrow.Author.Tests.{eqb-false, ne_eqb, le-ltb}
use Rattle.ground.proofs.Ranges.{or_false_left, or_false_right, or_swap}
use Rattle.machine.specs.Table.{Body, began, moved, wrote, committed, withdrew, History, Table, bare, put, Write, play, statement_of, writes_before, writes_of, writes_of_all, commits, when_began, committed_table, plain_table, member, has_written}
use Rattle.machine.proofs.Basics.{true_false}

-- S's own last write on the row in statements before k, if there is one
abbrev pub own : History → ℕ → ℕ → ℕ → Option (Option Body)
own [] s r k = none
own (began n ∷ h) s r k = cond (eqb s n) none (own h s r k)
own (moved n ∷ h) s r k = own h s r k
own (wrote n q b ∷ h) s r k = cond (eqb s n && (eqb r q && ltb (statement_of h s) k)) (some b) (own h s r k)
own (committed n ∷ h) s r k = own h s r k
own (withdrew n ∷ h) s r k = own h s r k

-- the row in the table of the committed sessions
abbrev pub table : History → ℕ → Option Body
table [] r = none
table (began n ∷ h) r = table h r
table (moved n ∷ h) r = table h r
table (wrote n q b ∷ h) r = table h r
table (committed n ∷ h) r = get_or (own h n r (suc (statement_of h n))) (table h r)
table (withdrew n ∷ h) r = table h r

-- the same, when S began
abbrev pub at_start : History → ℕ → ℕ → Option Body
at_start [] s r = none
at_start (began n ∷ h) s r = cond (eqb s n) (table h r) (at_start h s r)
at_start (moved n ∷ h) s r = at_start h s r
at_start (wrote n q b ∷ h) s r = at_start h s r
at_start (committed n ∷ h) s r = at_start h s r
at_start (withdrew n ∷ h) s r = at_start h s r

-- S's own last write from an earlier statement, or else the row as it was when S began
abbrev pub replay : History → ℕ → ℕ → Option Body
replay h s r = get_or (own h s r (statement_of h s)) (at_start h s r)

-- ---- lists

pub member_append : (x y : ℕ) (l : List ℕ) → member x (l ++ (y ∷ [])) ≡ (eqb x y || member x l)
member_append x y [] = refl
member_append x y (z ∷ l) = rw (member_append x y l) (or_swap (eqb x z) (eqb x y) (member x l))

pub play_append : (t : Table) (a b : List Write) → play t (a ++ b) ≡ play (play t a) b
play_append t [] b = refl
play_append t (w ∷ a) b = play_append (put t w.row w.body) a b

writes_of_all_append : (h : History) (xs : List ℕ) (x : ℕ) → writes_of_all h (xs ++ (x ∷ [])) ≡ writes_of_all h xs ++ writes_of h x
writes_of_all_append h [] x = append-nil (writes_of h x)
writes_of_all_append h (y ∷ xs) x = rw (writes_of_all_append h xs x) (sym (append_assoc (writes_of h y) (writes_of_all h xs) (writes_of h x)))

-- ---- S's writes

-- played: its last write on the row, or what was there
pub play_own : (h : History) (n k : ℕ) (t : Table) (r : ℕ) → play t (writes_before k h n) r ≡ get_or (own h n r k) (t r)
play_own [] n k t r = refl
play_own (began m ∷ h) n k t r = go (eqb n m) refl (play_own h n k t r)
  where
    go : (b : Bool) → eqb n m ≡ b → play t (writes_before k h n) r ≡ get_or (own h n r k) (t r)
        → play t (writes_before k (began m ∷ h) n) r ≡ get_or (own (began m ∷ h) n r k) (t r)
    go true e ih = rw e
    go false e ih = rw e ih
play_own (moved m ∷ h) n k t r = play_own h n k t r
play_own (wrote m q b ∷ h) n k t r = go (eqb n m) refl (eqb r q) refl (ltb (statement_of h n) k) refl (play_own h n k t r)
  where
    last : play t (writes_before k h n ++ (record { row = q; body = b } ∷ [])) r ≡ cond (eqb r q) b (play t (writes_before k h n) r)
    last = ap (λ (f : Table). f r) (play_append t (writes_before k h n) (record { row = q; body = b } ∷ []))

    go : (u : Bool) → eqb n m ≡ u → (w : Bool) → eqb r q ≡ w → (v : Bool) → ltb (statement_of h n) k ≡ v
        → play t (writes_before k h n) r ≡ get_or (own h n r k) (t r)
        → play t (writes_before k (wrote m q b ∷ h) n) r ≡ get_or (own (wrote m q b ∷ h) n r k) (t r)
    go true e true f true g ih = rw (e, g) (last ∙ rw f)
    go true e false f true g ih = rw (e, g) (last ∙ rw f ih)
    go true e true f false g ih = rw (e, f, g) ih
    go true e false f false g ih = rw (e, f, g) ih
    go false e w f v g ih = rw e ih
play_own (committed m ∷ h) n k t r = play_own h n k t r
play_own (withdrew m ∷ h) n k t r = play_own h n k t r

-- there is none before the first statement
pub own_zero : (h : History) (n r : ℕ) → own h n r 0 ≡ none
own_zero [] n r = refl
own_zero (began m ∷ h) n r = rw (own_zero h n r) (same (eqb n m))
  where
    same : (b : Bool) → ◌≡◌ {A = Option (Option Body)} (cond b none none) none
    same true = refl
    same false = refl
own_zero (moved m ∷ h) n r = own_zero h n r
own_zero (wrote m q b ∷ h) n r = rw (le-ltb (statement_of h n) 0 (omega arith), and-false (eqb r q), and-false (eqb n m)) (own_zero h n r)
own_zero (committed m ∷ h) n r = own_zero h n r
own_zero (withdrew m ∷ h) n r = own_zero h n r

-- and none where S hasn't written the row
pub own_none : (h : History) (n r k : ℕ) → has_written h n r ≡ false → own h n r k ≡ none
own_none [] n r k e = refl
own_none (began m ∷ h) n r k e = go (eqb n m) refl (own_none h n r k)
  where
    go : (b : Bool) → eqb n m ≡ b → (has_written h n r ≡ false → own h n r k ≡ none) → own (began m ∷ h) n r k ≡ none
    go true f ih = rw f
    go false f ih = rw f (ih (rw f at e))
own_none (moved m ∷ h) n r k e = own_none h n r k e
own_none (wrote m q b ∷ h) n r k e = go (eqb n m) (eqb r q) (ltb (statement_of h n) k) (or_false_left _ (has_written h n r) e)
    (own_none h n r k (or_false_right (eqb n m && eqb r q) _ e))
  where
    go : (u v w : Bool) → (u && v) ≡ false → own h n r k ≡ none → cond (u && (v && w)) (some b) (own h n r k) ≡ none
    go true true w f ih = true_false true refl f
    go true false w f ih = ih
    go false v w f ih = ih
own_none (committed m ∷ h) n r k e = own_none h n r k e
own_none (withdrew m ∷ h) n r k e = own_none h n r k e

-- ---- the plain table

-- a history in which a committed session neither writes nor begins again
abbrev pub Proper : History → Type 0
Proper [] = Unit {0}
Proper (began n ∷ h) = (member n (commits h) ≡ false) × Proper h
Proper (moved n ∷ h) = (member n (commits h) ≡ false) × Proper h
Proper (wrote n r b ∷ h) = (member n (commits h) ≡ false) × Proper h
Proper (committed n ∷ h) = Proper h
Proper (withdrew n ∷ h) = Proper h

-- where only n's writes differ, the writes of sessions without n are the same
all_skip : (h h' : History) (n : ℕ) → ((x : ℕ) → eqb x n ≡ false → writes_of h' x ≡ writes_of h x) → (xs : List ℕ) → member n xs ≡ false
    → writes_of_all h' xs ≡ writes_of_all h xs
all_skip h h' n s [] e = refl
all_skip h h' n s (x ∷ xs) e = go (eqb n x) refl (all_skip h h' n s xs)
  where
    go : (b : Bool) → eqb n x ≡ b → (member n xs ≡ false → writes_of_all h' xs ≡ writes_of_all h xs)
        → writes_of_all h' (x ∷ xs) ≡ writes_of_all h (x ∷ xs)
    go true f ih = true_false true refl (rw f at e)
    go false f ih = rw (s x (ne_eqb x n (λ q. eqb-false n x f (sym q))), ih (rw f at e))

all_same : (h h' : History) → ((x : ℕ) → writes_of h' x ≡ writes_of h x) → (xs : List ℕ) → writes_of_all h' xs ≡ writes_of_all h xs
all_same h h' s [] = refl
all_same h h' s (x ∷ xs) = rw (s x, all_same h h' s xs)

-- a session that begins writes nothing, and no other session's statement moves
pub statement_else : (h : History) (n x : ℕ) → eqb x n ≡ false → statement_of (began n ∷ h) x ≡ statement_of h x
statement_else h n x e = rw e

began_else : (h : History) (n x : ℕ) → eqb x n ≡ false → writes_of (began n ∷ h) x ≡ writes_of h x
began_else h n x e = rw e (ap (λ (k : ℕ). writes_before (suc k) h x) (statement_else h n x e))

moved_else : (h : History) (n x : ℕ) → eqb x n ≡ false → writes_of (moved n ∷ h) x ≡ writes_of h x
moved_else h n x e =
    let stays : statement_of (moved n ∷ h) x ≡ statement_of h x = rw e in
    ap (λ (k : ℕ). writes_before (suc k) h x) stays

pub committed_table_is : (h : History) → Proper h → (r : ℕ) → committed_table h r ≡ table h r
committed_table_is [] p r = refl
committed_table_is (began n ∷ h) p r = rw (all_skip h (began n ∷ h) n (λ x e. began_else h n x e) (commits h) p.0) (committed_table_is h p.1 r)
committed_table_is (moved n ∷ h) p r = rw (all_skip h (moved n ∷ h) n (λ x e. moved_else h n x e) (commits h) p.0) (committed_table_is h p.1 r)
committed_table_is (wrote n q b ∷ h) p r = rw (all_skip h (wrote n q b ∷ h) n (λ x e. rw e) (commits h) p.0)
    (committed_table_is h p.1 r)
committed_table_is (committed n ∷ h) p r =
    rw (
      all_same h (committed n ∷ h) (λ x. refl) (commits h ++ (n ∷ [])),
      writes_of_all_append h (commits h) n,
      play_append bare
          (writes_of_all h (commits h)) (writes_of h n),
    )
    (play_own h n (suc (statement_of h n)) (committed_table h) r
    ∙ ap (λ (x : Option Body). get_or (own h n r (suc (statement_of h n))) x) (committed_table_is h p r))
committed_table_is (withdrew n ∷ h) p r = rw (all_same h (withdrew n ∷ h) (λ x. refl) (commits h)) (committed_table_is h p r)

proper_when_began : (h : History) (s : ℕ) → Proper h → Proper (when_began h s)
proper_when_began [] s p = tt
proper_when_began (began n ∷ h) s p = go (eqb s n) refl (proper_when_began h s p.1)
  where
    go : (b : Bool) → eqb s n ≡ b → Proper (when_began h s) → Proper (when_began (began n ∷ h) s)
    go true e ih = rw e p.1
    go false e ih = rw e ih
proper_when_began (moved n ∷ h) s p = proper_when_began h s p.1
proper_when_began (wrote n r b ∷ h) s p = proper_when_began h s p.1
proper_when_began (committed n ∷ h) s p = proper_when_began h s p
proper_when_began (withdrew n ∷ h) s p = proper_when_began h s p

at_start_is : (h : History) (s r : ℕ) → at_start h s r ≡ table (when_began h s) r
at_start_is [] s r = refl
at_start_is (began n ∷ h) s r = go (eqb s n) refl (at_start_is h s r)
  where
    go : (b : Bool) → eqb s n ≡ b → at_start h s r ≡ table (when_began h s) r
        → at_start (began n ∷ h) s r ≡ table (when_began (began n ∷ h) s) r
    go true e ih = rw e
    go false e ih = rw e ih
at_start_is (moved n ∷ h) s r = at_start_is h s r
at_start_is (wrote n q b ∷ h) s r = at_start_is h s r
at_start_is (committed n ∷ h) s r = at_start_is h s r
at_start_is (withdrew n ∷ h) s r = at_start_is h s r

-- the plain table is the pass
pub plain_table_is : (h : History) → Proper h → (s r : ℕ) → plain_table h s r ≡ replay h s r
plain_table_is h p s r = play_own h s (statement_of h s) (committed_table (when_began h s)) r
    ∙ ap (λ (x : Option Body). get_or (own h s r (statement_of h s)) x)
    (committed_table_is (when_began h s) (proper_when_began h s p) r ∙ sym (at_start_is h s r))
