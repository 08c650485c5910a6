-- The invariant of a machine with its history: each row's deeds against the plain table, for every open session and for one that would
-- begin now; and that an open session then reads what the table has. Assumes nothing.
use Prim.Native.Nat.{ℕ, ◌≤◌, ◌<◌}
use mathlib.Core.Path.{◌≡◌, refl, ap, sym, subst, ◌∙◌}
use mathlib.Core.Bool.{Bool, true, false, not, ◌&&◌, ◌||◌, and-false, or-true, or-false}
use mathlib.Core.Option.{Option, none, some, get_or}
use mathlib.Core.List.{List, [], ◌∷◌}
use native.Mathlib.Omega.{arith}
use lib.Dec.{eqb, ltb, leb}
use borrow.Author.Tests.{eqb-true, eq-eqb, ne_eqb, ltb-true, ltb-false, lt-ltb, le-ltb, leb-true, leb-false, le-leb, lt-leb}
use Rattle.machine.specs.Table.{Body, History, statement_of, member}
use Rattle.machine.specs.Machine.{Status, InWork, Session, Machine, empty, is_committed, sees, counts, reads, since}
use Rattle.machine.proofs.Basics.{no_none, true_false}
use Rattle.machine.proofs.Desks.{Found, find_number, sees_off}
use Rattle.machine.proofs.Chains.{Deed, deeds, view, Closed, Linked, All, Top, all_map, view_agree, view_hit, chain_law}
use Rattle.machine.proofs.Drops.{drops, Stops, stops_drops, view_drops}
use Rattle.machine.proofs.Folds.{own, table, at_start, replay}

-- ---- what counts for whom

-- what counts for a session that began now: whatever is committed
abbrev pub settled : (ℕ → Status) → ℕ → ℕ → Bool
settled st x c = is_committed (st x)

-- what counts for S of others
abbrev pub glimpse : (ℕ → Status) → Session → ℕ → ℕ → Bool
glimpse st s x c = sees st s x

-- one row: its deeds against the history
pub record Row (st : ℕ → Status) (desk : List Session) (top : ℕ) (h : History) (r : ℕ) (l : List Deed) : Type 0 where
  -- whoever did one has a number handed out
  pub bounded : All (λ e. e.who < top) l
  -- an open session did its own in its present statement or before
  pub timely : (n : ℕ) (s : Session) → Found n desk s → All (λ e. e.who ≡ n → e.cmd ≤ s.statement) l
  -- what S sees of others is the table when S began
  pub seen : (n : ℕ) (s : Session) → Found n desk s → view (glimpse st s) l ≡ at_start h n r
  -- what is committed is the table now
  pub told_all : view (settled st) l ≡ table h r
  -- what is older counts for S where what is newer does; and so for a session that would begin now
  pub closed : (n : ℕ) (s : Session) → Found n desk s → (k : ℕ) → Closed (counts st s k) l
  pub closed_all : Closed (settled st) l
  -- under what S did in statement k or later: nothing of S's, or its last write before k
  pub mine : (n : ℕ) (s : Session) → Found n desk s → (k : ℕ) → Top n (own h n r k) (drops (since n k) l)

-- an open session against the history
pub record OpenOne (m : Machine) (h : History) (n : ℕ) (s : Session) : Type 0 where
  pub positive : 0 < n
  pub below : n < m.next
  pub working : m.status n ≡ InWork
  pub in_step : s.statement ≡ statement_of h n

-- S would not see n even if n had committed: n is not below it, or is in its list
abbrev pub Far : ℕ → Session → Type 0
Far n s = (ltb n s.number && not (member n s.list)) ≡ false

pub record Inv (m : Machine) (h : History) : Type 0 where
  pub first : 0 < m.next
  -- only numbers handed out are committed
  pub dones : (x : ℕ) → is_committed (m.status x) ≡ true → (0 < x) × (x < m.next)
  pub opened : (n : ℕ) (s : Session) → Found n m.desk s → OpenOne m h n s
  -- no open session sees another
  pub apart : (n : ℕ) (s : Session) → Found n m.desk s → (n' : ℕ) (s' : Session) → Found n' m.desk s' → (n ≡ n' → ⊥) → Far n s'
  -- each version was expired by the creator of the next newer one
  pub linked : (r : ℕ) → Linked (m.rows r)
  pub row : (r : ℕ) → Row m.status m.desk m.next h r (deeds (m.rows r))

-- ---- counts and since

pub counts_own : (st : ℕ → Status) (s : Session) (n k c : ℕ) → s.number ≡ n → is_committed (st n) ≡ false → counts st s k n c ≡ ltb c k
counts_own st s n k c e d = rw (eq-eqb n s.number (sym e), sees_off st s n d) (or-false (ltb c k))

pub counts_other : (st : ℕ → Status) (s : Session) (n k c : ℕ) → (n ≡ s.number → ⊥) → is_committed (st n) ≡ false
    → counts st s k n c ≡ false
counts_other st s n k c z d = rw (ne_eqb n s.number z, sees_off st s n d)

pub counts_sees : (st : ℕ → Status) (s : Session) (k x c : ℕ) → sees st s x ≡ true → counts st s k x c ≡ true
counts_sees st s k x c e = ap (λ (b : Bool). (eqb x s.number && ltb c k) || b) e ∙ or-true (eqb x s.number && ltb c k)

pub counts_mono : (st : ℕ → Status) (s : Session) (j k x c : ℕ) → j ≤ k → counts st s j x c ≡ true → counts st s k x c ≡ true
counts_mono st s j k x c l e = go (eqb x s.number) (ltb c j) refl (ltb c k) refl (sees st s x) e
  where
    go : (a : Bool) (b : Bool) → ltb c j ≡ b → (d : Bool) → ltb c k ≡ d → (g : Bool) → ((a && b) || g) ≡ true → ((a && d) || g) ≡ true
    go false b eb d ed g h = h
    go true false eb true ed g h = refl
    go true false eb false ed g h = h
    go true true eb true ed g h = h
    go true true eb false ed g h = absurd (omega (arith, ltb-true c j eb, ltb-false c k ed))

pub since_true : (n k x c : ℕ) → since n k x c ≡ true → (x ≡ n) × (k ≤ c)
since_true n k x c e = go (eqb x n) refl (leb k c) refl e
  where
    go : (a : Bool) → eqb x n ≡ a → (b : Bool) → leb k c ≡ b → (a && b) ≡ true → (x ≡ n) × (k ≤ c)
    go true f true g e = (eqb-true x n f, leb-true k c g)
    go true f false g e = true_false true refl (sym e)
    go false f b g e = true_false true refl (sym e)

pub since_yes : (n k x c : ℕ) → x ≡ n → k ≤ c → since n k x c ≡ true
since_yes n k x c e l = rw (eq-eqb x n e, le-leb k c l)

pub since_else : (n k x c : ℕ) → (x ≡ n → ⊥) → since n k x c ≡ false
since_else n k x c z = rw (ne_eqb x n z)

pub since_early : (n k x c : ℕ) → c < k → since n k x c ≡ false
since_early n k x c l = rw (lt-leb k c l, and-false (eqb x n))

pub since_false : (n k x c : ℕ) → since n k x c ≡ false → x ≡ n → c < k
since_false n k x c e q = leb-false k c (rw (eq-eqb x n q) at e)

-- what is n's from k on does not count for n in k
pub since_off : (st : ℕ → Status) (s : Session) (n k x c : ℕ) → s.number ≡ n → is_committed (st n) ≡ false → since n k x c ≡ true
    → counts st s k x c ≡ false
since_off st s n k x c e d q = let (y, l) = since_true n k x c q in
    subst (λ (z : ℕ). counts st s k z c ≡ false) (sym y) (counts_own st s n k c e d ∙ le-ltb c k l)

-- S's sight of a row, from what others did and what it did itself
told_of : (st : ℕ → Status) (s : Session) (n k : ℕ) → s.number ≡ n → is_committed (st n) ≡ false
    → (l : List Deed) (o : Option (Option Body)) → Top n o (drops (since n k) l)
    → view (counts st s k) l ≡ get_or o (view (glimpse st s) l)
told_of st s n k e d l o t = sym (view_drops (counts st s k) (since n k) (λ x c q. since_off st s n k x c e d q) l) ∙ go o
    (drops (since n k) l) (stops_drops (since n k) l) t
    (view_drops (glimpse st s) (since n k) (λ x c q. rw (since_true n k x c q).0 (sees_off st s n d)) l)
  where
    go : (o : Option (Option Body)) (D : List Deed) → Stops (since n k) D → Top n o D
        → view (glimpse st s) D ≡ view (glimpse st s) l → view (counts st s k) D ≡ get_or o (view (glimpse st s) l)
    go none D z t v = view_agree (counts st s k) (glimpse st s) D
        (all_map (λ x. x.who ≡ n → ⊥) (λ x. counts st s k x.who x.cmd ≡ sees st s x.who)
        (λ x y. rw (ne_eqb x.who s.number (λ q. y (q ∙ e)))) D t) ∙ v
    go (some b) [] z t v = absurd t
    go (some b) (x ∷ D) z t v =
        view_hit (counts st s k) x D (subst (λ (y : ℕ). counts st s k y x.cmd ≡ true) (sym t.0)
        (counts_own st s n k x.cmd e d ∙ lt-ltb x.cmd k (since_false n k x.who x.cmd z t.0))) ∙ t.1

-- ---- what an open session reads, from the invariant
pub reading_of : (m : Machine) (h : History) → Inv m h → (n r : ℕ) (s : Session) → Found n m.desk s → reads m s r ≡ replay h n r
reading_of m h i n r s f =
    let o = i.opened n s f in
    let R = i.row r in
    let e : s.number ≡ n = find_number n m.desk s f in
    chain_law (counts m.status s s.statement) (λ c. zero_off c o.positive e) (m.rows r) (i.linked r)
    (R.closed n s f s.statement)
    ∙ (told_of m.status s n s.statement e (rw o.working refl) (deeds (m.rows r)) (own h n r s.statement)
    (R.mine n s f s.statement)
    ∙ (ap (λ (x : Option Body). get_or (own h n r s.statement) x) (R.seen n s f)
    ∙ ap (λ (k : ℕ). get_or (own h n r k) (at_start h n r)) o.in_step))
  where
    zero_off : (c : ℕ) → 0 < n → s.number ≡ n → counts m.status s s.statement 0 c ≡ false
    zero_off c p e = rw (ne_eqb 0 s.number (λ q. omega arith)) refl

pub inv_empty : Inv empty []
inv_empty = record {
  first = omega arith;
  dones = λ x e. true_false true refl (sym e);
  opened = λ n s f. no_none s f;
  apart = λ n s f n' s' f' z. no_none s f;
  linked = λ r. tt;
  row = λ r. record {
    bounded = tt;
    timely = λ n s f. tt;
    seen = λ n s f. no_none s f;
    told_all = refl;
    closed =
        λ n s f k. no_none s f;
    closed_all = tt;
    mine = λ n s f k. no_none s f;
  };
}
