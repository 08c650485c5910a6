-- A row's last write that was not withdrawn, by the history alone, is the newest deed of its versions; and where it gave a body and counts
-- for a session, the session may write the row. A sweep takes away only what lies under a committed deed, or a whole row whose newest deed
-- is a deletion. Assumes nothing.
use Prim.Native.Nat.{ℕ}
use mathlib.Core.Path.{◌≡◌, refl, ap, sym, subst, ◌∙◌}
use mathlib.Core.Logic.{◌⊎◌, inl, inr}
use mathlib.Core.Bool.{Bool, true, false, not, ◌&&◌, ◌||◌, cond, and-false, or-true, or_comm}
use mathlib.Core.Option.{Option, none, some}
use mathlib.Core.List.{List, [], ◌∷◌, ◌++◌, append-nil, append_assoc}
use native.Mathlib.Omega.{arith}
use lib.Dec.{eqb, ltb}
use borrow.Author.Tests.{eqb-true, eqb-false, eq-eqb, ne_eqb}
use Rattle.ground.proofs.Ranges.{and_true_left, and_true_right, or_swap}
use Rattle.machine.specs.Table.{Body, History, began, moved, wrote, committed, withdrew, member, statement_of, committed_before, Last, last_but, last_write, may_follow, may_write}
use Rattle.machine.specs.Machine.{Version, Machine, Session, InWork, Committed, Withdrawn, is_committed, counts, first_there, find, is_some, fresh, expired, since, undone, strike, leave, swept, with_row, writable, Step, begin, next, insert, update, delete, commit, withdraw, sweep, accept, effect}
use Rattle.machine.specs.Runs.{start, after, Reach, add}
use Rattle.machine.proofs.Basics.{no_none, true_false}
use Rattle.machine.proofs.Desks.{Found, found_of, find_number}
use Rattle.machine.proofs.Chains.{Deed, made, ended, deeds, Closed, All, all_map, written, update_deeds, delete_deeds}
use Rattle.machine.proofs.Drops.{drops}
use Rattle.machine.proofs.Cuts.{CutOf, Has}
use Rattle.machine.proofs.Folds.{own_zero}
use Rattle.machine.proofs.Invariant.{Inv, settled, since_yes, since_else}
use Rattle.machine.proofs.Writes.{nonzero₀, off₀, inv_write}
use Rattle.machine.proofs.Ends.{status_quiet, done_put, strike_deeds}
use Rattle.machine.proofs.Turns.{next_off}
use Rattle.machine.proofs.Sweeps.{Old, cut_row}
use Rattle.machine.proofs.Readings.{reach_both}
use Rattle.machine.proofs.Living.{nil_of}
use Rattle.machine.proofs.Under.{head_of}

-- ---- all writes of a row that were not withdrawn, the newest first

abbrev kept : List ℕ → History → ℕ → List Deed
kept gone [] r = []
kept gone (began n ∷ h) r = kept gone h r
kept gone (moved n ∷ h) r = kept gone h r
kept gone (wrote n q b ∷ h) r = cond (eqb r q && not (member n gone)) (written n (statement_of h n) b ∷ kept gone h r) (kept gone h r)
kept gone (committed n ∷ h) r = kept gone h r
kept gone (withdrew n ∷ h) r = kept (n ∷ gone) h r

-- the last write is the first of them
abbrev as_deed : Option Last → Option Deed
as_deed none = none
as_deed (some w) = some (written w.who w.statement w.body)

last_is : (gone : List ℕ) (h : History) (r : ℕ) → as_deed (last_but gone h r) ≡ head_of (kept gone h r)
last_is gone [] r = refl
last_is gone (began n ∷ h) r = last_is gone h r
last_is gone (moved n ∷ h) r = last_is gone h r
last_is gone (wrote n q b ∷ h) r = go (eqb r q && not (member n gone)) (last_is gone h r)
  where
    go : (t : Bool) → as_deed (last_but gone h r) ≡ head_of (kept gone h r)
        → as_deed (cond t (some (record { who = n; statement = statement_of h n; body = b })) (last_but gone h r))
        ≡ head_of (cond t (written n (statement_of h n) b ∷ kept gone h r) (kept gone h r))
    go true ih = refl
    go false ih = ih
last_is gone (committed n ∷ h) r = last_is gone h r
last_is gone (withdrew n ∷ h) r = last_is (n ∷ gone) h r

-- ---- without n's

abbrev without : ℕ → List Deed → List Deed
without n [] = []
without n (e ∷ l) = cond (eqb e.who n) (without n l) (e ∷ without n l)

without_append : (n : ℕ) (l k : List Deed) → without n (l ++ k) ≡ without n l ++ without n k
without_append n [] k = refl
without_append n (e ∷ l) k = go (eqb e.who n) (without_append n l k)
  where
    go : (t : Bool) → without n (l ++ k) ≡ without n l ++ without n k
        → cond t (without n (l ++ k)) (e ∷ without n (l ++ k)) ≡ cond t (without n l) (e ∷ without n l) ++ without n k
    go true ih = ih
    go false ih = ap (λ (x : List Deed). e ∷ x) ih

without_none : (n : ℕ) (l : List Deed) → All (λ e. e.who ≡ n → ⊥) l → without n l ≡ l
without_none n [] a = refl
without_none n (e ∷ l) a = rw (ne_eqb e.who n a.0) (ap (λ (x : List Deed). e ∷ x) (without_none n l a.1))

-- where n's deeds are a front, dropping the front is leaving them out
without_front : (n : ℕ) (l : List Deed) → All (λ e. e.who ≡ n → ⊥) (drops (since n 0) l) → without n l ≡ drops (since n 0) l
without_front n [] a = refl
without_front n (e ∷ l) a = go (eqb e.who n) refl (without_front n l)
  where
    go : (t : Bool) → eqb e.who n ≡ t → (All (λ e. e.who ≡ n → ⊥) (drops (since n 0) l) → without n l ≡ drops (since n 0) l)
        → without n (e ∷ l) ≡ drops (since n 0) (e ∷ l)
    go true f ih =
        let s : since n 0 e.who e.cmd ≡ true = since_yes n 0 e.who e.cmd (eqb-true e.who n f) (omega arith) in
        rw (s, f) (ih (rw s at a))
    go false f ih =
        let s : since n 0 e.who e.cmd ≡ false = since_else n 0 e.who e.cmd (eqb-false e.who n f) in
        let a' : All (λ e. e.who ≡ n → ⊥) (e ∷ l) = rw s at a in
        rw f (ap (λ (x : List Deed). e ∷ x) (without_none n l a'.1))

-- one more left out is one more session that was withdrawn, wherever it stands among them

-- who is among these is among those
abbrev Same : List ℕ → List ℕ → Type 0
Same g k = (x : ℕ) → member x g ≡ member x k

kept_same : (g k : List ℕ) → Same g k → (h : History) (r : ℕ) → kept g h r ≡ kept k h r
kept_same g k s [] r = refl
kept_same g k s (began n ∷ h) r = kept_same g k s h r
kept_same g k s (moved n ∷ h) r = kept_same g k s h r
kept_same g k s (wrote n q b ∷ h) r = rw (s n, kept_same g k s h r)
kept_same g k s (committed n ∷ h) r = kept_same g k s h r
kept_same g k s (withdrew n ∷ h) r = kept_same (n ∷ g) (n ∷ k) (λ x. ap (λ (b : Bool). eqb x n || b) (s x)) h r

kept_more : (n : ℕ) (gone : List ℕ) (h : History) (r : ℕ) → kept (n ∷ gone) h r ≡ without n (kept gone h r)
kept_more n gone [] r = refl
kept_more n gone (began m ∷ h) r = kept_more n gone h r
kept_more n gone (moved m ∷ h) r = kept_more n gone h r
kept_more n gone (wrote m q b ∷ h) r = go (eqb r q) (eqb m n) refl (member m gone) (kept_more n gone h r)
  where
    go : (i t : Bool) → eqb m n ≡ t → (u : Bool) → kept (n ∷ gone) h r ≡ without n (kept gone h r)
        → cond (i && not (t || u)) (written m (statement_of h m) b ∷ kept (n ∷ gone) h r) (kept (n ∷ gone) h r)
        ≡ without n (cond (i && not u) (written m (statement_of h m) b ∷ kept gone h r) (kept gone h r))
    go false t e u ih = ih
    go true true e true ih = ih
    go true true e false ih = rw e ih
    go true false e true ih = ih
    go true false e false ih = rw e (ap (λ (x : List Deed). written m (statement_of h m) b ∷ x) ih)
kept_more n gone (committed m ∷ h) r = kept_more n gone h r
kept_more n gone (withdrew m ∷ h) r =
    kept_same (m ∷ n ∷ gone) (n ∷ m ∷ gone) (λ x. or_swap (eqb x m) (eqb x n) (member x gone)) h r ∙ kept_more n (m ∷ gone) h r

-- ---- the invariant

abbrev Done : Machine → ℕ → Type 0
Done m x = is_committed (m.status x) ≡ true

-- the newest of these is a deletion
abbrev Deleted : List Deed → Type 0
Deleted [] = ⊥
Deleted (e ∷ l) = e.val ≡ none

-- the writes that were not withdrawn are the row's deeds and a rest that was swept: all of it is committed, and either there is none, or
-- its newest is a deletion, or something committed lies over it
record Told (m : Machine) (h : History) (r : ℕ) : Type 0 where
  rest : List Deed
  is : kept [] h r ≡ deeds (m.rows r) ++ rest
  all_done : All (λ e. Done m e.who) rest
  over : (rest ≡ []) ⊎ (Deleted rest ⊎ Has (Done m) (deeds (m.rows r)))

has_map : (G H : ℕ → Type 0) → ((x : ℕ) → G x → H x) → (l : List Deed) → Has G l → Has H l
has_map G H f [] a = absurd a
has_map G H f (e ∷ l) (inl a) = inl (f e.who a)
has_map G H f (e ∷ l) (inr a) = inr (has_map G H f l a)

has_front : (G : ℕ → Type 0) (front l : List Deed) → Has G l → Has G (front ++ l)
has_front G [] l a = a
has_front G (e ∷ front) l a = inr (has_front G front l a)

-- a front was put before the row's deeds, or none, and who is committed stays so
told_on : (m m' : Machine) (h h' : History) (r : ℕ) (front : List Deed) → ((x : ℕ) → Done m x → Done m' x) → kept [] h' r ≡ front ++ kept [] h r
    → deeds (m'.rows r) ≡ front ++ deeds (m.rows r) → Told m h r → Told m' h' r
told_on m m' h h' r front on same row t = record {
  rest = t.rest;
  is = same ∙ (ap (λ (l : List Deed). front ++ l) t.is ∙ (sym (append_assoc front (deeds (m.rows r)) t.rest) ∙ ap (λ (l : List Deed). l ++ t.rest) (sym row)));
  all_done = all_map (λ e. Done m e.who) (λ e. Done m' e.who) (λ e. on e.who) t.rest t.all_done;
  over = more t.over;
}
  where
    more : (t.rest ≡ []) ⊎ (Deleted t.rest ⊎ Has (Done m) (deeds (m.rows r))) → (t.rest ≡ []) ⊎ (Deleted t.rest ⊎ Has (Done m') (deeds (m'.rows r)))
    more (inl e) = inl e
    more (inr (inl e)) = inr (inl e)
    more (inr (inr a)) =
        inr (inr (subst (Has (Done m')) (sym row) (has_front (Done m') front (deeds (m.rows r)) (has_map (Done m) (Done m') on (deeds (m.rows r)) a))))

-- ---- a withdrawal

has_drops : (G : ℕ → Type 0) (q : ℕ → ℕ → Bool) → ((x c : ℕ) → G x → q x c ≡ false) → (l : List Deed) → Has G l → Has G (drops q l)
has_drops G q z [] a = absurd a
has_drops G q z (e ∷ l) a = go (q e.who e.cmd) refl a (has_drops G q z l)
  where
    go : (b : Bool) → q e.who e.cmd ≡ b → G e.who ⊎ Has G l → (Has G l → Has G (drops q l)) → Has G (drops q (e ∷ l))
    go true f (inl g) ih = true_false (q e.who e.cmd) f (z e.who e.cmd g)
    go true f (inr g) ih = rw f (ih g)
    go false f g ih = rw f g

told_withdraw : (m : Machine) (h : History) → Inv m h → (n : ℕ) (s : Session) → Found n m.desk s → (r : ℕ) → Told m h r
    → Told (leave (strike m n 0) n Withdrawn) (withdrew n ∷ h) r
told_withdraw m h i n s f r t = record {
  rest = t.rest;
  is = kept_more n [] h r ∙ (ap (without n) t.is ∙ (without_append n l t.rest ∙ (ap (λ (x : List Deed). x ++ without n t.rest) gone
      ∙ ap (λ (x : List Deed). deeds (undone (since n 0) (m.rows r)) ++ x) (without_none n t.rest others))));
  all_done = all_map (λ e. Done m e.who) (λ e. Done m' e.who) (λ e. on e.who) t.rest t.all_done;
  over = more t.over;
}
  where
    m' : Machine
    m' = leave (strike m n 0) n Withdrawn

    l : List Deed
    l = deeds (m.rows r)

    on : (x : ℕ) → Done m x → Done m' x
    on x d = status_quiet m.status n Withdrawn refl (off₀ m h i n s f) x ∙ d

    not_own : (x : ℕ) → Done m x → x ≡ n → ⊥
    not_own x d q = true_false (is_committed (m.status n)) (subst (Done m) q d) (off₀ m h i n s f)

    others : All (λ e. e.who ≡ n → ⊥) t.rest
    others = all_map (λ e. Done m e.who) (λ e. e.who ≡ n → ⊥) (λ e. not_own e.who) t.rest t.all_done

    gone : without n l ≡ deeds (undone (since n 0) (m.rows r))
    gone = without_front n l (rw (own_zero h n r) at ((i.row r).mine n s f 0)) ∙ sym (strike_deeds m h i n s f 0 r)

    more : (t.rest ≡ []) ⊎ (Deleted t.rest ⊎ Has (Done m) l) → (t.rest ≡ []) ⊎ (Deleted t.rest ⊎ Has (Done m') (deeds (undone (since n 0) (m.rows r))))
    more (inl e) = inl e
    more (inr (inl e)) = inr (inl e)
    more (inr (inr a)) = inr (inr (subst (Has (Done m')) (sym (strike_deeds m h i n s f 0 r))
        (has_map (Done m) (Done m') on (drops (since n 0) l) (has_drops (Done m) (since n 0) (λ x c d. since_else n 0 x c (not_own x d)) l a))))

-- ---- a sweep

-- what lies under something committed is committed
module _ (m : Machine) where
  all_under : (e : Deed) (l : List Deed) → Closed (settled m.status) (e ∷ l) → Done m e.who → All (λ d. Done m d.who) l
  all_under e [] c d = tt
  all_under e (f ∷ l) c d = let x : Done m f.who = c.0 d in (x, all_under f l c.1 x)

  all_over : (l rest : List Deed) → Closed (settled m.status) (l ++ rest) → Has (Done m) l → All (λ d. Done m d.who) rest
  all_over [] rest c a = absurd a
  all_over (e ∷ []) rest c (inl d) = all_under e rest c d
  all_over (e ∷ []) rest c (inr a) = absurd a
  all_over (e ∷ f ∷ l) rest c (inl d) = all_over (f ∷ l) rest c.1 (inl (c.0 d))
  all_over (e ∷ f ∷ l) rest c (inr a) = all_over (f ∷ l) rest c.1 a

all_append : (P : Deed → Type 0) (l k : List Deed) → All P l → All P k → All P (l ++ k)
all_append P [] k a b = b
all_append P (e ∷ l) k a b = (a.0, all_append P l k a.1 b)

told_cut : (m : Machine) (h : History) → Inv m h → (r : ℕ) → Told m h r → Told (effect m (sweep r)) h r
told_cut m h i r t = go (deeds (m.rows r)) (deeds (swept m r)) t.is (i.row r).closed_all t.over row (cut_row m h i r)
  where
    m' : Machine
    m' = effect m (sweep r)

    row : deeds (m'.rows r) ≡ deeds (swept m r)
    row = rw (eq-eqb r r refl)

    go : (l l' : List Deed) → kept [] h r ≡ l ++ t.rest → Closed (settled m.status) l → (t.rest ≡ []) ⊎ (Deleted t.rest ⊎ Has (Done m) l)
        → deeds (m'.rows r) ≡ l' → CutOf (Old m) l l'
        → Told m' h r
    go [] l' is c o now (inl (e, f)) = absurd f
    go (d ∷ l) l' is c o now (inl (e, f)) = record {
      rest = d ∷ l ++ t.rest;
      is = is ∙ ap (λ (x : List Deed). x ++ (d ∷ l ++ t.rest)) (sym (now ∙ e));
      all_done = all_append (λ x. Done m x.who) (d ∷ l) t.rest (f.0.1, all_under m d l c f.0.1) t.all_done;
      over = inr (inl f.1);
    }
    go l l' is c o now (inr (cut, e, inl z)) = let same : l ≡ l' = rw (z, append-nil l') at e in record {
      rest = t.rest;
      is = is ∙ ap (λ (x : List Deed). x ++ t.rest) (same ∙ sym now);
      all_done = t.all_done;
      over = subst (λ (x : List Deed). (t.rest ≡ []) ⊎ (Deleted t.rest ⊎ Has (Done m) x)) (same ∙ sym now) o;
    }
    go l l' is c o now (inr (cut, e, inr a)) =
        let b : Has (Done m) l' = has_map (Old m) (Done m) (λ x g. g.1) l' a in
        record {
          rest = cut ++ t.rest;
          is = is ∙ (ap (λ (x : List Deed). x ++ t.rest) e ∙ (append_assoc l' cut t.rest ∙ ap (λ (x : List Deed). x ++ (cut ++ t.rest)) (sym now)));
          all_done = all_append (λ x. Done m x.who) cut t.rest (all_over m l' cut (subst (Closed (settled m.status)) e c) b) t.all_done;
          over = inr (inr (subst (Has (Done m)) (sym now) b));
        }

-- ---- every accepted step

-- a row that the step does not write
told_other : (m : Machine) (h h' : History) (q r : ℕ) (vs : List Version) → (eqb r q ≡ true → Told (with_row m q vs) h' r) → (eqb r q ≡ false → kept [] h' r ≡ kept [] h r)
    → Told m h r → Told (with_row m q vs) h' r
told_other m h h' q r vs own same t = go (eqb r q) refl
  where
    go : (b : Bool) → eqb r q ≡ b → Told (with_row m q vs) h' r
    go true e = own e
    go false e = told_on m (with_row m q vs) h h' r [] (λ x d. d) (same e) (rw e) t

-- insert, update and delete put one deed at the newest end
told_puts : (m : Machine) (h : History) → Inv m h → (n q : ℕ) (s : Session) → Found n m.desk s → (b : Option Body) (vs : List Version)
    → deeds vs ≡ written n s.statement b ∷ deeds (m.rows q) → (r : ℕ) → Told m h r
    → Told (with_row m q vs) (wrote n q b ∷ h) r
told_puts m h i n q s f b vs now r t = told_other m h (wrote n q b ∷ h) q r vs own (λ e. rw e) t
  where
    own : eqb r q ≡ true → Told (with_row m q vs) (wrote n q b ∷ h) r
    own e =
        told_on m (with_row m q vs) h (wrote n q b ∷ h) r (written n s.statement b ∷ []) (λ x d. d)
        (rw (e, (i.opened n s f).in_step))
        (rw e (now ∙ ap (λ (y : ℕ). written n s.statement b ∷ deeds (m.rows y)) (sym (eqb-true r q e))))
        t

told_effect : (m : Machine) (h : History) → Inv m h → (c : Step) → accept m c ≡ true → (r : ℕ) → Told m h r → Told (effect m c) (add m c h) r
told_effect m h i begin e r t = told_on m (effect m begin) h (began m.next ∷ h) r [] (λ x d. status_quiet m.status m.next InWork refl (next_off m h i) x ∙ d) refl refl t
told_effect m h i (next n) e r t = told_on m (effect m (next n)) h (moved n ∷ h) r [] (λ x d. d) refl refl t
told_effect m h i (insert n q b) e r t = go (found_of n m.desk (find n m.desk) refl (and_true_left _ _ e))
    (nil_of (m.rows q) (and_true_right (is_some (find n m.desk)) _ e))
  where
    go : (s : Session) × Found n m.desk s → m.rows q ≡ [] → Told (effect m (insert n q b)) (wrote n q (some b) ∷ h) r
    go (s, f) z = rw f (told_puts m h i n q s f (some b) (fresh n s.statement b ∷ []) (rw z) r t)
told_effect m h i (update n q b) e r t =
    let (s, f, (v, vs, x, z, c)) = inv_write m h i n q (some b) e in
    rw (f, x) (told_puts m h i n q s f (some b) (fresh n s.statement b ∷ expired n s.statement v ∷ vs) (rw x (update_deeds n s.statement b v vs z)) r t)
told_effect m h i (delete n q) e r t =
    let (s, f, (v, vs, x, z, c)) = inv_write m h i n q none e in
    rw (f, x) (told_puts m h i n q s f none (expired n s.statement v ∷ vs) (rw x (delete_deeds n s.statement (nonzero₀ m h i n s f) v vs z)) r t)
told_effect m h i (commit n) e r t =
    told_on m (leave m n Committed) h (committed n ∷ h) r [] (λ x d. done_put m.status n x ∙ (ap (λ (b : Bool). eqb x n || b) d ∙ or-true (eqb x n))) refl refl t
told_effect m h i (withdraw n) e r t = let (s, f) = found_of n m.desk (find n m.desk) refl e in told_withdraw m h i n s f r t
told_effect m h i (sweep q) e r t = told_other m h h q r (swept m q) own (λ e. refl) t
  where
    own : eqb r q ≡ true → Told (with_row m q (swept m q)) h r
    own e = subst (λ (y : ℕ). Told (effect m (sweep y)) h r) (eqb-true r q e) (told_cut m h i r t)

told : {m : Machine} {h : History} → Reach m h → (r : ℕ) → Told m h r
told start r = record { rest = []; is = refl; all_done = tt; over = inl refl }
told (after {m = m} {h = h} x c e) r = told_effect m h (reach_both x).0 c e r (told x r)

-- ---- who may write a row

-- what counts for S, by the history: what committed before S began, and what S did in an earlier statement
pub counts_is : {m : Machine} {h : History} → Reach m h → (n : ℕ) (s : Session) → Found n m.desk s → (y c : ℕ)
    → counts m.status s s.statement y c ≡ (committed_before h y n || (eqb y n && ltb c (statement_of h n)))
counts_is {m} {h} x n s f y c =
    let (i, g) = reach_both x in
    rw (g.one n s f y, find_number n m.desk s f, (i.opened n s f).in_step) (or_comm (eqb y n && ltb c (statement_of h n)) (committed_before h y n))

-- what lies newest, as the last write
module _ {m : Machine} {h : History} (x : Reach m h) (r : ℕ) where
  newest : as_deed (last_write h r) ≡ head_of (deeds (m.rows r) ++ (told x r).rest)
  newest = last_is [] h r ∙ ap head_of (told x r).is

  -- a last write that is this deed, or none
  last_deed : (o : Option Last) (d : Deed) → as_deed o ≡ some d → o ≡ some (record { who = d.who; statement = d.cmd; body = d.val })
  last_deed none d e = no_none d e
  last_deed (some w) d e =
      let y : written w.who w.statement w.body ≡ d = cc in
      ap (λ (z : Deed). some (record { who = z.who; statement = z.cmd; body = z.val })) y

  -- over a deletion nobody may write
  over_deletion : (n : ℕ) (d : Deed) → as_deed (last_write h r) ≡ some d → d.val ≡ none → may_write h n r ≡ false
  over_deletion n d e z = ap (may_follow h n) (last_deed (last_write h r) d e) ∙ rw z

  module _ (n : ℕ) (s : Session) (f : Found n m.desk s) where
    -- S MAY WRITE A ROW exactly where the history alone says so
    pub may_write_lem : writable m.status (some s) (m.rows r) ≡ may_write h n r
    may_write_lem = go (m.rows r) refl newest (told x r).over
      where
        rest : List Deed
        rest = (told x r).rest

        empty : (l : List Deed) → as_deed (last_write h r) ≡ head_of l → (l ≡ []) ⊎ (Deleted l ⊎ ⊥) → false ≡ may_write h n r
        empty [] e o = sym (ap (may_follow h n) (none_last (last_write h r) e))
          where
            none_last : (o : Option Last) → as_deed o ≡ none → o ≡ none
            none_last none e = refl
            none_last (some w) e = no_none _ (sym e)
        empty (d ∷ l) e (inl z) = let y : ◌≡◌ {A = ℕ} 0 1 = cc in absurd (omega arith)
        empty (d ∷ l) e (inr (inl z)) = sym (over_deletion n d e z)
        empty (d ∷ l) e (inr (inr z)) = absurd z

        off : (a t c : Bool) → t ≡ false → (a && (t && c)) ≡ false
        off a t c e = rw e (and-false a)

        -- a version that nobody ended is there exactly where its creator counts
        alone : (p : Bool) (b : Body) (o : Option Body) → (is_some (cond (p && true) (some b) o) && p) ≡ p
        alone true b o = refl
        alone false b o = and-false (is_some o)

        go : (vs : List Version) → m.rows r ≡ vs → as_deed (last_write h r) ≡ head_of (deeds vs ++ rest) → (rest ≡ []) ⊎ (Deleted rest ⊎ Has (Done m) (deeds vs))
            → writable m.status (some s) vs ≡ may_write h n r
        go [] e last o = empty rest last o
        go (v ∷ vs) e last o = by (eqb v.expire 0) refl
          where
            p : ℕ → ℕ → Bool
            p = counts m.status s s.statement

            by : (t : Bool) → eqb v.expire 0 ≡ t → writable m.status (some s) (v ∷ vs) ≡ may_write h n r
            by true g =
                let l : as_deed (last_write h r) ≡ some (made v) = rw g at last in
                rw g (alone (p v.create v.cmd) v.body (first_there p vs) ∙ (counts_is x n s f v.create v.cmd ∙ sym (ap (may_follow h n) (last_deed (last_write h r) (made v) l))))
            by false g =
                let l : as_deed (last_write h r) ≡ some (ended v) = rw g at last in
                off (is_some (first_there p (v ∷ vs))) (eqb v.expire 0) (p v.create v.cmd) g ∙ sym (over_deletion n (ended v) l refl)
