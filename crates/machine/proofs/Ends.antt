-- Commit and withdraw keep the invariant. A commit changes nobody's sight, because whoever is open is above the session or has it
-- in its list; a withdrawal drops deeds that nobody else counts. Assumes nothing.
use Prim.Native.Nat.{ℕ, suc, ◌≤◌, ◌<◌}
use mathlib.Core.Path.{◌≡◌, refl, ap, sym, subst, ◌∙◌, fun_ext}
use mathlib.Core.Bool.{Bool, true, false, ◌&&◌, ◌||◌, or-true}
use mathlib.Core.Option.{Option, none, some, get_or}
use mathlib.Core.List.{List, [], ◌∷◌}
use native.Mathlib.Omega.{arith}
use lib.Dec.{eqb, ltb}
use borrow.Author.Tests.{eqb-true, eqb-false, eq-eqb, ne_eqb, lt-ltb}
use Rattle.machine.specs.Table.{Body, committed, withdrew, History, statement_of, put}
use Rattle.machine.specs.Machine.{Session, Status, Committed, Withdrawn, Machine, is_committed, sees, counts, close, undone, since, strike, leave}
use Rattle.machine.proofs.Basics.{true_false}
use Rattle.machine.proofs.Desks.{Found, find_number, find_close, sees_off, sees_far, sees_done}
use Rattle.machine.proofs.Chains.{Deed, deeds, view, view_hit, view_agree, Closed, All, Top, all_map}
use Rattle.machine.proofs.Drops.{drops, drops_stay, Stops, Safe, all_drops, closed_drops, view_drops, linked_undone, undone_deeds}
use Rattle.machine.proofs.Folds.{own}
use Rattle.machine.proofs.Invariant.{settled, glimpse, Row, Far, Inv, counts_own, since_true, since_else, since_early, since_false, since_off}
use Rattle.machine.proofs.Writes.{off₀, num₀, nonzero₀}

-- ---- statuses that change nothing that is committed

pub counts_status : (st st' : ℕ → Status) → ((x : ℕ) → is_committed (st' x) ≡ is_committed (st x)) → (s : Session) (k : ℕ)
    → counts st' s k ≡ counts st s k
counts_status st st' e s k = fun_ext (λ x. fun_ext (λ c. rw (e x) refl))

pub glimpse_status : (st st' : ℕ → Status) → ((x : ℕ) → is_committed (st' x) ≡ is_committed (st x)) → (s : Session)
    → glimpse st' s ≡ glimpse st s
glimpse_status st st' e s = fun_ext (λ x. fun_ext (λ c. rw (e x) refl))

pub settled_status : (st st' : ℕ → Status) → ((x : ℕ) → is_committed (st' x) ≡ is_committed (st x)) → settled st' ≡ settled st
settled_status st st' e = fun_ext (λ x. fun_ext (λ c. e x))

pub status_quiet : (st : ℕ → Status) (n : ℕ) (a : Status) → is_committed a ≡ false → is_committed (st n) ≡ false → (x : ℕ)
    → is_committed (put st n a x) ≡ is_committed (st x)
status_quiet st n a ea en x = go (eqb x n) refl
  where
    go : (t : Bool) → eqb x n ≡ t → is_committed (put st n a x) ≡ is_committed (st x)
    go true e = rw (e, eqb-true x n e) (ea ∙ sym en)
    go false e = rw e

-- ---- a status that becomes committed

pub done_put : (st : ℕ → Status) (n x : ℕ) → is_committed (put st n Committed x) ≡ (eqb x n || is_committed (st x))
done_put st n x = go (eqb x n) refl
  where
    go : (t : Bool) → eqb x n ≡ t → is_committed (put st n Committed x) ≡ (eqb x n || is_committed (st x))
    go true e = rw e
    go false e = rw e

pub sees_commit : (st : ℕ → Status) (n : ℕ) (s : Session) → Far n s → (x : ℕ) → sees (put st n Committed) s x ≡ sees st s x
sees_commit st n s far x = go (eqb x n) refl
  where
    go : (t : Bool) → eqb x n ≡ t → sees (put st n Committed) s x ≡ sees st s x
    go true e =
        let q : Far x s = subst (λ (y : ℕ). Far y s) (sym (eqb-true x n e)) far in
        sees_far (put st n Committed) s x q ∙ sym (sees_far st s x q)
    go false e = rw e

counts_commit : (st : ℕ → Status) (n : ℕ) (s : Session) → Far n s → (k : ℕ) → counts (put st n Committed) s k ≡ counts st s k
counts_commit st n s far k = fun_ext (λ x. fun_ext (λ c. ap (λ (b : Bool). (eqb x s.number && ltb c k) || b) (sees_commit st n s far x)))

glimpse_commit : (st : ℕ → Status) (n : ℕ) (s : Session) → Far n s → glimpse (put st n Committed) s ≡ glimpse st s
glimpse_commit st n s far = fun_ext (λ x. fun_ext (λ c. sees_commit st n s far x))

commit_view : (st : ℕ → Status) (n : ℕ) (o : Option (Option Body)) (l : List Deed) → Top n o l
    → view (settled (put st n Committed)) l ≡ get_or o (view (settled st) l)
commit_view st n none l a = view_agree (settled (put st n Committed)) (settled st) l
    (all_map (λ e. e.who ≡ n → ⊥) (λ e. is_committed (put st n Committed e.who) ≡ is_committed (st e.who))
    (λ e z. rw (ne_eqb e.who n z)) l a)
commit_view st n (some b) [] a = absurd a
commit_view st n (some b) (e ∷ l) a = view_hit (settled (put st n Committed)) e l (rw (eq-eqb e.who n a.0)) ∙ a.1

commit_closed : (st : ℕ → Status) (n : ℕ) (s : Session) → s.number ≡ n → (l : List Deed) → ((k : ℕ) → Closed (counts st s k) l)
    → Closed (settled st) l → Closed (settled (put st n Committed)) l
commit_closed st n s q [] c d = tt
commit_closed st n s q (e ∷ []) c d = tt
commit_closed st n s q (e ∷ f ∷ l) c d = ((λ x. step' (eqb e.who n) refl x), commit_closed st n s q (f ∷ l) (λ k. (c k).1) d.1)
  where
    pass : (k : ℕ) → counts st s k f.who f.cmd ≡ true → is_committed (put st n Committed f.who) ≡ true
    pass k x = go (eqb f.who n) refl
      where
        go : (t : Bool) → eqb f.who n ≡ t → is_committed (put st n Committed f.who) ≡ true
        go true g = rw g
        go false g = rw g (sees_done st s f.who (rw (ne_eqb f.who s.number (λ y. eqb-false f.who n g (y ∙ q))) at x))

    step' : (t : Bool) → eqb e.who n ≡ t → is_committed (put st n Committed e.who) ≡ true
        → is_committed (put st n Committed f.who) ≡ true
    step' true g x = pass (suc e.cmd) ((c (suc e.cmd)).0
        (rw (eq-eqb e.who s.number (eqb-true e.who n g ∙ sym q), lt-ltb e.cmd (suc e.cmd) (omega arith))))
    step' false g x = done_put st n f.who ∙ (ap (λ (b : Bool). eqb f.who n || b) (d.0 (rw g at x)) ∙ or-true (eqb f.who n))

-- ---- the two calls

module _ (m : Machine) (h : History) (i : Inv m h) (n₀ : ℕ) (s₀ : Session) (f₀ : Found n₀ m.desk s₀) where
  others : (n : ℕ) (s : Session) → Found n (close n₀ m.desk) s → (n ≡ n₀ → ⊥) × Found n m.desk s
  others n s f = find_close n n₀ m.desk s f

  -- all that n₀ did: its newest deed in the row is its last write
  abbrev K : ℕ
  K = suc (statement_of h n₀)

  stays : (l : List Deed) → All (λ e. e.who ≡ n₀ → e.cmd ≤ s₀.statement) l → Stops (since n₀ K) l
  stays [] a = tt
  stays (e ∷ l) a = go (eqb e.who n₀) refl
    where
      go : (b : Bool) → eqb e.who n₀ ≡ b → since n₀ K e.who e.cmd ≡ false
      go true g = since_early n₀ K e.who e.cmd (omega (arith, a.0 (eqb-true e.who n₀ g), (i.opened n₀ s₀ f₀).in_step))
      go false g = since_else n₀ K e.who e.cmd (eqb-false e.who n₀ g)

  pub mine_all : (r : ℕ) → Top n₀ (own h n₀ r K) (deeds (m.rows r))
  mine_all r = let R = i.row r in rw (drops_stay (since n₀ K) (deeds (m.rows r))
      (stays (deeds (m.rows r)) (R.timely n₀ s₀ f₀))) at (R.mine n₀ s₀ f₀ K)

  pub inv_commit : Inv (leave m n₀ Committed) (committed n₀ ∷ h)
  inv_commit = record {
    first = i.first;
    dones = λ x e. dones' x (eqb x n₀) refl e;
    opened = λ n s f. let (z, g) = others n s f in let o = i.opened n s g in
        record { positive = o.positive; below = o.below; working = rw (ne_eqb n n₀ z) o.working; in_step = o.in_step };
    apart = λ n s f n' s' f' z. i.apart n s (others n s f).1 n' s' (others n' s' f').1 z;
    linked = i.linked;
    row = row';
  }
    where
      dones' : (x : ℕ) (t : Bool) → eqb x n₀ ≡ t → is_committed (put m.status n₀ Committed x) ≡ true → (0 < x) × (x < m.next)
      dones' x true e q = rw (eqb-true x n₀ e) ((i.opened n₀ s₀ f₀).positive, (i.opened n₀ s₀ f₀).below)
      dones' x false e q = i.dones x (rw e at q)

      far : (n : ℕ) (s : Session) → Found n (close n₀ m.desk) s → Far n₀ s
      far n s f = let (z, g) = others n s f in i.apart n₀ s₀ f₀ n s g (λ q. z (sym q))

      row' : (r : ℕ) → Row (put m.status n₀ Committed) (close n₀ m.desk) m.next (committed n₀ ∷ h) r (deeds (m.rows r))
      row' r = let R = i.row r in record {
        bounded = R.bounded;
        timely = λ n s f. R.timely n s (others n s f).1;
        seen = λ n s f. rw (glimpse_commit m.status n₀ s (far n s f)) (R.seen n s (others n s f).1);
        told_all = commit_view m.status n₀ (own h n₀ r K) (deeds (m.rows r)) (mine_all r)
            ∙ ap (λ (x : Option Body). get_or (own h n₀ r K) x) R.told_all;
        closed = λ n s f k. rw (counts_commit m.status n₀ s (far n s f) k) (R.closed n s (others n s f).1 k);
        closed_all = commit_closed m.status n₀ s₀ (find_number n₀ m.desk s₀ f₀) (deeds (m.rows r)) (λ k. R.closed n₀ s₀ f₀ k)
            R.closed_all;
        mine = λ n s f k. R.mine n s (others n s f).1 k;
      }

  -- what is undone from statement j on is a front of the deeds
  module _ (j : ℕ) where
    safe₀ : (l : List Deed) (o : Option (Option Body)) → Closed (counts m.status s₀ j) l → Top n₀ o (drops (since n₀ j) l)
        → Safe (since n₀ j) l
    safe₀ [] o c t = tt
    safe₀ (e ∷ []) o c t = tt
    safe₀ (e ∷ f ∷ l) o c t = λ g. go o g (rw g at t)
      where
        off_if : counts m.status s₀ j f.who f.cmd ≡ true → (b : Bool) → since n₀ j f.who f.cmd ≡ b
            → since n₀ j f.who f.cmd ≡ false
        off_if y true q = true_false _ y (since_off m.status s₀ n₀ j f.who f.cmd (num₀ m h i n₀ s₀ f₀) (off₀ m h i n₀ s₀ f₀) q)
        off_if y false q = q

        go : (o : Option (Option Body)) → since n₀ j e.who e.cmd ≡ false → Top n₀ o (e ∷ f ∷ l) → since n₀ j f.who f.cmd ≡ false
        go none g t = since_else n₀ j f.who f.cmd t.1.0
        go (some b) g t = off_if (c.0 (subst (λ (y : ℕ). counts m.status s₀ j y e.cmd ≡ true) (sym t.0)
            (counts_own m.status s₀ n₀ j e.cmd (num₀ m h i n₀ s₀ f₀) (off₀ m h i n₀ s₀ f₀) ∙ lt-ltb e.cmd j
            (since_false n₀ j e.who e.cmd g t.0)))) (since n₀ j f.who f.cmd) refl

    pub strike_deeds : (r : ℕ) → deeds (undone (since n₀ j) (m.rows r)) ≡ drops (since n₀ j) (deeds (m.rows r))
    strike_deeds r = undone_deeds (since n₀ j) (λ c. since_else n₀ j 0 c (λ q. nonzero₀ m h i n₀ s₀ f₀ (sym q))) (m.rows r)
        (safe₀ (deeds (m.rows r)) (own h n₀ r j) ((i.row r).closed n₀ s₀ f₀ j) ((i.row r).mine n₀ s₀ f₀ j))

  pub inv_withdraw : Inv (leave (strike m n₀ 0) n₀ Withdrawn) (withdrew n₀ ∷ h)
  inv_withdraw = record {
    first = i.first;
    dones = λ x e. i.dones x (sym (quiet x) ∙ e);
    opened = λ n s f. let (z, g) = others n s f in let o = i.opened n s g in
        record { positive = o.positive; below = o.below; working = rw (ne_eqb n n₀ z) o.working; in_step = o.in_step };
    apart = λ n s f n' s' f' z. i.apart n s (others n s f).1 n' s' (others n' s' f').1 z;
    linked = λ r. linked_undone (since n₀ 0) (m.rows r) (i.linked r);
    row = λ r. rw (strike_deeds 0 r) (row' r (deeds (m.rows r)) (i.row r));
  }
    where
      st' : ℕ → Status
      st' = put m.status n₀ Withdrawn

      off : is_committed (m.status n₀) ≡ false
      off = off₀ m h i n₀ s₀ f₀

      quiet : (x : ℕ) → is_committed (st' x) ≡ is_committed (m.status x)
      quiet = status_quiet m.status n₀ Withdrawn refl off

      -- another session's newest deed stays the newest of its own
      other : (n k : ℕ) → (n ≡ n₀ → ⊥) → (o : Option (Option Body)) (l : List Deed) → Top n o (drops (since n k) l)
          → Top n o (drops (since n k) (drops (since n₀ 0) l))
      other n k z o [] t = t
      other n k z o (e ∷ l) t = go (eqb e.who n) refl
        where
          free : (o : Option (Option Body)) → (e.who ≡ n → ⊥) → Top n o (e ∷ l) → Top n o (drops (since n k) (drops (since n₀ 0) (e ∷ l)))
          free none y t = all_drops (λ x. x.who ≡ n → ⊥) (since n k) (drops (since n₀ 0) (e ∷ l))
              (all_drops (λ x. x.who ≡ n → ⊥) (since n₀ 0) (e ∷ l) t)
          free (some b) y t = absurd (y t.0)

          go : (b : Bool) → eqb e.who n ≡ b → Top n o (drops (since n k) (drops (since n₀ 0) (e ∷ l)))
          go true g = rw (drops_stay (since n₀ 0) (e ∷ l) (since_else n₀ 0 e.who e.cmd (λ q. z (sym (eqb-true e.who n g) ∙ q)))) t
          go false g = let y = eqb-false e.who n g in free o y (rw (since_else n k e.who e.cmd y) at t)

      row' : (r : ℕ) (l : List Deed) → Row m.status m.desk m.next h r l
          → Row st' (close n₀ m.desk) m.next (withdrew n₀ ∷ h) r (drops (since n₀ 0) l)
      row' r l R = record {
        bounded = all_drops (λ e. e.who < m.next) (since n₀ 0) l R.bounded;
        timely = λ n s f. all_drops (λ e. e.who ≡ n → e.cmd ≤ s.statement) (since n₀ 0) l (R.timely n s (others n s f).1);
        seen = λ n s f. rw (glimpse_status m.status st' quiet s)
            (view_drops (glimpse m.status s) (since n₀ 0)
            (λ x c q. rw (since_true n₀ 0 x c q).0 (sees_off m.status s n₀ off)) l ∙ R.seen n s (others n s f).1);
        told_all = rw (settled_status m.status st' quiet)
            (view_drops (settled m.status) (since n₀ 0) (λ x c q. rw (since_true n₀ 0 x c q).0 off) l ∙ R.told_all);
        closed = λ n s f k. rw (counts_status m.status st' quiet s k)
            (closed_drops (counts m.status s k) (since n₀ 0) l (R.closed n s (others n s f).1 k));
        closed_all = rw (settled_status m.status st' quiet) (closed_drops (settled m.status) (since n₀ 0) l R.closed_all);
        mine = λ n s f k. other n k (others n s f).0 (own h n r k) l (R.mine n s (others n s f).1 k);
      }
