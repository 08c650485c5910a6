-- Begin and next statement keep the invariant. A session that begins sees exactly what is committed then; one that goes on sees
-- what it saw, and counts more of its own. Assumes nothing.
use Prim.Native.Nat.{ℕ, suc, ◌≤◌, ◌<◌}
use mathlib.Core.Path.{◌≡◌, refl, ap, sym, subst, ◌∙◌, fun_ext}
use mathlib.Core.Logic.{◌⊎◌, inl, inr}
use mathlib.Core.Bool.{Bool, true, false, cond, and-false}
use mathlib.Core.Option.{Option, none, some}
use mathlib.Core.List.{List, [], ◌∷◌, ◌++◌}
use native.Mathlib.Omega.{arith}
use lib.Dec.{eqb, ltb}
use borrow.Author.Tests.{eq-eqb, ne_eqb, le-ltb}
use Rattle.machine.specs.Table.{began, moved, History, put}
use Rattle.machine.specs.Machine.{Session, Status, InWork, Machine, is_committed, sees, counts, find, is_some, onward, move, newcomer, since, begin, next, effect}
use Rattle.machine.proofs.Basics.{true_false}
use Rattle.machine.proofs.Desks.{Found, find_number, find_append, find_move, member_numbers, sees_on, sees_off}
use Rattle.machine.proofs.Chains.{Deed, deeds, view, Closed, All, Top, all_map, closed_agree}
use Rattle.machine.proofs.Drops.{drops, all_drops}
use Rattle.machine.proofs.Folds.{own, table, at_start}
use Rattle.machine.proofs.Invariant.{settled, glimpse, Row, OpenOne, Far, Inv}
use Rattle.machine.proofs.Ends.{status_quiet, counts_status, glimpse_status, settled_status}

-- ---- begin

-- what is committed is not open
not_open : (m : Machine) (h : History) → Inv m h → (x : ℕ) → is_committed (m.status x) ≡ true → (o : Option Session)
    → find x m.desk ≡ o → is_some o ≡ false
not_open m h i x d none e = refl
not_open m h i x d (some s) e = true_false _ d (rw (i.opened x s e).working refl)

pub next_off : (m : Machine) (h : History) → Inv m h → is_committed (m.status m.next) ≡ false
next_off m h i = go (is_committed (m.status m.next)) refl
  where
    go : (b : Bool) → is_committed (m.status m.next) ≡ b → is_committed (m.status m.next) ≡ false
    go true e = absurd (omega (arith, i.dones m.next e))
    go false e = e

-- a session that begins now sees exactly what is committed
pub sees_new : (m : Machine) (h : History) → Inv m h → (x : ℕ) → sees m.status (newcomer m) x ≡ is_committed (m.status x)
sees_new m h i x = go (is_committed (m.status x)) refl
  where
    go : (b : Bool) → is_committed (m.status x) ≡ b → sees m.status (newcomer m) x ≡ is_committed (m.status x)
    go true d = sees_on m.status (newcomer m) x (λ q. omega (arith, i.dones x d)) (i.dones x d).1
        (member_numbers x m.desk ∙ not_open m h i x d (find x m.desk) refl) d ∙ sym d
    go false d = sees_off m.status (newcomer m) x d ∙ sym d

pub inv_begin : (m : Machine) (h : History) → Inv m h → Inv (effect m begin) (began m.next ∷ h)
inv_begin m h i = record {
  first = omega (arith, i.first);
  dones = λ x e. let q = i.dones x (sym (quiet x) ∙ e) in omega (arith, q);
  opened = λ n s f. opened' n s (find_append n m.desk new s f);
  apart = λ n s f n' s' f' z. apart' n s (find_append n m.desk new s f) n' s' (find_append n' m.desk new s' f') z;
  linked = i.linked;
  row = row';
}
  where
    new : Session
    new = newcomer m

    st' : ℕ → Status
    st' = put m.status m.next InWork

    quiet : (x : ℕ) → is_committed (st' x) ≡ is_committed (m.status x)
    quiet = status_quiet m.status m.next InWork refl (next_off m h i)

    old : (n : ℕ) (s : Session) → Found n m.desk s → n ≡ m.next → ⊥
    old n s f q = omega (arith, (i.opened n s f).below)

    opened' : (n : ℕ) (s : Session) → Found n m.desk s ⊎ ((n ≡ m.next) × (new ≡ s)) → OpenOne (effect m begin) (began m.next ∷ h) n s
    opened' n s (inl f) = let o = i.opened n s f in let e = ne_eqb n m.next (old n s f) in
        record { positive = o.positive; below = omega (arith, o.below); working = rw e o.working; in_step = rw e o.in_step }
    opened' n s (inr q) = let e = eq-eqb n m.next q.0 in
        record {
          positive = omega (arith, i.first, q.0);
          below = omega (arith, q.0);
          working = rw e;
          in_step = rw e
              (ap (λ (u : Session). u.statement) (sym q.1));
        }

    apart' : (n : ℕ) (s : Session) → Found n m.desk s ⊎ ((n ≡ m.next) × (new ≡ s)) → (n' : ℕ) (s' : Session)
        → Found n' m.desk s' ⊎ ((n' ≡ m.next) × (new ≡ s')) → (n ≡ n' → ⊥) → Far n s'
    apart' n s (inl f) n' s' (inl f') z = i.apart n s f n' s' f' z
    apart' n s (inl f) n' s' (inr q) z = subst (λ (u : Session). Far n u) q.1
        (rw (member_numbers n m.desk, f) (and-false (ltb n m.next)))
    apart' n s (inr q) n' s' (inl f') z = rw (le-ltb n s'.number
        (omega (arith, q.0, (i.opened n' s' f').below, find_number n' m.desk s' f'))) refl
    apart' n s (inr q) n' s' (inr q') z = absurd (z (q.0 ∙ sym q'.0))

    row' : (r : ℕ) → Row st' (m.desk ++ (new ∷ [])) (suc m.next) (began m.next ∷ h) r (deeds (m.rows r))
    row' r = record {
      bounded = all_map (λ e. e.who < m.next) (λ e. e.who < suc m.next) (λ e q. omega arith) l R.bounded;
      timely = λ n s f. timely' n s (find_append n m.desk new s f);
      seen = λ n s f. rw (glimpse_status m.status st' quiet s) (seen' n s (find_append n m.desk new s f));
      told_all = rw (settled_status m.status st' quiet) R.told_all;
      closed = λ n s f k. rw (counts_status m.status st' quiet s k) (closed' n s k (find_append n m.desk new s f));
      closed_all = rw (settled_status m.status st' quiet) R.closed_all;
      mine = λ n s f k. mine' n s k (find_append n m.desk new s f);
    }
      where
        l : List Deed
        l = deeds (m.rows r)

        R : Row m.status m.desk m.next h r l
        R = i.row r

        stranger : (n : ℕ) → n ≡ m.next → All (λ e. e.who ≡ n → ⊥) l
        stranger n q = all_map (λ e. e.who < m.next) (λ e. e.who ≡ n → ⊥) (λ e x y. omega (arith, q)) l R.bounded

        agree : (k : ℕ) → All (λ e. counts m.status new k e.who e.cmd ≡ settled m.status e.who e.cmd) l
        agree k = all_map (λ e. e.who < m.next) (λ e. counts m.status new k e.who e.cmd ≡ settled m.status e.who e.cmd)
            (λ e q. rw (ne_eqb e.who m.next (λ y. omega arith)) (sees_new m h i e.who)) l R.bounded

        timely' : (n : ℕ) (s : Session) → Found n m.desk s ⊎ ((n ≡ m.next) × (new ≡ s))
            → All (λ e. e.who ≡ n → e.cmd ≤ s.statement) l
        timely' n s (inl f) = R.timely n s f
        timely' n s (inr q) = all_map (λ e. e.who ≡ n → ⊥) (λ e. e.who ≡ n → e.cmd ≤ s.statement) (λ e z y. absurd (z y)) l
            (stranger n q.0)

        seen' : (n : ℕ) (s : Session) → Found n m.desk s ⊎ ((n ≡ m.next) × (new ≡ s))
            → view (glimpse m.status s) l ≡ at_start (began m.next ∷ h) n r
        seen' n s (inl f) = rw (ne_eqb n m.next (old n s f)) (R.seen n s f)
        seen' n s (inr q) = rw (eq-eqb n m.next q.0) (subst (λ (u : Session). view (glimpse m.status u) l ≡ table h r) q.1
            (ap (λ (p : ℕ → ℕ → Bool). view p l) same ∙ R.told_all))
          where
            same : glimpse m.status (newcomer m) ≡ settled m.status
            same = fun_ext (λ x. fun_ext (λ c. sees_new m h i x))

        closed' : (n : ℕ) (s : Session) (k : ℕ) → Found n m.desk s ⊎ ((n ≡ m.next) × (new ≡ s)) → Closed (counts m.status s k) l
        closed' n s k (inl f) = R.closed n s f k
        closed' n s k (inr q) = subst (λ (u : Session). Closed (counts m.status u k) l) q.1
            (closed_agree (counts m.status new k) (settled m.status) l (agree k) R.closed_all)

        mine' : (n : ℕ) (s : Session) (k : ℕ) → Found n m.desk s ⊎ ((n ≡ m.next) × (new ≡ s))
            → Top n (own (began m.next ∷ h) n r k) (drops (since n k) l)
        mine' n s k (inl f) = rw (ne_eqb n m.next (old n s f)) (R.mine n s f k)
        mine' n s k (inr q) = rw (eq-eqb n m.next q.0) (all_drops (λ e. e.who ≡ n → ⊥) (since n k) l (stranger n q.0))

-- ---- next statement

module _ (m : Machine) (h : History) (i : Inv m h) (n₀ : ℕ) where
  -- session n after n₀ went on, and before
  record Went (n : ℕ) (s : Session) : Type 0 where
    past : Session
    there : Found n m.desk past
    same_counts : (k : ℕ) → counts m.status s k ≡ counts m.status past k
    same_glimpse : glimpse m.status s ≡ glimpse m.status past
    same_far : (x : ℕ) → Far x past → Far x s
    counted : s.statement ≡ cond (eqb n n₀) (suc past.statement) past.statement
    grows : past.statement ≤ s.statement

  went : (n : ℕ) (s : Session) → Found n (move n₀ m.desk) s → Went n s
  went n s f = let (t, g, e) = find_move n n₀ m.desk s f in go t g (eqb n n₀) refl e
    where
      go : (t : Session) → Found n m.desk t → (b : Bool) → eqb n n₀ ≡ b → s ≡ cond (eqb n n₀) (onward t) t → Went n s
      go t g true eb e =
          let q : s ≡ onward t = rw eb at e in
          record {
            past = t;
            there = g;
            same_counts = λ k. ap (λ (u : Session). counts m.status u k) q;
            same_glimpse = ap (λ (u : Session). glimpse m.status u) q;
            same_far = λ x y. subst (λ (u : Session). Far x u) (sym q) y;
            counted = rw eb (ap (λ (u : Session). u.statement) q);
            grows = omega (arith, ap (λ (u : Session). u.statement) q);
          }
      go t g false eb e =
          let q : s ≡ t = rw eb at e in
          record {
            past = t;
            there = g;
            same_counts = λ k. ap (λ (u : Session). counts m.status u k) q;
            same_glimpse = ap (λ (u : Session). glimpse m.status u) q;
            same_far = λ x y. subst (λ (u : Session). Far x u) (sym q) y;
            counted = rw eb (ap (λ (u : Session). u.statement) q);
            grows = omega (arith, ap (λ (u : Session). u.statement) q);
          }

  -- who is open afterwards was open, and sees the same
  pub went_sees : (n : ℕ) (s : Session) → Found n (move n₀ m.desk) s
      → (t : Session) × Found n m.desk t × ((x : ℕ) → sees m.status s x ≡ sees m.status t x)
  went_sees n s f = let w = went n s f in (w.past, w.there, λ x. ap (λ (p : ℕ → ℕ → Bool). p x 0) w.same_glimpse)

  pub inv_next : Inv (effect m (next n₀)) (moved n₀ ∷ h)
  inv_next = record {
    first = i.first;
    dones = i.dones;
    opened = λ n s f. let w = went n s f in let o = i.opened n w.past w.there in
        record {
          positive = o.positive;
          below = o.below;
          working = o.working;
          in_step = w.counted ∙ ap (λ (x : ℕ). cond (eqb n n₀) (suc x) x) o.in_step;
        };
    apart = λ n s f n' s' f' z. let w = went n s f in let w' = went n' s' f' in w'.same_far n
        (i.apart n w.past w.there n' w'.past w'.there z);
    linked = i.linked;
    row = λ r. row' r (deeds (m.rows r)) (i.row r);
  }
    where
      row' : (r : ℕ) (l : List Deed) → Row m.status m.desk m.next h r l
          → Row m.status (move n₀ m.desk) m.next (moved n₀ ∷ h) r l
      row' r l R = record {
        bounded = R.bounded;
        timely = λ n s f. let w = went n s f in
            all_map (λ e. e.who ≡ n → e.cmd ≤ w.past.statement) (λ e. e.who ≡ n → e.cmd ≤ s.statement)
            (λ e y q. omega (arith, y q, w.grows)) l (R.timely n w.past w.there);
        seen = λ n s f. let w = went n s f in ap (λ (p : ℕ → ℕ → Bool). view p l) w.same_glimpse ∙ R.seen n w.past w.there;
        told_all = R.told_all;
        closed = λ n s f k. let w = went n s f in subst (λ (p : ℕ → ℕ → Bool). Closed p l) (sym (w.same_counts k))
            (R.closed n w.past w.there k);
        closed_all = R.closed_all;
        mine = λ n s f k. let w = went n s f in R.mine n w.past w.there k;
      }
