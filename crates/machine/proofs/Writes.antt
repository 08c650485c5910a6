-- Insert, update and delete keep the invariant: each puts one deed of an open session in front of a row that it may write. Assumes
-- nothing.
use Prim.Native.Nat.{ℕ}
use mathlib.Core.Path.{◌≡◌, refl, ap, sym, subst, ◌∙◌}
use mathlib.Core.Bool.{Bool, true, false, and-false}
use mathlib.Core.Option.{Option, none, some}
use mathlib.Core.List.{List, [], ◌∷◌}
use native.Mathlib.Omega.{arith}
use lib.Dec.{eqb, ltb}
use borrow.Author.Tests.{eqb-true, eqb-false, eq-eqb, ne_eqb, ltb-true, ltb-false}
use Rattle.ground.proofs.Ranges.{and_true_left, and_true_right}
use Rattle.machine.specs.Table.{Body, wrote, History, statement_of, put}
use Rattle.machine.specs.Machine.{Version, Session, Machine, is_committed, counts, first_there, find, is_some, is_nil, fresh, expired, since, writable, with_row, insert, update, delete, accept, effect}
use Rattle.machine.proofs.Basics.{true_false}
use Rattle.machine.proofs.Desks.{Found, found_of, find_number, same_found, sees_off}
use Rattle.machine.proofs.Chains.{Deed, deeds, view_skip, Closed, Linked, Top, written, update_deeds, delete_deeds, update_linked, linked_clear}
use Rattle.machine.proofs.Drops.{drops}
use Rattle.machine.proofs.Folds.{own}
use Rattle.machine.proofs.Invariant.{settled, glimpse, Row, Inv, counts_own, counts_other, counts_mono, since_yes, since_else, since_early}

-- the first deed of the list, if any, counts
abbrev pub Fits : (ℕ → ℕ → Bool) → List Deed → Type 0
Fits p [] = Unit {0}
Fits p (e ∷ l) = p e.who e.cmd ≡ true

module _ (m : Machine) (h : History) (i : Inv m h) (n₀ : ℕ) (s₀ : Session) (f₀ : Found n₀ m.desk s₀) where
  pub off₀ : is_committed (m.status n₀) ≡ false
  off₀ = rw (i.opened n₀ s₀ f₀).working refl

  pub num₀ : s₀.number ≡ n₀
  num₀ = find_number n₀ m.desk s₀ f₀

  pub nonzero₀ : n₀ ≡ 0 → ⊥
  nonzero₀ q = omega (arith, (i.opened n₀ s₀ f₀).positive)

  pub same₀ : (n : ℕ) (s : Session) → Found n m.desk s → eqb n n₀ ≡ true → s ≡ s₀
  same₀ n s f e = same_found n₀ m.desk s s₀ (subst (λ (x : ℕ). Found x m.desk s) (eqb-true n n₀ e) f) f₀

  pub other₀ : (n : ℕ) (s : Session) → Found n m.desk s → eqb n n₀ ≡ false → (k c : ℕ) → counts m.status s k n₀ c ≡ false
  other₀ n s f e k c = counts_other m.status s n₀ k c (λ q. eqb-false n n₀ e (sym (find_number n m.desk s f) ∙ sym q)) off₀

  pub stmt₀ : (n : ℕ) (s : Session) → Found n m.desk s → eqb n n₀ ≡ true → statement_of h n ≡ s₀.statement
  stmt₀ n s f e = sym (i.opened n s f).in_step ∙ ap (λ (x : Session). x.statement) (same₀ n s f e)

  module _ (r : ℕ) (b : Option Body) where
    write_row : (l : List Deed) → Fits (counts m.status s₀ s₀.statement) l → Row m.status m.desk m.next h r l
        → Row m.status m.desk m.next (wrote n₀ r b ∷ h) r (written n₀ s₀.statement b ∷ l)
    write_row l fits R = record {
      bounded = ((i.opened n₀ s₀ f₀).below, R.bounded);
      timely = λ n s f. ((λ q. omega (arith, ap (λ (x : Session). x.statement) (same₀ n s f (eq-eqb n n₀ (sym q))))), R.timely n s f);
      seen = λ n s f. view_skip (glimpse m.status s) (written n₀ s₀.statement b) l (sees_off m.status s n₀ off₀) ∙ R.seen n s f;
      told_all = view_skip (settled m.status) (written n₀ s₀.statement b) l off₀ ∙ R.told_all;
      closed = λ n s f k. closed' n s f k (eqb n n₀) refl l fits (R.closed n s f k);
      closed_all = closed_all' l R.closed_all;
      mine = λ n s f k. mine' n s f k (eqb n n₀) refl (ltb s₀.statement k) refl;
    }
      where
        mine₀ : (n : ℕ) (s : Session) → Found n m.desk s → eqb n n₀ ≡ true → (k : ℕ)
            → counts m.status s k n₀ s₀.statement ≡ ltb s₀.statement k
        mine₀ n s f e k = counts_own m.status s n₀ k s₀.statement (find_number n m.desk s f ∙ eqb-true n n₀ e) off₀

        closed' : (n : ℕ) (s : Session) → Found n m.desk s → (k : ℕ) (t : Bool) → eqb n n₀ ≡ t → (l : List Deed)
            → Fits (counts m.status s₀ s₀.statement) l
            → Closed (counts m.status s k) l → Closed (counts m.status s k) (written n₀ s₀.statement b ∷ l)
        closed' n s f k t e [] fits c = tt
        closed' n s f k true e (x ∷ l) fits c = (
          (λ q. subst (λ (u : Session). counts m.status u k x.who x.cmd ≡ true) (sym (same₀ n s f e))
              (counts_mono m.status s₀ s₀.statement k x.who x.cmd
              (omega (arith, ltb-true s₀.statement k (sym (mine₀ n s f e k) ∙ q))) fits)),
          c,
        )
        closed' n s f k false e (x ∷ l) fits c = ((λ q. true_false _ q (other₀ n s f e k s₀.statement)), c)

        closed_all' : (l : List Deed) → Closed (settled m.status) l → Closed (settled m.status) (written n₀ s₀.statement b ∷ l)
        closed_all' [] c = tt
        closed_all' (e ∷ l) c = ((λ q. true_false (is_committed (m.status n₀)) q off₀), c)

        -- another open session has no write on a row that n₀ may write
        top' : (n : ℕ) (s : Session) → Found n m.desk s → (n₀ ≡ n → ⊥) → (k : ℕ) (o : Option (Option Body)) (l : List Deed)
            → Fits (counts m.status s₀ s₀.statement) l → Top n o (drops (since n k) l)
            → Top n o (written n₀ s₀.statement b ∷ l)
        top' n s f z k none [] fits a = (z, tt)
        top' n s f z k (some v) [] fits a = absurd a
        top' n s f z k o (x ∷ l) fits a = go o (rw (since_else n k x.who x.cmd notn) at a)
          where
            notn : x.who ≡ n → ⊥
            notn q = true_false _ fits (counts_other m.status s₀ x.who s₀.statement x.cmd
                (λ y. z (sym num₀ ∙ (sym y ∙ q))) (rw (q, (i.opened n s f).working) refl))

            go : (o : Option (Option Body)) → Top n o (x ∷ l) → Top n o (written n₀ s₀.statement b ∷ x ∷ l)
            go none a = (z, a)
            go (some v) a = absurd (notn a.0)

        mine' : (n : ℕ) (s : Session) → Found n m.desk s → (k : ℕ) → (t : Bool) → eqb n n₀ ≡ t → (u : Bool)
            → ltb s₀.statement k ≡ u → Top n (own (wrote n₀ r b ∷ h) n r k) (drops (since n k) (written n₀ s₀.statement b ∷ l))
        mine' n s f k true e true g =
            rw (e, eq-eqb r r refl, stmt₀ n s f e, g, since_early n k n₀ s₀.statement (ltb-true s₀.statement k g))
            (sym (eqb-true n n₀ e), refl)
        mine' n s f k true e false g =
            rw (
              e,
              eq-eqb r r refl,
              stmt₀ n s f e,
              g,
              since_yes n k n₀ s₀.statement (sym (eqb-true n n₀ e))
                  (ltb-false s₀.statement k g),
            ) (R.mine n s f k)
        mine' n s f k false e u g =
            rw (e, since_else n k n₀ s₀.statement (λ z. eqb-false n n₀ e (sym z)))
            (top' n s f (λ z. eqb-false n n₀ e (sym z)) k (own h n r k) l fits (R.mine n s f k))

    -- another row
    own_else : (q n k : ℕ) → (q ≡ r → ⊥) → own (wrote n₀ r b ∷ h) n q k ≡ own h n q k
    own_else q n k z = rw (ne_eqb q r z, and-false (eqb n n₀)) refl

    write_else : (q : ℕ) → (q ≡ r → ⊥) → (l : List Deed) → Row m.status m.desk m.next h q l
        → Row m.status m.desk m.next (wrote n₀ r b ∷ h) q l
    write_else q z l R = record {
      bounded = R.bounded;
      timely = R.timely;
      seen = R.seen;
      told_all = R.told_all;
      closed = R.closed;
      closed_all = R.closed_all;
      mine = λ n s f k. rw (own_else q n k z) (R.mine n s f k);
    }

    write_inv : (vs : List Version) → Linked vs → deeds vs ≡ written n₀ s₀.statement b ∷ deeds (m.rows r)
        → Fits (counts m.status s₀ s₀.statement) (deeds (m.rows r))
        → Inv (with_row m r vs) (wrote n₀ r b ∷ h)
    write_inv vs k w fits = record {
      first = i.first;
      dones = i.dones;
      opened = λ n s f. let o = i.opened n s f in record {
        positive = o.positive;
        below = o.below;
        working = o.working;
        in_step =
            o.in_step;
      };
      apart = i.apart;
      linked = λ q. linked' q (eqb q r) refl;
      row = λ q. row' q (eqb q r) refl;
    }
      where
        linked' : (q : ℕ) (t : Bool) → eqb q r ≡ t → Linked (put m.rows r vs q)
        linked' q true e = rw e k
        linked' q false e = rw e (i.linked q)

        row' : (q : ℕ) (t : Bool) → eqb q r ≡ t → Row m.status m.desk m.next (wrote n₀ r b ∷ h) q (deeds (put m.rows r vs q))
        row' q true e = rw (e, eqb-true q r e, w) (write_row (deeds (m.rows r)) fits (i.row r))
        row' q false e = rw e (write_else q (eqb-false q r e) (deeds (m.rows q)) (i.row q))

-- ---- the three calls

pub inv_insert : (m : Machine) (h : History) → Inv m h → (n r : ℕ) (b : Body) → accept m (insert n r b) ≡ true
    → Inv (effect m (insert n r b)) (wrote n r (some b) ∷ h)
inv_insert m h i n r b e = go (found_of n m.desk (find n m.desk) refl (and_true_left _ _ e)) (m.rows r) refl
    (and_true_right (is_some (find n m.desk)) _ e)
  where
    go : (s : Session) × Found n m.desk s → (vs : List Version) → m.rows r ≡ vs → is_nil (m.rows r) ≡ true
        → Inv (effect m (insert n r b)) (wrote n r (some b) ∷ h)
    go (s, f) [] q t = rw f (write_inv m h i n s f r (some b) (fresh n s.statement b ∷ []) tt (rw q) (rw q tt))
    go (s, f) (v ∷ vs) q t = true_false _ t (rw q)

pub inv_write : (m : Machine) (h : History) → Inv m h → (n r : ℕ) (b : Option Body)
    → writable m.status (find n m.desk) (m.rows r) ≡ true
    → (s : Session) × Found n m.desk s × ((v : Version) × (vs : List Version) × (m.rows r ≡ v ∷ vs) × (eqb v.expire 0 ≡ true) ×
    (counts m.status s s.statement v.create v.cmd ≡ true))
inv_write m h i n r b e = go (find n m.desk) refl (m.rows r) refl e
  where
    go : (o : Option Session) → find n m.desk ≡ o → (vs : List Version) → m.rows r ≡ vs → writable m.status o vs ≡ true
        → (s : Session) × Found n m.desk s × ((v : Version) × (vs : List Version) × (m.rows r ≡ v ∷ vs) ×
        (eqb v.expire 0 ≡ true) × (counts m.status s s.statement v.create v.cmd ≡ true))
    go none f vs q e = true_false true refl (sym e)
    go (some s) f [] q e = true_false true refl (sym e)
    go (some s) f (v ∷ vs) q e =
        let x = and_true_right (is_some (first_there (counts m.status s s.statement) (v ∷ vs))) _ e in
        (s, f, (v, vs, q, and_true_left _ _ x, and_true_right (eqb v.expire 0) _ x))

pub fits_of : (p : ℕ → ℕ → Bool) (v : Version) (vs : List Version) → eqb v.expire 0 ≡ true → p v.create v.cmd ≡ true
    → Fits p (deeds (v ∷ vs))
fits_of p v vs e c = rw e c

pub inv_update : (m : Machine) (h : History) → Inv m h → (n r : ℕ) (b : Body) → accept m (update n r b) ≡ true
    → Inv (effect m (update n r b)) (wrote n r (some b) ∷ h)
inv_update m h i n r b e =
    let (s, f, (v, vs, q, z, c)) = inv_write m h i n r (some b) e in
    rw (f, q) (write_inv m h i n s f r (some b) (fresh n s.statement b ∷ expired n s.statement v ∷ vs)
    (update_linked n s.statement b v vs (rw q at (i.linked r)))
    (rw q (update_deeds n s.statement b v vs z))
    (rw q (fits_of (counts m.status s s.statement) v vs z c)))

pub inv_delete : (m : Machine) (h : History) → Inv m h → (n r : ℕ) → accept m (delete n r) ≡ true
    → Inv (effect m (delete n r)) (wrote n r none ∷ h)
inv_delete m h i n r e =
    let (s, f, (v, vs, q, z, c)) = inv_write m h i n r none e in
    rw (f, q) (write_inv m h i n s f r none (expired n s.statement v ∷ vs)
    (linked_clear n s.statement v vs (rw q at (i.linked r)))
    (rw q (delete_deeds n s.statement (λ x. omega (arith, (i.opened n s f).positive)) v vs z))
    (rw q (fits_of (counts m.status s s.statement) v vs z c)))
