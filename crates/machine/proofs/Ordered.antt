-- That who wrote a row and committed did so in the order of their numbers is kept by every accepted step. Assumes nothing.
use Prim.Native.Nat.{ℕ, ◌<◌}
use mathlib.Core.Path.{◌≡◌, refl, ap, sym, subst, ◌∙◌}
use mathlib.Core.Logic.{◌⊎◌, inl, inr}
use mathlib.Core.Bool.{Bool, true, false, ◌||◌, or-true}
use mathlib.Core.Option.{Option, none, some}
use mathlib.Core.List.{List, [], ◌∷◌}
use native.Mathlib.Omega.{arith}
use lib.Dec.{eqb}
use borrow.Author.Tests.{eqb-true, eq-eqb, ne_eqb}
use Rattle.ground.proofs.Ranges.{and_true_left, and_true_right}
use Rattle.machine.specs.Table.{Body, began, moved, wrote, committed, withdrew, History, commits, put, member, has_written}
use Rattle.machine.specs.Machine.{Version, Session, Status, InWork, Committed, Withdrawn, Machine, empty, is_committed, sees, counts, find, is_some, is_nil, newcomer, fresh, expired, strike, leave, swept, with_row, Step, begin, next, insert, update, delete, commit, withdraw, sweep, accept, effect}
use Rattle.machine.specs.Runs.{start, after, Reach, add}
use Rattle.machine.proofs.Basics.{no_none, true_false}
use Rattle.machine.proofs.Desks.{Found, found_of, find_number, find_append, find_close, sees_far}
use Rattle.machine.proofs.Chains.{Deed, deeds, all_map, written, update_deeds, delete_deeds}
use Rattle.machine.proofs.Invariant.{Inv}
use Rattle.machine.proofs.Writes.{Fits, off₀, nonzero₀, inv_write, fits_of}
use Rattle.machine.proofs.Ends.{status_quiet, done_put, sees_commit, strike_deeds}
use Rattle.machine.proofs.Turns.{next_off, went_sees}
use Rattle.machine.proofs.Sweeps.{Old, cut_row, below_mark}
use Rattle.machine.proofs.Sights.{Sight}
use Rattle.machine.proofs.Readings.{reach_both}
use Rattle.machine.proofs.Orders.{Ascends, ascends_agree, ascends_last, newest, SeesAll, sees_all_counts, sees_all_cut, sees_all_drops}

-- x committed and wrote row r
abbrev Author : (ℕ → Status) → History → ℕ → ℕ → Type 0
Author st h r x = (is_committed (st x) ≡ true) × (has_written h x r ≡ true)

pub record Order (m : Machine) (h : History) : Type 0 where
  -- whoever sees all that is committed in a row is above all who wrote it and committed
  pub above : (n : ℕ) (s : Session) → Found n m.desk s → (r : ℕ) → SeesAll m.status s (deeds (m.rows r)) → (x : ℕ)
      → Author m.status h r x → x < n
  -- and so is an open session that wrote it
  pub mine : (n : ℕ) (s : Session) → Found n m.desk s → (r : ℕ) → has_written h n r ≡ true → (x : ℕ) → Author m.status h r x → x < n
  -- those who wrote it committed in the order of their numbers
  pub sorted : (r : ℕ) → Ascends (λ x. has_written h x r) (commits h)

order_empty : Order empty []
order_empty = record { above = λ n s f. no_none s f; mine = λ n s f. no_none s f; sorted = λ r. tt }

-- who committed has status 01
commits_done : (m : Machine) (h : History) → Sight m h → (x : ℕ) → member x (commits h) ≡ true → is_committed (m.status x) ≡ true
commits_done m h g x e = g.all x ∙ e

module _ (m : Machine) (h : History) (i : Inv m h) (g : Sight m h) (o : Order m h) where
  order_begin : Order (effect m begin) (began m.next ∷ h)
  order_begin = record {
    above = λ n s f r a x w. above' n s (find_append n m.desk (newcomer m) s f) r a x (back r x w);
    mine = λ n s f r v x w. mine' n s (find_append n m.desk (newcomer m) s f) r v x (back r x w);
    sorted = λ r. ascends_agree (λ x. has_written h x r) (λ x. has_written (began m.next ∷ h) x r) (commits h)
        (λ x e. other x r (commits_done m h g x e)) (o.sorted r);
  }
    where
      st' : ℕ → Status
      st' = put m.status m.next InWork

      quiet : (x : ℕ) → is_committed (st' x) ≡ is_committed (m.status x)
      quiet = status_quiet m.status m.next InWork refl (next_off m h i)

      other : (x r : ℕ) → is_committed (m.status x) ≡ true → has_written (began m.next ∷ h) x r ≡ has_written h x r
      other x r d = rw (ne_eqb x m.next (λ q. omega (arith, i.dones x d)))

      back : (r x : ℕ) → Author st' (began m.next ∷ h) r x → Author m.status h r x
      back r x w = let d = sym (quiet x) ∙ w.0 in (d, sym (other x r d) ∙ w.1)

      above' : (n : ℕ) (s : Session) → Found n m.desk s ⊎ ((n ≡ m.next) × (newcomer m ≡ s)) → (r : ℕ)
          → SeesAll st' s (deeds (m.rows r)) → (x : ℕ) → Author m.status h r x → x < n
      above' n s (inl f) r a x w = o.above n s f r
          (all_map (λ e. is_committed (st' e.who) ≡ true → sees st' s e.who ≡ true)
          (λ e. is_committed (m.status e.who) ≡ true → sees m.status s e.who ≡ true)
          (λ e k d. sym (same e s) ∙ k (quiet e.who ∙ d)) (deeds (m.rows r)) a) x w
        where
          same : (e : Deed) (s : Session) → sees st' s e.who ≡ sees m.status s e.who
          same e s = rw (quiet e.who)
      above' n s (inr q) r a x w = omega (arith, (i.dones x w.0).1, q.0)

      mine' : (n : ℕ) (s : Session) → Found n m.desk s ⊎ ((n ≡ m.next) × (newcomer m ≡ s)) → (r : ℕ)
          → has_written (began m.next ∷ h) n r ≡ true → (x : ℕ) → Author m.status h r x → x < n
      mine' n s (inl f) r v x w = o.mine n s f r (rw (ne_eqb n m.next (λ q. omega (arith, (i.opened n s f).below))) at v) x w
      mine' n s (inr q) r v x w = true_false true refl (sym (rw (eq-eqb n m.next q.0) at v))

  order_next : (n₀ : ℕ) → Order (effect m (next n₀)) (moved n₀ ∷ h)
  order_next n₀ = record {
    above = λ n s f r a x w. let (t, k, e) = went_sees m h i n₀ n s f in
        o.above n t k r (all_map (λ d. is_committed (m.status d.who) ≡ true → sees m.status s d.who ≡ true)
        (λ d. is_committed (m.status d.who) ≡ true → sees m.status t d.who ≡ true)
        (λ d y z. sym (e d.who) ∙ y z) (deeds (m.rows r)) a) x w;
    mine = λ n s f r v x w. let (t, k, e) = went_sees m h i n₀ n s f in o.mine n t k r v x w;
    sorted = o.sorted;
  }

  order_write : (n₀ : ℕ) (s₀ : Session) → Found n₀ m.desk s₀ → (q : ℕ) (b : Option Body) (vs : List Version) (c : ℕ)
      → deeds vs ≡ written n₀ c b ∷ deeds (m.rows q) → Fits (counts m.status s₀ s₀.statement) (deeds (m.rows q))
      → Order (with_row m q vs) (wrote n₀ q b ∷ h)
  order_write n₀ s₀ f₀ q b vs c y fits = record {
    above = λ n s f r a x w. o.above n s f r (under n s r (eqb r q) refl a) x (back r x w);
    mine = λ n s f r v x w. mine' n s f r (eqb n n₀) refl (eqb r q) refl v x (back r x w);
    sorted = λ r. ascends_agree (λ x. has_written h x r) (λ x. has_written (wrote n₀ q b ∷ h) x r) (commits h)
        (λ x e. other x r (commits_done m h g x e)) (o.sorted r);
  }
    where
      off : is_committed (m.status n₀) ≡ false
      off = off₀ m h i n₀ s₀ f₀

      other : (x r : ℕ) → is_committed (m.status x) ≡ true → has_written (wrote n₀ q b ∷ h) x r ≡ has_written h x r
      other x r d = rw (ne_eqb x n₀ (λ z. true_false (is_committed (m.status x)) d (rw z off)))

      back : (r x : ℕ) → Author m.status (wrote n₀ q b ∷ h) r x → Author m.status h r x
      back r x w = (w.0, sym (other x r w.0) ∙ w.1)

      under : (n : ℕ) (s : Session) (r : ℕ) (t : Bool) → eqb r q ≡ t → SeesAll m.status s (deeds (put m.rows q vs r))
          → SeesAll m.status s (deeds (m.rows r))
      under n s r true e a =
          let a' : SeesAll m.status s (written n₀ c b ∷ deeds (m.rows q)) = rw (e, y) at a in
          subst (λ (z : ℕ). SeesAll m.status s (deeds (m.rows z))) (sym (eqb-true r q e)) a'.1
      under n s r false e a = rw e at a

      mine' : (n : ℕ) (s : Session) → Found n m.desk s → (r : ℕ) (t : Bool) → eqb n n₀ ≡ t → (u : Bool) → eqb r q ≡ u
          → has_written (wrote n₀ q b ∷ h) n r ≡ true → (x : ℕ) → Author m.status h r x → x < n
      mine' n s f r true e true e' v x w =
          rw (eqb-true n n₀ e) (o.above n₀ s₀ f₀ q
          (sees_all_counts m.status s₀ s₀.statement (rw (find_number n₀ m.desk s₀ f₀) off) (deeds (m.rows q))
          ((i.row q).closed n₀ s₀ f₀ s₀.statement) fits)
          x (subst (λ (z : ℕ). Author m.status h z x) (eqb-true r q e') w))
      mine' n s f r true e false e' v x w = o.mine n s f r (rw (e, e') at v) x w
      mine' n s f r false e u e' v x w = o.mine n s f r (rw e at v) x w

  order_commit : (n₀ : ℕ) (s₀ : Session) → Found n₀ m.desk s₀ → Order (leave m n₀ Committed) (committed n₀ ∷ h)
  order_commit n₀ s₀ f₀ = record {
    above = λ n s f r a x w. let (z, k) = find_close n n₀ m.desk s f in above' n s z k r a x (eqb x n₀) refl w;
    mine = λ n s f r v x w. let (z, k) = find_close n n₀ m.desk s f in mine' n s z k r v x (eqb x n₀) refl w;
    sorted = λ r. ascends_last (λ x. has_written h x r) (commits h) n₀ (o.sorted r)
        (λ x e u v. o.mine n₀ s₀ f₀ r v x (commits_done m h g x e, u));
  }
    where
      st' : ℕ → Status
      st' = put m.status n₀ Committed

      older : (r x : ℕ) → eqb x n₀ ≡ false → Author st' h r x → Author m.status h r x
      older r x e w = (rw e at w.0, w.1)

      above' : (n : ℕ) (s : Session) → (n ≡ n₀ → ⊥) → Found n m.desk s → (r : ℕ) → SeesAll st' s (deeds (m.rows r))
          → (x : ℕ) (t : Bool) → eqb x n₀ ≡ t → Author st' h r x → x < n
      above' n s z k r a x true e w =
          let (d, l, q, y) = newest m h i n₀ s₀ f₀ r (rw (sym (eqb-true x n₀ e)) w.1) in
          let a' : SeesAll st' s (d ∷ l) = rw q at a in
          true_false (sees st' s n₀) (subst (λ (u : ℕ). sees st' s u ≡ true) y (a'.0 (rw (y, eq-eqb n₀ n₀ refl))))
          (sees_far st' s n₀ (i.apart n₀ s₀ f₀ n s k (λ q. z (sym q))))
      above' n s z k r a x false e w = o.above n s k r
          (all_map (λ d. is_committed (st' d.who) ≡ true → sees st' s d.who ≡ true)
          (λ d. is_committed (m.status d.who) ≡ true → sees m.status s d.who ≡ true)
          (λ d y v. sym (sees_commit m.status n₀ s (i.apart n₀ s₀ f₀ n s k (λ q. z (sym q))) d.who)
          ∙ y (done_put m.status n₀ d.who ∙ (ap (λ (u : Bool). eqb d.who n₀ || u) v ∙ or-true (eqb d.who n₀))))
          (deeds (m.rows r)) a) x (older r x e w)

      mine' : (n : ℕ) (s : Session) → (n ≡ n₀ → ⊥) → Found n m.desk s → (r : ℕ) → has_written h n r ≡ true → (x : ℕ) (t : Bool)
          → eqb x n₀ ≡ t → Author st' h r x → x < n
      mine' n s z k r v x true e w =
          let (d, l, q, y) = newest m h i n₀ s₀ f₀ r (rw (sym (eqb-true x n₀ e)) w.1) in
          let (d', l', q', y') = newest m h i n s k r v in
          let p : d ∷ l ≡ d' ∷ l' = sym q ∙ q' in
          let p' : d ≡ d' = cc in
          absurd (z (sym y' ∙ (ap (λ (u : Deed). u.who) (sym p') ∙ y)))
      mine' n s z k r v x false e w = o.mine n s k r v x (older r x e w)

  order_withdraw : (n₀ : ℕ) (s₀ : Session) → Found n₀ m.desk s₀ → Order (leave (strike m n₀ 0) n₀ Withdrawn) (withdrew n₀ ∷ h)
  order_withdraw n₀ s₀ f₀ = record {
    above = λ n s f r a x w. o.above n s (find_close n n₀ m.desk s f).1 r (whole s r a) x (sym (quiet x) ∙ w.0, w.1);
    mine = λ n s f r v x w. o.mine n s (find_close n n₀ m.desk s f).1 r v x (sym (quiet x) ∙ w.0, w.1);
    sorted = o.sorted;
  }
    where
      st' : ℕ → Status
      st' = put m.status n₀ Withdrawn

      quiet : (x : ℕ) → is_committed (st' x) ≡ is_committed (m.status x)
      quiet = status_quiet m.status n₀ Withdrawn refl (off₀ m h i n₀ s₀ f₀)

      same : (s : Session) (x : ℕ) → sees st' s x ≡ sees m.status s x
      same s x = rw (quiet x)

      whole : (s : Session) (r : ℕ) → SeesAll st' s (deeds ((strike m n₀ 0).rows r)) → SeesAll m.status s (deeds (m.rows r))
      whole s r a = all_map (λ d. is_committed (st' d.who) ≡ true → sees st' s d.who ≡ true)
          (λ d. is_committed (m.status d.who) ≡ true → sees m.status s d.who ≡ true)
          (λ d y v. sym (same s d.who) ∙ y (quiet d.who ∙ v)) (deeds (m.rows r))
          (sees_all_drops st' s n₀ (quiet n₀ ∙ off₀ m h i n₀ s₀ f₀) (deeds (m.rows r)) (rw (strike_deeds m h i n₀ s₀ f₀ 0 r) at a))

  order_sweep : (q : ℕ) → Order (effect m (sweep q)) h
  order_sweep q = record {
    above = λ n s f r a x w. o.above n s f r (whole n s f r (eqb r q) refl a) x w;
    mine = o.mine;
    sorted = o.sorted;
  }
    where
      whole : (n : ℕ) (s : Session) → Found n m.desk s → (r : ℕ) (t : Bool) → eqb r q ≡ t
          → SeesAll m.status s (deeds (put m.rows q (swept m q) r)) → SeesAll m.status s (deeds (m.rows r))
      whole n s f r true e a = subst (λ (z : ℕ). SeesAll m.status s (deeds (m.rows z))) (sym (eqb-true r q e))
          (sees_all_cut (Old m) m.status s 0 (rw (find_number n m.desk s f) (off₀ m h i n s f))
          (λ x y. below_mark m.status m.desk m.next n s f x y.0 y.1 y.2)
          (deeds (m.rows q)) (deeds (swept m q)) (cut_row m h i q) ((i.row q).closed n s f 0) (rw e at a))
      whole n s f r false e a = rw e at a

  order_effect : (c : Step) → accept m c ≡ true → Order (effect m c) (add m c h)
  order_effect begin e = order_begin
  order_effect (next n) e = order_next n
  order_effect (insert n r b) e = go (found_of n m.desk (find n m.desk) refl (and_true_left _ _ e)) (m.rows r) refl
      (and_true_right (is_some (find n m.desk)) _ e)
    where
      go : (s : Session) × Found n m.desk s → (vs : List Version) → m.rows r ≡ vs → is_nil (m.rows r) ≡ true
          → Order (effect m (insert n r b)) (wrote n r (some b) ∷ h)
      go (s, f) [] q t = rw f (order_write n s f r (some b) (fresh n s.statement b ∷ []) s.statement (rw q) (rw q tt))
      go (s, f) (v ∷ vs) q t = true_false (is_nil (m.rows r)) t (rw q refl)
  order_effect (update n r b) e =
      let (s, f, (v, vs, q, z, c)) = inv_write m h i n r (some b) e in
      rw (f, q) (order_write n s f r (some b) (fresh n s.statement b ∷ expired n s.statement v ∷ vs) s.statement
      (rw q (update_deeds n s.statement b v vs z)) (rw q (fits_of (counts m.status s s.statement) v vs z c)))
  order_effect (delete n r) e =
      let (s, f, (v, vs, q, z, c)) = inv_write m h i n r none e in
      rw (f, q) (order_write n s f r none (expired n s.statement v ∷ vs) s.statement
      (rw q (delete_deeds n s.statement (nonzero₀ m h i n s f) v vs z))
      (rw q (fits_of (counts m.status s s.statement) v vs z c)))
  order_effect (commit n) e = let (s, f) = found_of n m.desk (find n m.desk) refl e in order_commit n s f
  order_effect (withdraw n) e = let (s, f) = found_of n m.desk (find n m.desk) refl e in order_withdraw n s f
  order_effect (sweep r) e = order_sweep r

pub order : {m : Machine} {h : History} → Reach m h → Order m h
order start = order_empty
order (after {m = m} {h = h} x c e) = let (i, g) = reach_both x in order_effect m h i g (order x) c e
