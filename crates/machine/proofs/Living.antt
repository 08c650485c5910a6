-- No withdrawn number stands in any version: whoever created or expired one has committed or is open. Assumes nothing.
use Prim.Native.Nat.{ℕ, ◌<◌}
use mathlib.Core.Path.{◌≡◌, refl, ap, sym, subst, ◌∙◌}
use mathlib.Core.Logic.{◌⊎◌, inl, inr}
use mathlib.Core.Bool.{Bool, true, false, ◌||◌, or-true}
use mathlib.Core.Option.{none, some}
use mathlib.Core.List.{List, [], ◌∷◌}
use native.Mathlib.Omega.{arith}
use lib.Dec.{eqb}
use borrow.Author.Tests.{eqb-true, eqb-false, ne_eqb}
use Rattle.ground.proofs.Ranges.{and_true_left, and_true_right}
use Rattle.machine.specs.Table.{History, put}
use Rattle.machine.specs.Machine.{Version, Machine, Session, Status, InWork, Committed, Withdrawn, is_committed, find, is_some, is_nil, newcomer, fresh, expired, since, strike, leave, swept, with_row, Step, begin, next, insert, update, delete, commit, withdraw, sweep, accept, effect}
use Rattle.machine.specs.Runs.{start, after, Reach, Every, Unwithdrawn}
use Rattle.machine.proofs.Basics.{true_false}
use Rattle.machine.proofs.Desks.{Found, found_of, append_on, move_on, close_on}
use Rattle.machine.proofs.Chains.{Deed, made, ended, puts, deeds, Linked, All, all_map, written, update_deeds, delete_deeds}
use Rattle.machine.proofs.Drops.{drops, all_drops}
use Rattle.machine.proofs.Cuts.{all_cutof}
use Rattle.machine.proofs.Folds.{own_zero}
use Rattle.machine.proofs.Invariant.{Inv}
use Rattle.machine.proofs.Writes.{inv_write}
use Rattle.machine.proofs.Ends.{status_quiet, done_put, strike_deeds}
use Rattle.machine.proofs.Turns.{next_off}
use Rattle.machine.proofs.Sweeps.{Old, cut_row}
use Rattle.machine.proofs.Readings.{reach_both}

-- committed, or open
abbrev pub Live : Machine → ℕ → Type 0
Live m x = (is_committed (m.status x) ≡ true) ⊎ ((s : Session) × Found x m.desk s)

abbrev pub Alive : Machine → Type 0
Alive m = (r : ℕ) → All (λ e. Live m e.who) (deeds (m.rows r))

alive_map : (m m' : Machine) → ((x : ℕ) → Live m x → Live m' x) → (l : List Deed) → All (λ e. Live m e.who) l
    → All (λ e. Live m' e.who) l
alive_map m m' on l a = all_map (λ e. Live m e.who) (λ e. Live m' e.who) (λ e. on e.who) l a

-- ---- the steps

alive_put : (m : Machine) (r : ℕ) (vs : List Version) → Alive m → All (λ e. Live m e.who) (deeds vs) → Alive (with_row m r vs)
alive_put m r vs a b q = go (eqb q r) refl
  where
    go : (t : Bool) → eqb q r ≡ t → All (λ e. Live m e.who) (deeds (put m.rows r vs q))
    go true f = rw f b
    go false f = rw f (a q)

alive_write : (m : Machine) → Alive m → (n r : ℕ) (s : Session) → Found n m.desk s → (vs : List Version) (d : Deed) → d.who ≡ n
    → deeds vs ≡ d ∷ deeds (m.rows r) → Alive (with_row m r vs)
alive_write m a n r s f vs d e w = alive_put m r vs a (rw w (inr (s, rw e f), a r))

pub nil_of : (vs : List Version) → is_nil vs ≡ true → vs ≡ []
nil_of [] e = refl
nil_of (v ∷ vs) e = true_false true refl (sym e)

alive_withdraw : (m : Machine) (h : History) → Inv m h → Alive m → (n : ℕ) (s : Session) → Found n m.desk s
    → Alive (leave (strike m n 0) n Withdrawn)
alive_withdraw m h i a n s f r = rw (strike_deeds m h i n s f 0 r)
    (both (drops (since n 0) (deeds (m.rows r))) (all_drops (λ e. Live m e.who) (since n 0) (deeds (m.rows r)) (a r))
    (rw (own_zero h n r) at ((i.row r).mine n s f 0)))
  where
    on : (x : ℕ) → (x ≡ n → ⊥) → Live m x → Live (leave (strike m n 0) n Withdrawn) x
    on x z (inl d) = inl (status_quiet m.status n Withdrawn refl (rw (i.opened n s f).working refl) x ∙ d)
    on x z (inr (t, g)) = inr (t, close_on x n m.desk t z g)

    both : (l : List Deed) → All (λ e. Live m e.who) l → All (λ e. e.who ≡ n → ⊥) l
        → All (λ e. Live (leave (strike m n 0) n Withdrawn) e.who) l
    both [] y z = tt
    both (e ∷ l) y z = (on e.who z.0 y.0, both l y.1 z.1)

alive_effect : (m : Machine) (h : History) → Inv m h → Alive m → (c : Step) → accept m c ≡ true → Alive (effect m c)
alive_effect m h i a begin e = λ r. alive_map m (effect m begin) on (deeds (m.rows r)) (a r)
  where
    on : (x : ℕ) → Live m x → Live (effect m begin) x
    on x (inl d) = inl (status_quiet m.status m.next InWork refl (next_off m h i) x ∙ d)
    on x (inr (s, f)) = inr (s, append_on x m.desk (newcomer m) s f)
alive_effect m h i a (next n) e = λ r. alive_map m (effect m (next n)) on (deeds (m.rows r)) (a r)
  where
    on : (x : ℕ) → Live m x → Live (effect m (next n)) x
    on x (inl d) = inl d
    on x (inr (s, f)) = inr (move_on x n m.desk s f)
alive_effect m h i a (insert n r b) e = go (found_of n m.desk (find n m.desk) refl (and_true_left _ _ e))
    (nil_of (m.rows r) (and_true_right (is_some (find n m.desk)) _ e))
  where
    go : (s : Session) × Found n m.desk s → m.rows r ≡ [] → Alive (effect m (insert n r b))
    go (s, f) q = rw f (alive_write m a n r s f (fresh n s.statement b ∷ []) (written n s.statement (some b)) refl (rw q))
alive_effect m h i a (update n r b) e =
    let (s, f, (v, vs, q, z, c)) = inv_write m h i n r (some b) e in
    rw (f, q) (alive_write m a n r s f (fresh n s.statement b ∷ expired n s.statement v ∷ vs)
    (written n s.statement (some b)) refl (rw q (update_deeds n s.statement b v vs z)))
alive_effect m h i a (delete n r) e =
    let (s, f, (v, vs, q, z, c)) = inv_write m h i n r none e in
    rw (f, q) (alive_write m a n r s f (expired n s.statement v ∷ vs) (written n s.statement none) refl
    (rw q (delete_deeds n s.statement (λ x. omega (arith, (i.opened n s f).positive)) v vs z)))
alive_effect m h i a (commit n) e = λ r. alive_map m (leave m n Committed) on (deeds (m.rows r)) (a r)
  where
    on : (x : ℕ) → Live m x → Live (leave m n Committed) x
    on x (inl d) = inl (done_put m.status n x ∙ (ap (λ (b : Bool). eqb x n || b) d ∙ or-true (eqb x n)))
    on x (inr (s, f)) = go (eqb x n) refl
      where
        go : (b : Bool) → eqb x n ≡ b → Live (leave m n Committed) x
        go true g = inl (done_put m.status n x ∙ rw g)
        go false g = inr (s, close_on x n m.desk s (eqb-false x n g) f)
alive_effect m h i a (withdraw n) e = let (s, f) = found_of n m.desk (find n m.desk) refl e in alive_withdraw m h i a n s f
alive_effect m h i a (sweep r) e = alive_put m r (swept m r) a
    (all_cutof (Old m) (λ e. Live m e.who) (deeds (m.rows r)) (deeds (swept m r)) (cut_row m h i r) (a r))

pub alive : {m : Machine} {h : History} → Reach m h → Alive m
alive start = λ r. tt
alive (after {m = m} {h = h} x c e) = alive_effect m h (reach_both x).0 (alive x) c e

-- ---- the versions

-- number 0 is never handed out
zero_effect : (m : Machine) (h : History) → Inv m h → m.status 0 ≡ InWork → (c : Step) → accept m c ≡ true → (effect m c).status 0 ≡ InWork
zero_effect m h i z c e = go c e
  where
    put_else : (n : ℕ) (a : Status) → 0 < n → put m.status n a 0 ≡ InWork
    put_else n a l = rw (ne_eqb 0 n (λ q. omega arith)) z

    go : (c : Step) → accept m c ≡ true → (effect m c).status 0 ≡ InWork
    go begin e = put_else m.next InWork i.first
    go (next n) e = z
    go (insert n r b) e = z
    go (update n r b) e = z
    go (delete n r) e = z
    go (commit n) e = let (s, f) = found_of n m.desk (find n m.desk) refl e in put_else n Committed (i.opened n s f).positive
    go (withdraw n) e = let (s, f) = found_of n m.desk (find n m.desk) refl e in put_else n Withdrawn (i.opened n s f).positive
    go (sweep r) e = z

pub zero_status : {m : Machine} {h : History} → Reach m h → m.status 0 ≡ InWork
zero_status start = refl
zero_status (after {m = m} {h = h} x c e) = zero_effect m h (reach_both x).0 (zero_status x) c e

-- NO WITHDRAWN NUMBER stands in a version, as creator or as expirer
pub no_withdrawn : {m : Machine} {h : History} → Reach m h → (r : ℕ) → Every (Unwithdrawn m) (m.rows r)
no_withdrawn {m} {h} x r = go (m.rows r) (i.linked r) (alive x r)
  where
    i : Inv m h
    i = (reach_both x).0

    in_work : (n : ℕ) → m.status n ≡ InWork → m.status n ≡ Withdrawn → ⊥
    in_work n e w = let z : InWork ≡ Withdrawn = sym e ∙ w in let y : ◌≡◌ {A = ℕ} 0 1 = cc in omega arith

    live : (n : ℕ) → Live m n → m.status n ≡ Withdrawn → ⊥
    live n (inl d) w = true_false (is_committed (m.status n)) d (rw w refl)
    live n (inr (s, f)) w = in_work n (i.opened n s f).working w

    older : (v : Version) (vs : List Version) → Linked (v ∷ vs) → (m.status v.create ≡ Withdrawn → ⊥)
        → All (λ e. Live m e.who) (puts vs)
        → Every (Unwithdrawn m) vs
    older v [] k c a = tt
    older v (w ∷ ws) k c a = (
      (live w.create a.0, subst (λ (y : ℕ). m.status y ≡ Withdrawn → ⊥) (sym k.0) c),
      older w ws k.2
          (live w.create a.0) a.1,
    )

    go : (vs : List Version) → Linked vs → All (λ e. Live m e.who) (deeds vs)
        → Every (Unwithdrawn m) vs
    go [] k a = tt
    go (v ∷ vs) k a = by (eqb v.expire 0) refl
      where
        by : (b : Bool) → eqb v.expire 0 ≡ b → Every (Unwithdrawn m) (v ∷ vs)
        by true f =
            let a' : All (λ e. Live m e.who) (made v ∷ puts vs) = rw f at a in (
              (live v.create a'.0, in_work v.expire (rw (eqb-true v.expire 0 f) (zero_status x))),
              older v vs k
                  (live v.create a'.0) a'.1,
            )
        by false f =
            let a' : All (λ e. Live m e.who) (ended v ∷ made v ∷ puts vs) = rw f at a in
            ((live v.create a'.1.0, live v.expire a'.0), older v vs k (live v.create a'.1.0) a'.1.1)
