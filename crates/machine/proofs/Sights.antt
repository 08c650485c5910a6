-- Sight against the history: that S sees X exactly when X committed before S began is kept by every accepted step. Assumes nothing.
use Prim.Native.Nat.{ℕ}
use mathlib.Core.Path.{◌≡◌, refl, ap, sym, subst, ◌∙◌}
use mathlib.Core.Logic.{◌⊎◌, inl, inr}
use mathlib.Core.Bool.{Bool, true, false, ◌||◌}
use mathlib.Core.Option.{none, some}
use mathlib.Core.List.{[], ◌∷◌}
use native.Mathlib.Omega.{arith}
use lib.Dec.{eqb}
use borrow.Author.Tests.{eq-eqb, ne_eqb}
use Rattle.ground.proofs.Ranges.{and_true_left}
use Rattle.machine.specs.Table.{History, began, moved, committed, withdrew, put, commits, member, committed_before}
use Rattle.machine.specs.Machine.{Session, Status, InWork, Committed, Withdrawn, Machine, empty, is_committed, sees, find, newcomer, strike, leave, Step, begin, next, insert, update, delete, commit, withdraw, sweep, accept, effect}
use Rattle.machine.specs.Runs.{add}
use Rattle.machine.proofs.Basics.{no_none}
use Rattle.machine.proofs.Desks.{Found, found_of, find_append, find_close}
use Rattle.machine.proofs.Folds.{Proper, member_append}
use Rattle.machine.proofs.Invariant.{Inv}
use Rattle.machine.proofs.Writes.{inv_write, inv_insert, inv_update, inv_delete}
use Rattle.machine.proofs.Ends.{inv_commit, inv_withdraw, status_quiet, done_put, sees_commit}
use Rattle.machine.proofs.Turns.{inv_begin, inv_next, next_off, sees_new, went_sees}
use Rattle.machine.proofs.Sweeps.{inv_sweep}

-- every accepted step keeps the invariant
pub inv_effect : (m : Machine) (h : History) → Inv m h → (c : Step) → accept m c ≡ true → Inv (effect m c) (add m c h)
inv_effect m h i begin e = inv_begin m h i
inv_effect m h i (next n) e = inv_next m h i n
inv_effect m h i (insert n r b) e = inv_insert m h i n r b e
inv_effect m h i (update n r b) e = inv_update m h i n r b e
inv_effect m h i (delete n r) e = inv_delete m h i n r e
inv_effect m h i (commit n) e = let (s, f) = found_of n m.desk (find n m.desk) refl e in inv_commit m h i n s f
inv_effect m h i (withdraw n) e = let (s, f) = found_of n m.desk (find n m.desk) refl e in inv_withdraw m h i n s f
inv_effect m h i (sweep r) e = inv_sweep m h i r

pub record Sight (m : Machine) (h : History) : Type 0 where
  -- what has status 01 is what committed
  pub all : (x : ℕ) → is_committed (m.status x) ≡ member x (commits h)
  -- what S sees is what committed before S began
  pub one : (n : ℕ) (s : Session) → Found n m.desk s → (x : ℕ) → sees m.status s x ≡ committed_before h x n
  pub proper : Proper h

sees_status : (st st' : ℕ → Status) (s : Session) (x : ℕ) → is_committed (st' x) ≡ is_committed (st x) → sees st' s x ≡ sees st s x
sees_status st st' s x e = rw e

-- who is open hasn't committed
still : (m : Machine) (h : History) → Inv m h → Sight m h → (n : ℕ) (s : Session) → Found n m.desk s → member n (commits h) ≡ false
still m h i g n s f = sym (g.all n) ∙ rw (i.opened n s f).working refl

sight_begin : (m : Machine) (h : History) → Inv m h → Sight m h → Sight (effect m begin) (began m.next ∷ h)
sight_begin m h i g = record {
  all = λ x. quiet x ∙ g.all x;
  one = λ n s f x. sees_status m.status (put m.status m.next InWork) s x (quiet x) ∙ one' n s x
      (find_append n m.desk (newcomer m) s f);
  proper = (sym (g.all m.next) ∙ next_off m h i, g.proper);
}
  where
    quiet : (x : ℕ) → is_committed (put m.status m.next InWork x) ≡ is_committed (m.status x)
    quiet = status_quiet m.status m.next InWork refl (next_off m h i)

    one' : (n : ℕ) (s : Session) (x : ℕ) → Found n m.desk s ⊎ ((n ≡ m.next) × (newcomer m ≡ s))
        → sees m.status s x ≡ committed_before (began m.next ∷ h) x n
    one' n s x (inl f) = rw (ne_eqb n m.next (λ q. omega (arith, (i.opened n s f).below))) (g.one n s f x)
    one' n s x (inr q) = rw (eq-eqb n m.next q.0)
        (subst (λ (u : Session). sees m.status u x ≡ member x (commits h)) q.1 (sees_new m h i x ∙ g.all x))

sight_commit : (m : Machine) (h : History) → Inv m h → Sight m h → (n₀ : ℕ) (s₀ : Session) → Found n₀ m.desk s₀
    → Sight (leave m n₀ Committed) (committed n₀ ∷ h)
sight_commit m h i g n₀ s₀ f₀ = record {
  all = λ x. done_put m.status n₀ x ∙ (ap (λ (b : Bool). eqb x n₀ || b) (g.all x) ∙ sym (member_append x n₀ (commits h)));
  one = λ n s f x. let (z, f') = find_close n n₀ m.desk s f in
      sees_commit m.status n₀ s (i.apart n₀ s₀ f₀ n s f' (λ q. z (sym q))) x ∙ g.one n s f' x;
  proper = g.proper;
}

sight_withdraw : (m : Machine) (h : History) → Inv m h → Sight m h → (n₀ : ℕ) (s₀ : Session) → Found n₀ m.desk s₀
    → Sight (leave (strike m n₀ 0) n₀ Withdrawn) (withdrew n₀ ∷ h)
sight_withdraw m h i g n₀ s₀ f₀ = record {
  all = λ x. quiet x ∙ g.all x;
  one = λ n s f x. sees_status m.status (put m.status n₀ Withdrawn) s x (quiet x) ∙ g.one n s (find_close n n₀ m.desk s f).1 x;
  proper = g.proper;
}
  where
    quiet : (x : ℕ) → is_committed (put m.status n₀ Withdrawn x) ≡ is_committed (m.status x)
    quiet = status_quiet m.status n₀ Withdrawn refl (rw (i.opened n₀ s₀ f₀).working refl)

sight_next : (m : Machine) (h : History) → Inv m h → Sight m h → (n₀ : ℕ) (s₀ : Session) → Found n₀ m.desk s₀
    → Sight (effect m (next n₀)) (moved n₀ ∷ h)
sight_next m h i g n₀ s₀ f₀ = record {
  all = g.all;
  one = λ n s f x. let (t, k, e) = went_sees m h i n₀ n s f in e x ∙ g.one n t k x;
  proper = (still m h i g n₀ s₀ f₀, g.proper);
}

-- every accepted step keeps sight
pub sight_effect : (m : Machine) (h : History) → Inv m h → Sight m h → (c : Step) → accept m c ≡ true → Sight (effect m c) (add m c h)
sight_effect m h i g begin e = sight_begin m h i g
sight_effect m h i g (next n) e = let (s, f) = found_of n m.desk (find n m.desk) refl e in sight_next m h i g n s f
sight_effect m h i g (insert n r b) e = let (s, f) = found_of n m.desk (find n m.desk) refl (and_true_left _ _ e) in
    record { all = g.all; one = g.one; proper = (still m h i g n s f, g.proper) }
sight_effect m h i g (update n r b) e = let (s, f, w) = inv_write m h i n r (some b) e in
    record { all = g.all; one = g.one; proper = (still m h i g n s f, g.proper) }
sight_effect m h i g (delete n r) e = let (s, f, w) = inv_write m h i n r none e in
    record { all = g.all; one = g.one; proper = (still m h i g n s f, g.proper) }
sight_effect m h i g (commit n) e = let (s, f) = found_of n m.desk (find n m.desk) refl e in sight_commit m h i g n s f
sight_effect m h i g (withdraw n) e = let (s, f) = found_of n m.desk (find n m.desk) refl e in sight_withdraw m h i g n s f
sight_effect m h i g (sweep r) e = record { all = g.all; one = g.one; proper = g.proper }

pub sight_empty : Sight empty []
sight_empty = record { all = λ x. refl; one = λ n s f x. no_none s f; proper = tt }
