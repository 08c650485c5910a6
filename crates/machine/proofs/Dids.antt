-- What a line did, as the theorems of withdrawal and of the count ask it. Assumes nothing.
use Prim.Native.Nat.{ℕ, zero, suc, ◌≤◌}
use mathlib.Core.Path.{◌≡◌, refl, subst}
use mathlib.Core.Bool.{Bool, true, false, ◌&&◌, cond}
use native.Mathlib.Omega.{arith}
use lib.Dec.{eqb}
use lib.ListN.{length}
use borrow.Author.Tests.{eqb-true}
use Rattle.ground.proofs.Ranges.{and_true_left, and_true_right}
use Rattle.machine.specs.Table.{History}
use Rattle.machine.specs.Lines.{Call, Verdict, refused, done, told, is_done, is_update, is_write, format, opens, seal, read, begin as Begin, next as Next, insert as Insert, update as Update, delete as Delete, commit as Commit, withdraw as Withdraw, sweep as Sweep}
use Rattle.machine.specs.Machine.{Machine, empty, is_nil, Step, begin, next, insert, update, delete, commit, withdraw, sweep, accept, effect}
use Rattle.machine.specs.Runs.{add, one_more, tally, Writes}
use Rattle.machine.proofs.Basics.{true_false}
use Rattle.machine.proofs.Counts.{length_effect}
use Rattle.machine.proofs.Follows.{Did, DidCall, sweeps}

-- ---- how long a row becomes

-- where a row is empty the count begins anew, which only lessens it
tally_most : (m : Machine) (c : Step) (r k : ℕ) → tally m c r k ≤ one_more c r k
tally_most m c r k = go (is_nil ((effect m c).rows r))
  where
    go : (b : Bool) → cond b 0 (one_more c r k) ≤ one_more c r k
    go true = omega arith
    go false = omega arith

module _ (r k : ℕ) where
  -- after a step
  step_length : (m m' : Machine) (c : Step) → effect m c ≡ m' → length (m.rows r) ≤ suc k → length (m'.rows r) ≤ suc (one_more c r k)
  step_length m m' c e l =
      subst (λ (z : Machine). length (z.rows r) ≤ suc (one_more c r k)) e (omega (arith, length_effect m c r k l, tally_most m c r k))

  -- after sweeps
  sweeps_length : (n q : ℕ) (m : Machine) → length (m.rows r) ≤ suc k → length ((sweeps q n m).rows r) ≤ suc k
  sweeps_length zero q m l = l
  sweeps_length (suc n) q m l = sweeps_length n (suc q) (effect m (sweep q)) (step_length m (effect m (sweep q)) (sweep q) refl l)

  -- after a line
  same_length : (m m' : Machine) → m ≡ m' → length (m.rows r) ≤ suc k → length (m'.rows r) ≤ suc k
  same_length m m' e l = subst (λ (z : Machine). length (z.rows r) ≤ suc k) e l

  call_length : (m : Machine) (c : Call) (a : ℕ) (m' : Machine) → DidCall m c a m' → length (m.rows r) ≤ suc k
      → length (m'.rows r) ≤ suc (cond (is_update r c) (suc k) k)
  call_length m (format d u s) a m' e l = same_length empty m' e (omega arith)
  call_length m opens a m' e l = same_length m m' e l
  call_length m seal a m' e l = same_length m m' e l
  call_length m Begin a m' e l = step_length m m' begin e.1 l
  call_length m (Next n) a m' e l = step_length m m' (next n) e.1 l
  call_length m (Insert n y) a m' e l = step_length m m' (insert n a y) e.1 l
  call_length m (Update n q y) a m' e l = step_length m m' (update n q y) e.1 l
  call_length m (Delete n q) a m' e l = step_length m m' (delete n q) e.1 l
  call_length m (read n q) a m' e l = same_length m m' e l
  call_length m (Commit n) a m' e l = step_length m m' (commit n) e.1 l
  call_length m (Withdraw n) a m' e l = step_length m m' (withdraw n) e.1 l
  call_length m (Sweep q quota) a m' (n, e) l = same_length (sweeps q n m) m' e (sweeps_length n q m l)

  pub did_length : (m : Machine) (c : Call) (a : Verdict) (m' : Machine) → Did m c a m' → length (m.rows r) ≤ suc k
      → length (m'.rows r) ≤ suc (cond (is_done a && is_update r c) (suc k) k)
  did_length m c (refused n) m' e l = same_length m m' e l
  did_length m c (done a b y) m' e l = call_length m c a m' e l

-- ---- a write of S in row r

-- the step that it was
pub record Wrote (n r : ℕ) (m : Machine) (c : Call) (a : ℕ) (m' : Machine) : Type 0 where
  pub step : Step
  pub writes : Writes n r step
  pub accepts : accept m step ≡ true
  pub leaves : effect m step ≡ m'
  pub tells : (h : History) → add m step h ≡ told h c a

pub did_write : (n r : ℕ) (m : Machine) (c : Call) (a : ℕ) (m' : Machine) → is_write n r c a ≡ true → DidCall m c a m' → Wrote n r m c a m'
did_write n r m (format d u s) a m' w e = true_false false w refl
did_write n r m opens a m' w e = true_false false w refl
did_write n r m seal a m' w e = true_false false w refl
did_write n r m Begin a m' w e = true_false false w refl
did_write n r m (Next x) a m' w e = true_false false w refl
did_write n r m (Insert x y) a m' w e =
    record { step = insert x a y; writes = (eqb-true x n (and_true_left (eqb x n) (eqb a r) w), eqb-true a r (and_true_right (eqb x n) (eqb a r) w)); accepts = e.0; leaves = e.1; tells = λ h. refl }
did_write n r m (Update x q y) a m' w e =
    record { step = update x q y; writes = (eqb-true x n (and_true_left (eqb x n) (eqb q r) w), eqb-true q r (and_true_right (eqb x n) (eqb q r) w)); accepts = e.0; leaves = e.1; tells = λ h. refl }
did_write n r m (Delete x q) a m' w e =
    record { step = delete x q; writes = (eqb-true x n (and_true_left (eqb x n) (eqb q r) w), eqb-true q r (and_true_right (eqb x n) (eqb q r) w)); accepts = e.0; leaves = e.1; tells = λ h. refl }
did_write n r m (read x q) a m' w e = true_false false w refl
did_write n r m (Commit x) a m' w e = true_false false w refl
did_write n r m (Withdraw x) a m' w e = true_false false w refl
did_write n r m (Sweep q k) a m' w e = true_false false w refl
