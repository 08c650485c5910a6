-- From the machine to any store that follows it: what a store has to show of each line, and that the line then leads from what a history
-- reaches to what that history with the line reaches. Assumes nothing.
use Prim.Native.Nat.{ℕ, zero, suc, ◌+◌, ◌<◌}
use mathlib.Core.Path.{◌≡◌, refl, ap, sym, subst, ◌∙◌}
use mathlib.Core.Bool.{Bool, true, false, ◌&&◌, cond}
use mathlib.Core.List.{List, [], ◌∷◌}
use native.Mathlib.Omega.{arith}
use lib.Dec.{eqb, leb, ltb}
use borrow.Author.Tests.{eqb-true, eqb-false, eq-eqb, leb-true, leb-false, le-leb, lt-leb, ltb-true, ltb-false, lt-ltb, le-ltb}
use Rattle.machine.specs.Table.{History, began}
use Rattle.machine.specs.Lines.{Call, Verdict, refused, done, told, heard, is_format, format, opens, seal, read, begin as Begin, next as Next, insert as Insert, update as Update, delete as Delete, commit as Commit, withdraw as Withdraw, sweep as Sweep}
use Rattle.machine.specs.Machine.{InWork, Session, Machine, empty, swept, Step, begin, next, insert, update, delete, commit, withdraw, sweep, accept, effect}
use Rattle.machine.specs.Runs.{From, start, after, Reach}
use Rattle.machine.proofs.Basics.{true_false}
use Rattle.machine.proofs.Desks.{Found}
use Rattle.machine.proofs.Invariant.{Inv}
use Rattle.machine.proofs.Readings.{reach_both}

-- what is reached from where one is, and then from there
pub from_then : {m₀ m₁ : Machine} {h₀ h₁ : History} {m₂ : Machine} {h₂ : History} → From m₀ h₀ m₁ h₁ → From m₁ h₁ m₂ h₂ → From m₀ h₀ m₂ h₂
from_then x start = x
from_then x (after y c e) = after (from_then x y) c e

-- two machines that agree at every place are equal
pub machine_ext : (m m' : Machine) → m.next ≡ m'.next → ((x : ℕ) → m.status x ≡ m'.status x) → m.desk ≡ m'.desk
    → ((r : ℕ) → m.rows r ≡ m'.rows r)
    → m ≡ m'
machine_ext m m' a b c d = λ i. record { next = a i; status = λ x. b x i; desk = c i; rows = λ r. d r i }

-- ---- a sweep of n rows from r on is one step for each

abbrev pub sweeps : ℕ → ℕ → Machine → Machine
sweeps r zero m = m
sweeps r (suc n) m = sweeps (suc r) n (effect m (sweep r))

-- only the rows change
pub sweeps_rest : (n r : ℕ) (m : Machine) → ((sweeps r n m).next ≡ m.next) × ((x : ℕ) → (sweeps r n m).status x ≡ m.status x) × ((sweeps r n m).desk ≡ m.desk)
sweeps_rest zero r m = (refl, λ x. refl, refl)
sweeps_rest (suc n) r m = sweeps_rest n (suc r) (effect m (sweep r))

-- a row among them is swept, with the mark of the first; all others stay
pub sweeps_rows : (n r : ℕ) (m : Machine) (q : ℕ) → (sweeps r n m).rows q ≡ cond (leb r q && ltb q (r + n)) (swept m q) (m.rows q)
sweeps_rows zero r m q = go (leb r q) refl (ltb q (r + 0)) refl
  where
    go : (a : Bool) → leb r q ≡ a → (b : Bool) → ltb q (r + 0) ≡ b → m.rows q ≡ cond (leb r q && ltb q (r + 0)) (swept m q) (m.rows q)
    go true e true f = absurd (omega (arith, leb-true r q e, ltb-true q (r + 0) f))
    go true e false f = rw (e, f)
    go false e b f = rw e
sweeps_rows (suc n) r m q = sweeps_rows n (suc r) (effect m (sweep r)) q ∙ go (eqb q r) refl (leb (suc r) q) refl (ltb q (suc r + n)) refl
  where
    go : (a : Bool) → eqb q r ≡ a → (b : Bool) → leb (suc r) q ≡ b → (c : Bool) → ltb q (suc r + n) ≡ c
        → cond (leb (suc r) q && ltb q (suc r + n)) (swept (effect m (sweep r)) q)
        ((effect m (sweep r)).rows q) ≡ cond (leb r q && ltb q (r + suc n)) (swept m q) (m.rows q)
    go true e true f c g = absurd (omega (arith, eqb-true q r e, leb-true (suc r) q f))
    go true e false f c g =
        let z : q ≡ r = eqb-true q r e in
        rw (f, e, le-leb r q (omega (arith, z)), lt-ltb q (r + suc n) (omega (arith, z))) (ap (swept m) (sym z))
    go false e true f true g =
        rw (f, g, e, le-leb r q (omega (arith, leb-true (suc r) q f)), lt-ltb q (r + suc n) (omega (arith, ltb-true q (suc r + n) g)))
    go false e true f false g =
        rw (f, g, e, le-ltb q (r + suc n) (omega (arith, ltb-false q (suc r + n) g)), le-leb r q (omega (arith, leb-true (suc r) q f)))
    go false e false f c g =
        rw (f, e, lt-leb r q (omega (arith, leb-false (suc r) q f, eqb-false q r e)))

-- ---- what a line did

-- the machine may take the step, and it leads to m'
abbrev pub Took : Machine → Step → Machine → Type 0
Took m c m' = (accept m c ≡ true) × (effect m c ≡ m')

-- a call that was done, with the first number of its answer: an insert at the row answered, a sweep as one step for each of n rows; open,
-- seal and read do nothing to the machine
abbrev pub DidCall : Machine → Call → ℕ → Machine → Type 0
DidCall m (format d u s) a m' = empty ≡ m'
DidCall m opens a m' = m ≡ m'
DidCall m seal a m' = m ≡ m'
DidCall m Begin a m' = (a ≡ m.next) × (effect m begin ≡ m')
DidCall m (Next n) a m' = Took m (next n) m'
DidCall m (Insert n y) a m' = Took m (insert n a y) m'
DidCall m (Update n r y) a m' = Took m (update n r y) m'
DidCall m (Delete n r) a m' = Took m (delete n r) m'
DidCall m (read n r) a m' = m ≡ m'
DidCall m (Commit n) a m' = Took m (commit n) m'
DidCall m (Withdraw n) a m' = Took m (withdraw n) m'
DidCall m (Sweep r quota) a m' = (n : ℕ) × (sweeps r n m ≡ m')

-- a refused call did nothing
abbrev pub Did : Machine → Call → Verdict → Machine → Type 0
Did m c (refused k) m' = m ≡ m'
Did m c (done a b y) m' = DidCall m c a m'

-- ---- so it leads from what a history reaches to what that history with the line reaches

to_where : {m m₁ m₂ : Machine} {h h' : History} → m₁ ≡ m₂ → From m h m₁ h' → From m h m₂ h'
to_where {m} {m₁} {m₂} {h} {h'} e x = subst (λ (z : Machine). From m h z h') e x

from_sweeps : (n r : ℕ) (m₀ m : Machine) (h : History) → From m₀ h m h → From m₀ h (sweeps r n m) h
from_sweeps zero r m₀ m h x = x
from_sweeps (suc n) r m₀ m h x = from_sweeps n (suc r) m₀ (effect m (sweep r)) h (after x (sweep r) refl)

-- a call that is no format leads on
leads_call : (m : Machine) (c : Call) (a : ℕ) (m' : Machine) → is_format c ≡ false → DidCall m c a m' → (h : History) → From m h m' (told h c a)
leads_call m (format d u s) a m' f e h = true_false true refl f
leads_call m opens a m' f e h = to_where e start
leads_call m seal a m' f e h = to_where e start
leads_call m Begin a m' f e h = to_where e.1 (subst (λ (k : ℕ). From m h (effect m begin) (began k ∷ h)) (sym e.0) (after start begin refl))
leads_call m (Next n) a m' f e h = to_where e.1 (after start (next n) e.0)
leads_call m (Insert n y) a m' f e h = to_where e.1 (after start (insert n a y) e.0)
leads_call m (Update n r y) a m' f e h = to_where e.1 (after start (update n r y) e.0)
leads_call m (Delete n r) a m' f e h = to_where e.1 (after start (delete n r) e.0)
leads_call m (read n r) a m' f e h = to_where e start
leads_call m (Commit n) a m' f e h = to_where e.1 (after start (commit n) e.0)
leads_call m (Withdraw n) a m' f e h = to_where e.1 (after start (withdraw n) e.0)
leads_call m (Sweep r quota) a m' f (n, e) h = to_where e (from_sweeps n r m m h start)

pub did_leads : (m : Machine) (c : Call) (a : Verdict) (m' : Machine) → is_format c ≡ false → Did m c a m' → (h : History) → From m h m' (heard h c a)
did_leads m c (refused k) m' f e h = to_where e start
did_leads m c (done a b y) m' f e h = leads_call m c a m' f e h

-- and an accepted format starts anew
pub did_reaches : (m : Machine) (c : Call) (a : Verdict) (m' : Machine) → Did m c a m' → (h : History) → Reach m h → Reach m' (heard h c a)
did_reaches m c (refused k) m' e h x = subst (λ (z : Machine). Reach z h) e x
did_reaches m c (done a b y) m' e h x = go (is_format c) refl
  where
    format_only : (c : Call) → is_format c ≡ true → DidCall m c a m' → Reach m' (told h c a)
    format_only (format d u s) f e = subst (λ (z : Machine). Reach z []) e start
    format_only opens f e = true_false false f refl
    format_only seal f e = true_false false f refl
    format_only Begin f e = true_false false f refl
    format_only (Next n) f e = true_false false f refl
    format_only (Insert n y) f e = true_false false f refl
    format_only (Update n r y) f e = true_false false f refl
    format_only (Delete n r) f e = true_false false f refl
    format_only (read n r) f e = true_false false f refl
    format_only (Commit n) f e = true_false false f refl
    format_only (Withdraw n) f e = true_false false f refl
    format_only (Sweep r q) f e = true_false false f refl

    go : (b : Bool) → is_format c ≡ b → Reach m' (told h c a)
    go true f = format_only c f e
    go false f = from_then x (leads_call m c a m' f e h)

-- ---- for open

-- where no number below the next is in work, no session is open, so that open's desk is the machine's
pub no_work_no_session : {m : Machine} {h : History} → Reach m h → ((n : ℕ) → 0 < n → n < m.next → m.status n ≡ InWork → ⊥) → m.desk ≡ []
no_work_no_session {m} {h} x z = go m.desk refl
  where
    i : Inv m h
    i = (reach_both x).0

    go : (l : List Session) → m.desk ≡ l → m.desk ≡ []
    go [] e = e
    go (s ∷ l) e =
        let f : Found s.number m.desk s = rw (e, eq-eqb s.number s.number refl) in
        let o = i.opened s.number s f in
        absurd (z s.number o.positive o.below o.working)
