-- The theorem of demand 3 on the machine, and the key law: what an open session reads is the plain table of the history, and it sees
-- exactly those that committed before it began. Assumes nothing.
use Prim.Native.Nat.{ℕ}
use mathlib.Core.Path.{◌≡◌, sym, ◌∙◌}
use mathlib.Core.Option.{some}
use Rattle.machine.specs.Table.{History, plain_table, committed_before}
use Rattle.machine.specs.Machine.{Machine, Session, find, sees, reads}
use Rattle.machine.specs.Runs.{From, start, after, Reach}
use Rattle.machine.proofs.Folds.{plain_table_is}
use Rattle.machine.proofs.Invariant.{Inv, inv_empty, reading_of}
use Rattle.machine.proofs.Sights.{inv_effect, Sight, sight_effect, sight_empty}

-- accepted steps keep both
pub from_both : {m₀ : Machine} {h₀ : History} {m : Machine} {h : History} → Inv m₀ h₀ × Sight m₀ h₀ → From m₀ h₀ m h → Inv m h × Sight m h
from_both b start = b
from_both b (after {m = m} {h = h} x c e) = let (i, g) = from_both b x in (inv_effect m h i c e, sight_effect m h i g c e)

pub reach_both : {m : Machine} {h : History} → Reach m h → Inv m h × Sight m h
reach_both x = from_both (inv_empty, sight_empty) x

-- DEMAND 3: an open session reads what the history alone says
pub reading : {m : Machine} {h : History} → Reach m h → (n r : ℕ) (s : Session) → find n m.desk ≡ some s → reads m s r ≡ plain_table h n r
reading {m} {h} x n r s f = let (i, g) = reach_both x in reading_of m h i n r s f ∙ sym (plain_table_is h g.proper n r)

-- THE KEY LAW: S sees X exactly when X committed before S began
pub sees_committed_before : {m : Machine} {h : History} → Reach m h → (n : ℕ) (s : Session) → find n m.desk ≡ some s → (x : ℕ)
    → sees m.status s x ≡ committed_before h x n
sees_committed_before x n s f = (reach_both x).1.one n s f
