-- Machines that a history leads to, and what the promises say of them. Only accepted steps count, so that a store which refuses
-- more often, for want of space, is followed too. Assumes nothing.
use Rattle.std.specs.Prelude.{ℕ, suc, ◌≡◌, true, cond, List, [], ◌∷◌, eqb}
use Rattle.std.proofs.Math.Option.{Option, none, some}
use Rattle.machine.specs.Table.{Body, began, moved, wrote, committed, withdrew, History}
use Rattle.machine.specs.Machine.{Machine, Withdrawn, Version, empty, is_nil, Step, begin, next, insert, update, delete, commit, withdraw, sweep, accept, effect}

-- what an accepted step adds to the history
abbrev pub add : Machine → Step → History → History
add m begin h = began m.next ∷ h
add m (next n) h = moved n ∷ h
add m (insert n r b) h = wrote n r (some b) ∷ h
add m (update n r b) h = wrote n r (some b) ∷ h
add m (delete n r) h = wrote n r none ∷ h
add m (commit n) h = committed n ∷ h
add m (withdraw n) h = withdrew n ∷ h
add m (sweep r) h = h

-- accepted steps lead from m₀ with history h₀ to m with history h
pub data From (m₀ : Machine) (h₀ : History) : Machine → History → Type 0 where
  start : From m₀ h₀ m₀ h₀
  after : {m : Machine} {h : History} → From m₀ h₀ m h → (c : Step) → accept m c ≡ true → From m₀ h₀ (effect m c) (add m c h)

-- from a format
abbrev pub Reach : Machine → History → Type 0
Reach m h = From empty [] m h

-- ---- the count of versions

-- one more accepted update of row r
abbrev pub one_more : Step → ℕ → ℕ → ℕ
one_more begin r k = k
one_more (next n) r k = k
one_more (insert n q b) r k = k
one_more (update n q b) r k = cond (eqb r q) (suc k) k
one_more (delete n q) r k = k
one_more (commit n) r k = k
one_more (withdraw n) r k = k
one_more (sweep q) r k = k

-- the count after a step: none, where the row is empty then
abbrev pub tally : Machine → Step → ℕ → ℕ → ℕ
tally m c r k = cond (is_nil ((effect m c).rows r)) 0 (one_more c r k)

-- "the accepted updates of that row since its slot was last empty"
abbrev pub updates : {m : Machine} {h : History} → Reach m h → ℕ → ℕ
updates start r = 0
updates (after {m = m} x c e) r = tally m c r (updates x r)

-- ---- withdrawal

-- what stands first in a row
pub record First : Type 0 where
  pub body : Body
  pub creator : ℕ
  pub creating : ℕ
  pub expirer : ℕ

abbrev pub first_of : List Version → Option First
first_of [] = none
first_of (v ∷ vs) = some (record { body = v.body; creator = v.create; creating = v.cmd; expirer = v.expire })

-- the step is a write of S on row r
abbrev pub Writes : ℕ → ℕ → Step → Type 0
Writes n r begin = ⊥
Writes n r (next m) = ⊥
Writes n r (insert m q b) = (m ≡ n) × (q ≡ r)
Writes n r (update m q b) = (m ≡ n) × (q ≡ r)
Writes n r (delete m q) = (m ≡ n) × (q ≡ r)
Writes n r (commit m) = ⊥
Writes n r (withdraw m) = ⊥
Writes n r (sweep q) = ⊥

-- ---- no withdrawn number

-- P holds of every version
abbrev pub Every : (Version → Type 0) → List Version → Type 0
Every P [] = Unit {0}
Every P (v ∷ vs) = P v × Every P vs

-- neither creator nor expirer of the version is withdrawn
abbrev pub Unwithdrawn : Machine → Version → Type 0
Unwithdrawn m v = (m.status v.create ≡ Withdrawn → ⊥) × (m.status v.expire ≡ Withdrawn → ⊥)
