-- The count of versions looked at ("01, Sessions and sight"): a chain grows by an accepted update alone, and starts again where its
-- slot was empty. Assumes nothing.
use Prim.Native.Nat.{ℕ, suc, ◌≤◌}
use mathlib.Core.Path.{◌≡◌, refl, ap}
use mathlib.Core.Bool.{Bool, true, false, cond}
use mathlib.Core.Option.{some}
use mathlib.Core.List.{List, [], ◌∷◌}
use native.Mathlib.Omega.{arith}
use lib.Dec.{eqb}
use lib.ListN.{length}
use borrow.Author.Tests.{eqb-true}
use Rattle.machine.specs.Table.{Body, History, put}
use Rattle.machine.specs.Machine.{Version, Machine, there, first_there, looked_at, is_nil, presently, expire_first, put_back, undone, cut, mark, dead, since, Step, begin, next, insert, update, delete, commit, withdraw, sweep, effect}
use Rattle.machine.specs.Runs.{start, after, Reach, one_more, tally, updates}
use Rattle.machine.proofs.Basics.{no_none}

-- ---- what each call does to a chain's length

length_put_back : (q : ℕ → ℕ → Bool) (vs : List Version) → length (put_back q vs) ≤ length vs
length_put_back q [] = omega arith
length_put_back q (v ∷ vs) = go (q v.create v.cmd) refl (length_put_back q vs)
  where
    go : (b : Bool) → q v.create v.cmd ≡ b → length (put_back q vs) ≤ length vs → length (put_back q (v ∷ vs)) ≤ suc (length vs)
    go true f ih = rw f (omega arith)
    go false f ih = rw f (omega arith)

length_undone : (q : ℕ → ℕ → Bool) (vs : List Version) → length (undone q vs) ≤ length vs
length_undone q [] = omega arith
length_undone q (v ∷ vs) = go (q v.create v.cmd) refl (q v.expire v.expire_cmd) refl
  where
    go : (b : Bool) → q v.create v.cmd ≡ b → (c : Bool) → q v.expire v.expire_cmd ≡ c
        → length (undone q (v ∷ vs)) ≤ suc (length vs)
    go true f c g = rw f (omega (arith, length_put_back q vs))
    go false f true g = rw (f, g) (omega arith)
    go false f false g = rw (f, g) (omega arith)

length_cut : (d : Version → Bool) (vs : List Version) → length (cut d vs) ≤ length vs
length_cut d [] = omega arith
length_cut d (v ∷ vs) = go (d v) refl (length_cut d vs)
  where
    go : (b : Bool) → d v ≡ b → length (cut d vs) ≤ length vs → length (cut d (v ∷ vs)) ≤ suc (length vs)
    go true f ih = rw f (omega arith)
    go false f ih = rw f (omega arith)

length_expire_first : (n c : ℕ) (vs : List Version) → length (expire_first n c vs) ≡ length vs
length_expire_first n c [] = refl
length_expire_first n c (v ∷ vs) = refl

-- a bound that depends on whether r is the row changed
at_row : (f : ℕ → List Version) (q : ℕ) (vs : List Version) (r : ℕ) (g : Bool → ℕ) → (r ≡ q → length vs ≤ g true) → length (f r) ≤ g false
    → length (put f q vs r) ≤ g (eqb r q)
at_row f q vs r g y z = go (eqb r q) refl
  where
    go : (t : Bool) → eqb r q ≡ t → length (put f q vs r) ≤ g (eqb r q)
    go true e = rw e (y (eqb-true r q e))
    go false e = rw e z

grows : (m : Machine) (c : Step) (r k : ℕ) → length (m.rows r) ≤ suc k → length ((effect m c).rows r) ≤ suc (one_more c r k)
grows m begin r k l = l
grows m (next n) r k l = l
grows m (insert n q b) r k l = at_row m.rows q _ r (λ t. suc k) (λ z. omega arith) l
grows m (update n q b) r k l =
    at_row m.rows q _ r (λ t. suc (cond t (suc k) k))
    (λ z. omega (arith, length_expire_first n (presently m n) (m.rows q), ap (λ (x : ℕ). length (m.rows x)) z)) l
grows m (delete n q) r k l =
    at_row m.rows q _ r (λ t. suc k) (λ z. omega
    (arith, length_expire_first n (presently m n) (m.rows q), ap (λ (x : ℕ). length (m.rows x)) z)) l
grows m (commit n) r k l = l
grows m (withdraw n) r k l = omega (arith, length_undone (since n 0) (m.rows r))
grows m (sweep q) r k l =
    at_row m.rows q _ r (λ t. suc k) (λ z. omega
    (arith, length_cut (dead m.status (mark m.next m.desk)) (m.rows q), ap (λ (x : ℕ). length (m.rows x)) z)) l

-- the bound is kept by each step, with the tally for the count
pub length_effect : (m : Machine) (c : Step) (r k : ℕ) → length (m.rows r) ≤ suc k → length ((effect m c).rows r) ≤ suc (tally m c r k)
length_effect m c r k l = go ((effect m c).rows r) (grows m c r k l)
  where
    go : (vs : List Version) → length vs ≤ suc (one_more c r k) → length vs ≤ suc (cond (is_nil vs) 0 (one_more c r k))
    go [] l = omega arith
    go (v ∷ vs) l = l

-- ---- the bound

pub chain_length : {m : Machine} {h : History} (x : Reach m h) (r : ℕ) → length (m.rows r) ≤ suc (updates x r)
chain_length start r = omega arith
chain_length (after {m = m} x c e) r = length_effect m c r (updates x r) (chain_length x r)

pub looked_at_length : (p : ℕ → ℕ → Bool) (vs : List Version) → looked_at p vs ≤ length vs
looked_at_length p [] = omega arith
looked_at_length p (v ∷ vs) = go (there p v) (looked_at_length p vs)
  where
    go : (t : Bool) → looked_at p vs ≤ length vs → cond t 1 (suc (looked_at p vs)) ≤ suc (length vs)
    go true ih = omega arith
    go false ih = omega arith

-- "at most 1 more than the accepted updates of that row since its slot was last empty", whatever counts for the reader
pub count_bound : {m : Machine} {h : History} (x : Reach m h) (p : ℕ → ℕ → Bool) (r : ℕ) → looked_at p (m.rows r) ≤ suc (updates x r)
count_bound {m} x p r = omega (arith, looked_at_length p (m.rows r), chain_length x r)

-- a reader that looked at one version alone read the first
pub looked_one : (p : ℕ → ℕ → Bool) (vs : List Version) (b : Body) → looked_at p vs ≡ 1 → first_there p vs ≡ some b
    → (v : Version) × (ws : List Version) × (vs ≡ v ∷ ws) × (v.body ≡ b) × (there p v ≡ true)
looked_one p [] b l e = no_none b e
looked_one p (v ∷ vs) b l e = go (there p v) refl
  where
    nobody : (vs : List Version) → looked_at p vs ≡ 0 → first_there p vs ≡ some b → ⊥
    nobody [] l e = no_none b e
    nobody (w ∷ ws) l e = by (there p w) l
      where
        by : (t : Bool) → cond t 1 (suc (looked_at p ws)) ≡ 0 → ⊥
        by true l = omega arith
        by false l = omega arith

    go : (t : Bool) → there p v ≡ t → (w : Version) × (ws : List Version) × (v ∷ vs ≡ w ∷ ws) × (w.body ≡ b) × (there p w ≡ true)
    go true f = let q : some v.body ≡ some b = rw f at e in (v, vs, refl, (cc), f)
    go false f =
        let n : suc (looked_at p vs) ≡ 1 = rw f at l in
        absurd (nobody vs (omega (arith, n)) (rw f at e))
