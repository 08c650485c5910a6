-- The walk's answer is the machine's reading. Assumes nothing.
use Prim.Native.Nat.{ℕ, suc, ◌+◌}
use mathlib.Core.Path.{◌≡◌, refl, ap}
use mathlib.Core.Bool.{Bool, true, false, ◌&&◌, cond}
use mathlib.Core.Option.{Option, none, some}
use mathlib.Core.List.{List, [], ◌∷◌}
use native.Mathlib.Omega.{arith}
use lib.Dec.{ltb}
use Rattle.desk.specs.View.{View}
use Rattle.status.specs.declared.Status.{Status}
use Rattle.status.specs.declared.Status.TheVariants.{InWork, Committed, Withdrawn, Reserved}
use Rattle.sight.specs.Sight.{known, there as there_for, committed, standing, is_committed as is_done}
use Rattle.sight.specs.Conflict.{is_dead}
use Rattle.chain.specs.declared.Walk.{Walk}
use Rattle.chain.specs.declared.Walk.TheVariants.{Found, Absent, Broken}
use Rattle.chain.specs.Chain.{Version}
use Rattle.chain.specs.Walk.{stamp_of, there_in, first_in, body_of}
use Rattle.machine.specs.Table.{Body}
use Rattle.machine.specs.Machine.{there, first_there, looked_at, dead, is_committed}
use Rattle.seen.specs.Seen.{as_standing, held_of, all_held}

-- a version is there by the machine's rule exactly where it is by sight's
pub there_is : (v : View) (s d u : List ℕ) (x : Version) → there (known v s) (held_of d u x) ≡ there_in v s x.slot
unfolding there_for
there_is v s d u x = refl

pub committed_is : (y : Status) → is_committed (as_standing y) ≡ is_done y
committed_is InWork = refl
committed_is Committed = refl
committed_is Withdrawn = refl
committed_is Reserved = refl

-- and dead likewise
pub dead_is : (s d u : List ℕ) (k : ℕ) (x : Version) → dead (λ (n : ℕ). as_standing (standing n s)) k (held_of d u x) ≡ is_dead k s (stamp_of x.slot)
unfolding is_dead committed
dead_is s d u k x = ap (λ (b : Bool). b && ltb x.slot.expire k) (committed_is (standing x.slot.expire s))

-- what the walk says of a whole chain is what the machine reads: the body at the place found, and the versions looked at
abbrev pub Says : List ℕ → List ℕ → Walk → Option Body → ℕ → Type 0
Says d u (Found p n) o k = (o ≡ some (body_of p d u)) × (n ≡ k)
Says d u Absent o k = o ≡ none
Says d u Broken o k = ⊥

pub first_in_is : (v : View) (s d u : List ℕ) (n : ℕ) (xs : List Version)
    → Says d u (first_in (there_in v s) n xs true) (first_there (known v s) (all_held d u xs)) (n + looked_at (known v s) (all_held d u xs))
unfolding first_in there_for
first_in_is v s d u n [] = refl
first_in_is v s d u n (x ∷ xs) = go (there_in v s x.slot) (first_in_is v s d u (n + 1) xs)
  where
    shift : (w : Walk) (o : Option Body) (k : ℕ) → Says d u w o (n + 1 + k) → Says d u w o (n + suc k)
    shift (Found p m) o k q = (q.0, omega (arith, q.1))
    shift Absent o k q = q
    shift Broken o k q = q

    go : (b : Bool) → Says d u (first_in (there_in v s) (n + 1) xs true) (first_there (known v s) (all_held d u xs)) (n + 1 + looked_at (known v s) (all_held d u xs))
        → Says d u (cond b (Found x.place (n + 1)) (first_in (there_in v s) (n + 1) xs true))
        (cond b (some (body_of x.place d u)) (first_there (known v s) (all_held d u xs)))
        (n + cond b 1 (suc (looked_at (known v s) (all_held d u xs))))
    go true q = (refl, refl)
    go false q = shift (first_in (there_in v s) (n + 1) xs true) (first_there (known v s) (all_held d u xs)) (looked_at (known v s) (all_held d u xs)) q
