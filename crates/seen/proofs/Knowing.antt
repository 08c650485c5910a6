-- What counts for a session of the machine is what its view knows. Assumes nothing.
use Prim.Native.Nat.{ℕ, zero, suc, ◌≤◌, ◌<◌}
use mathlib.Core.Path.{◌≡◌, refl, ap, sym, ◌∙◌}
use mathlib.Core.Bool.{Bool, true, false, not, ◌&&◌, ◌||◌}
use mathlib.Core.List.{List, [], ◌∷◌}
use native.Mathlib.Omega.{arith}
use lib.Dec.{eqb, ltb}
use lib.ListN.{get_or, length}
use borrow.Author.Tests.{eqb-true, eqb-false, eq-eqb, ne_eqb}
use Rattle.desk.specs.View.{View}
use Rattle.sight.specs.Sight.{known, earlier, listed, committed, standing, sees as sees_for, is_committed as is_done}
use Rattle.sight.proofs.Sights.{listed_at, listed_intro}
use Rattle.machine.specs.Table.{member}
use Rattle.machine.specs.Machine.{Session, counts, sees, is_committed}
use Rattle.machine.proofs.Basics.{true_false}
use Rattle.seen.specs.Seen.{as_standing, used}
use Rattle.seen.proofs.Walked.{committed_is}

-- a number that is not 0 and stands at some place is used
used_at : (x : ℕ) → (x ≡ 0 → ⊥) → (l : List ℕ) (k : ℕ) → get_or l k 0 ≡ x → member x (used l) ≡ true
used_at x z [] k e = absurd (z (sym e))
used_at x z (y ∷ l) zero e = rw (ne_eqb y 0 (λ q. z (sym e ∙ q)), eq-eqb x y (sym e))
used_at x z (y ∷ l) (suc k) e = go (eqb y 0) refl (used_at x z l k e)
  where
    go : (b : Bool) → eqb y 0 ≡ b → member x (used l) ≡ true → member x (used (y ∷ l)) ≡ true
    go true f ih = rw f ih
    go false f ih = rw (f, ih) (or_right (eqb x y))
      where
        or_right : (a : Bool) → (a || true) ≡ true
        or_right true = refl
        or_right false = refl

-- and the other way
used_place : (x : ℕ) (l : List ℕ) → member x (used l) ≡ true → (k : ℕ) × (k < length l) × (get_or l k 0 ≡ x)
used_place x [] e = true_false true refl (sym e)
used_place x (y ∷ l) e = go (eqb y 0) refl (eqb x y) refl (used_place x l)
  where
    later : (k : ℕ) × (k < length l) × (get_or l k 0 ≡ x) → (k : ℕ) × (k < suc (length l)) × (get_or (y ∷ l) k 0 ≡ x)
    later (k, h, q) = (suc k, omega (arith, h), q)

    go : (b : Bool) → eqb y 0 ≡ b → (c : Bool) → eqb x y ≡ c → (member x (used l) ≡ true → (k : ℕ) × (k < length l) × (get_or l k 0 ≡ x))
        → (k : ℕ) × (k < suc (length l)) × (get_or (y ∷ l) k 0 ≡ x)
    go true f c g ih = later (ih (rw f at e))
    go false f true g ih = (zero, omega arith, sym (eqb-true x y g))
    go false f false g ih = later (ih (rw (f, g) at e))

pub listed_used : (x : ℕ) → (x ≡ 0 → ⊥) → (l : List ℕ) → length l ≤ 15 → listed x l ≡ member x (used l)
listed_used x z l h = go (listed x l) refl (member x (used l)) refl
  where
    go : (a : Bool) → listed x l ≡ a → (b : Bool) → member x (used l) ≡ b → listed x l ≡ member x (used l)
    go true e true f = e ∙ sym f
    go false e false f = e ∙ sym f
    go true e false f = let (k, g, q) = listed_at x l e in true_false (member x (used l)) (used_at x z l k q) f
    go false e true f = let (k, g, q) = used_place x l f in true_false (listed x l) (listed_intro x l k (omega (arith, g)) q) e

-- the session of a view
abbrev pub session_of : View → Session
session_of v = record { number = v.number; statement = v.statement; list = used v.list }

pub sees_is : (v : View) (s : List ℕ) (x : ℕ) → length v.list ≤ 15
    → sees (λ (n : ℕ). as_standing (standing n s)) (session_of v) x ≡ sees_for v.number v.list s x
unfolding sees_for committed
sees_is v s x h = go (eqb x 0) refl
  where
    flat : (a b c d : Bool) → (a && (b && (c && d))) ≡ (a && b && c && d)
    flat false b c d = refl
    flat true false c d = refl
    flat true true false d = refl
    flat true true true d = refl

    go : (b : Bool) → eqb x 0 ≡ b
        → (not (eqb x 0) && (ltb x v.number && (not (member x (used v.list)) && is_committed (as_standing (standing x s)))))
        ≡ (not (eqb x 0) && ltb x v.number && not (listed x v.list) && is_done (standing x s))
    go true e = rw e refl
    go false e = rw (e, committed_is (standing x s), listed_used x (eqb-false x 0 e) v.list h)
        (flat true (ltb x v.number) (not (member x (used v.list))) (is_done (standing x s)))

pub known_is : (v : View) (s : List ℕ) (x c : ℕ) → length v.list ≤ 15
    → counts (λ (n : ℕ). as_standing (standing n s)) (session_of v) v.statement x c ≡ known v s x c
unfolding known earlier
known_is v s x c h = ap (λ (b : Bool). (eqb x v.number && ltb c v.statement) || b) (sees_is v s x h)
