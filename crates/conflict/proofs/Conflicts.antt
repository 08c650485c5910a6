-- What a slot says to a session that would write, by the cases of the paper, in the order of the code ("01, When the desk says no",
-- 8 to 10). Assumes nothing.
use mathlib.Core.Path.{◌≡◌, refl, sym, ◌∙◌}
use mathlib.Core.Logic.{◌⊎◌, inl, inr}
use mathlib.Core.Bool.{Bool, true, false, ◌&&◌, ◌||◌, cond}
use mathlib.Core.List.{List}
use Prim.Native.Nat.{ℕ, ◌<◌, ◌≤◌}
use native.Mathlib.Omega.{arith}
use lib.Dec.{eqb, ltb}
use borrow.Author.Tests.{eqb-true, eqb-false, eq-eqb, ne_eqb, ltb-true, lt-ltb, le-ltb}
use Rattle.desk.specs.View.{View}
use Rattle.sight.specs.declared.Stamp.{Stamp}
use Rattle.sight.specs.Sight.{view_of, committed, sees, earlier, known}
use Rattle.sight.specs.Conflict.{of_another, conflict_of}
use Rattle.sight.proofs.Sights.{known_own, known_other}
use Rattle.sight.proofs.Fronts.{FrontOf, front_sees}

-- "10 if committed, else 9"
module _ {b : Bool} (x : ℕ) (s : List ℕ) (told : b ≡ committed x s) where
  pub another_committed : b ≡ true → of_another s x ≡ 10
  unfolding of_another
  another_committed e = rw (← told, e)

  pub another_open : b ≡ false → of_another s x ≡ 9
  unfolding of_another
  another_open e = rw (← told, e)

module _ (v : View) (s : List ℕ) (t : Stamp) where
  module _ (ended : t.expire ≡ 0 → ⊥) where
    -- "Expirer S: 8"
    pub conflict_own_expirer : t.expire ≡ v.number → conflict_of v s t ≡ 8
    unfolding conflict_of
    conflict_own_expirer e = rw (ne_eqb t.expire 0 ended, eq-eqb t.expire v.number e)

    -- "Another expirer: 10 if committed, else 9"
    pub conflict_expirer : (t.expire ≡ v.number → ⊥) → conflict_of v s t ≡ of_another s t.expire
    unfolding conflict_of
    conflict_expirer ne = rw (ne_eqb t.expire 0 ended, ne_eqb t.expire v.number ne)

  module _ (whole : t.expire ≡ 0) where
    module _ (own : t.create ≡ v.number) where
      -- "creator S earlier .. go on"
      pub conflict_earlier : t.cmd < v.statement → conflict_of v s t ≡ 0
      unfolding conflict_of
      conflict_earlier h =
          rw (eq-eqb t.expire 0 whole, eq-eqb t.create v.number own, lt-ltb t.cmd v.statement h)

      -- "creator S with cmd not below the statement: 8"
      pub conflict_own : v.statement ≤ t.cmd → conflict_of v s t ≡ 8
      unfolding conflict_of
      conflict_own h =
          rw (eq-eqb t.expire 0 whole, eq-eqb t.create v.number own, le-ltb t.cmd v.statement h)

    module _ (other : t.create ≡ v.number → ⊥) {b : Bool} (told : b ≡ sees v.number v.list s t.create) where
      -- "or seen: go on"
      pub conflict_seen : b ≡ true → conflict_of v s t ≡ 0
      unfolding conflict_of
      conflict_seen e = rw (eq-eqb t.expire 0 whole, ne_eqb t.create v.number other, ← told, e)

      -- "otherwise 10 if committed, else 9"
      pub conflict_unseen : b ≡ false → conflict_of v s t ≡ of_another s t.create
      unfolding conflict_of
      conflict_unseen e = rw (eq-eqb t.expire 0 whole, ne_eqb t.create v.number other, ← told, e)

-- ---- the numbers that a slot says

-- 0, or one of 8 to 10
abbrev pub Said : ℕ → Type 0
Said n = (n ≡ 0) ⊎ ((n ≡ 8) ⊎ ((n ≡ 9) ⊎ (n ≡ 10)))

said_by : (none own before seen ended mine done : Bool)
    → Said (cond none (cond own (cond before 0 8) (cond seen 0 (cond ended 10 9))) (cond mine 8 (cond done 10 9)))
said_by true true true seen ended mine done = inl refl
said_by true true false seen ended mine done = inr (inl refl)
said_by true false before true ended mine done = inl refl
said_by true false before false true mine done = inr (inr (inr refl))
said_by true false before false false mine done = inr (inr (inl refl))
said_by false own before seen ended true done = inr (inl refl)
said_by false own before seen ended false true = inr (inr (inr refl))
said_by false own before seen ended false false = inr (inr (inl refl))

pub conflict_said : (v : View) (s : List ℕ) (t : Stamp) → Said (conflict_of v s t)
unfolding conflict_of of_another
conflict_said v s t =
    said_by
    (eqb t.expire 0)
    (eqb t.create v.number)
    (ltb t.cmd v.statement)
    (sees v.number v.list s t.create)
    (committed t.create s)
    (eqb t.expire v.number)
    (committed t.expire s)

-- ---- where it says nothing

-- "No expirer: .. creator S earlier, or seen: go on"
clear_by : (none own before seen ended mine done : Bool)
    → ◌≡◌ {A = ℕ} (cond none (cond own (cond before 0 8) (cond seen 0 (cond ended 10 9))) (cond mine 8 (cond done 10 9))) 0
    → (none ≡ true) × (((own && before) || seen) ≡ true)
clear_by true true true seen ended mine done e = (refl, refl)
clear_by true true false seen ended mine done e = absurd (omega (arith, e))
clear_by true false before true ended mine done e = (refl, refl)
clear_by true false before false true mine done e = absurd (omega (arith, e))
clear_by true false before false false mine done e = absurd (omega (arith, e))
clear_by false own before seen ended true done e = absurd (omega (arith, e))
clear_by false own before seen ended false true e = absurd (omega (arith, e))
clear_by false own before seen ended false false e = absurd (omega (arith, e))

pub conflict_clear : (v : View) (s : List ℕ) (t : Stamp) → conflict_of v s t ≡ 0 → (eqb t.expire 0 ≡ true) × (known v s t.create t.cmd ≡ true)
unfolding conflict_of of_another known earlier
conflict_clear v s t e =
    clear_by
    (eqb t.expire 0)
    (eqb t.create v.number)
    (ltb t.cmd v.statement)
    (sees v.number v.list s t.create)
    (committed t.create s)
    (eqb t.expire v.number)
    (committed t.expire s)
    e

-- and where there is no expirer and the creator is known it says nothing
pub clear_conflict : (v : View) (s : List ℕ) (t : Stamp) → eqb t.expire 0 ≡ true → known v s t.create t.cmd ≡ true → conflict_of v s t ≡ 0
clear_conflict v s t none counted = go (eqb t.create v.number) refl
  where
    whole : t.expire ≡ 0
    whole = eqb-true t.expire 0 none

    go : (b : Bool) → eqb t.create v.number ≡ b → conflict_of v s t ≡ 0
    go true e =
        let own : t.create ≡ v.number = eqb-true t.create v.number e in
        conflict_earlier v s t whole own (ltb-true t.cmd v.statement (sym (known_own v s t.create t.cmd own) ∙ counted))
    go false e =
        let other : t.create ≡ v.number → ⊥ = eqb-false t.create v.number e in
        conflict_seen v s t whole other refl (sym (known_other v s t.create t.cmd other) ∙ counted)

-- ---- two views that differ in unused places alone

pub front_conflict : (m l : List ℕ)
    → FrontOf m l
    → (number statement : ℕ) (s : List ℕ) (t : Stamp)
    → conflict_of (view_of number statement m) s t ≡ conflict_of (view_of number statement l) s t
unfolding conflict_of
front_conflict m l front number statement s t = rw (front_sees m l front number s t.create)
