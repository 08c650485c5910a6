-- Deeds dropped at the newest end: what withdraw does to a row ("01, Writes, withdrawal, sweep"). Assumes nothing.
use Prim.Native.Nat.{ℕ}
use mathlib.Core.Path.{◌≡◌, refl}
use mathlib.Core.Bool.{Bool, true, false, cond}
use mathlib.Core.List.{List, [], ◌∷◌}
use lib.Dec.{eqb}
use borrow.Author.Tests.{eqb-true}
use Rattle.machine.specs.Machine.{Version, put_back, undone}
use Rattle.machine.proofs.Basics.{true_false}
use Rattle.machine.proofs.Chains.{Deed, puts, deeds, view, Closed, Linked, All, closed_tail, linked_clear}

-- the deeds of which q holds are dropped at the newest end
abbrev pub drops : (ℕ → ℕ → Bool) → List Deed → List Deed
drops q [] = []
drops q (e ∷ l) = cond (q e.who e.cmd) (drops q l) (e ∷ l)

module _ (p : ℕ → ℕ → Bool) where
  pub closed_drops : (q : ℕ → ℕ → Bool) (l : List Deed) → Closed p l → Closed p (drops q l)
  closed_drops q [] c = tt
  closed_drops q (e ∷ l) c = go (q e.who e.cmd) refl (closed_drops q l (closed_tail p e l c))
    where
      go : (b : Bool) → q e.who e.cmd ≡ b → Closed p (drops q l) → Closed p (drops q (e ∷ l))
      go true f ih = rw f ih
      go false f ih = rw f c

  -- deeds that do not count may be dropped
  pub view_drops : (q : ℕ → ℕ → Bool) → ((x c : ℕ) → q x c ≡ true → p x c ≡ false) → (l : List Deed) → view p (drops q l) ≡ view p l
  view_drops q z [] = refl
  view_drops q z (e ∷ l) = go (q e.who e.cmd) refl (view_drops q z l)
    where
      go : (b : Bool) → q e.who e.cmd ≡ b → view p (drops q l) ≡ view p l → view p (drops q (e ∷ l)) ≡ view p (e ∷ l)
      go true f ih = rw (f, z e.who e.cmd f) ih
      go false f ih = rw f

pub all_drops : (P : Deed → Type 0) (q : ℕ → ℕ → Bool) (l : List Deed) → All P l → All P (drops q l)
all_drops P q [] a = tt
all_drops P q (e ∷ l) a = go (q e.who e.cmd) refl (all_drops P q l a.1)
  where
    go : (b : Bool) → q e.who e.cmd ≡ b → All P (drops q l) → All P (drops q (e ∷ l))
    go true f ih = rw f ih
    go false f ih = rw f a

-- where the newest deed stays, nothing is dropped
abbrev pub Stops : (ℕ → ℕ → Bool) → List Deed → Type 0
Stops q [] = Unit {0}
Stops q (e ∷ l) = q e.who e.cmd ≡ false

pub stops_drops : (q : ℕ → ℕ → Bool) (l : List Deed) → Stops q (drops q l)
stops_drops q [] = tt
stops_drops q (e ∷ l) = go (q e.who e.cmd) refl (stops_drops q l)
  where
    go : (b : Bool) → q e.who e.cmd ≡ b → Stops q (drops q l) → Stops q (drops q (e ∷ l))
    go true f ih = rw f ih
    go false f ih = rw f f

pub drops_stay : (q : ℕ → ℕ → Bool) (l : List Deed) → Stops q l → drops q l ≡ l
drops_stay q [] s = refl
drops_stay q (e ∷ l) s = rw s

-- ---- what is put back

linked_tail : (v : Version) (vs : List Version) → Linked (v ∷ vs) → Linked vs
linked_tail v [] k = tt
linked_tail v (w ∷ ws) k = k.2

linked_put_back : (q : ℕ → ℕ → Bool) (vs : List Version) → Linked vs → Linked (put_back q vs)
linked_put_back q [] k = tt
linked_put_back q (v ∷ vs) k = go (q v.create v.cmd) refl (linked_put_back q vs (linked_tail v vs k))
  where
    go : (b : Bool) → q v.create v.cmd ≡ b → Linked (put_back q vs) → Linked (put_back q (v ∷ vs))
    go true f ih = rw f ih
    go false f ih = rw f (linked_clear 0 0 v vs k)

pub linked_undone : (q : ℕ → ℕ → Bool) (vs : List Version) → Linked vs → Linked (undone q vs)
linked_undone q [] k = tt
linked_undone q (v ∷ vs) k = go (q v.create v.cmd) refl (q v.expire v.expire_cmd) refl
  where
    go : (b : Bool) → q v.create v.cmd ≡ b → (c : Bool) → q v.expire v.expire_cmd ≡ c → Linked (undone q (v ∷ vs))
    go true f c g = rw f (linked_put_back q vs (linked_tail v vs k))
    go false f true g = rw (f, g) (linked_clear 0 0 v vs k)
    go false f false g = rw (f, g) k

put_back_deeds : (q : ℕ → ℕ → Bool) (vs : List Version) → deeds (put_back q vs) ≡ drops q (puts vs)
put_back_deeds q [] = refl
put_back_deeds q (v ∷ vs) = go (q v.create v.cmd) refl (put_back_deeds q vs)
  where
    go : (b : Bool) → q v.create v.cmd ≡ b → deeds (put_back q vs) ≡ drops q (puts vs)
        → deeds (put_back q (v ∷ vs)) ≡ drops q (puts (v ∷ vs))
    go true f ih = rw f ih
    go false f ih = rw f

-- under a newest deed that stays, the next stays too
abbrev pub Safe : (ℕ → ℕ → Bool) → List Deed → Type 0
Safe q [] = Unit {0}
Safe q (e ∷ []) = Unit {0}
Safe q (e ∷ f ∷ l) = q e.who e.cmd ≡ false → q f.who f.cmd ≡ false

pub undone_deeds : (q : ℕ → ℕ → Bool) → ((c : ℕ) → q 0 c ≡ false) → (vs : List Version) → Safe q (deeds vs)
    → deeds (undone q vs) ≡ drops q (deeds vs)
undone_deeds q z [] s = refl
undone_deeds q z (v ∷ vs) s = go (eqb v.expire 0) refl (q v.create v.cmd) refl (q v.expire v.expire_cmd) refl
  where
    go : (t : Bool) → eqb v.expire 0 ≡ t → (a : Bool) → q v.create v.cmd ≡ a → (b : Bool)
        → q v.expire v.expire_cmd ≡ b → deeds (undone q (v ∷ vs)) ≡ drops q (deeds (v ∷ vs))
    go true e a f true g = true_false (q v.expire v.expire_cmd) g (rw (eqb-true v.expire 0 e) (z v.expire_cmd))
    go true e true f false g = rw (e, f) (put_back_deeds q vs)
    go true e false f false g = rw (f, g, e, f)
    go false e true f true g = rw (e, f, g) (put_back_deeds q vs)
    go false e true f false g = let s' : q v.expire v.expire_cmd ≡ false → q v.create v.cmd ≡ false = rw e at s in
        true_false (q v.create v.cmd) f (s' g)
    go false e false f true g = rw (e, f, g)
    go false e false f false g = rw (f, g, e, g)
