-- Deeds cut off at the oldest end: what sweep does to a row ("01, Writes, withdrawal, sweep"). Assumes nothing.
use Prim.Native.Nat.{ℕ}
use mathlib.Core.Path.{◌≡◌, refl, ap, sym, subst}
use mathlib.Core.Logic.{◌⊎◌, inl, inr}
use mathlib.Core.Bool.{Bool, true, false, cond}
use mathlib.Core.Option.{Option, none, some}
use mathlib.Core.List.{List, [], ◌∷◌, ◌++◌, append-nil}
use lib.Dec.{eqb}
use borrow.Author.Tests.{ne_eqb}
use Rattle.machine.specs.Table.{Body}
use Rattle.machine.specs.Machine.{Version, cut}
use Rattle.machine.proofs.Basics.{true_false}
use Rattle.machine.proofs.Chains.{Deed, made, ended, puts, deeds, view, Closed, Linked, All, Head, Top}
use Rattle.machine.proofs.Drops.{drops}

-- the rest of what sweep keeps
module _ (d : Version → Bool) where
  linked_cut' : (v : Version) (vs : List Version) → Linked (v ∷ vs) → Linked (v ∷ cut d vs)
  linked_cut' v [] k = tt
  linked_cut' v (w ∷ ws) k = go (d w) refl (linked_cut' w ws k.2)
    where
      go : (b : Bool) → d w ≡ b → Linked (w ∷ cut d ws) → Linked (v ∷ cut d (w ∷ ws))
      go true f ih = rw f tt
      go false f ih = rw f (k.0, k.1, ih)

  pub linked_cut : (vs : List Version) → Linked vs → Linked (cut d vs)
  linked_cut [] k = tt
  linked_cut (v ∷ vs) k = go (d v) refl
    where
      go : (b : Bool) → d v ≡ b → Linked (cut d (v ∷ vs))
      go true f = rw f tt
      go false f = rw f (linked_cut' v vs k)

-- a row before and after sweep, as lists of deeds: G says whose deeds are settled
abbrev pub Has : (ℕ → Type 0) → List Deed → Type 0
Has G [] = ⊥
Has G (e ∷ l) = G e.who ⊎ Has G l

abbrev pub Fell : (ℕ → Type 0) → List Deed → Type 0
Fell G [] = ⊥
Fell G (e ∷ l) = G e.who × (e.val ≡ none)

-- nothing is left, and the newest deed was a settled delete; or an older part is gone, and something settled is left
abbrev pub CutOf : (ℕ → Type 0) → List Deed → List Deed → Type 0
CutOf G l l' = ((l' ≡ []) × Fell G l) ⊎ ((rest : List Deed) × (l ≡ l' ++ rest) × ((rest ≡ []) ⊎ Has G l'))

module _ (G : ℕ → Type 0) (d : Version → Bool) (sure : (v : Version) → d v ≡ true → (v.expire ≡ 0 → ⊥) × G v.expire) where
  cut_puts : (v : Version) (vs : List Version) → Linked (v ∷ vs)
      → (rest : List Deed) × (puts vs ≡ puts (cut d vs) ++ rest) × ((rest ≡ []) ⊎ Has G (made v ∷ puts (cut d vs)))
  cut_puts v [] k = ([], refl, inl refl)
  cut_puts v (w ∷ ws) k = go (d w) refl (cut_puts w ws k.2)
    where
      later : (rest : List Deed) → (rest ≡ []) ⊎ Has G (made w ∷ puts (cut d ws)) → (rest ≡ []) ⊎ Has G (made v ∷ made w ∷ puts (cut d ws))
      later rest (inl e) = inl e
      later rest (inr h) = inr (inr h)

      go : (b : Bool) → d w ≡ b
          → (rest : List Deed) × (puts ws ≡ puts (cut d ws) ++ rest) × ((rest ≡ []) ⊎ Has G (made w ∷ puts (cut d ws)))
          → (rest : List Deed) × (puts (w ∷ ws) ≡ puts (cut d (w ∷ ws)) ++ rest) × ((rest ≡ []) ⊎ Has G (made v ∷ puts (cut d (w ∷ ws))))
      go true f ih = (puts (w ∷ ws), rw f, inr (inl (subst G k.0 (sure w f).1)))
      go false f (rest, e, o) = (rest, rw f (ap (λ (x : List Deed). made w ∷ x) e), rw f (later rest o))

  pub cut_of : (vs : List Version) → Linked vs → CutOf G (deeds vs) (deeds (cut d vs))
  cut_of [] k = inr ([], refl, inl refl)
  cut_of (v ∷ vs) k = go (d v) refl
    where
      later : (rest : List Deed) → (rest ≡ []) ⊎ Has G (made v ∷ puts (cut d vs)) → (rest ≡ []) ⊎ Has G (ended v ∷ made v ∷ puts (cut d vs))
      later rest (inl e) = inl e
      later rest (inr h) = inr (inr h)

      go2 : (b : Bool) → eqb v.expire 0 ≡ b
          → (rest : List Deed) × (puts vs ≡ puts (cut d vs) ++ rest) × ((rest ≡ []) ⊎ Has G (made v ∷ puts (cut d vs)))
          → CutOf G (deeds (v ∷ vs)) (deeds (v ∷ cut d vs))
      go2 true e (rest, q, o) = rw e (inr (rest, ap (λ (x : List Deed). made v ∷ x) q, o))
      go2 false e (rest, q, o) = rw e (inr (rest, ap (λ (x : List Deed). ended v ∷ made v ∷ x) q, later rest o))

      go : (b : Bool) → d v ≡ b → CutOf G (deeds (v ∷ vs)) (deeds (cut d (v ∷ vs)))
      go true f = rw (f, ne_eqb v.expire 0 (sure v f).0) (inl (refl, ((sure v f).1, refl)))
      go false f = rw f (go2 (eqb v.expire 0) refl (cut_puts v vs k))

-- what follows for such a pair
view_prefix : (G : ℕ → Type 0) (p : ℕ → ℕ → Bool) → ((x c : ℕ) → G x → p x c ≡ true) → (l rest : List Deed) → Has G l
    → view p (l ++ rest) ≡ view p l
view_prefix G p g [] rest h = absurd h
view_prefix G p g (e ∷ l) rest (inl h) = rw (g e.who e.cmd h)
view_prefix G p g (e ∷ l) rest (inr h) = ap (λ (x : Option Body). cond (p e.who e.cmd) e.val x) (view_prefix G p g l rest h)

pub view_cutof : (G : ℕ → Type 0) (p : ℕ → ℕ → Bool) → ((x c : ℕ) → G x → p x c ≡ true) → (l l' : List Deed) → CutOf G l l'
    → view p l' ≡ view p l
view_cutof G p g [] l' (inl (e, f)) = absurd f
view_cutof G p g (x ∷ l) l' (inl (e, f)) = rw (e, g x.who x.cmd f.0) (sym f.1)
view_cutof G p g l l' (inr (rest, e, inl z)) = rw (e, z, append-nil l')
view_cutof G p g l l' (inr (rest, e, inr h)) = rw e (sym (view_prefix G p g l' rest h))

closed_prefix : (p : ℕ → ℕ → Bool) (l rest : List Deed) → Closed p (l ++ rest) → Closed p l
closed_prefix p [] rest c = tt
closed_prefix p (e ∷ []) rest c = tt
closed_prefix p (e ∷ f ∷ l) rest c = (c.0, closed_prefix p (f ∷ l) rest c.1)

pub closed_cutof : (G : ℕ → Type 0) (p : ℕ → ℕ → Bool) (l l' : List Deed) → CutOf G l l' → Closed p l → Closed p l'
closed_cutof G p l l' (inl (e, f)) c = rw e tt
closed_cutof G p l l' (inr (rest, e, o)) c = closed_prefix p l' rest (rw e at c)

all_prefix : (P : Deed → Type 0) (l rest : List Deed) → All P (l ++ rest) → All P l
all_prefix P [] rest a = tt
all_prefix P (e ∷ l) rest a = (a.0, all_prefix P l rest a.1)

pub all_cutof : (G : ℕ → Type 0) (P : Deed → Type 0) (l l' : List Deed) → CutOf G l l' → All P l → All P l'
all_cutof G P l l' (inl (e, f)) a = rw e tt
all_cutof G P l l' (inr (rest, e, o)) a = all_prefix P l' rest (rw e at a)

top_prefix : (G : ℕ → Type 0) (q : ℕ → ℕ → Bool) → ((x c : ℕ) → G x → q x c ≡ false)
    → (n : ℕ) (o : Option (Option Body)) (l rest : List Deed) → Has G l → Top n o (drops q (l ++ rest)) → Top n o (drops q l)
top_prefix G q z n o [] rest h t = absurd h
top_prefix G q z n o (e ∷ l) rest h t = go (q e.who e.cmd) refl h (top_prefix G q z n o l rest)
  where
    plain : (o : Option (Option Body)) → Top n o (e ∷ (l ++ rest)) → Top n o (e ∷ l)
    plain none a = (a.0, all_prefix (λ e. e.who ≡ n → ⊥) l rest a.1)
    plain (some b) a = a

    go : (b : Bool) → q e.who e.cmd ≡ b → G e.who ⊎ Has G l
        → (Has G l → Top n o (drops q (l ++ rest)) → Top n o (drops q l)) → Top n o (drops q (e ∷ l))
    go true f (inl g) ih = true_false (q e.who e.cmd) f (z e.who e.cmd g)
    go true f (inr g) ih = rw f (ih g (rw f at t))
    go false f g ih = rw f (plain o (rw f at t))

pub top_cutof : (G : ℕ → Type 0) (q : ℕ → ℕ → Bool) → ((x c : ℕ) → G x → q x c ≡ false) → (n : ℕ) → (G n → ⊥)
    → (o : Option (Option Body)) (l l' : List Deed) → CutOf G l l' → Top n o (drops q l) → Top n o (drops q l')
top_cutof G q z n w o [] l' (inl (e, f)) t = absurd f
top_cutof G q z n w none (x ∷ l) l' (inl (e, f)) t = rw e tt
top_cutof G q z n w (some b) (x ∷ l) l' (inl (e, f)) t =
    let t' : Head n b (x ∷ l) = rw (z x.who x.cmd f.0) at t in absurd (w (subst G t'.0 f.0))
top_cutof G q z n w o l l' (inr (rest, e, inl y)) t = let e' : l ≡ l' = rw (y, append-nil l') at e in subst
    (λ (x : List Deed). Top n o (drops q x)) e' t
top_cutof G q z n w o l l' (inr (rest, e, inr h)) t = top_prefix G q z n o l' rest h (rw e at t)
