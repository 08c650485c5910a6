-- The desk as a table that find reads, the mark, and when sight does not change ("01, Sessions and sight"). Assumes nothing.
use Prim.Native.Nat.{ℕ, ◌≤◌, ◌<◌}
use mathlib.Core.Path.{◌≡◌, refl, ap, sym, subst, ◌∙◌}
use mathlib.Core.Logic.{◌⊎◌, inl, inr}
use mathlib.Core.Bool.{Bool, true, false, not, ◌&&◌, cond, or-true}
use mathlib.Core.Option.{Option, none, some}
use mathlib.Core.List.{List, [], ◌∷◌, ◌++◌}
use native.Mathlib.Omega.{arith}
use lib.Dec.{eqb, ltb}
use borrow.Author.Tests.{eqb-true, eqb-false, eq-eqb, ne_eqb, ltb-true, ltb-false, lt-ltb}
use Rattle.machine.specs.Table.{member}
use Rattle.machine.specs.Machine.{Status, Session, is_committed, sees, find, is_some, numbers, close, onward, move, least, held, mark}
use Rattle.machine.proofs.Basics.{no_none, true_false}

-- ---- find

-- session n is open, and is s
abbrev pub Found : ℕ → List Session → Session → Type 0
Found n l s = find n l ≡ some s

pub found_of : (n : ℕ) (l : List Session) (o : Option Session) → find n l ≡ o → is_some o ≡ true → (s : Session) × Found n l s
found_of n l none e t = true_false true refl (sym t)
found_of n l (some s) e t = (s, e)

pub same_found : (n : ℕ) (l : List Session) (s t : Session) → Found n l s → Found n l t → s ≡ t
same_found n l s t f g = cc

pub find_number : (n : ℕ) (l : List Session) (s : Session) → Found n l s → s.number ≡ n
find_number n [] s e = no_none s e
find_number n (t ∷ l) s e = go (eqb n t.number) refl (find_number n l s)
  where
    go : (b : Bool) → eqb n t.number ≡ b → (Found n l s → s.number ≡ n) → s.number ≡ n
    go true f ih = let q : some t ≡ some s = rw f at e in let q' : t ≡ s = cc in ap (λ (x : Session). x.number) (sym q') ∙ sym
        (eqb-true n t.number f)
    go false f ih = ih (rw f at e)

pub find_append : (n : ℕ) (l : List Session) (t s : Session) → Found n (l ++ (t ∷ [])) s → Found n l s ⊎ ((n ≡ t.number) × (t ≡ s))
find_append n [] t s e = go (eqb n t.number) refl
  where
    go : (b : Bool) → eqb n t.number ≡ b → Found n [] s ⊎ ((n ≡ t.number) × (t ≡ s))
    go true f = let q : some t ≡ some s = rw f at e in inr (eqb-true n t.number f, (cc))
    go false f = inl (rw f at e)
find_append n (u ∷ l) t s e = go (eqb n u.number) refl (find_append n l t s)
  where
    go : (b : Bool) → eqb n u.number ≡ b → (Found n (l ++ (t ∷ [])) s → Found n l s ⊎ ((n ≡ t.number) × (t ≡ s)))
        → Found n (u ∷ l) s ⊎ ((n ≡ t.number) × (t ≡ s))
    go true f ih = inl (rw f (rw f at e))
    go false f ih = rw f (ih (rw f at e))

pub find_close : (n m : ℕ) (l : List Session) (s : Session) → Found n (close m l) s → (n ≡ m → ⊥) × Found n l s
find_close n m [] s e = no_none s e
find_close n m (t ∷ l) s e = go (eqb m t.number) refl (eqb n t.number) refl (find_close n m l s)
  where
    go : (b : Bool) → eqb m t.number ≡ b → (c : Bool) → eqb n t.number ≡ c
        → (Found n (close m l) s → (n ≡ m → ⊥) × Found n l s) → (n ≡ m → ⊥) × Found n (t ∷ l) s
    go true f true g ih = absurd ((ih (rw f at e)).0 (eqb-true n t.number g ∙ sym (eqb-true m t.number f)))
    go true f false g ih = let q = ih (rw f at e) in (q.0, rw g q.1)
    go false f true g ih = ((λ q. eqb-false m t.number f (sym q ∙ eqb-true n t.number g)), rw g (rw (f, g) at e))
    go false f false g ih = let q = ih (rw (f, g) at e) in (q.0, rw g q.1)

pub find_move : (n m : ℕ) (l : List Session) (s : Session) → Found n (move m l) s
    → (t : Session) × Found n l t × (s ≡ cond (eqb n m) (onward t) t)
find_move n m [] s e = no_none s e
find_move n m (t ∷ l) s e = go (eqb m t.number) refl (eqb n t.number) refl (find_move n m l s)
  where
    go : (b : Bool) → eqb m t.number ≡ b → (c : Bool) → eqb n t.number ≡ c
        → (Found n (move m l) s → (w : Session) × Found n l w × (s ≡ cond (eqb n m) (onward w) w))
        → (w : Session) × Found n (t ∷ l) w × (s ≡ cond (eqb n m) (onward w) w)
    go true f true g ih =
        let q : some (onward t) ≡ some s = rw (f, g) at e in
        let z : onward t ≡ s = cc in
        (t, rw g refl, rw (eq-eqb n m (eqb-true n t.number g ∙ sym (eqb-true m t.number f))) (sym z))
    go false f true g ih =
        let q : some t ≡ some s = rw (f, g) at e in
        let z : t ≡ s = cc in
        (t, rw g refl, rw (ne_eqb n m (λ x. eqb-false m t.number f (sym x ∙ eqb-true n t.number g))) (sym z))
    go true f false g ih = let q = ih (rw (f, g) at e) in (q.0, rw g q.1, q.2)
    go false f false g ih = let q = ih (rw (f, g) at e) in (q.0, rw g q.1, q.2)

-- the other way: what is open stays open

pub append_on : (n : ℕ) (l : List Session) (t s : Session) → Found n l s → Found n (l ++ (t ∷ [])) s
append_on n [] t s e = no_none s e
append_on n (u ∷ l) t s e = go (eqb n u.number) refl (append_on n l t s)
  where
    go : (b : Bool) → eqb n u.number ≡ b → (Found n l s → Found n (l ++ (t ∷ [])) s) → Found n ((u ∷ l) ++ (t ∷ [])) s
    go true f ih = rw f (rw f at e)
    go false f ih = rw f (ih (rw f at e))

pub move_on : (n m : ℕ) (l : List Session) (s : Session) → Found n l s → (t : Session) × Found n (move m l) t
move_on n m [] s e = no_none s e
move_on n m (t ∷ l) s e = go (eqb m t.number) refl (eqb n t.number) refl (move_on n m l s)
  where
    go : (b : Bool) → eqb m t.number ≡ b → (c : Bool) → eqb n t.number ≡ c
        → (Found n l s → (w : Session) × Found n (move m l) w) → (w : Session) × Found n (move m (t ∷ l)) w
    go true f true g ih = (onward t, rw (f, g))
    go false f true g ih = (t, rw (f, g))
    go true f false g ih = let q = ih (rw g at e) in (q.0, rw (f, g) q.1)
    go false f false g ih = let q = ih (rw g at e) in (q.0, rw (f, g) q.1)

pub close_on : (n m : ℕ) (l : List Session) (s : Session) → (n ≡ m → ⊥) → Found n l s → Found n (close m l) s
close_on n m [] s z e = no_none s e
close_on n m (t ∷ l) s z e = go (eqb m t.number) refl (eqb n t.number) refl (close_on n m l s z)
  where
    go : (b : Bool) → eqb m t.number ≡ b → (c : Bool) → eqb n t.number ≡ c → (Found n l s → Found n (close m l) s)
        → Found n (close m (t ∷ l)) s
    go true f true g ih = absurd (z (eqb-true n t.number g ∙ sym (eqb-true m t.number f)))
    go true f false g ih = rw f (ih (rw g at e))
    go false f true g ih = rw (f, g) (rw g at e)
    go false f false g ih = rw (f, g) (ih (rw g at e))

pub member_numbers : (n : ℕ) (l : List Session) → member n (numbers l) ≡ is_some (find n l)
member_numbers n [] = refl
member_numbers n (s ∷ l) = go (eqb n s.number) refl (member_numbers n l)
  where
    go : (b : Bool) → eqb n s.number ≡ b → member n (numbers l) ≡ is_some (find n l)
        → member n (numbers (s ∷ l)) ≡ is_some (find n (s ∷ l))
    go true f ih = rw f
    go false f ih = rw f ih

-- ---- the mark

smaller : (a x : ℕ) → (cond (ltb x a) x a ≤ a) × (cond (ltb x a) x a ≤ x)
smaller a x = go (ltb x a) refl
  where
    go : (b : Bool) → ltb x a ≡ b → (cond (ltb x a) x a ≤ a) × (cond (ltb x a) x a ≤ x)
    go true f = let q = ltb-true x a f in rw f (omega arith)
    go false f = let q = ltb-false x a f in rw f (omega arith)

least_le : (l : List ℕ) (a : ℕ) → least a l ≤ a
least_le [] a = omega arith
least_le (x ∷ l) a = omega (arith, least_le l (cond (ltb x a) x a), smaller a x)

least_member : (l : List ℕ) (a y : ℕ) → member y l ≡ true → least a l ≤ y
least_member [] a y e = true_false true refl (sym e)
least_member (x ∷ l) a y e = go (eqb y x) refl (least_member l (cond (ltb x a) x a) y)
  where
    go : (b : Bool) → eqb y x ≡ b → (member y l ≡ true → least (cond (ltb x a) x a) l ≤ y) → least a (x ∷ l) ≤ y
    go true f ih = omega (arith, least_le l (cond (ltb x a) x a), smaller a x, eqb-true y x f)
    go false f ih = ih (rw f at e)

mark_le : (l : List Session) (a : ℕ) → mark a l ≤ a
mark_le [] a = omega arith
mark_le (s ∷ l) a = omega (arith, mark_le l (least a (held s)), least_le (held s) a)

-- the mark is at most an open session's number and each of its list members
pub mark_found : (n : ℕ) (l : List Session) (a : ℕ) (s : Session) → Found n l s
    → (mark a l ≤ s.number) × ((x : ℕ) → member x s.list ≡ true → mark a l ≤ x)
mark_found n [] a s e = no_none s e
mark_found n (t ∷ l) a s e = go (eqb n t.number) refl (mark_found n l (least a (held t)) s)
  where
    lower : (x : ℕ) → member x (held t) ≡ true → mark a (t ∷ l) ≤ x
    lower x h = omega (arith, mark_le l (least a (held t)), least_member (held t) a x h)

    own : member t.number (held t) ≡ true
    own = rw (eq-eqb t.number t.number refl)

    listed : (x : ℕ) → member x t.list ≡ true → member x (held t) ≡ true
    listed x h = rw h (or-true (eqb x t.number))

    go : (b : Bool) → eqb n t.number ≡ b
        → (Found n l s → (mark a (t ∷ l) ≤ s.number) × ((x : ℕ) → member x s.list ≡ true → mark a (t ∷ l) ≤ x))
        → (mark a (t ∷ l) ≤ s.number) × ((x : ℕ) → member x s.list ≡ true → mark a (t ∷ l) ≤ x)
    go true f ih =
        let q : some t ≡ some s = rw f at e in
        let w : t ≡ s = cc in
        subst (λ (u : Session). (mark a (t ∷ l) ≤ u.number) × ((x : ℕ) → member x u.list ≡ true → mark a (t ∷ l) ≤ x)) w
        (lower t.number own, λ x h. lower x (listed x h))
    go false f ih = ih (rw f at e)

-- ---- sight

pub sees_off : (st : ℕ → Status) (s : Session) (x : ℕ) → is_committed (st x) ≡ false → sees st s x ≡ false
sees_off st s x e = rw e (go (not (eqb x 0)) (ltb x s.number) (not (member x s.list)))
  where
    go : (a b c : Bool) → (a && (b && (c && false))) ≡ false
    go false b c = refl
    go true false c = refl
    go true true false = refl
    go true true true = refl

pub sees_far : (st : ℕ → Status) (s : Session) (x : ℕ) → (ltb x s.number && not (member x s.list)) ≡ false → sees st s x ≡ false
sees_far st s x e = go (not (eqb x 0)) (ltb x s.number) (not (member x s.list)) (is_committed (st x)) e
  where
    go : (a b c d : Bool) → (b && c) ≡ false → (a && (b && (c && d))) ≡ false
    go false b c d e = refl
    go true false c d e = refl
    go true true false d e = refl
    go true true true d e = true_false true refl e

pub sees_on : (st : ℕ → Status) (s : Session) (x : ℕ) → (x ≡ 0 → ⊥) → x < s.number → member x s.list ≡ false
    → is_committed (st x) ≡ true → sees st s x ≡ true
sees_on st s x z l h d = rw (ne_eqb x 0 z, lt-ltb x s.number l, h, d)

pub sees_done : (st : ℕ → Status) (s : Session) (x : ℕ) → sees st s x ≡ true → is_committed (st x) ≡ true
sees_done st s x e = go (not (eqb x 0)) (ltb x s.number) (not (member x s.list)) (is_committed (st x)) e
  where
    go : (a b c d : Bool) → (a && (b && (c && d))) ≡ true → d ≡ true
    go false b c d e = true_false true refl (sym e)
    go true false c d e = true_false true refl (sym e)
    go true true false d e = true_false true refl (sym e)
    go true true true d e = e
