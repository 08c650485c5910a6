-- Who wrote a row and committed did so in the order of their numbers: kept by every accepted step. A session may write a row only
-- where it sees every committed deed in it, and all who wrote the row and committed are then below it. Assumes nothing.
use Prim.Native.Nat.{ℕ, suc, ◌<◌}
use mathlib.Core.Path.{◌≡◌, refl, sym, subst, ◌∙◌}
use mathlib.Core.Logic.{inl, inr}
use mathlib.Core.Bool.{Bool, true, false, ◌&&◌, ◌||◌, cond, or-true}
use mathlib.Core.Option.{Option, none, some}
use mathlib.Core.List.{List, [], ◌∷◌, ◌++◌, append-nil}
use native.Mathlib.Omega.{arith}
use lib.Dec.{eqb, ltb}
use borrow.Author.Tests.{eqb-true, eq-eqb, ne_eqb, lt-ltb}
use Rattle.machine.specs.Table.{Body, began, moved, wrote, committed, withdrew, History, statement_of, member, has_written}
use Rattle.machine.specs.Machine.{Session, Status, Machine, is_committed, sees, counts, is_some, since}
use Rattle.machine.proofs.Basics.{true_false}
use Rattle.machine.proofs.Desks.{Found}
use Rattle.machine.proofs.Chains.{Deed, deeds, Closed, closed_tail, All, Top}
use Rattle.machine.proofs.Drops.{drops}
use Rattle.machine.proofs.Cuts.{CutOf, Has}
use Rattle.machine.proofs.Folds.{own}
use Rattle.machine.proofs.Invariant.{Inv, since_true, counts_sees}
use Rattle.machine.proofs.Writes.{Fits}
use Rattle.machine.proofs.Ends.{mine_all}

-- ---- lists

-- of the numbers that g picks, each is below the later ones
abbrev pub Ascends : (ℕ → Bool) → List ℕ → Type 0
Ascends g [] = Unit {0}
Ascends g (x ∷ l) = (g x ≡ true → (y : ℕ) → member y l ≡ true → g y ≡ true → x < y) × Ascends g l

pub ascends_agree : (g g' : ℕ → Bool) (l : List ℕ) → ((x : ℕ) → member x l ≡ true → g' x ≡ g x) → Ascends g l → Ascends g' l
ascends_agree g g' [] s a = tt
ascends_agree g g' (x ∷ l) s a = (
  (λ e y q f. a.0 (sym (s x (rw (eq-eqb x x refl))) ∙ e) y q (sym (s y (rw q (or-true (eqb y x)))) ∙ f)),
  ascends_agree g g' l (λ y q. s y (rw q (or-true (eqb y x)))) a.1,
)

pub ascends_last : (g : ℕ → Bool) (l : List ℕ) (y : ℕ) → Ascends g l
    → ((x : ℕ) → member x l ≡ true → g x ≡ true → g y ≡ true → x < y) → Ascends g (l ++ (y ∷ []))
ascends_last g [] y a z = ((λ e w q f. true_false true refl (sym q)), tt)
ascends_last g (x ∷ l) y a z = ((λ e w q f. among l w e f (a.0 e) q), ascends_last g l y a.1 (λ w q. z w (rw q (or-true (eqb w x)))))
  where
    one : (w : ℕ) → g x ≡ true → g w ≡ true → (b : Bool) → eqb w y ≡ b → member w (y ∷ []) ≡ true → x < w
    one w e f true k q = let v : w ≡ y = eqb-true w y k in rw v (z x (rw (eq-eqb x x refl)) e (rw (sym v) f))
    one w e f false k q = true_false true refl (sym (rw k at q))

    among : (k : List ℕ) (w : ℕ) → g x ≡ true → g w ≡ true → ((v : ℕ) → member v k ≡ true → g v ≡ true → x < v)
        → member w (k ++ (y ∷ [])) ≡ true → x < w
    among [] w e f h q = one w e f (eqb w y) refl q
    among (v ∷ k) w e f h q = by (eqb w v) refl (among k w e f (λ u p. h u (rw p (or-true (eqb u v)))))
      where
        by : (b : Bool) → eqb w v ≡ b → (member w (k ++ (y ∷ [])) ≡ true → x < w) → x < w
        by true p ih = h w (rw p) f
        by false p ih = ih (rw p at q)

-- ---- who wrote

own_some : (h : History) (n r k : ℕ) → has_written h n r ≡ true → statement_of h n < k → is_some (own h n r k) ≡ true
own_some [] n r k e l = true_false true refl (sym e)
own_some (began m ∷ h) n r k e l = go (eqb n m) refl (own_some h n r k)
  where
    go : (b : Bool) → eqb n m ≡ b → (has_written h n r ≡ true → statement_of h n < k → is_some (own h n r k) ≡ true)
        → is_some (own (began m ∷ h) n r k) ≡ true
    go true f ih = true_false true refl (sym (rw f at e))
    go false f ih = rw f (ih (rw f at e) (rw f at l))
own_some (moved m ∷ h) n r k e l = go (eqb n m) refl (own_some h n r k e)
  where
    go : (b : Bool) → eqb n m ≡ b → (statement_of h n < k → is_some (own h n r k) ≡ true) → is_some (own h n r k) ≡ true
    go true f ih = let l' : suc (statement_of h n) < k = rw f at l in ih (omega arith)
    go false f ih = ih (rw f at l)
own_some (wrote m q b ∷ h) n r k e l = go (eqb n m) (eqb r q) e (λ w. own_some h n r k w l)
  where
    go : (u v : Bool) → ((u && v) || has_written h n r) ≡ true → (has_written h n r ≡ true → is_some (own h n r k) ≡ true)
        → is_some (cond (u && (v && ltb (statement_of h n) k)) (some b) (own h n r k)) ≡ true
    go true true f ih = rw (lt-ltb (statement_of h n) k l)
    go true false f ih = ih f
    go false v f ih = ih f
own_some (committed m ∷ h) n r k e l = own_some h n r k e l
own_some (withdrew m ∷ h) n r k e l = own_some h n r k e l

-- where n wrote the row, the newest deed is n's
pub newest : (m : Machine) (h : History) → Inv m h → (n : ℕ) (s : Session) → Found n m.desk s → (r : ℕ) → has_written h n r ≡ true
    → (e : Deed) × (l : List Deed) × (deeds (m.rows r) ≡ e ∷ l) × (e.who ≡ n)
newest m h i n s f r w = go (own h n r (suc (statement_of h n))) (own_some h n r (suc (statement_of h n)) w (omega arith))
    (deeds (m.rows r)) refl (mine_all m h i n s f r)
  where
    go : (o : Option (Option Body)) → is_some o ≡ true → (l : List Deed) → deeds (m.rows r) ≡ l → Top n o l
        → (e : Deed) × (l : List Deed) × (deeds (m.rows r) ≡ e ∷ l) × (e.who ≡ n)
    go none q l y t = true_false true refl (sym q)
    go (some b) q [] y t = absurd t
    go (some b) q (e ∷ l) y t = (e, l, y, t.0)

-- ---- what a session sees of a row

-- S sees every committed deed
abbrev pub SeesAll : (ℕ → Status) → Session → List Deed → Type 0
SeesAll st s l = All (λ e. is_committed (st e.who) ≡ true → sees st s e.who ≡ true) l

counts_seen : (st : ℕ → Status) (s : Session) (k x c : ℕ) → is_committed (st s.number) ≡ false → counts st s k x c ≡ true
    → is_committed (st x) ≡ true → sees st s x ≡ true
counts_seen st s k x c o e d = rw (ne_eqb x s.number (λ q. true_false (is_committed (st x)) d (rw q o))) at e

pub sees_all_counts : (st : ℕ → Status) (s : Session) (k : ℕ) → is_committed (st s.number) ≡ false → (l : List Deed)
    → Closed (counts st s k) l → Fits (counts st s k) l → SeesAll st s l
sees_all_counts st s k o [] c f = tt
sees_all_counts st s k o (e ∷ []) c f = ((λ d. counts_seen st s k e.who e.cmd o f d), tt)
sees_all_counts st s k o (e ∷ g ∷ l) c f = (
  (λ d. counts_seen st s k e.who e.cmd o f d),
  sees_all_counts st s k o (g ∷ l) c.1
      (c.0 f),
)

pub sees_all_cut : (G : ℕ → Type 0) (st : ℕ → Status) (s : Session) (k : ℕ) → is_committed (st s.number) ≡ false
    → ((x : ℕ) → G x → sees st s x ≡ true)
    → (l l' : List Deed) → CutOf G l l' → Closed (counts st s k) l → SeesAll st s l' → SeesAll st s l
sees_all_cut G st s k o z [] l' (inl (e, f)) c a = tt
sees_all_cut G st s k o z (x ∷ l) l' (inl (e, f)) c a = sees_all_counts st s k o (x ∷ l) c
    (counts_sees st s k x.who x.cmd (z x.who f.0))
sees_all_cut G st s k o z l l' (inr (rest, e, inl y)) c a = let e' : l ≡ l' = rw (y, append-nil l') at e in subst
    (λ (x : List Deed). SeesAll st s x) (sym e') a
sees_all_cut G st s k o z l l' (inr (rest, e, inr g)) c a = subst (λ (x : List Deed). SeesAll st s x) (sym e) (go l' g (rw e at c) a)
  where
    go : (l' : List Deed) → Has G l' → Closed (counts st s k) (l' ++ rest) → SeesAll st s l' → SeesAll st s (l' ++ rest)
    go [] g c a = absurd g
    go (x ∷ l') (inl g) c a = sees_all_counts st s k o (x ∷ (l' ++ rest)) c (counts_sees st s k x.who x.cmd (z x.who g))
    go (x ∷ l') (inr g) c a = (a.0, go l' g (closed_tail (counts st s k) x (l' ++ rest) c) a.1)

pub sees_all_drops : (st : ℕ → Status) (s : Session) (n : ℕ) → is_committed (st n) ≡ false → (l : List Deed)
    → SeesAll st s (drops (since n 0) l) → SeesAll st s l
sees_all_drops st s n o [] a = tt
sees_all_drops st s n o (e ∷ l) a = go (since n 0 e.who e.cmd) refl (sees_all_drops st s n o l)
  where
    go : (b : Bool) → since n 0 e.who e.cmd ≡ b → (SeesAll st s (drops (since n 0) l) → SeesAll st s l) → SeesAll st s (e ∷ l)
    go true f ih = ((λ d. true_false (is_committed (st e.who)) d (rw (since_true n 0 e.who e.cmd f).0 o)), ih (rw f at a))
    go false f ih = rw f at a
