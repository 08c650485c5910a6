-- The plain table by numbers: replaying the committed sessions in the order of their numbers gives the table that commit order
-- gives. Assumes nothing.
use Prim.Native.Nat.{ℕ, suc, ◌<◌}
use mathlib.Core.Path.{◌≡◌, refl, ap, sym, ◌∙◌}
use mathlib.Core.Bool.{Bool, true, false, ◌||◌, cond, or-true}
use mathlib.Core.Option.{Option, none, some, get_or}
use mathlib.Core.List.{List, [], ◌∷◌}
use native.Mathlib.Omega.{arith}
use lib.Dec.{eqb, ltb}
use borrow.Author.Tests.{eq-eqb, ltb-false}
use Rattle.ground.proofs.Ranges.{or_swap}
use Rattle.machine.specs.Table.{Body, History, Table, bare, play, statement_of, writes_before, writes_of, writes_of_all, commits, when_began, committed_table, placed, ascending, number_table, plain_table, member, has_written}
use Rattle.machine.specs.Machine.{Machine, empty, is_some, begin, next, insert, update, delete, commit, withdraw, sweep}
use Rattle.machine.specs.Runs.{start, after, Reach}
use Rattle.machine.proofs.Basics.{true_false}
use Rattle.machine.proofs.Folds.{own, own_none, play_own, play_append}
use Rattle.machine.proofs.Orders.{Ascends}
use Rattle.machine.proofs.Ordered.{order}

-- ---- one row, session after session

-- what the row holds after each of these sessions wrote its last, g, if it wrote any
abbrev val : (ℕ → Option (Option Body)) → Option Body → List ℕ → Option Body
val g t [] = t
val g t (x ∷ xs) = val g (get_or (g x) t) xs

abbrev last_of : History → ℕ → ℕ → Option (Option Body)
last_of h r x = own h x r (suc (statement_of h x))

play_val : (h : History) (r : ℕ) (t : Table) (xs : List ℕ) → play t (writes_of_all h xs) r ≡ val (last_of h r) (t r) xs
play_val h r t [] = refl
play_val h r t (x ∷ xs) = ap (λ (f : Table). f r) (play_append t (writes_of h x) (writes_of_all h xs))
    ∙ (play_val h r (play t (writes_of h x)) xs ∙ ap (λ (y : Option Body). val (last_of h r) y xs) (play_own h x (suc (statement_of h x)) t r))

member_placed : (y x : ℕ) (l : List ℕ) → member y (placed x l) ≡ (eqb y x || member y l)
member_placed y x [] = refl
member_placed y x (z ∷ l) = go (ltb x z) refl (member_placed y x l)
  where
    go : (b : Bool) → ltb x z ≡ b → member y (placed x l) ≡ (eqb y x || member y l)
        → member y (placed x (z ∷ l)) ≡ (eqb y x || (eqb y z || member y l))
    go true f ih = rw f
    go false f ih = rw (f, ih) (or_swap (eqb y z) (eqb y x) (member y l))

member_ascending : (y : ℕ) (l : List ℕ) → member y (ascending l) ≡ member y l
member_ascending y [] = refl
member_ascending y (x ∷ l) = member_placed y x (ascending l) ∙ ap (λ (b : Bool). eqb y x || b) (member_ascending y l)

-- a number may be put among others where those that wrote are above it, or it wrote nothing
val_placed : (g : ℕ → Option (Option Body)) (t : Option Body) (x : ℕ) (l : List ℕ)
    → (is_some (g x) ≡ true → (y : ℕ) → member y l ≡ true → is_some (g y) ≡ true → x < y) → val g t (placed x l) ≡ val g t (x ∷ l)
val_placed g t x [] z = refl
val_placed g t x (y ∷ l) z = go (ltb x y) refl (val_placed g (get_or (g y) t) x l (λ e w q. z e w (rw q (or-true (eqb w y)))))
  where
    swap : (a b : Option (Option Body)) → g x ≡ a → g y ≡ b → ltb x y ≡ false
        → val g (get_or a (get_or b t)) l ≡ val g (get_or b (get_or a t)) l
    swap none b e f k = refl
    swap (some u) none e f k = refl
    swap (some u) (some v) e f k = absurd (omega (arith, ltb-false x y k, z (rw e refl) y (rw (eq-eqb y y refl)) (rw f refl)))

    go : (b : Bool) → ltb x y ≡ b → val g (get_or (g y) t) (placed x l) ≡ val g (get_or (g y) t) (x ∷ l)
        → val g t (placed x (y ∷ l)) ≡ val g t (x ∷ y ∷ l)
    go true f ih = rw f
    go false f ih = rw f (ih ∙ swap (g x) (g y) refl refl f)

val_ascending : (g : ℕ → Option (Option Body)) (t : Option Body) (l : List ℕ) → Ascends (λ x. is_some (g x)) l
    → val g t (ascending l) ≡ val g t l
val_ascending g t [] a = refl
val_ascending g t (x ∷ l) a =
    val_placed g t x (ascending l) (λ e y q. a.0 e y (sym (member_ascending y l) ∙ q)) ∙ val_ascending g (get_or (g x) t) l a.1

-- ---- the promise

-- S wrote the row where it has a last write
wrote_some : (h : History) (r x : ℕ) → is_some (last_of h r x) ≡ true → has_written h x r ≡ true
wrote_some h r x e = go (has_written h x r) refl
  where
    go : (b : Bool) → has_written h x r ≡ b → has_written h x r ≡ true
    go true f = f
    go false f = true_false (is_some (last_of h r x)) e (rw (own_none h x r (suc (statement_of h x)) f) refl)

ascends_some : (h : History) (r : ℕ) (l : List ℕ) → Ascends (λ x. has_written h x r) l → Ascends (λ x. is_some (last_of h r x)) l
ascends_some h r [] a = tt
ascends_some h r (x ∷ l) a = ((λ e y q f. a.0 (wrote_some h r x e) y q (wrote_some h r y f)), ascends_some h r l a.1)

-- COMMIT ORDER IS THE ORDER OF NUMBERS, as far as any row can tell
pub number_order : {m : Machine} {h : History} → Reach m h → (r : ℕ) → number_table h r ≡ committed_table h r
number_order {m} {h} x r = play_val h r bare (ascending (commits h))
    ∙ (val_ascending (last_of h r) none (commits h) (ascends_some h r (commits h) ((order x).sorted r)) ∙ sym (play_val h r bare (commits h)))

-- what had happened when S began is a history too
pub reach_when_began : {m : Machine} {h : History} → Reach m h → (n : ℕ) → (m' : Machine) × Reach m' (when_began h n)
reach_when_began start n = (empty, start)
reach_when_began (after {m = m} {h = h} x begin e) n = go (eqb n m.next) (reach_when_began x n)
  where
    go : (b : Bool) → (m' : Machine) × Reach m' (when_began h n) → (m' : Machine) × Reach m' (cond b h (when_began h n))
    go true q = (m, x)
    go false q = q
reach_when_began (after x (next k) e) n = reach_when_began x n
reach_when_began (after x (insert k r b) e) n = reach_when_began x n
reach_when_began (after x (update k r b) e) n = reach_when_began x n
reach_when_began (after x (delete k r) e) n = reach_when_began x n
reach_when_began (after x (commit k) e) n = reach_when_began x n
reach_when_began (after x (withdraw k) e) n = reach_when_began x n
reach_when_began (after x (sweep r) e) n = reach_when_began x n

-- so that the plain table may be replayed by numbers
pub plain_by_number : {m : Machine} {h : History} → Reach m h → (n r : ℕ)
    → play (number_table (when_began h n)) (writes_before (statement_of h n) h n) r ≡ plain_table h n r
plain_by_number {m} {h} x n r = let (m', y) = reach_when_began x n in
    play_own h n (statement_of h n) (number_table (when_began h n)) r
    ∙ (ap (λ (z : Option Body). get_or (own h n r (statement_of h n)) z) (number_order y r)
    ∙ sym (play_own h n (statement_of h n) (committed_table (when_began h n)) r))
