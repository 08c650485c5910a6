-- What withdrawal gives back ("01, Writes, withdrawal, sweep"): in each row that S wrote, the first version that stood there before
-- S's first write. Assumes nothing.
use Prim.Native.Nat.{ℕ, suc}
use mathlib.Core.Path.{◌≡◌, refl, ap, ap₂, sym, subst, ◌∙◌}
use mathlib.Core.Bool.{Bool, true, false}
use mathlib.Core.Option.{Option, none, some}
use mathlib.Core.List.{List, [], ◌∷◌}
use native.Mathlib.Omega.{arith}
use lib.Dec.{eqb}
use borrow.Author.Tests.{eqb-true, eq-eqb}
use Rattle.ground.proofs.Ranges.{and_true_left, and_true_right}
use Rattle.machine.specs.Table.{Body, History, statement_of, has_written}
use Rattle.machine.specs.Machine.{Version, Machine, Session, find, is_some, is_nil, since, undone, Step, begin, next, insert, update, delete, commit, withdraw, sweep, accept, effect}
use Rattle.machine.specs.Runs.{From, Reach, add, First, first_of, Writes}
use Rattle.machine.proofs.Basics.{no_none, true_false}
use Rattle.machine.proofs.Desks.{Found, found_of}
use Rattle.machine.proofs.Chains.{Deed, made, ended, puts, deeds, All, written, update_deeds, delete_deeds}
use Rattle.machine.proofs.Drops.{drops, Stops, drops_stay}
use Rattle.machine.proofs.Folds.{own_none}
use Rattle.machine.proofs.Invariant.{Inv, since_else}
use Rattle.machine.proofs.Writes.{nonzero₀, inv_write}
use Rattle.machine.proofs.Ends.{strike_deeds, mine_all}
use Rattle.machine.proofs.Sights.{inv_effect}
use Rattle.machine.proofs.Readings.{reach_both}
use Rattle.machine.proofs.Under.{head_of, Under, under_more, next_effect, under_from}

-- ---- the first write

-- nothing stands there, or a version without an expirer
abbrev Clear : List Version → Type 0
Clear [] = Unit {0}
Clear (v ∷ vs) = eqb v.expire 0 ≡ true

-- where S wrote nothing, nothing is dropped
drops_none : (n : ℕ) (l : List Deed) → All (λ e. e.who ≡ n → ⊥) l → drops (since n 0) l ≡ l
drops_none n l a = drops_stay (since n 0) l (stops l a)
  where
    stops : (l : List Deed) → All (λ e. e.who ≡ n → ⊥) l → Stops (since n 0) l
    stops [] a = tt
    stops (e ∷ l) a = since_else n 0 e.who e.cmd a.0

-- S did nothing where the history has no write of S
pub untouched : (m : Machine) (h : History) → Inv m h → (n : ℕ) (s : Session) → Found n m.desk s → (r : ℕ) → has_written h n r ≡ false
    → All (λ e. e.who ≡ n → ⊥) (deeds (m.rows r))
untouched m h i n s f r e = rw (own_none h n r (suc (statement_of h n)) e) at (mine_all m h i n s f r)

record Wrote (m : Machine) (h : History) (n r : ℕ) (m' : Machine) : Type 0 where
  who : Session
  open' : Found n m.desk who
  cmd : ℕ
  val : Option Body
  clear : Clear (m.rows r)
  now : deeds (m'.rows r) ≡ written n cmd val ∷ deeds (m.rows r)

first_write : (m : Machine) (h : History) → Inv m h → (n r : ℕ) (c : Step) → Writes n r c → accept m c ≡ true → Wrote m h n r (effect m c)
first_write m h i n r begin w e = absurd w
first_write m h i n r (next k) w e = absurd w
first_write m h i n r (insert k q b) w e = subst (λ (x : ℕ). Wrote m h x r (effect m (insert k q b))) w.0
    (subst (λ (x : ℕ). Wrote m h k x (effect m (insert k q b))) w.1
    (go (found_of k m.desk (find k m.desk) refl (and_true_left _ _ e)) (m.rows q) refl
    (and_true_right (is_some (find k m.desk)) _ e)))
  where
    go : (s : Session) × Found k m.desk s → (vs : List Version) → m.rows q ≡ vs → is_nil (m.rows q) ≡ true
        → Wrote m h k q (effect m (insert k q b))
    go (s, f) [] y t = record {
      who = s;
      open' = f;
      cmd = s.statement;
      val = some b;
      clear = rw y tt;
      now =
          rw (eq-eqb q q refl, f, y) refl;
    }
    go (s, f) (v ∷ vs) y t = true_false (is_nil (m.rows q)) t (rw y refl)
first_write m h i n r (update k q b) w e = subst (λ (x : ℕ). Wrote m h x r (effect m (update k q b))) w.0
    (subst (λ (x : ℕ). Wrote m h k x (effect m (update k q b))) w.1
    (let (s, f, (v, vs, x, z, c)) = inv_write m h i k q (some b) e in
    record {
      who = s;
      open' = f;
      cmd = s.statement;
      val = some b;
      clear = rw x z;
      now = rw (eq-eqb q q refl, f, x)
          (update_deeds k s.statement b v vs z);
    }))
first_write m h i n r (delete k q) w e = subst (λ (x : ℕ). Wrote m h x r (effect m (delete k q))) w.0
    (subst (λ (x : ℕ). Wrote m h k x (effect m (delete k q))) w.1
    (let (s, f, (v, vs, x, z, c)) = inv_write m h i k q none e in
    record {
      who = s;
      open' = f;
      cmd = s.statement;
      val = none;
      clear = rw x z;
      now = rw (eq-eqb q q refl, f, x)
          (delete_deeds k s.statement (nonzero₀ m h i k s f) v vs z);
    }))
first_write m h i n r (commit k) w e = absurd w
first_write m h i n r (withdraw k) w e = absurd w
first_write m h i n r (sweep q) w e = absurd w

-- ---- the first version, from the newest deed

abbrev as_first : Option Body → ℕ → ℕ → ℕ → Option First
as_first none x c e = none
as_first (some b) x c e = some (record { body = b; creator = x; creating = c; expirer = e })

first_head : (vs ws : List Version) → Clear ws → head_of (deeds vs) ≡ head_of (deeds ws) → first_of vs ≡ first_of ws
first_head [] [] z e = refl
first_head [] (w ∷ ws) z e = no_none (made w) (rw z at e)
first_head (v ∷ vs) [] z e = go (eqb v.expire 0) refl
  where
    go : (b : Bool) → eqb v.expire 0 ≡ b → first_of (v ∷ vs) ≡ first_of []
    go true f = no_none (made v) (sym (rw f at e))
    go false f = no_none (ended v) (sym (rw f at e))
first_head (v ∷ vs) (w ∷ ws) z e = go (eqb v.expire 0) refl
  where
    go : (b : Bool) → eqb v.expire 0 ≡ b → first_of (v ∷ vs) ≡ first_of (w ∷ ws)
    go true f =
        let q : some (made v) ≡ some (made w) = rw (f, z) at e in
        let y : made v ≡ made w = cc in
        ap₂ (λ (d : Deed) (x : ℕ). as_first d.val d.who d.cmd x) y (eqb-true v.expire 0 f ∙ sym (eqb-true w.expire 0 z))
    go false f =
        let q : some (ended v) ≡ some (made w) = rw (f, z) at e in
        let y : ended v ≡ made w = cc in
        no_none w.body (ap (λ (d : Deed). d.val) y)

-- ---- the promises

-- WITHDRAWAL GIVES BACK, in each row that S wrote, the first version that stood there before S's first write
pub withdrawn_back : {m₁ m₂ : Machine} {h₁ h₂ : History} → Reach m₁ h₁ → (n r : ℕ) → has_written h₁ n r ≡ false
    → (c : Step) → Writes n r c → accept m₁ c ≡ true → From (effect m₁ c) (add m₁ c h₁) m₂ h₂
    → (s : Session) → find n m₂.desk ≡ some s → first_of ((effect m₂ (withdraw n)).rows r) ≡ first_of (m₁.rows r)
withdrawn_back {m₁} {m₂} {h₁} {h₂} x n r z c w e y s f =
    first_head (undone (since n 0) (m₂.rows r)) (m₁.rows r) W.clear
    (ap head_of (strike_deeds m₂ h₂ both.0 n s f 0 r) ∙ both.1.1)
  where
    i : Inv m₁ h₁
    i = (reach_both x).0

    W : Wrote m₁ h₁ n r (effect m₁ c)
    W = first_write m₁ h₁ i n r c w e

    under : Under n (head_of (deeds (m₁.rows r))) (deeds ((effect m₁ c).rows r))
    under = rw W.now (under_more n (head_of (deeds (m₁.rows r))) W.cmd W.val (deeds (m₁.rows r))
        (ap head_of (drops_none n (deeds (m₁.rows r)) (untouched m₁ h₁ i n W.who W.open' r z))))

    both : Inv m₂ h₂ × Under n (head_of (deeds (m₁.rows r))) (deeds (m₂.rows r))
    both = under_from (inv_effect m₁ h₁ i c e) y n r (head_of (deeds (m₁.rows r)))
        (omega (arith, (i.opened n W.who W.open').below, next_effect m₁ c)) under s f

-- .. empties each row that S inserted
pub withdrawn_inserted : {m₁ m₂ : Machine} {h₁ h₂ : History} → Reach m₁ h₁ → (n r : ℕ) → has_written h₁ n r ≡ false
    → (b : Body) → accept m₁ (insert n r b) ≡ true → From (effect m₁ (insert n r b)) (add m₁ (insert n r b) h₁) m₂ h₂
    → (s : Session) → find n m₂.desk ≡ some s → (effect m₂ (withdraw n)).rows r ≡ []
withdrawn_inserted {m₁} {m₂} x n r z b e y s f =
    none_first ((effect m₂ (withdraw n)).rows r) (withdrawn_back x n r z (insert n r b) (refl, refl) e y s f
    ∙ was_empty (m₁.rows r) (and_true_right (is_some (find n m₁.desk)) _ e))
  where
    was_empty : (vs : List Version) → is_nil vs ≡ true → first_of vs ≡ none
    was_empty [] q = refl
    was_empty (v ∷ vs) q = true_false true refl (sym q)

    none_first : (vs : List Version) → first_of vs ≡ none → vs ≡ []
    none_first [] q = refl
    none_first (v ∷ vs) q = no_none _ (sym q)

-- .. and leaves each row that S didn't write as it is
pub withdrawn_else : {m : Machine} {h : History} → Reach m h → (n r : ℕ) → has_written h n r ≡ false
    → (s : Session) → find n m.desk ≡ some s → (effect m (withdraw n)).rows r ≡ m.rows r
withdrawn_else {m} {h} x n r z s f = go (m.rows r) (untouched m h i n s f r z)
  where
    i : Inv m h
    i = (reach_both x).0

    go : (vs : List Version) → All (λ e. e.who ≡ n → ⊥) (deeds vs) → undone (since n 0) vs ≡ vs
    go [] a = refl
    go (v ∷ vs) a = by (eqb v.expire 0) refl
      where
        by : (b : Bool) → eqb v.expire 0 ≡ b → undone (since n 0) (v ∷ vs) ≡ v ∷ vs
        by true g =
            let a' : All (λ e. e.who ≡ n → ⊥) (made v ∷ puts vs) = rw g at a in
            rw (
              since_else n 0 v.create v.cmd a'.0,
              since_else n 0 v.expire v.expire_cmd
                  (λ q. nonzero₀ m h i n s f (sym q ∙ eqb-true v.expire 0 g)),
            )
        by false g =
            let a' : All (λ e. e.who ≡ n → ⊥) (ended v ∷ made v ∷ puts vs) = rw g at a in
            rw (since_else n 0 v.create v.cmd a'.1.0, since_else n 0 v.expire v.expire_cmd a'.0)
