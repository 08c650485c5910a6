-- What lies under S's deeds in a row: from S's first write on it until S closes, nobody else writes the row, and sweep leaves what
-- lies there its newest deed. Assumes nothing.
use Prim.Native.Nat.{ℕ, ◌≤◌, ◌<◌}
use mathlib.Core.Path.{◌≡◌, refl, ap, sym, subst, ◌∙◌}
use mathlib.Core.Logic.{◌⊎◌, inl, inr}
use mathlib.Core.Bool.{Bool, true, false}
use mathlib.Core.Option.{Option, none, some}
use mathlib.Core.List.{List, [], ◌∷◌, ◌++◌, append-nil}
use native.Mathlib.Omega.{arith}
use lib.Dec.{eqb}
use borrow.Author.Tests.{eqb-true, eqb-false}
use Rattle.ground.proofs.Ranges.{and_true_right}
use Rattle.machine.specs.Table.{Body, History, put}
use Rattle.machine.specs.Machine.{Version, Machine, Session, is_committed, counts, find, is_some, is_nil, newcomer, fresh, expired, since, undone, swept, Step, begin, next, insert, update, delete, commit, withdraw, sweep, accept, effect}
use Rattle.machine.specs.Runs.{From, start, after}
use Rattle.machine.proofs.Basics.{true_false}
use Rattle.machine.proofs.Desks.{Found, found_of, find_number, find_append, find_move, find_close}
use Rattle.machine.proofs.Chains.{Deed, deeds, written, update_deeds, delete_deeds}
use Rattle.machine.proofs.Drops.{drops, Stops, drops_stay}
use Rattle.machine.proofs.Cuts.{CutOf, Has}
use Rattle.machine.proofs.Invariant.{Inv, counts_other, since_yes, since_else}
use Rattle.machine.proofs.Writes.{off₀, nonzero₀, inv_write}
use Rattle.machine.proofs.Ends.{strike_deeds}
use Rattle.machine.proofs.Sweeps.{Old, cut_row}
use Rattle.machine.proofs.Sights.{inv_effect}

-- ---- the newest deed

abbrev pub head_of : List Deed → Option Deed
head_of [] = none
head_of (e ∷ l) = some e

-- the newest deed is n's
abbrev pub Newest : ℕ → List Deed → Type 0
Newest n [] = ⊥
Newest n (e ∷ l) = e.who ≡ n

-- n did something here, and o lies under all that n did
abbrev pub Under : ℕ → Option Deed → List Deed → Type 0
Under n o l = Newest n l × (head_of (drops (since n 0) l) ≡ o)

pub under_more : (n : ℕ) (o : Option Deed) (c : ℕ) (b : Option Body) (l : List Deed) → head_of (drops (since n 0) l) ≡ o
    → Under n o (written n c b ∷ l)
under_more n o c b l e = (refl, rw (since_yes n 0 n c refl (omega arith)) e)

head_prefix : (G : ℕ → Type 0) (q : ℕ → ℕ → Bool) → ((x c : ℕ) → G x → q x c ≡ false) → (l rest : List Deed) → Has G l
    → head_of (drops q l) ≡ head_of (drops q (l ++ rest))
head_prefix G q z [] rest g = absurd g
head_prefix G q z (e ∷ l) rest g = go (q e.who e.cmd) refl g (head_prefix G q z l rest)
  where
    go : (b : Bool) → q e.who e.cmd ≡ b → G e.who ⊎ Has G l → (Has G l → head_of (drops q l) ≡ head_of (drops q (l ++ rest)))
        → head_of (drops q (e ∷ l)) ≡ head_of (drops q ((e ∷ l) ++ rest))
    go true f (inl g) ih = true_false (q e.who e.cmd) f (z e.who e.cmd g)
    go true f (inr g) ih = rw f (ih g)
    go false f g ih = rw f

under_cut : (G : ℕ → Type 0) (n : ℕ) → (G n → ⊥) → (o : Option Deed) (l l' : List Deed) → CutOf G l l' → Under n o l → Under n o l'
under_cut G n z o [] l' (inl (e, f)) u = absurd f
under_cut G n z o (x ∷ l) l' (inl (e, f)) u = absurd (z (subst G u.0 f.0))
under_cut G n z o l l' (inr (rest, e, inl y)) u = let e' : l ≡ l' = rw (y, append-nil l') at e in subst
    (λ (x : List Deed). Under n o x) e' u
under_cut G n z o l l' (inr (rest, e, inr g)) u = (
  newest l' g (subst (Newest n) e u.0),
  head_prefix G (since n 0) (λ x c y. since_else n 0 x c (λ q. z (subst G q y))) l' rest g ∙
      (ap (λ (x : List Deed). head_of (drops (since n 0) x)) (sym e) ∙ u.1),
)
  where
    newest : (l' : List Deed) → Has G l' → Newest n (l' ++ rest) → Newest n l'
    newest [] g w = absurd g
    newest (x ∷ l') g w = w

-- ---- one step

module _ (m : Machine) (h : History) (i : Inv m h) (n : ℕ) (s : Session) (f : Found n m.desk s) (r : ℕ) (o : Option Deed) where
  -- another session may not write where n's deed is the newest
  no_other : (n' : ℕ) (s' : Session) → Found n' m.desk s' → (v : Version) → v.create ≡ n
      → counts m.status s' s'.statement v.create v.cmd ≡ true → n' ≡ n
  no_other n' s' f' v e c = go (eqb n' n) refl
    where
      go : (b : Bool) → eqb n' n ≡ b → n' ≡ n
      go true g = eqb-true n' n g
      go false g = true_false (counts m.status s' s'.statement v.create v.cmd) c
          (rw e (counts_other m.status s' n s'.statement v.cmd
          (λ q. eqb-false n' n g (sym (find_number n' m.desk s' f') ∙ sym q)) (off₀ m h i n s f)))

  newest_made : (v : Version) (vs : List Version) → eqb v.expire 0 ≡ true → Newest n (deeds (v ∷ vs)) → v.create ≡ n
  newest_made v vs e w = rw e at w

  -- a row changed by a step: r itself, or another
  at_row : (q : ℕ) (vs : List Version) → (r ≡ q → Under n o (deeds vs)) → Under n o (deeds (m.rows r))
      → Under n o (deeds (put m.rows q vs r))
  at_row q vs y u = go (eqb r q) refl
    where
      go : (b : Bool) → eqb r q ≡ b → Under n o (deeds (put m.rows q vs r))
      go true e = rw e (y (eqb-true r q e))
      go false e = rw e u

  at_write : (n' q c : ℕ) (b : Option Body) (vs : List Version) (v : Version) (ws : List Version) → m.rows q ≡ v ∷ ws
      → eqb v.expire 0 ≡ true
      → (s' : Session) → Found n' m.desk s' → counts m.status s' s'.statement v.create v.cmd ≡ true
      → deeds vs ≡ written n' c b ∷ deeds (v ∷ ws) → Under n o (deeds (m.rows r)) → r ≡ q → Under n o (deeds vs)
  at_write n' q c b vs v ws e z s' f' k w u y =
      let u' : Under n o (deeds (v ∷ ws)) = subst (λ (x : List Version). Under n o (deeds x)) (ap m.rows y ∙ e) u in
      let g : n' ≡ n = no_other n' s' f' v (newest_made v ws z u'.0) k in
      subst (λ (x : List Deed). Under n o x) (sym (w ∙ ap (λ (x : ℕ). written x c b ∷ deeds (v ∷ ws)) g))
      (under_more n o c b (deeds (v ∷ ws)) u'.1)

  nothing_there : {X : Type 0} (q : ℕ) → is_nil (m.rows q) ≡ true → r ≡ q → Newest n (deeds (m.rows r)) → X
  nothing_there q e y w = go (m.rows r) (subst (λ (x : ℕ). is_nil (m.rows x) ≡ true) (sym y) e) w
    where
      go : {X : Type 0} (vs : List Version) → is_nil vs ≡ true → Newest n (deeds vs) → X
      go [] e w = absurd w
      go (v ∷ vs) e w = true_false true refl (sym e)

  under_withdraw : (n' : ℕ) (s' : Session) → Found n' m.desk s' → (n ≡ n' → ⊥) → Under n o (deeds (m.rows r))
      → Under n o (deeds (undone (since n' 0) (m.rows r)))
  under_withdraw n' s' f' z u =
      rw (strike_deeds m h i n' s' f' 0 r, drops_stay (since n' 0) (deeds (m.rows r)) (stops (deeds (m.rows r)) u.0)) u
    where
      stops : (l : List Deed) → Newest n l → Stops (since n' 0) l
      stops [] w = tt
      stops (e ∷ l) w = since_else n' 0 e.who e.cmd (λ q. z (sym w ∙ q))

  under_effect : (c : Step) → accept m c ≡ true → (t : Session) → Found n (effect m c).desk t → Under n o (deeds (m.rows r))
      → Under n o (deeds ((effect m c).rows r))
  under_effect begin e t g u = u
  under_effect (next n') e t g u = u
  under_effect (insert n' q b) e t g u = at_row q _ (λ y. nothing_there q (and_true_right (is_some (find n' m.desk)) _ e) y u.0) u
  under_effect (update n' q b) e t g u =
      let (s', f', (v, vs, x, z, k)) = inv_write m h i n' q (some b) e in
      rw (f', x) (at_row q (fresh n' s'.statement b ∷ expired n' s'.statement v ∷ vs)
      (at_write n' q s'.statement (some b) (fresh n' s'.statement b ∷ expired n' s'.statement v ∷ vs) v vs x z s' f' k
      (update_deeds n' s'.statement b v vs z) u) u)
  under_effect (delete n' q) e t g u =
      let (s', f', (v, vs, x, z, k)) = inv_write m h i n' q none e in
      rw (f', x) (at_row q (expired n' s'.statement v ∷ vs)
      (at_write n' q s'.statement none (expired n' s'.statement v ∷ vs) v vs x z s' f' k
      (delete_deeds n' s'.statement (nonzero₀ m h i n' s' f') v vs z) u) u)
  under_effect (commit n') e t g u = u
  under_effect (withdraw n') e t g u = let (s', f') = found_of n' m.desk (find n' m.desk) refl e in
      under_withdraw n' s' f' (find_close n n' m.desk t g).0 u
  under_effect (sweep q) e t g u = at_row q (swept m q)
      (λ y. under_cut (Old m) n (λ w. true_false (is_committed (m.status n)) w.1 (off₀ m h i n s f)) o (deeds (m.rows q))
      (deeds (swept m q)) (cut_row m h i q) (subst (λ (x : ℕ). Under n o (deeds (m.rows x))) y u)) u

-- ---- from the first write on

was_open : (m : Machine) (c : Step) (n : ℕ) (s : Session) → n < m.next → Found n (effect m c).desk s → (t : Session) × Found n m.desk t
was_open m begin n s l f = go (find_append n m.desk (newcomer m) s f)
  where
    go : Found n m.desk s ⊎ ((n ≡ m.next) × (newcomer m ≡ s)) → (t : Session) × Found n m.desk t
    go (inl g) = (s, g)
    go (inr q) = absurd (omega (arith, q.0))
was_open m (next k) n s l f = let (t, g, e) = find_move n k m.desk s f in (t, g)
was_open m (insert k r b) n s l f = (s, f)
was_open m (update k r b) n s l f = (s, f)
was_open m (delete k r) n s l f = (s, f)
was_open m (commit k) n s l f = (s, (find_close n k m.desk s f).1)
was_open m (withdraw k) n s l f = (s, (find_close n k m.desk s f).1)
was_open m (sweep r) n s l f = (s, f)

pub next_effect : (m : Machine) (c : Step) → m.next ≤ (effect m c).next
next_effect m begin = omega arith
next_effect m (next k) = omega arith
next_effect m (insert k r b) = omega arith
next_effect m (update k r b) = omega arith
next_effect m (delete k r) = omega arith
next_effect m (commit k) = omega arith
next_effect m (withdraw k) = omega arith
next_effect m (sweep r) = omega arith

next_from : {m₀ : Machine} {h₀ : History} {m : Machine} {h : History} → From m₀ h₀ m h → m₀.next ≤ m.next
next_from start = omega arith
next_from (after {m = m} x c e) = omega (arith, next_from x, next_effect m c)

pub under_from : {m₀ : Machine} {h₀ : History} {m : Machine} {h : History} → Inv m₀ h₀ → From m₀ h₀ m h → (n r : ℕ) (o : Option Deed) → n < m₀.next
    → Under n o (deeds (m₀.rows r))
    → (s : Session) → Found n m.desk s → Inv m h × Under n o (deeds (m.rows r))
under_from i start n r o l u s f = (i, u)
under_from {m₀ = m₀} i (after {m = m} {h = h} x c e) n r o l u s f =
    let (t, g) = was_open m c n s (omega (arith, next_from x)) f in
    let (j, w) = under_from i x n r o l u t g in
    (inv_effect m h j c e, under_effect m h j n t g r o c e s f w)
