-- A row's versions retold as the deeds that made them, the newest first. Then insert, update and delete put one deed in front,
-- withdraw drops a front and sweep keeps one; and the first version there is the first deed that counts. Assumes nothing.
use Prim.Native.Nat.{ℕ}
use mathlib.Core.Path.{◌≡◌, refl, ap, sym, subst, ◌∙◌}
use mathlib.Core.Bool.{Bool, true, false, ◌||◌, cond, or-true}
use mathlib.Core.Option.{Option, none, some}
use mathlib.Core.List.{List, [], ◌∷◌}
use lib.Dec.{eqb}
use borrow.Author.Tests.{eqb-true, ne_eqb}
use Rattle.machine.specs.Table.{Body}
use Rattle.machine.specs.Machine.{Version, there, first_there, expired, fresh}
use Rattle.machine.proofs.Basics.{true_false}

-- ---- deeds

-- who did it, in which statement, and what the row held then
pub record Deed : Type 0 where
  pub who : ℕ
  pub cmd : ℕ
  pub val : Option Body

abbrev pub made : Version → Deed
made v = record { who = v.create; cmd = v.cmd; val = some v.body }

abbrev pub ended : Version → Deed
ended v = record { who = v.expire; cmd = v.expire_cmd; val = none }

abbrev pub puts : List Version → List Deed
puts [] = []
puts (v ∷ vs) = made v ∷ puts vs

abbrev pub deeds : List Version → List Deed
deeds [] = []
deeds (v ∷ vs) = cond (eqb v.expire 0) (made v ∷ puts vs) (ended v ∷ made v ∷ puts vs)

-- the first deed that counts
abbrev pub view : (ℕ → ℕ → Bool) → List Deed → Option Body
view p [] = none
view p (e ∷ l) = cond (p e.who e.cmd) e.val (view p l)

-- an older deed counts where the next newer one does
abbrev pub Closed : (ℕ → ℕ → Bool) → List Deed → Type 0
Closed p [] = Unit {0}
Closed p (e ∷ []) = Unit {0}
Closed p (e ∷ f ∷ l) = (p e.who e.cmd ≡ true → p f.who f.cmd ≡ true) × Closed p (f ∷ l)

abbrev pub Linked : List Version → Type 0
Linked [] = Unit {0}
Linked (v ∷ []) = Unit {0}
Linked (v ∷ w ∷ vs) = (w.expire ≡ v.create) × (w.expire_cmd ≡ v.cmd) × Linked (w ∷ vs)

abbrev pub All : (Deed → Type 0) → List Deed → Type 0
All P [] = Unit {0}
All P (e ∷ l) = P e × All P l

-- the newest deed is n's, with this value
abbrev pub Head : ℕ → Option Body → List Deed → Type 0
Head n b [] = ⊥
Head n b (e ∷ l) = (e.who ≡ n) × (e.val ≡ b)

-- n did nothing here; or the newest deed is n's, with this value
abbrev pub Top : ℕ → Option (Option Body) → List Deed → Type 0
Top n none l = All (λ e. e.who ≡ n → ⊥) l
Top n (some b) l = Head n b l

-- ---- the chain law

module _ (p : ℕ → ℕ → Bool) where
  pub view_hit : (e : Deed) (l : List Deed) → p e.who e.cmd ≡ true → view p (e ∷ l) ≡ e.val
  view_hit e l h = rw h

  pub view_skip : (e : Deed) (l : List Deed) → p e.who e.cmd ≡ false → view p (e ∷ l) ≡ view p l
  view_skip e l h = rw h

  pub closed_tail : (e : Deed) (l : List Deed) → Closed p (e ∷ l) → Closed p l
  closed_tail e [] h = tt
  closed_tail e (f ∷ l) h = h.1

  -- number 0 counts for nobody
  module _ (z : (c : ℕ) → p 0 c ≡ false) where
    gone : (v : Version) → p v.create v.cmd ≡ true → p v.expire v.expire_cmd ≡ true → there p v ≡ false
    gone v y x = rw (y, x) (go (eqb v.expire 0) refl)
      where
        go : (b : Bool) → eqb v.expire 0 ≡ b → (b || false) ≡ false
        go true e = true_false (p v.expire v.expire_cmd) x (rw (eqb-true v.expire 0 e) (z v.expire_cmd))
        go false e = refl

    -- behind a version whose creator counts, nothing is there
    nothing_older : (v : Version) (vs : List Version) → Linked (v ∷ vs) → Closed p (made v ∷ puts vs) → p v.create v.cmd ≡ true
        → first_there p vs ≡ none
    nothing_older v [] k c e = refl
    nothing_older v (w ∷ ws) k c e =
        let x : p w.expire w.expire_cmd ≡ true = rw (k.0, k.1) e in
        let y : p w.create w.cmd ≡ true = c.0 e in
        passed (there p w) (gone w y x) (nothing_older w ws k.2 c.1 y)
      where
        passed : (t : Bool) → t ≡ false → first_there p ws ≡ none → cond t (some w.body) (first_there p ws) ≡ none
        passed t e f = rw e f

    pick : (v : Version) (vs : List Version) → p v.expire v.expire_cmd ≡ false
        → (p v.create v.cmd ≡ false → first_there p vs ≡ view p (puts vs)) → first_there p (v ∷ vs) ≡ view p (made v ∷ puts vs)
    pick v vs e h = go (p v.create v.cmd) refl
      where
        go : (b : Bool) → p v.create v.cmd ≡ b → first_there p (v ∷ vs) ≡ view p (made v ∷ puts vs)
        go true f = rw (f, e, or-true (eqb v.expire 0))
        go false f = rw f (h f)

    -- where the newest version's expirer does not count, the first version there is the first deed that counts
    there_puts : (v : Version) (vs : List Version) → Linked (v ∷ vs) → p v.expire v.expire_cmd ≡ false
        → first_there p (v ∷ vs) ≡ view p (made v ∷ puts vs)
    there_puts v [] k e = pick v [] e (λ f. refl)
    there_puts v (w ∷ ws) k e = pick v (w ∷ ws) e (λ f. there_puts w ws k.2 (rw (k.0, k.1) f))

    -- THE CHAIN LAW: the first version there is the first deed that counts
    pub chain_law : (vs : List Version) → Linked vs → Closed p (deeds vs) → first_there p vs ≡ view p (deeds vs)
    chain_law [] k c = refl
    chain_law (v ∷ vs) k c = go (eqb v.expire 0) refl
      where
        past : (t : Bool) → t ≡ false → cond t (some v.body) (first_there p vs) ≡ first_there p vs
        past t e = rw e

        newest_made : eqb v.expire 0 ≡ true → deeds (v ∷ vs) ≡ made v ∷ puts vs
        newest_made e = rw e

        newest_ended : eqb v.expire 0 ≡ false → deeds (v ∷ vs) ≡ ended v ∷ made v ∷ puts vs
        newest_ended e = rw e

        ends : (b : Bool) → p v.expire v.expire_cmd ≡ b → Closed p (ended v ∷ made v ∷ puts vs)
            → first_there p (v ∷ vs) ≡ view p (ended v ∷ made v ∷ puts vs)
        ends true f d = let y : p v.create v.cmd ≡ true = d.0 f in
            past (there p v) (gone v y f) ∙ (nothing_older v vs k d.1 y ∙ sym (view_hit (ended v) (made v ∷ puts vs) f))
        ends false f d = there_puts v vs k f ∙ sym (view_skip (ended v) (made v ∷ puts vs) f)

        go : (b : Bool) → eqb v.expire 0 ≡ b → first_there p (v ∷ vs) ≡ view p (deeds (v ∷ vs))
        go true e = there_puts v vs k (rw (eqb-true v.expire 0 e) (z v.expire_cmd)) ∙ ap (view p) (sym (newest_made e))
        go false e = ends (p v.expire v.expire_cmd) refl (subst (Closed p) (newest_ended e) c) ∙ ap (view p) (sym (newest_ended e))

-- ---- other tests that say the same

pub all_map : (P Q : Deed → Type 0) → ((e : Deed) → P e → Q e) → (l : List Deed) → All P l → All Q l
all_map P Q f [] a = tt
all_map P Q f (e ∷ l) a = (f e a.0, all_map P Q f l a.1)

pub view_agree : (p q : ℕ → ℕ → Bool) (l : List Deed) → All (λ e. p e.who e.cmd ≡ q e.who e.cmd) l → view p l ≡ view q l
view_agree p q [] a = refl
view_agree p q (e ∷ l) a = rw a.0 (ap (λ (x : Option Body). cond (q e.who e.cmd) e.val x) (view_agree p q l a.1))

pub closed_agree : (p q : ℕ → ℕ → Bool) (l : List Deed) → All (λ e. p e.who e.cmd ≡ q e.who e.cmd) l → Closed q l → Closed p l
closed_agree p q [] a c = tt
closed_agree p q (e ∷ []) a c = tt
closed_agree p q (e ∷ f ∷ l) a c = ((λ h. a.1.0 ∙ c.0 (sym a.0 ∙ h)), closed_agree p q (f ∷ l) a.1 c.1)

-- ---- writes

pub linked_clear : (n c : ℕ) (v : Version) (vs : List Version) → Linked (v ∷ vs) → Linked (expired n c v ∷ vs)
linked_clear n c v [] k = tt
linked_clear n c v (w ∷ ws) k = k

-- insert, update and delete put one deed at the newest end
abbrev pub written : ℕ → ℕ → Option Body → Deed
written n c b = record { who = n; cmd = c; val = b }

pub update_deeds : (n c : ℕ) (b : Body) (v : Version) (vs : List Version) → eqb v.expire 0 ≡ true
    → deeds (fresh n c b ∷ expired n c v ∷ vs) ≡ written n c (some b) ∷ deeds (v ∷ vs)
update_deeds n c b v vs e = rw e

pub delete_deeds : (n c : ℕ) → (n ≡ 0 → ⊥) → (v : Version) (vs : List Version) → eqb v.expire 0 ≡ true
    → deeds (expired n c v ∷ vs) ≡ written n c none ∷ deeds (v ∷ vs)
delete_deeds n c z v vs e = rw (e, ne_eqb n 0 z)

pub update_linked : (n c : ℕ) (b : Body) (v : Version) (vs : List Version) → Linked (v ∷ vs) → Linked (fresh n c b ∷ expired n c v ∷ vs)
update_linked n c b v vs k = (refl, refl, linked_clear n c v vs k)
