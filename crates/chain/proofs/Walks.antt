-- What the walk finds, case by case, and what it means to be the first version of a chain ("01, Sessions and sight"). Assumes nothing.
use mathlib.Core.Path.{◌≡◌, refl, sym, ap, subst, ◌∙◌, fun_ext}
use mathlib.Core.Bool.{Bool, true, false, cond}
use mathlib.Core.List.{List, [], ◌∷◌, ◌++◌}
use Prim.Native.Nat.{ℕ, zero, suc, ◌+◌, ◌-◌, ◌<◌}
use native.Mathlib.Nat.{sub-zero}
use native.Mathlib.Omega.{arith}
use lib.Dec.{eqb}
use lib.ListN.{length}
use borrow.Author.Tests.{eqb-true, eqb-false}
use Rattle.kind.specs.Kind.{rows, entries}
use Rattle.desk.specs.View.{View}
use Rattle.sight.specs.declared.Stamp.{Stamp}
use Rattle.sight.specs.Sight.{view_of, there}
use Rattle.sight.proofs.Fronts.{FrontOf, front_there}
use Rattle.records.specs.declared.slot.Slot.{Slot}
use Rattle.records.specs.declared.entry.Entry.{Entry}
use Rattle.records.specs.Slot.{slot_at}
use Rattle.records.specs.Entry.{entry_at}
use Rattle.chain.specs.declared.Place.{Place}
use Rattle.chain.specs.declared.Place.TheVariants.{Nowhere, Data, Undo}
use Rattle.chain.specs.declared.Link.{Link}
use Rattle.chain.specs.declared.Link.TheVariants.{End, Break, To}
use Rattle.chain.specs.declared.Walk.{Walk}
use Rattle.chain.specs.declared.Walk.TheVariants.{Found, Absent, Broken}
use Rattle.chain.specs.Chain.{Version, Chain, chain_from, chain_of, link_of, among}
use Rattle.chain.specs.Walk.{stamp_of, there_in, first_in, walk_rule, follow_rule, body_of}
use Rattle.chain.proofs.Links.{Real, link_real}
use Rattle.chain.proofs.Chains.{run, chain_run, chain_from_end, chain_from_break, chain_from_passed, chain_from_on, chain_from_full}
use Rattle.chain.proofs.Rows.{chain_of_empty, chain_of_used}
use Rattle.chain.proofs.Bodies.{length_slot_body, length_copy_body}

-- ---- where the versions lie

-- metadata m stands at a place of row r's: in its slot, or as the copy in an entry of the area
abbrev pub Held : List ℕ → List ℕ → ℕ → Place → Slot → Type 0
Held d u r Nowhere m = ⊥
Held d u r (Data q) m = (q ≡ r) × (m ≡ slot_at r d)
Held d u r (Undo e) m = (e < entries u) × (m ≡ (entry_at e u).copy)

abbrev pub AllHeld : List ℕ → List ℕ → ℕ → List Version → Type 0
AllHeld d u r [] = Unit
AllHeld d u r (x ∷ xs) = Held d u r x.place x.slot × AllHeld d u r xs

module _ (d u : List ℕ) (r : ℕ) where
  abbrev HeldIn : Chain → Type 0
  HeldIn c = AllHeld d u r c.versions

  chain_from_held : (fuel : ℕ) (ps : List ℕ) (ptr : ℕ) → HeldIn (chain_from u r fuel ps ptr)
  chain_from_held zero ps ptr = on (link_of u r ptr) refl
    where
      on : (l : Link) → link_of u r ptr ≡ l → HeldIn (chain_from u r zero ps ptr)
      on End h = subst HeldIn (sym (chain_from_end u r zero ps ptr h)) tt
      on Break h = subst HeldIn (sym (chain_from_break u r zero ps ptr h)) tt
      on (To e m) h = subst HeldIn (sym (chain_from_full u r ps ptr e m h)) tt
  chain_from_held (suc fuel) ps ptr = on (link_of u r ptr) refl (λ e m. chain_from_held fuel (e ∷ ps) m.copy.undo_ptr)
    where
      on : (l : Link) → link_of u r ptr ≡ l
          → ((e : ℕ) (m : Entry) → HeldIn (chain_from u r fuel (e ∷ ps) m.copy.undo_ptr))
          → HeldIn (chain_from u r (suc fuel) ps ptr)
      on End h ih = subst HeldIn (sym (chain_from_end u r (suc fuel) ps ptr h)) tt
      on Break h ih = subst HeldIn (sym (chain_from_break u r (suc fuel) ps ptr h)) tt
      on (To e m) h ih = by (among e ps) refl
        where
          by : (t : Bool) → among e ps ≡ t → HeldIn (chain_from u r (suc fuel) ps ptr)
          by true p = subst HeldIn (sym (chain_from_passed u r ps ptr e m h (suc fuel) p)) tt
          by false p =
              let real : Real u r ptr e m = link_real u r ptr e m h in
              subst HeldIn (sym (chain_from_on u r ps ptr e m h fuel p)) ((real.inside, ap (λ (x : Entry). x.copy) real.stands), ih e m)

  pub chain_held : AllHeld d u r (chain_of d u r).versions
  chain_held = by (eqb (slot_at r d).create 0) refl
    where
      by : (t : Bool) → eqb (slot_at r d).create 0 ≡ t → HeldIn (chain_of d u r)
      by true h = subst HeldIn (sym (chain_of_empty d u r (eqb-true (slot_at r d).create 0 h))) tt
      by false h =
          subst HeldIn
          (sym (chain_of_used d u r (eqb-false (slot_at r d).create 0 h)))
          ((refl, refl), chain_from_held (entries u) [] (slot_at r d).undo_ptr)

  held_in : (newer : List Version) (it : Version) (older : List Version) → AllHeld d u r (newer ++ (it ∷ older)) → Held d u r it.place it.slot
  held_in [] it older h = h.0
  held_in (x ∷ newer) it older h = held_in newer it older h.1

-- ---- the first version that passes a test

-- none of them passes
abbrev pub Fails : (Slot → Bool) → List Version → Type 0
Fails p [] = Unit
Fails p (x ∷ xs) = (p x.slot ≡ false) × Fails p xs

-- what is found at a place as version number n: it passes, it is in the chain, nothing newer passes, and n is one more than the
-- versions newer than it
pub record First (p : Slot → Bool) (xs : List Version) (place : Place) (n : ℕ) : Type 0 where
  pub newer : List Version
  pub it : Version
  pub older : List Version
  pub splits : xs ≡ newer ++ (it ∷ older)
  pub lies : it.place ≡ place
  pub passes : p it.slot ≡ true
  pub fails : Fails p newer
  pub counts : n ≡ length newer + 1

module _ (p : Slot → Bool) (whole : Bool) where
  -- the chain ended before a version passed
  none : (w : Walk) → cond whole Absent Broken ≡ w → (place : Place) (n : ℕ) → w ≡ Found place n → ⊥
  none w h place n k = by whole (h ∙ k)
    where
      by : (t : Bool) → cond t Absent Broken ≡ Found place n → ⊥
      by true e = let z : ◌≡◌ {A = ℕ} 0 1 = cc in omega arith
      by false e = let z : ◌≡◌ {A = ℕ} 0 1 = cc in omega arith

  pub found : (k : ℕ) (xs : List Version) (place : Place) (n : ℕ) → first_in p k xs whole ≡ Found place n → First p xs place (n - k) × (k < n)
  unfolding first_in
  found k [] place n h = absurd (none (Found place n) h place n refl)
  found k (x ∷ xs) place n h = by (p x.slot) refl h (found (k + 1) xs place n)
    where
      by : (t : Bool) → p x.slot ≡ t → cond t (Found x.place (k + 1)) (first_in p (k + 1) xs whole) ≡ Found place n
          → (first_in p (k + 1) xs whole ≡ Found place n → First p xs place (n - (k + 1)) × (k + 1 < n))
          → First p (x ∷ xs) place (n - k) × (k < n)
      by true t e ih =
          let at : x.place ≡ place = cc in
          let c : k + 1 ≡ n = cc in (
            record { newer = []; it = x; older = xs; splits = refl; lies = at; passes = t; fails = tt; counts = omega arith },
            omega arith,
          )
      by false t e ih =
          let f : First p xs place (n - (k + 1)) × (k + 1 < n) = ih e in (
            record {
              newer = x ∷ f.0.newer;
              it = f.0.it;
              older = f.0.older;
              splits = ap (λ (l : List Version). x ∷ l) f.0.splits;
              lies = f.0.lies;
              passes = f.0.passes;
              fails = (t, f.0.fails);
              counts = omega (arith, f.0.counts, f.1);
            },
            omega (arith, f.1),
          )

  pub first_found : (xs : List Version) (place : Place) (n : ℕ) → first_in p 0 xs whole ≡ Found place n → First p xs place n
  first_found xs place n h = subst (First p xs place) (sub-zero n) (found 0 xs place n h).0

  -- and the first that passes is found
  pub first_is : (k : ℕ) (newer : List Version) (it : Version) (older : List Version) → Fails p newer → p it.slot ≡ true
      → first_in p k (newer ++ (it ∷ older)) whole ≡ Found it.place (k + (length newer + 1))
  unfolding first_in
  first_is k [] it older f h = rw h (ap (Found it.place) (omega arith))
  first_is k (x ∷ newer) it older f h = rw f.0 (first_is (k + 1) newer it older f.1 h ∙ ap (Found it.place) (omega arith))

  -- where none passes, the walk tells whether the chain was whole
  pub first_none : (k : ℕ) (xs : List Version) → Fails p xs → first_in p k xs whole ≡ cond whole Absent Broken
  unfolding first_in
  first_none k [] f = refl
  first_none k (x ∷ xs) f = rw f.0 (first_none (k + 1) xs f.1)

  module _ (w : Walk) (other : (place : Place) (n : ℕ) → w ≡ Found place n → ⊥) where
    pub first_fails : (k : ℕ) (xs : List Version) → first_in p k xs whole ≡ w → Fails p xs × (cond whole Absent Broken ≡ w)
    unfolding first_in
    first_fails k [] h = (tt, h)
    first_fails k (x ∷ xs) h = by (p x.slot) refl h (first_fails (k + 1) xs)
      where
        by : (t : Bool) → p x.slot ≡ t → cond t (Found x.place (k + 1)) (first_in p (k + 1) xs whole) ≡ w
            → (first_in p (k + 1) xs whole ≡ w → Fails p xs × (cond whole Absent Broken ≡ w))
            → Fails p (x ∷ xs) × (cond whole Absent Broken ≡ w)
        by true t e ih = absurd (other x.place (k + 1) (sym e))
        by false t e ih = ((t, (ih e).0), (ih e).1)

  pub first_absent : (k : ℕ) (xs : List Version) → first_in p k xs whole ≡ Absent → Fails p xs × (whole ≡ true)
  first_absent k xs h =
      let f : Fails p xs × (cond whole Absent Broken ≡ Absent) = first_fails Absent (λ place n e. let z : ◌≡◌ {A = ℕ} 0 1 = cc in omega arith) k xs h in
      (f.0, by whole f.1)
    where
      by : (t : Bool) → cond t Absent Broken ≡ Absent → t ≡ true
      by true e = refl
      by false e = let z : ◌≡◌ {A = ℕ} 0 1 = cc in absurd (omega arith)

  pub first_broken : (k : ℕ) (xs : List Version) → first_in p k xs whole ≡ Broken → Fails p xs × (whole ≡ false)
  first_broken k xs h =
      let f : Fails p xs × (cond whole Absent Broken ≡ Broken) = first_fails Broken (λ place n e. let z : ◌≡◌ {A = ℕ} 0 1 = cc in omega arith) k xs h in
      (f.0, by whole f.1)
    where
      by : (t : Bool) → cond t Absent Broken ≡ Broken → t ≡ false
      by true e = let z : ◌≡◌ {A = ℕ} 0 1 = cc in absurd (omega arith)
      by false e = refl

-- ---- the walk, case by case

pub follow_run : {most : ℕ} (u s : List ℕ) (v : View) (r ptr : ℕ) → most ≡ entries u
    → follow_rule u s v r ptr ≡ run u r (there_in v s) most 1 (link_of u r ptr)
unfolding follow_rule
follow_run u s v r ptr all =
    chain_run u r (there_in v s) (entries u) 1 ptr ∙ ap (λ (n : ℕ). run u r (there_in v s) n 1 (link_of u r ptr)) (sym all)

-- what sight answered of a version
pub there_found : {b t : Bool} {x : Stamp} (v : View) (s : List ℕ) (m : Slot) → b ≡ there v s x → x ≡ stamp_of m → b ≡ t → there_in v s m ≡ t
there_found v s m saw is h = ap (there v s) (sym is) ∙ sym saw ∙ h

module _ (d u s : List ℕ) (v : View) (r : ℕ) where
  pub walk_empty : (slot_at r d).create ≡ 0 → walk_rule d u s v r ≡ Absent
  unfolding walk_rule first_in
  walk_empty h = rw (chain_of_empty d u r h)

  module _ (some : (slot_at r d).create ≡ 0 → ⊥) where
    pub walk_slot : there_in v s (slot_at r d) ≡ true → walk_rule d u s v r ≡ Found (Data r) 1
    unfolding walk_rule first_in
    walk_slot h = rw (chain_of_used d u r some, h)

    pub walk_behind : there_in v s (slot_at r d) ≡ false → walk_rule d u s v r ≡ follow_rule u s v r (slot_at r d).undo_ptr
    unfolding walk_rule follow_rule first_in
    walk_behind h = rw (chain_of_used d u r some, h)

  -- ---- and what it means

  pub walk_found : (place : Place) (n : ℕ) → walk_rule d u s v r ≡ Found place n → First (there_in v s) (chain_of d u r).versions place n
  unfolding walk_rule
  walk_found place n h = first_found (there_in v s) (chain_of d u r).whole (chain_of d u r).versions place n h

  pub walk_absent : walk_rule d u s v r ≡ Absent → Fails (there_in v s) (chain_of d u r).versions × ((chain_of d u r).whole ≡ true)
  unfolding walk_rule
  walk_absent h = first_absent (there_in v s) (chain_of d u r).whole 0 (chain_of d u r).versions h

  pub walk_broken : walk_rule d u s v r ≡ Broken → Fails (there_in v s) (chain_of d u r).versions × ((chain_of d u r).whole ≡ false)
  unfolding walk_rule
  walk_broken h = first_broken (there_in v s) (chain_of d u r).whole 0 (chain_of d u r).versions h

  -- what is found lies in the row's slot or in an entry of the area
  pub walk_held : (place : Place) (n : ℕ) (h : walk_rule d u s v r ≡ Found place n) → Held d u r place (walk_found place n h).it.slot
  walk_held place n h =
      let f : First (there_in v s) (chain_of d u r).versions place n = walk_found place n h in
      subst (λ (at : Place). Held d u r at f.it.slot) f.lies
      (held_in d u r f.newer f.it f.older (subst (AllHeld d u r) f.splits (chain_held d u r)))

  -- and its body is 32 bytes long
  pub walk_body : (place : Place) (n : ℕ) → r < rows d → walk_rule d u s v r ≡ Found place n → length (body_of place d u) ≡ 32
  walk_body place n inside h = by place (walk_found place n h).it.slot (walk_held place n h)
    where
      by : (at : Place) (m : Slot) → Held d u r at m → length (body_of at d u) ≡ 32
      by Nowhere m k = absurd k
      by (Data q) m k = length_slot_body d u q (omega (arith, k.0))
      by (Undo e) m k = length_copy_body d u e k.0

-- ---- two views that differ in unused places alone

pub front_walk : (m l : List ℕ)
    → FrontOf m l
    → (number statement : ℕ) (d u s : List ℕ) (r : ℕ)
    → walk_rule d u s (view_of number statement m) r ≡ walk_rule d u s (view_of number statement l) r
unfolding walk_rule
front_walk m l front number statement d u s r =
    ap (λ (p : Slot → Bool). first_in p 0 (chain_of d u r).versions (chain_of d u r).whole)
    (fun_ext (λ x. front_there m l front number statement s (stamp_of x)))
