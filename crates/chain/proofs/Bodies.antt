-- Where the body of a version lies, as the code finds it: `at` is the place of its record; and how long it is ("01, Sessions and
-- sight"). Assumes nothing.
use mathlib.Core.Path.{◌≡◌, ap}
use mathlib.Core.Bool.{Bool, true, false, cond}
use mathlib.Core.List.{List, []}
use Prim.Native.Nat.{ℕ, ◌+◌, ◌-◌, ◌≤◌, ◌<◌}
use native.Mathlib.Omega.{arith}
use lib.ListN.{length, take, drop}
use lib.Dec.{ltb}
use borrow.Author.Tests.{lt-ltb, le-ltb}
use Rattle.kind.specs.Kind.{rows, entries}
use Rattle.records.specs.Slot.{slot_place, body_at}
use Rattle.records.specs.Entry.{entry_place, copy_body_at}
use Rattle.records.proofs.Bodies.{body_at_cut, copy_body_at_cut, length_body_at, length_copy_body_at, body_at_short, copy_body_at_short}
use Rattle.chain.specs.declared.Place.{Place}
use Rattle.chain.specs.declared.Place.TheVariants.{Nowhere, Data, Undo}
use Rattle.chain.specs.Walk.{body_of, body_from}

-- the body in the slot of a row of the area
pub slot_body : (d u : List ℕ) (r : ℕ) → r < rows d → body_of (Data r) d u ≡ body_at r d
unfolding body_of
slot_body d u r h = rw (lt-ltb r (rows d) h)

-- a body is 32 bytes long
pub length_slot_body : (d u : List ℕ) (r : ℕ) → r < rows d → length (body_of (Data r) d u) ≡ 32
unfolding body_of
length_slot_body d u r h = rw (lt-ltb r (rows d) h) (length_body_at r d h)

pub length_copy_body : (d u : List ℕ) (e : ℕ) → e < entries u → length (body_of (Undo e) d u) ≡ 32
unfolding body_of
length_copy_body d u e h = rw (lt-ltb e (entries u) h) (length_copy_body_at e u h)

-- or there is none
none_or : (b : Bool) (body : List ℕ) → length body ≤ 32 → length (cond b body []) ≤ 32
none_or true body h = h
none_or false body h = omega arith

pub body_most : (p : Place) (d u : List ℕ) → length (body_of p d u) ≤ 32
unfolding body_of
body_most Nowhere d u = omega arith
body_most (Data r) d u = none_or (ltb r (rows d)) (body_at r d) (body_at_short r d)
body_most (Undo e) d u = none_or (ltb e (entries u)) (copy_body_at e u) (copy_body_at_short e u)

-- what is handed back, and where it begins
abbrev Handed : Place → List ℕ → List ℕ → ℕ × ℕ → ℕ × ℕ → List ℕ → ℕ × ℕ → Type 0
Handed place d u pd pu b pb = record { holds : b ≡ body_of place d u; lies : pb ≡ body_from place d u pd pu }

-- the empty part at the beginning of an area
nothing : (p : ℕ × ℕ) → ◌≡◌ {A = ℕ × ℕ} (p.0, 0 + p.1) p
nothing p = ap (λ (n : ℕ). (p.0, n)) (omega arith)

module _ {place : Place} (d u : List ℕ) (pd pu : ℕ × ℕ) where
  -- n is how many there are
  pub hand_slot : {at n : ℕ} (r : ℕ) → place ≡ Data r → n ≡ rows d → r < n → at ≡ slot_place r
      → Handed place d u pd pu (take (at + 32 + 32 - (at + 32)) (drop (at + 32) d)) (pd.0, at + 32 + pd.1)
  unfolding body_of body_from
  hand_slot {at} r is all inside found =
      record {
        holds = rw (is, lt-ltb r (rows d) (omega arith)) (body_at_cut r d found);
        lies = rw (is, lt-ltb r (rows d) (omega arith)) (ap (λ (n : ℕ). (pd.0, n)) (omega arith));
      }

  pub hand_copy : {at n : ℕ} (e : ℕ) → place ≡ Undo e → n ≡ entries u → e < n → at ≡ entry_place e
      → Handed place d u pd pu (take (at + 48 + 32 - (at + 48)) (drop (at + 48) u)) (pu.0, at + 48 + pu.1)
  unfolding body_of body_from
  hand_copy {at} e is all inside found =
      record {
        holds = rw (is, lt-ltb e (entries u) (omega arith)) (copy_body_at_cut e u found);
        lies = rw (is, lt-ltb e (entries u) (omega arith)) (ap (λ (n : ℕ). (pu.0, n)) (omega arith));
      }

  pub hand_none : place ≡ Nowhere → Handed place d u pd pu [] (pd.0, 0 + pd.1)
  unfolding body_of body_from
  hand_none is = record { holds = rw is; lies = rw is (nothing pd) }

  pub hand_no_slot : {n : ℕ} (r : ℕ) → place ≡ Data r → n ≡ rows d → n ≤ r → Handed place d u pd pu [] (pd.0, 0 + pd.1)
  unfolding body_of body_from
  hand_no_slot r is all outside =
      record {
        holds = rw (is, le-ltb r (rows d) (omega arith));
        lies = rw (is, le-ltb r (rows d) (omega arith)) (nothing pd);
      }

  pub hand_no_copy : {n : ℕ} (e : ℕ) → place ≡ Undo e → n ≡ entries u → n ≤ e → Handed place d u pd pu [] (pd.0, 0 + pd.1)
  unfolding body_of body_from
  hand_no_copy e is all outside =
      record {
        holds = rw (is, le-ltb e (entries u) (omega arith));
        lies = rw (is, le-ltb e (entries u) (omega arith)) (nothing pd);
      }
