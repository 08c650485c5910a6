-- What a station's own program may rely on: a body lies where read says, whole; and no second result meets a call's contract. Assumes
-- nothing.
use mathlib.Core.Path.{◌≡◌, refl, sym, ap, ◌∙◌}
use mathlib.Core.Bool.{Bool, true, false, cond}
use mathlib.Core.List.{List, []}
use Prim.Native.Nat.{ℕ, ◌+◌, ◌-◌, ◌≤◌}
use native.Mathlib.Omega.{arith}
use lib.ListN.{length, take, drop}
use lib.Dec.{ltb}
use borrow.Author.Tests.{ltb-true}
use Rattle.ground.specs.Does.{Does}
use Rattle.ground.proofs.Once.{once}
use Rattle.kind.specs.Kind.{rows, entries}
use Rattle.records.specs.Slot.{slot_place, body_at}
use Rattle.records.specs.Entry.{entry_place, copy_body_at}
use Rattle.records.proofs.Slots.{slot_inside}
use Rattle.records.proofs.Entries.{entry_inside}
use Rattle.records.proofs.Bodies.{body_at_cut, copy_body_at_cut}
use Rattle.chain.specs.declared.Place.{Place}
use Rattle.chain.specs.declared.Place.TheVariants.{Nowhere, Data, Undo}
use Rattle.chain.specs.Walk.{body_of}
use Rattle.station.specs.Station.{Handed, lies_of}

-- ---- where a body lies

-- the 32 bytes of area s from `at` on are the body b, and lie in s
abbrev pub Lies : List ℕ → ℕ → List ℕ → Type 0
Lies s at b = (take 32 (drop at s) ≡ b) × (at + 32 ≤ length s)

-- a cut of 32 bytes behind k bytes of a record, by its place
cut_at : (s b : List ℕ) (p k at : ℕ) → take (p + k + 32 - (p + k)) (drop (p + k) s) ≡ b → p + k ≡ at → take 32 (drop at s) ≡ b
cut_at s b p k at e q =
    let w : p + k + 32 - (p + k) ≡ 32 = omega arith in
    ap (λ (n : ℕ). take 32 (drop n s)) (sym q) ∙ ap (λ (n : ℕ). take n (drop (p + k) s)) (sym w) ∙ e

-- no area is another
other : {A : Type 0} (a b : ℕ × ℕ) → (a.0 ≡ b.0 → ⊥) → a ≡ b → A
other a b ne e = absurd (ne (ap (λ (x : ℕ × ℕ). x.0) e))

-- where read says 1, the body lies in the data area at that byte, and where it says 2, in the undo area
pub lies_body : (place : Place) (d u : List ℕ) (at : ℕ)
    → (lies_of place d u ≡ (1, at) → Lies d at (body_of place d u)) × (lies_of place d u ≡ (2, at) → Lies u at (body_of place d u))
unfolding lies_of body_of
lies_body Nowhere d u at = (λ e. other (0, 0) (1, at) (λ z. omega arith) e, λ e. other (0, 0) (2, at) (λ z. omega arith) e)
lies_body (Data r) d u at = (here (ltb r (rows d)) refl, there (ltb r (rows d)))
  where
    here : (t : Bool) → ltb r (rows d) ≡ t → ◌≡◌ {A = ℕ × ℕ} (cond t (1, slot_place r + 32) (0, 0)) (1, at) → Lies d at (cond t (body_at r d) [])
    here true h e =
        let found : slot_place r + 32 ≡ at = ap (λ (x : ℕ × ℕ). x.1) e in
        (cut_at d _ (slot_place r) 32 at (body_at_cut r d refl) found, omega (arith, slot_inside r d (ltb-true r (rows d) h)))
    here false h e = other (0, 0) (1, at) (λ z. omega arith) e

    there : (t : Bool) → ◌≡◌ {A = ℕ × ℕ} (cond t (1, slot_place r + 32) (0, 0)) (2, at) → Lies u at (cond t (body_at r d) [])
    there true e = other (1, slot_place r + 32) (2, at) (λ z. omega arith) e
    there false e = other (0, 0) (2, at) (λ z. omega arith) e
lies_body (Undo r) d u at = (there (ltb r (entries u)), here (ltb r (entries u)) refl)
  where
    here : (t : Bool) → ltb r (entries u) ≡ t → ◌≡◌ {A = ℕ × ℕ} (cond t (2, entry_place r + 48) (0, 0)) (2, at) → Lies u at (cond t (copy_body_at r u) [])
    here true h e =
        let found : entry_place r + 48 ≡ at = ap (λ (x : ℕ × ℕ). x.1) e in
        (cut_at u _ (entry_place r) 48 at (copy_body_at_cut r u refl) found, omega (arith, entry_inside r u (ltb-true r (entries u) h)))
    here false h e = other (0, 0) (2, at) (λ z. omega arith) e

    there : (t : Bool) → ◌≡◌ {A = ℕ × ℕ} (cond t (2, entry_place r + 48) (0, 0)) (1, at) → Lies d at (cond t (copy_body_at r u) [])
    there true e = other (2, entry_place r + 48) (1, at) (λ z. omega arith) e
    there false e = other (0, 0) (1, at) (λ z. omega arith) e

-- ---- no second result, of any of the twelve calls

pub call_once : (rule : ℕ × Handed) (n n' : ℕ) (x x' : Handed) → Does rule n x → Does rule n' x' → (n ≡ n') × (x ≡ x')
call_once rule n n' x x' p q = once p q
