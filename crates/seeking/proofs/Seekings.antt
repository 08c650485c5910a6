-- What seeking a row says to a call: where it refuses, the call's list of refusals answers that number whatever stands behind it; where
-- it doesn't, the list goes on behind what was asked, and the row has a version that the session reads. Assumes nothing.
use mathlib.Core.Path.{◌≡◌, refl, sym, ap, ap₂, subst, ◌∙◌}
use mathlib.Core.Logic.{⊎_elim}
use mathlib.Core.Bool.{Bool, true, false, cond}
use mathlib.Core.List.{List, [], ◌∷◌}
use Rattle.std.specs.Prelude.{Result, Ok, Err}
use Prim.Native.Nat.{ℕ, zero, suc, ◌<◌, ◌≤◌}
use native.Mathlib.Omega.{arith}
use lib.Dec.{eqb}
use borrow.Author.Tests.{leb-false, le-leb, lt-leb}
use Rattle.ground.specs.Refuse.{first_of, settle}
use Rattle.ground.proofs.Refusals.{first_of_more, first_of_past, first_of_none, settle_refused}
use Rattle.answer.specs.declared.Refusal.{Refusal}
use Rattle.answer.specs.declared.Refusal.TheVariants.{BadArgument, NotThere}
use Rattle.answer.specs.Code.{code_of}
use Rattle.kind.specs.Kind.{rows}
use Rattle.desk.specs.View.{View}
use Rattle.sight.specs.declared.Stamp.{Stamp}
use Rattle.sight.specs.Sight.{view_of}
use Rattle.sight.specs.Conflict.{conflict_of}
use Rattle.sight.proofs.Fronts.{FrontOf}
use Rattle.conflict.proofs.Conflicts.{Said, conflict_said, front_conflict}
use Rattle.records.specs.declared.slot.Slot.{Slot}
use Rattle.records.specs.Slot.{slot_at}
use Rattle.chain.specs.declared.Place.{Place}
use Rattle.chain.specs.declared.Walk.{Walk}
use Rattle.chain.specs.declared.Walk.TheVariants.{Found as At, Absent, Broken as Break}
use Rattle.chain.specs.Walk.{stamp_of, walk_rule}
use Rattle.chain.proofs.Walks.{walk_empty, front_walk}
use Rattle.chain.specs.declared.Found.{Found}
use Rattle.doubt.specs.declared.Missing.{Missing}
use Rattle.doubt.specs.declared.Missing.TheVariants.{Absent as Away}
use Rattle.doubt.specs.Doubt.{doubt_in, doubts, look_by, look_rule, refusal_of}
use Rattle.doubt.proofs.Doubts.{doubts_slot, front_doubts}
use Rattle.seeking.specs.Seeking.{no_row, is_broken, breaks, is_absent, misses, says, sought_by, seek_rule, write_refusal}

-- ---- the walk

-- a version was found, at a place, the nth looked at
pub record Met (w : Walk) : Type 0 where
  pub place : Place
  pub looked : ℕ
  pub is : w ≡ At place looked

met : (w : Walk) → is_broken w ≡ false → is_absent w ≡ false → Met w
met (At place n) b a = record { place = place; looked = n; is = refl }
met Absent b a = let z : ◌≡◌ {A = ℕ} 0 1 = cc in absurd (omega arith)
met Break b a = let z : ◌≡◌ {A = ℕ} 0 1 = cc in absurd (omega arith)

-- ---- the tests of a seek: whether the row is outside, whether doubt was met, and the walk

abbrev front : Bool → Bool → Walk → List (Bool × ℕ) → List (Bool × ℕ)
front b t w rest = (b, 5) ∷ (is_broken w, 6) ∷ (t, 17) ∷ (is_absent w, 7) ∷ rest

abbrev seek_by : Bool → Bool → Walk → Result Found Refusal
seek_by b t w = cond b (Err BadArgument) (sought_by (look_by t w))

-- refused under a number, which isn't 0
record Refusing (n : Refusal) (first : ℕ) : Type 0 where
  some : code_of n ≡ 0 → ⊥
  is : first ≡ code_of n

abbrev Refuses : Result Found Refusal → ℕ → Type 0
Refuses (Ok found) first = Unit
Refuses (Err n) first = Refusing n first

refusing : (b t : Bool) (w : Walk) (rest : List (Bool × ℕ)) → Refuses (seek_by b t w) (first_of (front b t w rest))
refusing true t w rest = record { some = λ z. omega arith; is = refl }
refusing false true (At place k) rest = record { some = λ z. omega arith; is = refl }
refusing false false (At place k) rest = tt
refusing false true Absent rest = record { some = λ z. omega arith; is = refl }
refusing false false Absent rest = record { some = λ z. omega arith; is = refl }
refusing false t Break rest = record { some = λ z. omega arith; is = refl }

refused_by : (b t : Bool) (w : Walk) (n : Refusal) (rest : List (Bool × ℕ)) → seek_by b t w ≡ Err n → Refusing n (first_of (front b t w rest))
refused_by b t w n rest e = subst (λ (q : Result Found Refusal). Refuses q (first_of (front b t w rest))) e (refusing b t w rest)

settle_refusing : {A : Type 0} (n : Refusal) (first : ℕ) (done : A) (refused : ℕ → A) → Refusing n first → settle first done refused ≡ refused (code_of n)
settle_refusing n first done refused f = ap (λ (m : ℕ). settle m done refused) f.is ∙ by (code_of n) f.some
  where
    by : (m : ℕ) → (m ≡ 0 → ⊥) → settle m done refused ≡ refused m
    by zero some = absurd (some refl)
    by (suc m) some = refl

-- the version was found: no line holds
record Finding (b t : Bool) (w : Walk) (f : Found) : Type 0 where
  inside : b ≡ false
  clear : t ≡ false
  walk : w ≡ At f.place f.looked

abbrev Finds : Result Found Refusal → Bool → Bool → Walk → Type 0
Finds (Ok f) b t w = Finding b t w f
Finds (Err n) b t w = Unit

finding_by : (b t : Bool) (w : Walk) → Finds (seek_by b t w) b t w
finding_by true t w = tt
finding_by false true (At place k) = tt
finding_by false false (At place k) = record { inside = refl; clear = refl; walk = refl }
finding_by false true Absent = tt
finding_by false false Absent = tt
finding_by false t Break = tt

found_by : (b t : Bool) (w : Walk) (f : Found) → seek_by b t w ≡ Ok f → Finding b t w f
found_by b t w f e = subst (λ (q : Result Found Refusal). Finds q b t w) e (finding_by b t w)

-- three lines for the numbers 8 to 10 cover all that a slot says
abbrev saying_of : ℕ → List (Bool × ℕ)
saying_of x = (eqb x 8, 8) ∷ (eqb x 9, 9) ∷ (eqb x 10, 10) ∷ []

saying : (x : ℕ) → Said x → first_of (saying_of x) ≡ x
saying x h =
    ⊎_elim (λ (e : x ≡ 0). rw e refl)
    (⊎_elim (λ (e : x ≡ 8). rw e refl)
    (⊎_elim (λ (e : x ≡ 9). rw e refl) (λ (e : x ≡ 10). rw e refl)))
    h

module _ (d u s : List ℕ) (v : View) (r : ℕ) where
  -- the lines of a read, what the slot says, and the lines of a write, before a call's own
  abbrev pub reading : List (Bool × ℕ) → List (Bool × ℕ)
  reading rest = (no_row d r, 5) ∷ (breaks d u s v r, 6) ∷ (doubts d u s v r, 17) ∷ (misses d u s v r, 7) ∷ rest

  abbrev pub slot_says : List (Bool × ℕ) → List (Bool × ℕ)
  slot_says rest = (says d s v r 8, 8) ∷ (says d s v r 9, 9) ∷ (says d s v r 10, 10) ∷ rest

  abbrev pub writing : List (Bool × ℕ) → List (Bool × ℕ)
  writing rest = reading (slot_says rest)

  -- ---- a seek

  refused_first : (n : Refusal) (rest : List (Bool × ℕ)) → seek_rule d u s v r ≡ Err n → Refusing n (first_of (reading rest))
  unfolding seek_rule look_rule breaks misses
  refused_first n rest e = refused_by (no_row d r) (doubts d u s v r) (walk_rule d u s v r) n rest e

  pub seek_refused : {A : Type 0} (n : Refusal) (rest : List (Bool × ℕ)) (done : A) (refused : ℕ → A)
      → seek_rule d u s v r ≡ Err n
      → settle (first_of (reading rest)) done refused ≡ refused (code_of n)
  seek_refused n rest done refused e = settle_refusing n (first_of (reading rest)) done refused (refused_first n rest e)

  module _ (f : Found) (found : seek_rule d u s v r ≡ Ok f) where
    finding : Finding (no_row d r) (doubts d u s v r) (walk_rule d u s v r) f
    unfolding seek_rule look_rule
    finding = found_by (no_row d r) (doubts d u s v r) (walk_rule d u s v r) f found

    pub seek_walk : walk_rule d u s v r ≡ At f.place f.looked
    seek_walk = finding.walk

    pub seek_inside : r < rows d
    unfolding no_row
    seek_inside = leb-false (rows d) r finding.inside

    pub seek_passed : (rest : List (Bool × ℕ)) → first_of (reading rest) ≡ first_of rest
    unfolding breaks misses
    seek_passed rest = rw (finding.inside, finding.clear, finding.walk)

    pub seek_found : (rest : List (Bool × ℕ)) → (first_of (reading rest) ≡ first_of rest) × (walk_rule d u s v r ≡ At f.place f.looked) × (r < rows d)
    seek_found rest = (seek_passed rest, seek_walk, seek_inside)

  -- an empty slot has no version
  pub walk_occupied : (place : Place) (n : ℕ) → walk_rule d u s v r ≡ At place n → (slot_at r d).create ≡ 0 → ⊥
  walk_occupied place n e z =
      let none : walk_rule d u s v r ≡ Absent = walk_empty d u s v r z in
      let q : ◌≡◌ {A = ℕ} 0 1 = cc in
      omega arith

  -- ---- a write

  pub write_refused : {A : Type 0} (k : ℕ) (rest : List (Bool × ℕ)) (done : A) (refused : ℕ → A)
      → write_refusal d u s v r ≡ suc k
      → settle (first_of (writing rest)) done refused ≡ refused (suc k)
  unfolding write_refusal
  write_refused k rest done refused e =
      settle_refused done refused (first_of (writing rest)) k (first_of_more (writing []) rest k e)

  -- what a write that nothing refuses stands on
  pub record Writable : Type 0 where
    pub inside : r < rows d
    pub clear : doubts d u s v r ≡ false
    pub version : Met (walk_rule d u s v r)
    pub occupied : (slot_at r d).create ≡ 0 → ⊥
    pub allowed : conflict_of v s (stamp_of (slot_at r d)) ≡ 0
    pub passed : (rest : List (Bool × ℕ)) → first_of (writing rest) ≡ first_of rest

  pub write_passed : write_refusal d u s v r ≡ 0 → Writable
  unfolding write_refusal no_row breaks misses says
  write_passed e =
      let x : ℕ = conflict_of v s (stamp_of (slot_at r d)) in
      let w : Walk = walk_rule d u s v r in
      let a = first_of_none (no_row d r) 5 _ (λ z. omega arith) e in
      let b = first_of_none (is_broken w) 6 _ (λ z. omega arith) a.1 in
      let t = first_of_none (doubts d u s v r) 17 _ (λ z. omega arith) b.1 in
      let c = first_of_none (is_absent w) 7 _ (λ z. omega arith) t.1 in
      let f = first_of_none (eqb x 8) 8 _ (λ z. omega arith) c.1 in
      let g = first_of_none (eqb x 9) 9 _ (λ z. omega arith) f.1 in
      let h = first_of_none (eqb x 10) 10 _ (λ z. omega arith) g.1 in
      let m = met w b.0 c.0 in
      record {
        inside = leb-false (rows d) r a.0;
        clear = t.0;
        version = m;
        occupied = walk_occupied m.place m.looked m.is;
        allowed = sym (saying x (conflict_said v s (stamp_of (slot_at r d)))) ∙ c.1;
        passed = λ rest. rw (a.0, b.0, t.0, c.0, f.0, g.0, h.0);
      }

  -- where 9 is told, no number that the slot names is in doubt, whatever 5 asked and whatever stands behind 7: it is the first that is
  -- looked at, so that 9 comes of no reserved number
  pub nine_clear : (five : Bool) (rest : List (Bool × ℕ))
      → first_of ((five, 5) ∷ (breaks d u s v r, 6) ∷ (doubts d u s v r, 17) ∷ (misses d u s v r, 7) ∷ rest) ≡ 9
      → doubt_in v.number s (slot_at r d) ≡ false
  unfolding breaks misses
  nine_clear five rest e =
      let w : Walk = walk_rule d u s v r in
      let a = first_of_past 9 five 5 _ (λ z. omega arith) e in
      let b = first_of_past 9 (is_broken w) 6 _ (λ z. omega arith) a.1 in
      let t = first_of_past 9 (doubts d u s v r) 17 _ (λ z. omega arith) b.1 in
      let c = first_of_past 9 (is_absent w) 7 _ (λ z. omega arith) t.1 in
      let m = met w b.0 c.0 in
      doubts_slot d u s v r (walk_occupied m.place m.looked m.is) t.0

  -- ---- as the functions find it: k is how many rows there are

  pub seek_outside : {k : ℕ} → k ≡ rows d → k ≤ r → Err BadArgument ≡ seek_rule d u s v r
  unfolding seek_rule no_row
  seek_outside all h = rw (le-leb (rows d) r (omega arith))

  module _ {k : ℕ} (all : k ≡ rows d) (h : r < k) {w : Result Found Missing} (told : w ≡ look_rule d u s v r) where
    seek_by_lem : sought_by w ≡ seek_rule d u s v r
    unfolding seek_rule no_row
    seek_by_lem = rw (lt-leb (rows d) r (omega arith)) (ap sought_by told)

    pub seek_at : {f : Found} → w ≡ Ok f → Ok f ≡ seek_rule d u s v r
    seek_at e = ap sought_by (sym e) ∙ seek_by_lem

    pub seek_none : {m : Missing} {n : Refusal} → w ≡ Err m → n ≡ refusal_of m → Err n ≡ seek_rule d u s v r
    seek_none e is = ap Err is ∙ ap sought_by (sym e) ∙ seek_by_lem

    -- of them the absence, which is told as 7: for the two edits that tell it otherwise
    pub seek_absent : {m : Missing} → w ≡ Err m → m ≡ Away → Err NotThere ≡ seek_rule d u s v r
    seek_absent {m} e here = seek_none e (ap refusal_of (sym here))

  -- a write of a row that the seek refuses
  pub write_unsought : {q : Result Found Refusal} {n : Refusal} → q ≡ seek_rule d u s v r → q ≡ Err n → code_of n ≡ write_refusal d u s v r
  unfolding write_refusal
  write_unsought {q} {n} told e =
      sym (refused_first n (slot_says []) (sym told ∙ e)).is

  -- and of one whose version was found: what the slot says
  pub write_says : {q : Result Found Refusal} {f : Found} {m : Slot} {t : Stamp} {k : ℕ}
      → q ≡ seek_rule d u s v r
      → q ≡ Ok f
      → m ≡ slot_at r d
      → t ≡ stamp_of m
      → k ≡ conflict_of v s t
      → k ≡ write_refusal d u s v r
  unfolding write_refusal says
  write_says {f = f} told e em et ek =
      let x : ℕ = conflict_of v s (stamp_of (slot_at r d)) in
      ek
      ∙ ap (conflict_of v s) (et ∙ ap stamp_of em)
      ∙ sym (saying x (conflict_said v s (stamp_of (slot_at r d))))
      ∙ sym (seek_passed f (sym told ∙ e) (slot_says []))

-- ---- two views that differ in unused places alone

module _ (m l : List ℕ) (front : FrontOf m l) (number statement : ℕ) (d u s : List ℕ) (r : ℕ) where
  pub front_seek : seek_rule d u s (view_of number statement m) r ≡ seek_rule d u s (view_of number statement l) r
  unfolding seek_rule look_rule
  front_seek =
      ap₂ (λ (t : Bool) (w : Walk). cond (no_row d r) (Err BadArgument) (sought_by (look_by t w)))
      (front_doubts m l front number statement d u s r)
      (front_walk m l front number statement d u s r)

  pub front_write : write_refusal d u s (view_of number statement m) r ≡ write_refusal d u s (view_of number statement l) r
  unfolding write_refusal breaks misses says
  front_write =
      ap₂
      (λ (t : Bool) (w : Walk).
      first_of
      ((no_row d r, 5)
      ∷ (is_broken w, 6)
      ∷ (t, 17)
      ∷ (is_absent w, 7)
      ∷ saying_of (conflict_of (view_of number statement m) s (stamp_of (slot_at r d)))))
      (front_doubts m l front number statement d u s r)
      (front_walk m l front number statement d u s r)
      ∙ ap
      (λ (x : ℕ).
      first_of
      ((no_row d r, 5)
      ∷ (breaks d u s (view_of number statement l) r, 6)
      ∷ (doubts d u s (view_of number statement l) r, 17)
      ∷ (misses d u s (view_of number statement l) r, 7)
      ∷ saying_of x))
      (front_conflict m l front number statement s (stamp_of (slot_at r d)))
