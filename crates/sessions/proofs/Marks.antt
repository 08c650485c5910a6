-- Which sessions are spoiled ("02, T-07"), through each change of a sound desk: a mark stays with its session, wherever that moves, and
-- goes with it; a new session has none. For that, a number stands at one place only. Assumes nothing.
use mathlib.Core.Path.{◌≡◌, refl, sym, ap, ap₂, ◌∙◌}
use mathlib.Core.Bool.{Bool, true, false, ◌&&◌}
use mathlib.Core.List.{List}
use mathlib.Core.Logic.{◌⊎◌, inl, inr}
use Prim.Native.Nat.{ℕ, zero, suc, ◌+◌, ◌≤◌, ◌<◌}
use native.Mathlib.Omega.{arith}
use lib.ListN.{length, get_or, set, length-set, get_or-eq_default}
use lib.Seq.{get_or-set_same, get_or-set_other}
use lib.Dec.{eqb}
use borrow.Author.Tests.{eqb-true, eqb-false, le-leb, eq-eqb, ne_eqb}
use Rattle.ground.specs.Range.{first_from}
use Rattle.ground.proofs.Ranges.{lt_or_le}
use Rattle.columns.specs.Columns.{without}
use Rattle.columns.proofs.Columns.{without_before, without_after}
use Rattle.places.specs.Open.{open_count, place_in, is_open}
use Rattle.places.specs.Places.{ascending, session_sound}
use Rattle.places.proofs.Sounds.{session_open}
use Rattle.desk.specs.declared.Desk.{Desk}
use Rattle.desk.specs.Desk.{fresh_desk}
use Rattle.desk.specs.Sound.{sound}
use Rattle.desk.specs.Turns.{begun, moved, closed, spoiled, spoiled_at, is_spoiled}
use Rattle.sessions.proofs.Ascents.{Rising, ascending_rising}
use Rattle.sessions.proofs.Changes.{Long, sound_parts, parts_sound, sound_beside, sound_statement, from_start, session_agree}
use Rattle.sessions.proofs.Changes.{place_in_here, is_open_used, is_open_place, get_d_is_open, open_unused, begun_ascends}

-- ---- a number's place

-- a number stands at one place only, where the numbers ascend
pub ascending_place : (top : ℕ) (numbers : List ℕ) → ascending top numbers 0 16 ≡ true
    → (x k : ℕ) → k < 16 → get_or numbers k 0 ≡ x → (x ≡ 0 → ⊥) → place_in x numbers ≡ k
ascending_place top numbers a x k h e u = at (get_d_is_open numbers k h (λ z. u (sym e ∙ z)))
  where
    rising : (i : ℕ) → i < 16 → (get_or numbers i 0 ≡ 0 → ⊥) → Rising top (λ (j : ℕ). get_or numbers j 0) i
    rising = ascending_rising top numbers 0 (λ (j : ℕ). get_or numbers j 0) (from_start numbers) 16 a

    at : is_open (get_or numbers k 0) numbers ≡ true → place_in x numbers ≡ k
    at o = by (lt_or_le (place_in x numbers) k) (lt_or_le k (place_in x numbers))
      where
        place : place_in x numbers < 16
        place = is_open_place x numbers (rw e at o)

        here : get_or numbers (place_in x numbers) 0 ≡ x
        here = place_in_here x numbers place

        by : (place_in x numbers < k) ⊎ (k ≤ place_in x numbers) → (k < place_in x numbers) ⊎ (place_in x numbers ≤ k) → place_in x numbers ≡ k
        by (inl q) r = absurd (omega (arith, here, e, ((rising k h (λ z. u (sym e ∙ z))).before (place_in x numbers) q).1))
        by (inr q) (inl r) = absurd (omega (arith, here, e, ((rising (place_in x numbers) place (λ z. u (sym here ∙ z))).before k r).1))
        by (inr q) (inr r) = omega arith

-- ---- a spoiled session

-- an open session may be marked: the desk stays sound
pub spoiled_sound : (d : Desk) → sound d ≡ true → Long d → (k : ℕ) → k < 16 → (get_or d.numbers k 0 ≡ 0 → ⊥) → sound (spoiled k d) ≡ true
unfolding spoiled
spoiled_sound d s long k h u =
    let p = sound_parts d s in
    parts_sound (spoiled k d) (record { first = p.first; last = p.last; ascends = p.ascends; each = λ j l. by j l (eqb j k) refl })
  where
    next : List ℕ
    next = set d.marks k 1

    here : session_sound d.numbers d.statements next d.lists k ≡ true
    here =
        let value : get_or next k 0 ≡ 1 = get_or-set_same d.marks k 1 0 (omega (arith, long.marks)) in
        session_open d.numbers d.statements next d.lists k u
        ∙ ap₂ ◌&&◌
        (ap₂ ◌&&◌ (le-leb (get_or d.statements k 0) 65535 (sound_statement d s k h)) (le-leb (get_or next k 0) 1 (omega arith)))
        (sound_beside d s k h).list

    by : (j : ℕ) → j < 16 → (t : Bool) → eqb j k ≡ t → session_sound d.numbers d.statements next d.lists j ≡ true
    by j l true e = rw (eqb-true j k e) here
    by j l false e =
        session_agree d.numbers d.statements next d.lists j d.numbers d.statements d.marks d.lists j
        refl
        refl
        (get_or-set_other d.marks k j 1 0 (eqb-false j k e))
        (λ i m. refl)
        ∙ (sound_parts d s).each j l

-- its columns stay as long as they were
pub spoiled_long : (d : Desk) (k : ℕ) → Long d → Long (spoiled k d)
unfolding spoiled
spoiled_long d k long =
    record {
      numbers = long.numbers;
      statements = long.statements;
      marks = length-set d.marks k 1 ∙ long.marks;
      lists = long.lists;
    }

-- the session at place k is spoiled then
pub spoiled_marked : (d : Desk) → Long d → (k : ℕ) → k < 16 → spoiled_at k (spoiled k d) ≡ true
unfolding spoiled spoiled_at
spoiled_marked d long k h =
    eq-eqb (get_or (set d.marks k 1) k 0) 1 (get_or-set_same d.marks k 1 0 (omega (arith, long.marks)))

-- and of the others, those that were
pub spoiled_others : (d : Desk) (x y : ℕ) → is_open y d.numbers ≡ true → (y ≡ x → ⊥)
    → is_spoiled y (spoiled (place_in x d.numbers) d) ≡ is_spoiled y d
unfolding spoiled spoiled_at
spoiled_others d x y o u =
    ap (λ (m : ℕ). eqb m 1) (get_or-set_other d.marks (place_in x d.numbers) (place_in y d.numbers) 1 0 apart)
  where
    place : place_in y d.numbers < 16
    place = is_open_place y d.numbers o

    apart : place_in y d.numbers ≡ place_in x d.numbers → ⊥
    apart e =
        u
        (sym (place_in_here y d.numbers place)
        ∙ ap (λ (k : ℕ). get_or d.numbers k 0) e
        ∙ place_in_here x d.numbers (omega (arith, place)))

-- ---- the next statement

-- no mark changes
pub moved_mark : (d : Desk) (k x : ℕ) → is_spoiled x (moved k d) ≡ is_spoiled x d
unfolding moved spoiled_at
moved_mark d k x = refl

-- ---- a new session

module _ (d : Desk) (s : sound d ≡ true) (long : Long d) (few : open_count d.numbers < 16) where
  abbrev count : ℕ
  count = open_count d.numbers

  begun_here : get_or (begun d).numbers count 0 ≡ d.next
  unfolding begun
  begun_here = get_or-set_same d.numbers count d.next 0 (omega (arith, long.numbers))

  begun_other : (i : ℕ) → (i ≡ count → ⊥) → get_or (begun d).numbers i 0 ≡ get_or d.numbers i 0
  unfolding begun
  begun_other i u = get_or-set_other d.numbers count i d.next 0 u

  -- it isn't spoiled
  pub begun_unmarked : is_spoiled d.next (begun d) ≡ false
  unfolding begun spoiled_at
  begun_unmarked =
      ap (λ (k : ℕ). eqb (get_or (begun d).marks k 0) 1)
      (ascending_place (d.next + 1) (begun d).numbers (begun_ascends d s long few) d.next count few begun_here
      (λ z. omega (arith, (sound_parts d s).first)))
      ∙ ap (λ (m : ℕ). eqb m 1) (get_or-set_same d.marks count 0 0 (omega (arith, long.marks)))

  -- and the others are as they were
  pub begun_mark : (x : ℕ) → is_open x d.numbers ≡ true → is_spoiled x (begun d) ≡ is_spoiled x d
  unfolding begun spoiled_at
  begun_mark x o =
      ap (λ (k : ℕ). eqb (get_or (begun d).marks k 0) 1)
      (ascending_place (d.next + 1) (begun d).numbers (begun_ascends d s long few) x place (is_open_place x d.numbers o)
      (begun_other place apart ∙ here) used)
      ∙ ap (λ (m : ℕ). eqb m 1) (get_or-set_other d.marks count place 0 0 apart)
    where
      place : ℕ
      place = place_in x d.numbers

      used : x ≡ 0 → ⊥
      used = is_open_used x d.numbers o

      here : get_or d.numbers place 0 ≡ x
      here = place_in_here x d.numbers (is_open_place x d.numbers o)

      apart : place ≡ count → ⊥
      apart e = used (sym here ∙ ap (λ (k : ℕ). get_or d.numbers k 0) e ∙ open_unused d s count (omega arith) few)

  -- nobody else is open than before
  pub begun_open : (x : ℕ) → is_open x (begun d).numbers ≡ true → (x ≡ d.next → ⊥) → is_open x d.numbers ≡ true
  begun_open x o u = rw e at (get_d_is_open d.numbers place low (λ z. is_open_used x (begun d).numbers o (sym e ∙ z)))
    where
      place : ℕ
      place = place_in x (begun d).numbers

      low : place < 16
      low = is_open_place x (begun d).numbers o

      here : get_or (begun d).numbers place 0 ≡ x
      here = place_in_here x (begun d).numbers low

      e : get_or d.numbers place 0 ≡ x
      e = sym (begun_other place (λ p. u (sym here ∙ ap (λ (k : ℕ). get_or (begun d).numbers k 0) p ∙ begun_here))) ∙ here

-- ---- a closed session

-- where what stands at place i of a column without place k stood before
record Stood (k i : ℕ) : Type 0 where
  pub place : ℕ
  pub below : place < 16
  pub apart : place ≡ k → ⊥
  pub same : (l : List ℕ) → length l ≡ 16 → get_or (without k 1 l) i 0 ≡ get_or l place 0

module _ (d : Desk) (s : sound d ≡ true) (long : Long d) (k : ℕ) (h : k < 16) where
  module _ (x : ℕ) (o : is_open x (closed k d).numbers ≡ true) where
    abbrev place : ℕ
    place = place_in x (closed k d).numbers

    place_below : place < 16
    place_below = is_open_place x (closed k d).numbers o

    place_here : get_or (without k 1 d.numbers) place 0 ≡ x
    unfolding closed
    place_here = place_in_here x (closed k d).numbers place_below

    stood : Stood k place
    stood = by (lt_or_le place k) (lt_or_le (place + 1) 16)
      where
        by : (place < k) ⊎ (k ≤ place) → (place + 1 < 16) ⊎ (16 ≤ place + 1) → Stood k place
        by (inl q) r =
            record {
              place = place;
              below = place_below;
              apart = λ e. omega arith;
              same = λ l e. without_before k 1 l (omega arith) place q;
            }
        by (inr q) (inl r) =
            record {
              place = place + 1;
              below = r;
              apart = λ e. omega arith;
              same = λ l e. without_after k 1 l (omega arith) place q;
            }
        by (inr q) (inr r) =
            absurd
            (is_open_used x (closed k d).numbers o
            (sym place_here
            ∙ without_after k 1 d.numbers (omega (arith, long.numbers)) place q
            ∙ get_or-eq_default d.numbers 0 (omega (arith, long.numbers))))

    stood_here : get_or d.numbers stood.place 0 ≡ x
    stood_here = sym (stood.same d.numbers long.numbers) ∙ place_here

    stood_place : place_in x d.numbers ≡ stood.place
    stood_place =
        ascending_place d.next d.numbers (sound_parts d s).ascends x stood.place stood.below stood_here
        (is_open_used x (closed k d).numbers o)

    -- who is open then was open before
    pub closed_open : is_open x d.numbers ≡ true
    closed_open =
        rw stood_here at (get_d_is_open d.numbers stood.place stood.below
        (λ z. is_open_used x (closed k d).numbers o (sym stood_here ∙ z)))

    -- at a place that is not k
    closed_apart : place_in x d.numbers ≡ k → ⊥
    closed_apart e = stood.apart (sym stood_place ∙ e)

    -- what a column has at x's place moves up with x
    pub closed_column : (l : List ℕ) → length l ≡ 16 → get_or (without k 1 l) (place_in x (closed k d).numbers) 0 ≡ get_or l (place_in x d.numbers) 0
    closed_column l e = stood.same l e ∙ ap (λ (i : ℕ). get_or l i 0) (sym stood_place)

    -- so does its mark
    pub closed_mark : is_spoiled x (closed k d) ≡ is_spoiled x d
    unfolding closed spoiled_at
    closed_mark = ap (λ (m : ℕ). eqb m 1) (closed_column d.marks long.marks)

-- the session itself is gone
pub closed_gone : (d : Desk) → sound d ≡ true → Long d → (x : ℕ) → is_open x d.numbers ≡ true
    → is_open x (closed (place_in x d.numbers) d).numbers ≡ false
closed_gone d s long x o = by (is_open x (closed place d).numbers) refl
  where
    place : ℕ
    place = place_in x d.numbers

    by : (t : Bool) → is_open x (closed place d).numbers ≡ t → t ≡ false
    by true e = absurd (closed_apart d s long place (is_open_place x d.numbers o) x e refl)
    by false e = refl

-- ---- a desk without sessions

-- nobody is open
pub fresh_none : (next x : ℕ) → is_open x (fresh_desk next).numbers ≡ false
unfolding fresh_desk is_open place_in first_from
fresh_none next zero = refl
fresh_none next (suc x) = rw (ne_eqb (suc x) 0 (λ e. omega arith), ne_eqb 0 (suc x) (λ e. omega arith))
