-- What a sound desk says of an open session, what the mark is, and that each change of a sound desk is sound. Assumes nothing.
use mathlib.Core.Path.{◌≡◌, refl, sym, ap, ap₂, ◌∙◌}
use mathlib.Core.Bool.{Bool, true, false, not, ◌&&◌, cond}
use mathlib.Core.List.{List, [], ◌∷◌}
use mathlib.Core.Logic.{◌⊎◌, inl, inr, ⊎_elim}
use Prim.Native.Nat.{ℕ, zero, suc, ◌+◌, ◌*◌, ◌≤◌, ◌<◌}
use native.Mathlib.Nat.{eq-or-lt_of_le, zero-add}
use native.Mathlib.Omega.{arith}
use lib.ListN.{length, get_or, set, take, drop, get_or-eq_default}
use lib.Seq.{sets, length-take-le, get_or-take, get_or-drop, get_or-set_same, get_or-set_other}
use lib.Dec.{eqb, ltb, leb}
use borrow.Author.Tests.{eqb-true, eqb-false, ltb-true, ltb-false, leb-true, le-leb, lt-ltb, eq-eqb, ne_eqb, not-true, not-false}
use Rattle.ground.specs.Range.{first_from, all_below}
use Rattle.ground.proofs.Ranges.{lt_or_le, and_true_left, and_true_right, first_passes, first_before, all_at, all_intro}
use Rattle.columns.proofs.Columns.{without_before, without_after, sets_other, sets_part}
use Rattle.columns.specs.Columns.{without, smallest, mark_of}
use Rattle.columns.specs.Limits.{last_statement, spoiled_mark}
use Rattle.places.proofs.Sounds.{session_unused, session_open}
use Rattle.places.specs.Open.{open_count, place_in, is_open}
use Rattle.places.specs.Places.{ascending, session_sound}
use Rattle.desk.specs.declared.Desk.{Desk}
use Rattle.desk.specs.View.{View}
use Rattle.desk.specs.Sound.{sound_columns, sound}
use Rattle.desk.specs.Turns.{view_at, begun, moved, closed, mark}
use Rattle.sessions.proofs.Ascents.{Rising, ascending_rising, rising_ascending, ascending_agree, ascending_less}
use Rattle.sessions.proofs.Ascents.{count_below_lem, count_past}

-- ---- the parts of soundness

pub record Sound (d : Desk) : Type 0 where
  pub first : 1 ≤ d.next
  pub last : d.next ≤ 32576
  pub ascends : ascending d.next d.numbers 0 16 ≡ true
  pub each : (k : ℕ) → k < 16 → session_sound d.numbers d.statements d.marks d.lists k ≡ true

pub sound_parts : (d : Desk) → sound d ≡ true → Sound d
unfolding sound sound_columns
sound_parts d s =
    let low : Bool = leb 1 d.next in
    let high : Bool = leb d.next 32576 in
    let up : Bool = ascending d.next d.numbers 0 16 in
    let all : Bool = all_below (session_sound d.numbers d.statements d.marks d.lists) 16 in
    let t : (high && (up && all)) ≡ true = and_true_right low (high && (up && all)) s in
    let u : (up && all) ≡ true = and_true_right high (up && all) t in
    record {
      first = leb-true 1 d.next (and_true_left low (high && (up && all)) s);
      last = leb-true d.next 32576 (and_true_left high (up && all) t);
      ascends = and_true_left up all u;
      each = all_at (session_sound d.numbers d.statements d.marks d.lists) 16 (and_true_right up all u);
    }

pub parts_sound : (d : Desk) → Sound d → sound d ≡ true
unfolding sound sound_columns
parts_sound d p =
    rw (le-leb 1 d.next p.first, le-leb d.next 32576 p.last, p.ascends)
    (all_intro (session_sound d.numbers d.statements d.marks d.lists) 16 p.each)

pub from_start : (l : List ℕ) (i : ℕ) → get_or l i 0 ≡ get_or l (0 + i) 0
from_start l i = ap (λ (n : ℕ). get_or l n 0) (sym (zero-add i))

-- a session's number is below next, and above those before it
pub sound_number : (d : Desk)
    → sound d ≡ true
    → (k : ℕ)
    → k < 16
    → (get_or d.numbers k 0 ≡ 0 → ⊥)
    → Rising d.next (λ (i : ℕ). get_or d.numbers i 0) k
sound_number d s =
    let numbers : List ℕ = d.numbers in
    ascending_rising d.next numbers 0 (λ (i : ℕ). get_or numbers i 0) (from_start numbers) 16 (sound_parts d s).ascends

-- what stands at place k beside its number
pub record Beside (d : Desk) (k : ℕ) : Type 0 where
  pub statement : get_or d.statements k 0 ≤ cond (eqb (get_or d.numbers k 0) 0) 0 last_statement
  pub marked : get_or d.marks k 0 ≤ cond (eqb (get_or d.numbers k 0) 0) 0 spoiled_mark
  pub list : ascending (get_or d.numbers k 0) d.lists (k * 15) 15 ≡ true

pub sound_beside : (d : Desk) → sound d ≡ true → (k : ℕ) → k < 16 → Beside d k
unfolding session_sound
sound_beside d s k h =
    let unused : Bool = eqb (get_or d.numbers k 0) 0 in
    let statement : Bool = leb (get_or d.statements k 0) (cond unused 0 last_statement) in
    let marked : Bool = leb (get_or d.marks k 0) (cond unused 0 spoiled_mark) in
    let list : Bool = ascending (get_or d.numbers k 0) d.lists (k * 15) 15 in
    let e : (statement && marked && list) ≡ true = (sound_parts d s).each k h in
    let f : (statement && marked) ≡ true = and_true_left (statement && marked) list e in
    record {
      statement = leb-true _ _ (and_true_left statement marked f);
      marked = leb-true _ _ (and_true_right statement marked f);
      list = and_true_right (statement && marked) list e;
    }

-- a session's statement is at most 65,535
pub sound_statement : (d : Desk) → sound d ≡ true → (k : ℕ) → k < 16 → get_or d.statements k 0 ≤ 65535
sound_statement d s k h = by (eqb (get_or d.numbers k 0) 0) (sound_beside d s k h).statement
  where
    by : (t : Bool) → get_or d.statements k 0 ≤ cond t 0 last_statement → get_or d.statements k 0 ≤ 65535
    by true g = omega arith
    by false g = g

-- its mark is 0 or 1
pub sound_mark : (d : Desk) → sound d ≡ true → (k : ℕ) → k < 16 → get_or d.marks k 0 ≤ 1
sound_mark d s k h = by (eqb (get_or d.numbers k 0) 0) (sound_beside d s k h).marked
  where
    by : (t : Bool) → get_or d.marks k 0 ≤ cond t 0 spoiled_mark → get_or d.marks k 0 ≤ 1
    by true g = omega arith
    by false g = g

-- and an unused place has none
pub sound_unmarked : (d : Desk) → sound d ≡ true → (k : ℕ) → k < 16 → get_or d.numbers k 0 ≡ 0 → get_or d.marks k 0 ≡ 0
sound_unmarked d s k h e =
    let none : get_or d.marks k 0 ≤ 0 = rw (eq-eqb (get_or d.numbers k 0) 0 e) at (sound_beside d s k h).marked in omega arith

-- ---- an open session

pub record Open (d : Desk) (x : ℕ) : Type 0 where
  pub from : 1 ≤ x
  pub below : x < d.next
  pub last : x < 32576
  pub place : place_in x d.numbers < 16
  pub here : get_or d.numbers (place_in x d.numbers) 0 ≡ x
  pub statement : get_or d.statements (place_in x d.numbers) 0 ≤ 65535

-- where x has a place, it stands there
pub place_in_here : (x : ℕ) (numbers : List ℕ) → place_in x numbers < 16 → get_or numbers (place_in x numbers) 0 ≡ x
unfolding place_in
place_in_here x numbers h =
    eqb-true _ _ (first_passes (λ (k : ℕ). eqb (get_or numbers k 0) x) 0 16 h)

-- an open session is a number, and has a place
pub is_open_used : (x : ℕ) (numbers : List ℕ) → is_open x numbers ≡ true → x ≡ 0 → ⊥
unfolding is_open
is_open_used x numbers e = eqb-false x 0 (not-true (eqb x 0) (and_true_left (not (eqb x 0)) _ e))

pub is_open_place : (x : ℕ) (numbers : List ℕ) → is_open x numbers ≡ true → place_in x numbers < 16
unfolding is_open
is_open_place x numbers e = ltb-true _ 16 (and_true_right (not (eqb x 0)) _ e)

pub is_open_open : (d : Desk) (x : ℕ) → sound d ≡ true → is_open x d.numbers ≡ true → Open d x
is_open_open d x s e =
    let used : x ≡ 0 → ⊥ = is_open_used x d.numbers e in
    let low : place_in x d.numbers < 16 = is_open_place x d.numbers e in
    let is = place_in_here x d.numbers low in
    let below : x < d.next = rw is at (sound_number d s _ low (λ q. used (sym is ∙ q))).below in
    let last : d.next ≤ 32576 = (sound_parts d s).last in
    record {
      from = omega arith;
      below = below;
      last = omega arith;
      place = low;
      here = is;
      statement = sound_statement d s _ low;
    }

-- a number that stands at a place is open
pub get_d_is_open : (numbers : List ℕ) (k : ℕ) → k < 16 → (get_or numbers k 0 ≡ 0 → ⊥) → is_open (get_or numbers k 0) numbers ≡ true
unfolding is_open place_in
get_d_is_open numbers k h u = rw (ne_eqb (get_or numbers k 0) 0 u) (by (lt_or_le k (first_from same 0 16)))
  where
    same : ℕ → Bool
    same i = eqb (get_or numbers i 0) (get_or numbers k 0)

    by : (k < first_from same 0 16) ⊎ (first_from same 0 16 ≤ k) → ltb (first_from same 0 16) 16 ≡ true
    by (inl q) = absurd (eqb-false (get_or numbers k 0) (get_or numbers k 0) (first_before same 0 16 k (omega arith) q) refl)
    by (inr q) = lt-ltb (first_from same 0 16) 16 (omega arith)

-- ---- the mark

pub smallest_le : (m : ℕ) (l : List ℕ) → smallest m l ≤ m
unfolding smallest
smallest_le m [] = omega arith
smallest_le m (x ∷ l) = by (not (eqb x 0) && ltb x m) refl (smallest_le x l) (smallest_le m l)
  where
    by : (t : Bool)
        → (not (eqb x 0) && ltb x m) ≡ t
        → smallest x l ≤ x
        → smallest m l ≤ m
        → cond t (smallest x l) (smallest m l) ≤ m
    by true e g h = let low : x < m = ltb-true x m (and_true_right (not (eqb x 0)) (ltb x m) e) in omega arith
    by false e g h = h

pub smallest_all : (m : ℕ) (l : List ℕ) (k : ℕ) → (get_or l k 0 ≡ 0 → ⊥) → smallest m l ≤ get_or l k 0
unfolding smallest
smallest_all m [] k u = absurd (u refl)
smallest_all m (x ∷ l) zero u = by (not (eqb x 0) && ltb x m) refl
  where
    by : (t : Bool) → (not (eqb x 0) && ltb x m) ≡ t → cond t (smallest x l) (smallest m l) ≤ x
    by true e = smallest_le x l
    by false e =
        let high : m ≤ x = ltb-false x m (rw (ne_eqb x 0 u) at e) in
        omega (arith, smallest_le m l)
smallest_all m (x ∷ l) (suc k) u =
    by (not (eqb x 0) && ltb x m) (smallest_all x l k u) (smallest_all m l k u)
  where
    by : (t : Bool)
        → smallest x l ≤ get_or l k 0
        → smallest m l ≤ get_or l k 0
        → cond t (smallest x l) (smallest m l) ≤ get_or l k 0
    by true g h = g
    by false g h = h

-- number m stands in l
pub record Stands (m : ℕ) (l : List ℕ) : Type 0 where
  pub place : ℕ
  pub below : place < length l
  pub here : m ≡ get_or l place 0
  pub used : m ≡ 0 → ⊥

stands_later : (m x : ℕ) (l : List ℕ) → Stands m l → Stands m (x ∷ l)
stands_later m x l s = record { place = suc s.place; below = omega arith; here = s.here; used = s.used }

pub smallest_one : (m : ℕ) (l : List ℕ) → (smallest m l ≡ m) ⊎ Stands (smallest m l) l
unfolding smallest
smallest_one m [] = inl refl
smallest_one m (x ∷ l) = by (not (eqb x 0) && ltb x m) refl (smallest_one x l) (smallest_one m l)
  where
    by : (t : Bool)
        → (not (eqb x 0) && ltb x m) ≡ t
        → (smallest x l ≡ x) ⊎ Stands (smallest x l) l
        → (smallest m l ≡ m) ⊎ Stands (smallest m l) l
        → (cond t (smallest x l) (smallest m l) ≡ m) ⊎ Stands (cond t (smallest x l) (smallest m l)) (x ∷ l)
    by true e (inl g) h =
        let used : x ≡ 0 → ⊥ = eqb-false x 0 (not-true (eqb x 0) (and_true_left (not (eqb x 0)) (ltb x m) e)) in
        inr (record { place = 0; below = omega arith; here = g; used = λ q. used (sym g ∙ q) })
    by true e (inr g) h = inr (stands_later (smallest x l) x l g)
    by false e g (inl h) = inl h
    by false e g (inr h) = inr (stands_later (smallest m l) x l h)

module _ (d : Desk) where
  -- it is at most next, at most each open number, at most each member
  pub mark_next : mark d ≤ d.next
  unfolding mark mark_of
  mark_next = omega (arith, smallest_le (smallest d.next d.numbers) d.lists, smallest_le d.next d.numbers)

  pub mark_numbers : (k : ℕ) → (get_or d.numbers k 0 ≡ 0 → ⊥) → mark d ≤ get_or d.numbers k 0
  unfolding mark mark_of
  mark_numbers k u =
      omega (arith, smallest_le (smallest d.next d.numbers) d.lists, smallest_all d.next d.numbers k u)

  pub mark_lists : (i : ℕ) → (get_or d.lists i 0 ≡ 0 → ⊥) → mark d ≤ get_or d.lists i 0
  unfolding mark mark_of
  mark_lists i u = smallest_all (smallest d.next d.numbers) d.lists i u

  -- and it is one of these
  pub mark_one : (mark d ≡ d.next) ⊎ (Stands (mark d) d.numbers ⊎ Stands (mark d) d.lists)
  unfolding mark mark_of
  mark_one = by (smallest_one (smallest d.next d.numbers) d.lists) (smallest_one d.next d.numbers)
    where
      oldest : ℕ
      oldest = smallest d.next d.numbers

      found : ℕ
      found = smallest oldest d.lists

      by : (found ≡ oldest) ⊎ Stands found d.lists
          → (oldest ≡ d.next) ⊎ Stands oldest d.numbers
          → (found ≡ d.next) ⊎ (Stands found d.numbers ⊎ Stands found d.lists)
      by (inr s) t = inr (inr s)
      by (inl e) (inl f) = inl (e ∙ f)
      by (inl e) (inr s) = inr (inl (rw e s))

-- of a sound desk it is a number
pub mark_from : (d : Desk) → sound d ≡ true → 1 ≤ mark d
mark_from d s = by (mark_one d)
  where
    stands : (l : List ℕ) → Stands (mark d) l → 1 ≤ mark d
    stands l p = let u : mark d ≡ 0 → ⊥ = p.used in omega arith

    by : (mark d ≡ d.next) ⊎ (Stands (mark d) d.numbers ⊎ Stands (mark d) d.lists) → 1 ≤ mark d
    by (inl e) = let first : 1 ≤ d.next = (sound_parts d s).first in omega arith
    by (inr (inl p)) = stands d.numbers p
    by (inr (inr p)) = stands d.lists p

-- ---- places that agree

module _ (numbers statements marks lists : List ℕ) (k : ℕ) (numbers' statements' marks' lists' : List ℕ) (j : ℕ) where
  pub session_agree : get_or numbers k 0 ≡ get_or numbers' j 0
      → get_or statements k 0 ≡ get_or statements' j 0
      → get_or marks k 0 ≡ get_or marks' j 0
      → ((i : ℕ) → i < 15 → get_or lists (k * 15 + i) 0 ≡ get_or lists' (j * 15 + i) 0)
      → session_sound numbers statements marks lists k ≡ session_sound numbers' statements' marks' lists' j
  unfolding session_sound
  session_agree e f m g =
      rw (e, f, m, ascending_agree (get_or numbers' j 0) lists lists' (k * 15) (j * 15) 15 g)

-- ---- the next statement

pub moved_sound : (d : Desk) (k : ℕ)
    → sound d ≡ true
    → length d.statements ≡ 16
    → k < 16
    → (get_or d.numbers k 0 ≡ 0 → ⊥)
    → get_or d.statements k 0 < 65535
    → sound (moved k d) ≡ true
unfolding moved
moved_sound d k s long h u q =
    let p = sound_parts d s in
    parts_sound (moved k d) (record { first = p.first; last = p.last; ascends = p.ascends; each = each })
  where
    next : List ℕ
    next = set d.statements k (get_or d.statements k 0 + 1)

    here : session_sound d.numbers next d.marks d.lists k ≡ true
    here =
        let value : get_or next k 0 ≡ get_or d.statements k 0 + 1
        = get_or-set_same d.statements k (get_or d.statements k 0 + 1) 0 (omega arith) in
        session_open d.numbers next d.marks d.lists k u
        ∙ ap₂ ◌&&◌
        (ap₂ ◌&&◌ (le-leb (get_or next k 0) 65535 (omega arith)) (le-leb (get_or d.marks k 0) 1 (sound_mark d s k h)))
        (sound_beside d s k h).list

    by : (j : ℕ) → j < 16 → (t : Bool) → eqb j k ≡ t → session_sound d.numbers next d.marks d.lists j ≡ true
    by j l true e = rw (eqb-true j k e) here
    by j l false e =
        session_agree d.numbers next d.marks d.lists j d.numbers d.statements d.marks d.lists j
        refl
        (get_or-set_other d.statements k j (get_or d.statements k 0 + 1) 0 (eqb-false j k e))
        refl
        (λ i m. refl)
        ∙ (sound_parts d s).each j l

    each : (j : ℕ) → j < 16 → session_sound d.numbers next d.marks d.lists j ≡ true
    each j l = by j l (eqb j k) refl

-- ---- a new session

abbrev used : List ℕ → ℕ → Bool
used l i = not (eqb (get_or l i 0) 0)

module _ (d : Desk) (s : sound d ≡ true) where
  used_starts : (i : ℕ) → suc i < 16 → used d.numbers (suc i) ≡ true → used d.numbers i ≡ true
  used_starts i h e =
      let p = (sound_number d s (suc i) h (eqb-false _ 0 (not-true _ e))).before i (omega arith) in
      ap not (ne_eqb _ 0 (λ (q : get_or d.numbers i 0 ≡ 0). omega arith))

  -- the open sessions stand at the first places, and no other place is used
  pub open_used : (i : ℕ) → i < open_count d.numbers → get_or d.numbers i 0 ≡ 0 → ⊥
  unfolding open_count
  open_used i h = eqb-false _ 0 (not-true _ (count_below_lem (used d.numbers) 16 used_starts i h))

  pub open_unused : (i : ℕ) → open_count d.numbers ≤ i → i < 16 → get_or d.numbers i 0 ≡ 0
  unfolding open_count
  open_unused i h l = eqb-true _ 0 (not-false _ (count_past (used d.numbers) 16 used_starts i h l))

  -- where fewer than 16 are open, each open session stands in what a new session lists
  pub open_listed : (x : ℕ) → open_count d.numbers < 16 → is_open x d.numbers ≡ true → place_in x d.numbers < 15
  open_listed x h e =
      let o = is_open_open d x s e in
      by (lt_or_le (place_in x d.numbers) 15) o.from o.place o.here
    where
      by : (place_in x d.numbers < 15) ⊎ (15 ≤ place_in x d.numbers)
          → 1 ≤ x
          → place_in x d.numbers < 16
          → get_or d.numbers (place_in x d.numbers) 0 ≡ x
          → place_in x d.numbers < 15
      by (inl q) f l e = q
      by (inr q) f l e =
          let none = open_unused (place_in x d.numbers) (omega arith) l in absurd (omega arith)

-- the columns' lengths
pub record Long (d : Desk) : Type 0 where
  pub numbers : length d.numbers ≡ 16
  pub statements : length d.statements ≡ 16
  pub marks : length d.marks ≡ 16
  pub lists : length d.lists ≡ 240

-- what the new session sees by: the number handed out, statement 0, and the numbers open then
pub begun_view : (d : Desk)
    → Long d
    → open_count d.numbers < 16
    → view_at (open_count d.numbers) (begun d) ≡ record { number = d.next; statement = 0; list = take 15 d.numbers }
unfolding view_at begun
begun_view d long room =
    rw (
      get_or-set_same d.numbers (open_count d.numbers) d.next 0 (omega arith),
      get_or-set_same d.statements (open_count d.numbers) 0 0 (omega arith),
      sets_part
          (take 15 d.numbers)
          d.lists
          (open_count d.numbers * 15)
          15
          (length-take-le 15 d.numbers (omega arith))
          (omega arith),
    )

-- the places of a desk in which session `next` stands at place k
module _ (d : Desk) (s : sound d ≡ true) (long : Long d) (k : ℕ) (counted : k ≡ open_count d.numbers) (room : k < 16) where
  abbrev with_number : List ℕ
  with_number = set d.numbers k d.next

  abbrev with_statement : List ℕ
  with_statement = set d.statements k 0

  abbrev with_mark : List ℕ
  with_mark = set d.marks k 0

  abbrev with_listed : List ℕ
  with_listed = sets d.lists (k * 15) (take 15 d.numbers)

  other : (i : ℕ) → (i ≡ k → ⊥) → get_or with_number i 0 ≡ get_or d.numbers i 0
  other i u = get_or-set_other d.numbers k i d.next 0 u

  here : get_or with_number k 0 ≡ d.next
  here = get_or-set_same d.numbers k d.next 0 (omega arith)

  before_here : (j : ℕ) → j < k → (0 < get_or d.numbers j 0) × (get_or d.numbers j 0 < d.next)
  before_here j h =
      let u : get_or d.numbers j 0 ≡ 0 → ⊥ = open_used d s j (omega arith) in
      (omega arith, (sound_number d s j (omega arith) u).below)

  with_rising : (i : ℕ)
      → i < 16
      → (get_or with_number i 0 ≡ 0 → ⊥)
      → Rising (d.next + 1) (λ (j : ℕ). get_or with_number j 0) i
  with_rising i h u = by (lt_or_le i k)
    where
      same : (j : ℕ) → j < k → get_or with_number j 0 ≡ get_or d.numbers j 0
      same j q = other j (λ e. omega arith)

      behind : (k ≡ i) ⊎ (k < i) → Rising (d.next + 1) (λ (j : ℕ). get_or with_number j 0) i
      behind (inl e) =
          let value : get_or with_number i 0 ≡ d.next = ap (λ (n : ℕ). get_or with_number n 0) (sym e) ∙ here in
          record {
            below = omega arith;
            before = λ j q.
                (let p = before_here j (omega arith) in let f = same j (omega arith) in (omega arith, omega arith));
          }
      behind (inr q) = absurd (u (other i (λ e. omega arith) ∙ open_unused d s i (omega arith) h))

      by : (i < k) ⊎ (k ≤ i) → Rising (d.next + 1) (λ (j : ℕ). get_or with_number j 0) i
      by (inl q) =
          let e = same i q in
          let r = sound_number d s i h (open_used d s i (omega arith)) in
          let below = r.below in
          record {
            below = omega arith;
            before = λ j m. (let p = r.before j m in let f = same j (omega arith) in (omega arith, omega arith));
          }
      by (inr q) = behind (eq-or-lt_of_le q)

  with_ascends : ascending (d.next + 1) with_number 0 16 ≡ true
  with_ascends =
      rising_ascending (d.next + 1) with_number 0 (λ (i : ℕ). get_or with_number i 0) (from_start with_number) 16 with_rising

  listed : (i : ℕ) → i < 15 → get_or with_listed (k * 15 + i) 0 ≡ get_or d.numbers (0 + i) 0
  listed i h =
      let numbers : List ℕ = take 15 d.numbers in
      let part = sets_part numbers d.lists (k * 15) 15 (length-take-le 15 d.numbers (omega arith)) (omega arith) in
      sym (get_or-drop (k * 15) with_listed i 0)
      ∙ sym (get_or-take 15 (drop (k * 15) with_listed) i 0 h)
      ∙ ap (λ (l : List ℕ). get_or l i 0) part
      ∙ get_or-take 15 d.numbers i 0 h
      ∙ from_start d.numbers i

  session_here : session_sound with_number with_statement with_mark with_listed k ≡ true
  session_here =
      let first : 1 ≤ d.next = (sound_parts d s).first in
      let up : ascending d.next d.numbers 0 15 ≡ true
      = ascending_less d.next d.numbers 0 16 15 (omega arith) (sound_parts d s).ascends in
      let list : ascending d.next with_listed (k * 15) 15 ≡ true
      = ascending_agree d.next with_listed d.numbers (k * 15) 0 15 listed ∙ up in
      let zero : get_or with_statement k 0 ≡ 0 = get_or-set_same d.statements k 0 0 (omega arith) in
      let unmarked : get_or with_mark k 0 ≡ 0 = get_or-set_same d.marks k 0 0 (omega arith) in
      session_open with_number with_statement with_mark with_listed k (λ e. omega (arith, here))
      ∙ ap₂ ◌&&◌
      (ap₂ ◌&&◌ (le-leb (get_or with_statement k 0) 65535 (omega arith)) (le-leb (get_or with_mark k 0) 1 (omega arith)))
      (rw here list)

  session_other : (j : ℕ) → j < 16 → (j ≡ k → ⊥) → session_sound with_number with_statement with_mark with_listed j ≡ true
  session_other j h u =
      session_agree with_number with_statement with_mark with_listed j d.numbers d.statements d.marks d.lists j
      (other j u)
      (get_or-set_other d.statements k j 0 0 u)
      (get_or-set_other d.marks k j 0 0 u)
      (λ i m. sets_other (take 15 d.numbers) d.lists (k * 15) (j * 15 + i) (apart i m (lt_or_le j k)))
      ∙ (sound_parts d s).each j h
    where
      apart : (i : ℕ)
          → i < 15
          → (j < k) ⊎ (k ≤ j)
          → (j * 15 + i < k * 15) ⊎ (k * 15 + length (take 15 d.numbers) ≤ j * 15 + i)
      apart i m (inl q) = inl (omega arith)
      apart i m (inr q) =
          let l : length (take 15 d.numbers) ≡ 15 = length-take-le 15 d.numbers (omega arith) in
          let more : k < j = ⊎_elim (λ (e : k ≡ j). absurd (u (sym e))) (λ (p : k < j). p) (eq-or-lt_of_le q) in
          inr (omega arith)

  with_each : (j : ℕ) → j < 16 → session_sound with_number with_statement with_mark with_listed j ≡ true
  with_each j h = by (eqb j k) refl
    where
      by : (t : Bool) → eqb j k ≡ t → session_sound with_number with_statement with_mark with_listed j ≡ true
      by true e = rw (eqb-true j k e) session_here
      by false e = session_other j h (eqb-false j k e)

-- its numbers ascend
pub begun_ascends : (d : Desk) → sound d ≡ true → Long d → open_count d.numbers < 16 → ascending (d.next + 1) (begun d).numbers 0 16 ≡ true
unfolding begun
begun_ascends d s long room = with_ascends d s long (open_count d.numbers) refl room

pub begun_sound : (d : Desk)
    → sound d ≡ true
    → Long d
    → open_count d.numbers < 16
    → d.next < 32576
    → sound (begun d) ≡ true
unfolding begun
begun_sound d s long room h =
    parts_sound (begun d)
    (record {
      first = omega arith;
      last = omega arith;
      ascends = begun_ascends d s long room;
      each = with_each d s long (open_count d.numbers) refl room;
    })

-- ---- a closed session

module _ (d : Desk) (s : sound d ≡ true) (long : Long d) where
  -- behind the last place there is nothing
  past_unused : (i : ℕ) → ascending 0 d.lists 240 i ≡ true
  past_unused i =
      rising_ascending 0 d.lists 240 (λ (j : ℕ). get_or d.lists (240 + j) 0) (λ j. refl) i
      (λ j h u. absurd (u (get_or-eq_default d.lists 0 (past j))))
    where
      past : (j : ℕ) → length d.lists ≤ 240 + j
      past j = omega arith

  session_past : session_sound d.numbers d.statements d.marks d.lists 16 ≡ true
  session_past =
      let m : length d.numbers ≤ 16 = omega arith in
      let n : length d.statements ≤ 16 = omega arith in
      let o : length d.marks ≤ 16 = omega arith in
      session_unused d.numbers d.statements d.marks d.lists 16 (get_or-eq_default d.numbers 0 m)
      ∙ ap₂ ◌&&◌
      (ap₂ ◌&&◌
      (eq-eqb (get_or d.statements 16 0) 0 (get_or-eq_default d.statements 0 n))
      (eq-eqb (get_or d.marks 16 0) 0 (get_or-eq_default d.marks 0 o)))
      (past_unused 15)

  session_until : (j : ℕ) → j ≤ 16 → session_sound d.numbers d.statements d.marks d.lists j ≡ true
  session_until j h =
      ⊎_elim (λ (e : j ≡ 16). rw e session_past) (λ (q : j < 16). (sound_parts d s).each j q) (eq-or-lt_of_le h)

  module _ (k : ℕ) (h : k < 16) where
    number_before : (i : ℕ) → i < k → get_or (without k 1 d.numbers) i 0 ≡ get_or d.numbers i 0
    number_before i q = without_before k 1 d.numbers (omega arith) i q

    number_after : (i : ℕ) → k ≤ i → get_or (without k 1 d.numbers) i 0 ≡ get_or d.numbers (i + 1) 0
    number_after i q = without_after k 1 d.numbers (omega arith) i q

    closed_rising : (i : ℕ)
        → i < 16
        → (get_or (without k 1 d.numbers) i 0 ≡ 0 → ⊥)
        → Rising d.next (λ (j : ℕ). get_or (without k 1 d.numbers) j 0) i
    closed_rising i l u = by (lt_or_le i k)
      where
        by : (i < k) ⊎ (k ≤ i) → Rising d.next (λ (j : ℕ). get_or (without k 1 d.numbers) j 0) i
        by (inl q) =
            let e = number_before i q in
            let r = sound_number d s i l (λ z. u (e ∙ z)) in
            let below = r.below in
            record {
              below = omega arith;
              before = λ j m. (let p = r.before j m in let f = number_before j (omega arith) in (omega arith, omega arith));
            }
        by (inr q) = moved_up (lt_or_le (i + 1) 16)
          where
            e : get_or (without k 1 d.numbers) i 0 ≡ get_or d.numbers (i + 1) 0
            e = number_after i q

            moved_up : (i + 1 < 16) ⊎ (16 ≤ i + 1) → Rising d.next (λ (j : ℕ). get_or (without k 1 d.numbers) j 0) i
            moved_up (inr m) =
                let past : length d.numbers ≤ i + 1 = omega arith in
                absurd (u (e ∙ get_or-eq_default d.numbers 0 past))
            moved_up (inl m) =
                let r = sound_number d s (i + 1) m (λ z. u (e ∙ z)) in
                let value = e in
                let below = r.below in
                record { below = omega arith; before = λ j p. each j p (lt_or_le j k) r.before }
              where
                each : (j : ℕ)
                    → j < i
                    → (j < k) ⊎ (k ≤ j)
                    → ((n : ℕ) → n < i + 1 → (0 < get_or d.numbers n 0) × (get_or d.numbers n 0 < get_or d.numbers (i + 1) 0))
                    → (0 < get_or (without k 1 d.numbers) j 0)
                    × (get_or (without k 1 d.numbers) j 0 < get_or (without k 1 d.numbers) i 0)
                each j p (inl o) f = rw (number_before j o, e) (f j (omega arith))
                each j p (inr o) f = rw (number_after j o, e) (f (j + 1) (omega arith))

    closed_each : (j : ℕ)
        → j < 16
        → session_sound (without k 1 d.numbers) (without k 1 d.statements) (without k 1 d.marks) (without (k * 15) 15 d.lists) j ≡ true
    closed_each j l = by (lt_or_le j k)
      where
        by : (j < k) ⊎ (k ≤ j)
            → session_sound (without k 1 d.numbers) (without k 1 d.statements) (without k 1 d.marks) (without (k * 15) 15 d.lists) j ≡ true
        by (inl q) =
            session_agree (without k 1 d.numbers) (without k 1 d.statements) (without k 1 d.marks) (without (k * 15) 15 d.lists) j
            d.numbers d.statements d.marks d.lists j
            (number_before j q)
            (without_before k 1 d.statements (omega arith) j q)
            (without_before k 1 d.marks (omega arith) j q)
            (λ i m. without_before (k * 15) 15 d.lists (omega arith) (j * 15 + i) (omega arith))
            ∙ session_until j (omega arith)
        by (inr q) =
            session_agree (without k 1 d.numbers) (without k 1 d.statements) (without k 1 d.marks) (without (k * 15) 15 d.lists) j
            d.numbers d.statements d.marks d.lists (j + 1)
            (number_after j q)
            (without_after k 1 d.statements (omega arith) j q)
            (without_after k 1 d.marks (omega arith) j q)
            list
            ∙ session_until (j + 1) (omega arith)
          where
            list : (i : ℕ) → i < 15 → get_or (without (k * 15) 15 d.lists) (j * 15 + i) 0 ≡ get_or d.lists ((j + 1) * 15 + i) 0
            list i m =
                let place : j * 15 + i + 15 ≡ (j + 1) * 15 + i = omega arith in
                without_after (k * 15) 15 d.lists (omega arith) (j * 15 + i) (omega arith)
                ∙ ap (λ (n : ℕ). get_or d.lists n 0) place

    pub closed_sound : sound (closed k d) ≡ true
    unfolding closed
    closed_sound =
        let p = sound_parts d s in
        let numbers : List ℕ = without k 1 d.numbers in
        parts_sound (closed k d)
        (record {
          first = p.first;
          last = p.last;
          ascends = rising_ascending d.next numbers 0 (λ (i : ℕ). get_or numbers i 0) (from_start numbers) 16 closed_rising;
          each = closed_each;
        })

-- begin's list is exactly the numbers open then: each of them is in it, and nobody else
pub begun_lists_open : (d : Desk) → sound d ≡ true → Long d → open_count d.numbers < 16 → (x : ℕ) → is_open x d.numbers ≡ true
    → (k : ℕ) × (k < 15) × (get_or (view_at (open_count d.numbers) (begun d)).list k 0 ≡ x)
begun_lists_open d s long few x o =
    let k : ℕ = place_in x d.numbers in
    let h : k < 15 = open_listed d s x few o in (
      k,
      h,
      ap (λ (v : View). get_or v.list k 0) (begun_view d long few) ∙ get_or-take 15 d.numbers k 0 h ∙ (is_open_open d x s o).here,
    )

pub begun_lists_only : (d : Desk) → Long d → open_count d.numbers < 16 → (k : ℕ) → k < 15
    → (get_or (view_at (open_count d.numbers) (begun d)).list k 0 ≡ 0 → ⊥)
    → is_open (get_or (view_at (open_count d.numbers) (begun d)).list k 0) d.numbers ≡ true
begun_lists_only d long few k h ne =
    let e : get_or (view_at (open_count d.numbers) (begun d)).list k 0 ≡ get_or d.numbers k 0 =
    ap (λ (v : View). get_or v.list k 0) (begun_view d long few) ∙ get_or-take 15 d.numbers k 0 h
    in
    rw e (get_d_is_open d.numbers k (omega arith) (λ z. ne (e ∙ z)))
