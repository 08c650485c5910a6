-- The desk, seen as the machine's list of sessions: who is found there, and how begin, next statement and close change it. Assumes nothing.
use Prim.Native.Nat.{ℕ, suc, ◌+◌, ◌-◌, ◌*◌, ◌≤◌, ◌<◌}
use mathlib.Core.Path.{◌≡◌, refl, ap, ap₂, sym, ◌∙◌}
use mathlib.Core.Bool.{Bool, true, false, cond}
use mathlib.Core.Logic.{◌⊎◌, inl, inr, ⊎_elim}
use mathlib.Core.Option.{none, some}
use mathlib.Core.List.{List, [], ◌∷◌, ◌++◌}
use native.Mathlib.Nat.{add-zero}
use native.Mathlib.Numerals.{add-one}
use native.Mathlib.Omega.{arith}
use lib.Dec.{eqb}
use lib.ListN.{get_or, take, length-set}
use lib.Seq.{get_or-set_same, get_or-set_other, length-sets}
use borrow.Author.Tests.{eqb-true, eqb-false, eq-eqb, ne_eqb}
use Rattle.ground.proofs.Ranges.{lt_or_le}
use Rattle.columns.proofs.Columns.{length_without, without_before, without_after, sets_other}
use Rattle.places.specs.Open.{open_count, place_in, is_open}
use Rattle.desk.specs.declared.Desk.{Desk}
use Rattle.desk.specs.Desk.{fresh_desk}
use Rattle.desk.specs.Sound.{sound}
use Rattle.desk.specs.Turns.{view_at, begun, moved, closed, spoiled}
use Rattle.desk.proofs.Sounds.{fresh_closed}
use Rattle.sessions.proofs.Changes.{Open, Long, sound_number, is_open_open, get_d_is_open, open_used, open_unused, begun_view}
use Rattle.machine.specs.Machine.{Session, find, move, close, onward, numbers as numbers_of}
use Rattle.machine.proofs.Basics.{true_false}
use Rattle.seen.specs.Seen.{session_at, sessions_from, open_sessions, standings, row_of, seen_as}
use Rattle.seen.proofs.Knowing.{session_of}
use Rattle.seen.proofs.Runs.{Absent, from_agree, session_agree, from_split, from_move}
use Rattle.seen.proofs.Runs.{find_none, find_later, close_none, close_append}
use Rattle.seen.proofs.Counts.{open_at_most, closed_count, begun_count, used_numbers}

-- ---- the columns stay as long as they were

pub begun_long : (d : Desk) → Long d → Long (begun d)
unfolding begun
begun_long d long =
    let k : ℕ = open_count d.numbers in
    record {
      numbers = length-set d.numbers k d.next ∙ long.numbers;
      statements = length-set d.statements k 0 ∙ long.statements;
      marks = length-set d.marks k 0 ∙ long.marks;
      lists = length-sets d.lists (k * 15) (take 15 d.numbers) ∙ long.lists;
    }

pub moved_long : (d : Desk) (k : ℕ) → Long d → Long (moved k d)
unfolding moved
moved_long d k long =
    record {
      numbers = long.numbers;
      statements = length-set d.statements k (get_or d.statements k 0 + 1) ∙ long.statements;
      marks = long.marks;
      lists = long.lists;
    }

pub closed_long : (d : Desk) (k : ℕ) → k < 16 → Long d → Long (closed k d)
unfolding closed
closed_long d k h long =
    record {
      numbers = length_without k 1 d.numbers (omega (arith, long.numbers)) ∙ long.numbers;
      statements = length_without k 1 d.statements (omega (arith, long.statements)) ∙ long.statements;
      marks = length_without k 1 d.marks (omega (arith, long.marks)) ∙ long.marks;
      lists = length_without (k * 15) 15 d.lists (omega (arith, long.lists)) ∙ long.lists;
    }

pub fresh_long : (n : ℕ) → Long (fresh_desk n)
unfolding fresh_desk
fresh_long n = record { numbers = refl; statements = refl; marks = refl; lists = refl }

-- ---- a closed desk, place by place

module _ (d : Desk) (long : Long d) (k : ℕ) (h : k < 16) where
  closed_front : (i : ℕ) → i < k → session_at (closed k d) i ≡ session_at d i
  unfolding closed
  closed_front i l =
      session_agree (closed k d) d i i (omega arith) (omega arith) (closed_long d k h long).lists long.lists
      (without_before k 1 d.numbers (omega (arith, long.numbers)) i l)
      (without_before k 1 d.statements (omega (arith, long.statements)) i l)
      (λ m q. without_before (k * 15) 15 d.lists (omega (arith, long.lists)) (i * 15 + m) (omega arith))

  closed_back : (i : ℕ) → k ≤ i → i < 15 → session_at (closed k d) i ≡ session_at d (i + 1)
  unfolding closed
  closed_back i l g =
      session_agree (closed k d) d i (i + 1) (omega arith) (omega arith) (closed_long d k h long).lists long.lists
      (without_after k 1 d.numbers (omega (arith, long.numbers)) i l)
      (without_after k 1 d.statements (omega (arith, long.statements)) i l)
      (λ m q. without_after (k * 15) 15 d.lists (omega (arith, long.lists)) (i * 15 + m) (omega arith)
      ∙ ap (λ (n : ℕ). get_or d.lists n 0) (later m))
    where
      later : (m : ℕ) → i * 15 + m + 15 ≡ (i + 1) * 15 + m
      later m = omega arith

-- ---- a desk with a new session, place by place

begun_front : (d : Desk) → Long d → open_count d.numbers < 16 → (i : ℕ) → i < open_count d.numbers
    → session_at (begun d) i ≡ session_at d i
unfolding begun
begun_front d long few i l =
    session_agree (begun d) d i i (omega arith) (omega arith) (begun_long d long).lists long.lists
    (get_or-set_other d.numbers (open_count d.numbers) i d.next 0 (λ e. omega arith))
    (get_or-set_other d.statements (open_count d.numbers) i 0 0 (λ e. omega arith))
    (λ m q. sets_other (take 15 d.numbers) d.lists (open_count d.numbers * 15) (i * 15 + m) (inl (omega arith)))

-- ---- the open sessions

module _ (d : Desk) (s : sound d ≡ true) (long : Long d) where
  -- how many are open
  abbrev count : ℕ
  count = open_count d.numbers

  at_most : count ≤ 16
  at_most = open_at_most d.numbers

  apart : (i j : ℕ) → i < j → j < count → get_or d.numbers i 0 < get_or d.numbers j 0
  apart i j h l = ((sound_number d s j (omega (arith, at_most)) (open_used d s j l)).before i h).1

  -- nobody, where x is not open
  pub find_closed : (x : ℕ) → is_open x d.numbers ≡ false → find x (open_sessions d) ≡ none
  find_closed x e = find_none d x count 0 (λ i h. ne_eqb x (get_or d.numbers i 0) (absent i (omega (arith, h.1))))
    where
      absent : (i : ℕ) → i < count → x ≡ get_or d.numbers i 0 → ⊥
      absent i l f =
          true_false (is_open x d.numbers) (rw f (get_d_is_open d.numbers i (omega (arith, at_most)) (open_used d s i l))) e

  module _ (x : ℕ) (e : is_open x d.numbers ≡ true) where
    abbrev place : ℕ
    place = place_in x d.numbers

    found : Open d x
    found = is_open_open d x s e

    place_below : place < count
    place_below =
        ⊎_elim
        (λ (q : place < count). q)
        (λ (q : count ≤ place). absurd (omega (arith, open_unused d s place q found.place, found.here, found.from)))
        (lt_or_le place count)

    here : eqb x (get_or d.numbers place 0) ≡ true
    here = eq-eqb x (get_or d.numbers place 0) (sym found.here)

    -- x stands at its place alone
    others : (i : ℕ) → i < count → (i ≡ place → ⊥) → eqb x (get_or d.numbers i 0) ≡ false
    others i l u = ne_eqb x (get_or d.numbers i 0) (λ f. by f (lt_or_le i place))
      where
        by : x ≡ get_or d.numbers i 0 → (i < place) ⊎ (place ≤ i) → ⊥
        by f (inl q) = omega (arith, apart i place q place_below, found.here)
        by f (inr q) = omega (arith, apart place i (omega (arith, u)) l, found.here)

    -- the sessions before it, it, and those behind it
    abbrev rest : ℕ
    rest = count - suc place

    around : open_sessions d ≡ sessions_from d 0 place ++ (session_at d place ∷ sessions_from d (place + 1) rest)
    around = from_split d place (suc rest) count 0 place (omega (arith, place_below)) (omega arith)

    before : Absent d x 0 place
    before i h = others i (omega (arith, h.1, place_below)) (λ f. omega (arith, h.1))

    behind : Absent d x (place + 1) rest
    behind i h = others i (omega (arith, h.1)) (λ f. omega (arith, h.0))

    -- the open session x
    pub find_open : find x (open_sessions d) ≡ some (session_of (view_at place d))
    unfolding view_at
    find_open =
        ap (find x) around
        ∙ find_later d x (session_at d place ∷ sessions_from d (place + 1) rest) place 0 before
        ∙ ap (λ (b : Bool). cond b (some (session_at d place)) (find x (sessions_from d (place + 1) rest))) here

    -- the session itself goes on, the others stay
    pub moved_sessions : open_sessions (moved place d) ≡ move x (open_sessions d)
    unfolding moved
    moved_sessions = sym (from_move d (moved place d) x count 0 (λ i h. by i (omega (arith, h.1)) (eqb i place) refl))
      where
        by : (i : ℕ) → i < count → (t : Bool) → eqb i place ≡ t
            → cond (eqb x (get_or d.numbers i 0)) (onward (session_at d i)) (session_at d i) ≡ session_at (moved place d) i
        by i l true f =
            rw (
              eqb-true i place f,
              here,
              get_or-set_same d.statements place (get_or d.statements place 0 + 1) 0 (omega (arith, found.place, long.statements)),
              add-one,
            )
        by i l false f =
            let u : i ≡ place → ⊥ = eqb-false i place f in
            rw (others i l u, get_or-set_other d.statements place i (get_or d.statements place 0 + 1) 0 u)

    -- those behind it move up
    pub closed_sessions : open_sessions (closed place d) ≡ close x (open_sessions d)
    closed_sessions =
        ap (sessions_from (closed place d) 0) (closed_count d s long place place_below)
        ∙ from_split (closed place d) place rest (place + rest) 0 place refl (omega arith)
        ∙ ap₂ ◌++◌
        (from_agree (closed place d) d 0 place 0 0 refl
        (λ i h. rw add-zero (closed_front d long place found.place i (omega (arith, h.1)))))
        (from_agree (closed place d) d 1 rest place (place + 1) refl
        (λ i h. closed_back d long place found.place i h.0 (omega (arith, h.1, at_most))))
        ∙ sym (ap (close x) around
        ∙ close_append x (sessions_from d 0 place) (session_at d place ∷ sessions_from d (place + 1) rest)
        ∙ ap₂ ◌++◌ (close_none d x place 0 before)
        (ap (λ (b : Bool). cond b later (session_at d place ∷ later)) here ∙ close_none d x rest (place + 1) behind))
      where
        later : List Session
        later = close x (sessions_from d (place + 1) rest)

  -- the new session stands behind the others
  pub begun_sessions : count < 16
      → open_sessions (begun d) ≡ open_sessions d ++ (record { number = d.next; statement = 0; list = numbers_of (open_sessions d) } ∷ [])
  unfolding view_at
  begun_sessions few =
      ap (sessions_from (begun d) 0) (begun_count d s long few)
      ∙ from_split (begun d) count 1 (count + 1) 0 count refl (omega arith)
      ∙ ap₂ ◌++◌
      (from_agree (begun d) d 0 count 0 0 refl (λ i h. rw add-zero (begun_front d long few i (omega (arith, h.1)))))
      (ap (λ (n : Session). n ∷ [])
      (ap session_of (begun_view d long few) ∙ ap newcomer (used_numbers d s long 15 (omega arith) (omega arith))))
    where
      newcomer : List ℕ → Session
      newcomer l = record { number = d.next; statement = 0; list = l }

-- ---- a spoiled session ("02, T-07"): the machine knows no marks

pub spoiled_sessions : (d : Desk) (k : ℕ) → open_sessions (spoiled k d) ≡ open_sessions d
unfolding spoiled
spoiled_sessions d k = from_agree (spoiled k d) d 0 (open_count d.numbers) 0 0 refl (λ i h. rw add-zero)

pub spoiled_seen : («data» undo status : List ℕ) (d : Desk) (k : ℕ) → seen_as «data» undo status (spoiled k d) ≡ seen_as «data» undo status d
unfolding spoiled
spoiled_seen «data» undo status d k =
    ap (λ (l : List Session). record { next = d.next; status = standings status; desk = l; rows = row_of «data» undo }) (spoiled_sessions d k)

-- ---- a desk without sessions

pub fresh_sessions : (n : ℕ) → open_sessions (fresh_desk n) ≡ []
fresh_sessions n = ap (sessions_from (fresh_desk n) 0) (fresh_closed n)
