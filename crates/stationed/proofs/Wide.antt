-- No word of a sound desk is above 65,535: next and the numbers are at most 32,576, statements at most 65,535, marks at most 1, members below a
-- number. Assumes nothing.
use Prim.Native.Nat.{ℕ, ◌+◌, ◌-◌, ◌*◌, ◌/◌, ◌%◌, ◌≤◌, ◌<◌}
use native.Mathlib.Omega.{arith}
use mathlib.Core.Path.{◌≡◌, refl, ap, ◌∙◌}
use mathlib.Core.Logic.{◌⊎◌, inl, inr}
use mathlib.Core.Bool.{Bool, true, false, ◌&&◌, ◌||◌}
use mathlib.Core.List.{List}
use lib.ListN.{get_or, take, drop}
use lib.Seq.{get_or-take, get_or-drop}
use lib.Dec.{eqb, ltb}
use borrow.Author.Tests.{eqb-true, ltb-true}
use Rattle.ground.proofs.Ranges.{lt_or_le, and_true_left, all_at}
use Rattle.columns.specs.Limits.{sessions, members, places, last_statement}
use Rattle.places.specs.Places.{follows, placed, ascending}
use Rattle.desk.specs.declared.Desk.{Desk}
use Rattle.desk.specs.Sound.{sound}
use Rattle.sessions.proofs.Changes.{sound_parts, sound_statement, sound_mark}
use Rattle.sessions.proofs.Lists.{sound_list}
use Rattle.words.specs.Words.{numbers_at, statements_at, marks_at, lists_at, all_words, desk_in}
use Rattle.stationed.specs.Stationed.{WideUnsound}

-- a place of a run that ascends below a top is at most that top
placed_most : (top : ℕ) (l : List ℕ) (at n : ℕ) → ascending top l at n ≡ true → (i : ℕ) → i < n → get_or l (at + i) 0 ≤ top
unfolding ascending placed
placed_most top l at n up i h = by (eqb (get_or l (at + i) 0) 0) refl (all_at (placed top l at) n up i h)
  where
    by : (b : Bool) → eqb (get_or l (at + i) 0) 0 ≡ b → (b || (ltb (get_or l (at + i) 0) top && follows l at i)) ≡ true → get_or l (at + i) 0 ≤ top
    by true q e = omega (arith, eqb-true (get_or l (at + i) 0) 0 q)
    by false q e = omega (arith, ltb-true (get_or l (at + i) 0) top (and_true_left (ltb (get_or l (at + i) 0) top) (follows l at i) e))

module _ (d : Desk) (s : sound d ≡ true) where
  numbers_most : (k : ℕ) → k < sessions → get_or d.numbers k 0 ≤ last_statement
  numbers_most k h =
      let z : 0 + k ≡ k = omega arith in
      let at : get_or d.numbers (0 + k) 0 ≡ get_or d.numbers k 0 = ap (λ (i : ℕ). get_or d.numbers i 0) z in
      omega (arith, placed_most d.next d.numbers 0 sessions (sound_parts d s).ascends k h, (sound_parts d s).last, at)

  marks_most : (k : ℕ) → k < sessions → get_or d.marks k 0 ≤ last_statement
  marks_most k h = omega (arith, sound_mark d s k h)

  lists_most : (j : ℕ) → j < places → get_or d.lists j 0 ≤ last_statement
  lists_most j h =
      let few : j / members < sessions = omega arith in
      let z : j / members * members + j % members ≡ j = omega arith in
      let at : get_or d.lists (j / members * members + j % members) 0 ≡ get_or d.lists j 0 = ap (λ (i : ℕ). get_or d.lists i 0) z in
      omega (
        arith,
        placed_most (get_or d.numbers (j / members) 0) d.lists (j / members * members) members (sound_list d s (j / members) few) (j % members) (omega arith),
        numbers_most (j / members) few,
        at,
      )

-- word `at + k` of a column of n words that begins at `at`
column_word : (at n : ℕ) (w : List ℕ) (k : ℕ) → k < n → get_or (take n (drop at w)) k 0 ≡ get_or w (at + k) 0
column_word at n w k h = get_or-take n (drop at w) k 0 h ∙ get_or-drop at w k 0

module _ (w : List ℕ) (s : sound (desk_in w) ≡ true) where
  -- the word at index i, by the column that it lies in
  from_column : (at n i : ℕ) → ((k : ℕ) → k < n → get_or (take n (drop at w)) k 0 ≤ last_statement) → at ≤ i → i < at + n → get_or w i 0 ≤ last_statement
  from_column at n i most low high =
      let z : at + (i - at) ≡ i = omega arith in
      let e : get_or w (at + (i - at)) 0 ≡ get_or w i 0 = ap (λ (j : ℕ). get_or w j 0) z in
      omega (arith, most (i - at) (omega arith), column_word at n w (i - at) (omega arith), e)

  word_most : (i : ℕ) → i < all_words → get_or w i 0 ≤ last_statement
  unfolding desk_in
  word_most i h = by (lt_or_le i numbers_at)
    where
      fourth : (i < lists_at) ⊎ (lists_at ≤ i) → marks_at ≤ i → get_or w i 0 ≤ last_statement
      fourth (inl l) low = from_column marks_at sessions i (marks_most (desk_in w) s) low l
      fourth (inr l) low = from_column lists_at places i (lists_most (desk_in w) s) l h

      third : (i < marks_at) ⊎ (marks_at ≤ i) → statements_at ≤ i → get_or w i 0 ≤ last_statement
      third (inl l) low = from_column statements_at sessions i (sound_statement (desk_in w) s) low l
      third (inr l) low = fourth (lt_or_le i lists_at) l

      second : (i < statements_at) ⊎ (statements_at ≤ i) → numbers_at ≤ i → get_or w i 0 ≤ last_statement
      second (inl l) low = from_column numbers_at sessions i (numbers_most (desk_in w) s) low l
      second (inr l) low = third (lt_or_le i marks_at) l

      by : (i < numbers_at) ⊎ (numbers_at ≤ i) → get_or w i 0 ≤ last_statement
      by (inl l) =
          let z : i ≡ 0 = omega arith in
          omega (arith, (sound_parts (desk_in w) s).last, ap (λ (j : ℕ). get_or w j 0) z)
      by (inr l) = second (lt_or_le i statements_at) l

pub wide_unsound : WideUnsound
wide_unsound w i h wide = by (sound (desk_in w)) refl
  where
    by : (b : Bool) → sound (desk_in w) ≡ b → b ≡ false
    by true s = absurd (omega (arith, word_most w s i h, wide))
    by false s = refl
