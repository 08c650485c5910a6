-- When a place of a desk is sound, by whether it is open; and when all are, where the sessions end before the last place. Assumes
-- nothing.
use mathlib.Core.Path.{◌≡◌, refl, sym, ap, ap₂, ◌∙◌}
use mathlib.Core.Bool.{Bool, true, ◌&&◌}
use mathlib.Core.List.{List}
use Prim.Native.Nat.{ℕ, zero, suc, ◌+◌, ◌-◌, ◌*◌, ◌<◌}
use native.Mathlib.Nat.{add-zero, add-suc}
use native.Mathlib.Omega.{arith}
use lib.ListN.{get_or}
use lib.Dec.{eqb, leb, leb-suc-zero, eqb-suc-zero}
use borrow.Author.Tests.{ne_eqb}
use Rattle.ground.specs.Range.{all_below}
use Rattle.ground.proofs.Ranges.{all_at, all_intro, and_mix}
use Rattle.columns.specs.Limits.{sessions, members, places, last_statement, spoiled_mark}
use Rattle.places.specs.Places.{placed, ascending, session_sound}
use Rattle.places.proofs.Runs.{unused_none, unused_suc, unused_split, unused_at, behind}

leb_zero : (n : ℕ) → leb n 0 ≡ eqb n 0
leb_zero zero = refl
leb_zero (suc n) = leb-suc-zero n ∙ sym (eqb-suc-zero n)

module _ (numbers statements marks lists : List ℕ) (k : ℕ) where
  pub session_unused : get_or numbers k 0 ≡ 0
      → session_sound numbers statements marks lists k ≡ (eqb (get_or statements k 0) 0 && eqb (get_or marks k 0) 0 && ascending 0 lists (k * members) members)
  unfolding session_sound
  session_unused e = rw (e, leb_zero (get_or statements k 0), leb_zero (get_or marks k 0))

  pub session_open : (get_or numbers k 0 ≡ 0 → ⊥)
      → session_sound numbers statements marks lists k
      ≡ (leb (get_or statements k 0) last_statement && leb (get_or marks k 0) spoiled_mark && ascending (get_or numbers k 0) lists (k * members) members)
  unfolding session_sound
  session_open u = rw (ne_eqb (get_or numbers k 0) 0 u)

-- ---- where place k is the first unused one

module _ (numbers statements marks lists : List ℕ) (k : ℕ) where
  -- no place behind an unused one has a number
  numbers_behind : (next : ℕ) → ascending next numbers 0 sessions ≡ true → k < sessions → get_or numbers k 0 ≡ 0
      → (m : ℕ) → k + m < sessions → get_or numbers (k + m) 0 ≡ 0
  unfolding ascending
  numbers_behind next asc h e m l =
      let here : 0 + k ≡ k = omega arith in
      unused_at numbers k (sessions - k) m
      (ap (λ (i : ℕ). ascending 0 numbers i (sessions - k)) (sym here) ∙ rest here)
      (omega arith)
    where
      front : ascending next numbers 0 k ≡ true
      front = all_intro (placed next numbers 0) k (λ i g. all_at (placed next numbers 0) sessions asc i (omega arith))

      rest : 0 + k ≡ k → ascending 0 numbers (0 + k) (sessions - k) ≡ true
      rest here =
          let w : 0 + sessions - (0 + k) ≡ sessions - k = omega arith in
          ap (ascending 0 numbers (0 + k)) (sym w)
          ∙ sym (behind next numbers 0 k front (ap (λ (i : ℕ). get_or numbers i 0) here ∙ e) sessions (omega arith))
          ∙ asc

  -- m more places, none of them open
  sessions_behind : all_below (session_sound numbers statements marks lists) k ≡ true
      → (m : ℕ)
      → ((i : ℕ) → i < m → get_or numbers (k + i) 0 ≡ 0)
      → all_below (session_sound numbers statements marks lists) (k + m) ≡ (ascending 0 statements k m && ascending 0 marks k m && ascending 0 lists (k * members) (m * members))
  unfolding all_below
  sessions_behind sound zero none =
      ap (all_below (session_sound numbers statements marks lists)) (add-zero k)
      ∙ sound
      ∙ sym (ap₂ ◌&&◌ (ap₂ ◌&&◌ (unused_none statements k) (unused_none marks k)) (unused_none lists (k * members)))
  sessions_behind sound (suc m) none =
      let place : k * members + m * members ≡ (k + m) * members = omega arith in
      let more : m * members + members ≡ suc m * members = omega arith in
      ap (all_below (session_sound numbers statements marks lists)) (add-suc k m)
      ∙ ap₂ (λ (a b : Bool). a && b)
      (sessions_behind sound m (λ i l. none i (omega arith)))
      (session_unused numbers statements marks lists (k + m) (none m (omega arith)))
      ∙ and_mix (ascending 0 statements k m && ascending 0 marks k m) (ascending 0 lists (k * members) (m * members)) _ _
      ∙ ap₂ (λ (a b : Bool). a && b)
      (and_mix (ascending 0 statements k m) (ascending 0 marks k m) _ _ ∙ ap₂ ◌&&◌ (sym (unused_suc statements k m)) (sym (unused_suc marks k m)))
      (ap (λ (i : ℕ). ascending 0 lists (k * members) (m * members) && ascending 0 lists i members) (sym place)
      ∙ sym (unused_split lists (k * members) (m * members) members)
      ∙ ap (ascending 0 lists (k * members)) more)

  -- the statements, the marks and the lists from there on are unused
  pub sessions_rest : (next : ℕ) → ascending next numbers 0 sessions ≡ true
      → all_below (session_sound numbers statements marks lists) k ≡ true
      → k < sessions
      → get_or numbers k 0 ≡ 0
      → all_below (session_sound numbers statements marks lists) sessions
      ≡ (ascending 0 statements k (sessions - k) && ascending 0 marks k (sessions - k) && ascending 0 lists (k * members) (places - k * members))
  sessions_rest next asc sound h e =
      let all : k + (sessions - k) ≡ sessions = omega arith in
      let wide : (sessions - k) * members ≡ places - k * members = omega arith in
      ap (all_below (session_sound numbers statements marks lists)) (sym all)
      ∙ sessions_behind sound (sessions - k) (λ i l. numbers_behind next asc h e i (omega arith))
      ∙ ap (λ (n : ℕ). ascending 0 statements k (sessions - k) && ascending 0 marks k (sessions - k) && ascending 0 lists (k * members) n) wide
