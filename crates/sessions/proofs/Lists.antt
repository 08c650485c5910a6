-- The list of a session in a sound desk: behind its first unused place there is no number ("at most 15, ascending, .. unused places
-- are zero"), so that its used places are all that anybody looks for in it. Assumes nothing.
use mathlib.Core.Path.{◌≡◌, sym, ap, ◌∙◌}
use mathlib.Core.Bool.{true}
use mathlib.Core.Logic.{◌⊎◌, inl, inr}
use Prim.Native.Nat.{ℕ, ◌+◌, ◌-◌, ◌*◌, ◌≤◌, ◌<◌}
use native.Mathlib.Omega.{arith}
use lib.ListN.{get_or, length, take, drop, length-take, get_or-eq_default}
use lib.Seq.{get_or-take, get_or-drop}
use lib.Dec.{eqb}
use borrow.Author.Tests.{eqb-true}
use Rattle.ground.proofs.Ranges.{lt_or_le, first_passes}
use Rattle.columns.specs.Limits.{members}
use Rattle.columns.specs.Columns.{used_in}
use Rattle.places.specs.Places.{ascending}
use Rattle.places.proofs.Runs.{behind, unused_at}
use Rattle.desk.specs.declared.Desk.{Desk}
use Rattle.desk.specs.Sound.{sound}
use Rattle.desk.specs.Turns.{view_at}
use Rattle.sessions.proofs.Ascents.{ascending_less}
use Rattle.sessions.proofs.Changes.{sound_beside}

-- a session's list ascends
pub sound_list : (d : Desk) → sound d ≡ true → (k : ℕ) → k < 16 → ascending (get_or d.numbers k 0) d.lists (k * 15) 15 ≡ true
sound_list d s k h = (sound_beside d s k h).list

module _ (d : Desk) (s : sound d ≡ true) (k : ℕ) (h : k < 16) where
  -- place i of it, as the column has it
  pub list_place : (i : ℕ) → i < 15 → get_or (view_at k d).list i 0 ≡ get_or d.lists (k * 15 + i) 0
  unfolding view_at
  list_place i l = get_or-take 15 (drop (k * 15) d.lists) i 0 l ∙ get_or-drop (k * 15) d.lists i 0

  list_past : (i : ℕ) → 15 ≤ i → get_or (view_at k d).list i 0 ≡ 0
  unfolding view_at
  list_past i l =
      let long : length (take 15 (drop (k * 15) d.lists)) ≤ i = omega (arith, length-take 15 (drop (k * 15) d.lists)) in
      get_or-eq_default (take 15 (drop (k * 15) d.lists)) 0 long

  -- behind an unused place
  behind_place : (f i : ℕ) → get_or (view_at k d).list f 0 ≡ 0 → f ≤ i → i < 15 → get_or (view_at k d).list i 0 ≡ 0
  behind_place f i e le l =
      let top : ℕ = get_or d.numbers k 0 in
      let here : get_or d.lists (k * 15 + f) 0 ≡ 0 = sym (list_place f (omega arith)) ∙ e in
      let front = ascending_less top d.lists (k * 15) 15 f (omega arith) (sound_list d s k h) in
      let rest = sym (behind top d.lists (k * 15) f front here 15 (omega arith)) ∙ sound_list d s k h in
      let place : k * 15 + f + (i - f) ≡ k * 15 + i = omega arith in
      list_place i l
      ∙ ap (λ (n : ℕ). get_or d.lists n 0) (sym place)
      ∙ unused_at d.lists (k * 15 + f) (k * 15 + 15 - (k * 15 + f)) (i - f) rest (omega arith)

  -- from its first unused place on
  pub list_unused : (i : ℕ) → used_in (view_at k d).list ≤ i → get_or (view_at k d).list i 0 ≡ 0
  unfolding used_in
  list_unused i le = by (lt_or_le i 15)
    where
      by : (i < 15) ⊎ (15 ≤ i) → get_or (view_at k d).list i 0 ≡ 0
      by (inl l) =
          behind_place
          (used_in (view_at k d).list)
          i
          (eqb-true _ _ (first_passes (λ (j : ℕ). eqb (get_or (view_at k d).list j 0) 0) 0 members (omega arith)))
          le
          l
      by (inr l) = list_past i l
