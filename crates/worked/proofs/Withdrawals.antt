-- A withdrawal on a page whose rows behind the first are all zeros (`Zeros`): row 0 says what it does. Assumes nothing.
use Prim.Native.Nat.{ℕ, zero, suc, ◌+◌}
use mathlib.Core.Path.{◌≡◌, refl, sym, ap, ◌∙◌}
use mathlib.Core.Bool.{Bool, true, false, not}
use mathlib.Core.List.{List}
use lib.ListN.{length}
use borrow.Author.Tests.{eq-eqb, ne_eqb}
use Rattle.ground.specs.Range.{all_below}
use Rattle.kind.specs.Kind.{rows, lengths_ok}
use Rattle.kind.specs.Areas.{areas, Both, both}
use Rattle.status.specs.declared.Status.TheVariants.{Withdrawn}
use Rattle.status.specs.Status.{put_status}
use Rattle.records.specs.Slot.{slot_at}
use Rattle.places.specs.Open.{place_in, is_open}
use Rattle.desk.specs.declared.Desk.{Desk}
use Rattle.desk.specs.Desk.{first_statement}
use Rattle.desk.specs.Sound.{sound}
use Rattle.desk.specs.Turns.{closed}
use Rattle.sessions.proofs.Changes.{is_open_used}
use Rattle.putback.specs.PutBack.{own, own_made, undone_row}
use Rattle.undoing.specs.Undoing.{broken_row, some_broken, undone_from, undone, withdraw_refusal, withdrawn, withdraw_rule}
use Rattle.worked.proofs.Zeros.{Empty, Bare, empty_here, empty_on, bare_empty, all_bare}

-- ---- rows that are empty: no session is number 0

module _ (x k : ℕ) (some : x ≡ 0 → ⊥) where
  made_empty : (d : List ℕ) (r : ℕ) → (slot_at r d).create ≡ 0 → own_made x k (slot_at r d) ≡ false
  unfolding own
  made_empty d r e = rw (e, ne_eqb 0 x (λ z. some (sym z)))

  broken_empty : (d u : List ℕ) (r : ℕ) → (slot_at r d).create ≡ 0 → broken_row x k d u r ≡ false
  unfolding broken_row
  broken_empty d u r e = rw (made_empty d r e)

  undone_row_lem : (r : ℕ) (p : Both) → (slot_at r p.«data»).create ≡ 0 → undone_row x k r p ≡ p
  unfolding undone_row
  undone_row_lem r p e = rw (made_empty p.«data» r e, eq-eqb (slot_at r p.«data»).create 0 e)

  undone_empty : (n r : ℕ) (p : Both) → Empty p.«data» r n → undone_from x k r n p ≡ p
  unfolding undone_from
  undone_empty zero r p h = refl
  undone_empty (suc n) r p h =
      ap (undone_from x k (r + 1) n) (undone_row_lem r p (empty_here p.«data» r n h)) ∙ undone_empty n (r + 1) p (empty_on p.«data» r n h)

  -- ---- all rows, by row 0

  undone_first : (n : ℕ) (p : Both) → undone_from x k 0 (suc n) p ≡ undone_from x k 1 n (undone_row x k 0 p)
  unfolding undone_from
  undone_first n p = refl

  undone_one : (p : Both) (d u : List ℕ) → Bare d → undone_row x k 0 p ≡ both d u → undone_from x k 0 127 p ≡ both d u
  undone_one p d u h row = undone_first 126 p ∙ ap (undone_from x k 1 126) row ∙ undone_empty 126 1 (both d u) (bare_empty d h)

  broken_one : (d u : List ℕ) → Bare d → rows d ≡ 127 → broken_row x k d u 0 ≡ false → some_broken x k d u ≡ false
  unfolding some_broken
  broken_one d u h page e =
      ap (λ (n : ℕ). not (all_below fine n)) page ∙ ap not (all_bare d fine h (ap not e) (λ r empty. ap not (broken_empty d u r empty)))
    where
      fine : ℕ → Bool
      fine r = not (broken_row x k d u r)

-- ---- the withdrawal

module _ (d u s d' u' : List ℕ) (desk : Desk) (x : ℕ) where
  pub withdraw_one : lengths_ok (length d) (length u) (length s) ≡ true
      → sound desk ≡ true
      → is_open x desk.numbers ≡ true
      → rows d ≡ 127
      → Bare d
      → Bare d'
      → broken_row x first_statement d u 0 ≡ false
      → undone_row x first_statement 0 (both d u) ≡ both d' u'
      → withdraw_rule (areas d u s) desk x ≡ ((0, closed (place_in x desk.numbers) desk), areas d' u' (put_status x Withdrawn s))
  unfolding withdraw_rule withdraw_refusal withdrawn undone
  withdraw_one l b o page h h' w row =
      rw (l, b, o, broken_one x first_statement (is_open_used x desk.numbers o) d u h page w, page, undone_one x first_statement (is_open_used x desk.numbers o) (both d u) d' u' h' row)
      refl
