-- Every call leaves the data and the undo area as long as they were, of any world; an accepted format those that it was given. Assumes
-- nothing.
use Prim.Native.Nat.{ℕ}
use mathlib.Core.Path.{◌≡◌, refl, ◌∙◌}
use mathlib.Core.Bool.{true, false}
use mathlib.Core.List.{List}
use lib.ListN.{length}
use borrow.Author.Tests.{not-false}
use Rattle.kind.specs.Kind.{pages, data_kind, undo_kind, lengths_ok}
use Rattle.kind.specs.Areas.{Areas, bad_length, Both, both}
use Rattle.kind.proofs.Lengths.{all_lent}
use Rattle.desk.specs.Desk.{first_statement}
use Rattle.desk.specs.Turns.{mark}
use Rattle.records.specs.declared.slot.Slot.{Slot}
use Rattle.records.specs.Slot.{unlinked}
use Rattle.records.proofs.Slots.{slots_lie}
use Rattle.records.proofs.Entries.{entries_lie}
use Rattle.chain.specs.declared.Place.{Place}
use Rattle.chain.specs.declared.Place.TheVariants.{Nowhere, Data, Undo}
use Rattle.page.proofs.Stored.{length_stored}
use Rattle.touching.proofs.Touchings.{length_with_slot, length_with_meta}
use Rattle.freeing.proofs.Freeings.{without_slot_is, without_entry_is, swept_slot_is, swept_entry_is, cut_slot_is, cut_copy_is}
use Rattle.putback.specs.PutBack.{freed_at, copy_body}
use Rattle.vacant.specs.Vacant.{lowest_empty, lowest_free}
use Rattle.keep.specs.Keep.{formatted, sealed}
use Rattle.keep.proofs.Promises.{length_sealed_area, length_refreshed}
use Rattle.outcomes.proofs.Kept.{Withdraws, Trims, undone_keeps, swept_keeps}
use Rattle.rows.specs.Rows.{view_in, updated}
use Rattle.undoing.specs.Undoing.{undone, withdrawn}
use Rattle.trimming.specs.Trimming.{swept_at, cut_at}
use Rattle.sweeping.specs.Sweeping.{treated, swept_from, swept}
use Rattle.upheld.proofs.Written.{length_inserted, length_deleted, length_updated_data, length_updated_undo}
use Rattle.machine.specs.Lines.{Call, format, opens, seal, begin, next, insert, update, delete, read, commit, withdraw, sweep, is_format}
use Rattle.machine.proofs.Basics.{true_false}
use Rattle.history.specs.World.{World, Response, after}
use Rattle.history.proofs.Steps.{when_done, step_settled}

-- ---- data and undo together

-- q is as long as p
abbrev Long : Both → Both → Type 0
Long p q = (length q.«data» ≡ length p.«data») × (length q.undo ≡ length p.undo)

-- ---- withdraw

length_freed_at : (n : ℕ) (x : Place) (u : List ℕ) → length (freed_at n x u) ≡ length u
length_freed_at n (Undo e) u = length_stored entries_lie (without_entry_is e u n)
length_freed_at n (Data r) u = refl
length_freed_at n Nowhere u = refl

pub undone_long : (n k : ℕ) (d u : List ℕ) → Long (both d u) (undone n k d u)
undone_long n k d u = undone_keeps n k (Long (both d u)) writes d u (refl, refl)
  where
    writes : Withdraws n (Long (both d u))
    writes =
        record {
          empties = λ r p h. (length_stored slots_lie (without_slot_is r p.«data» n) ∙ h.0, h.1);
          clears = λ r m p h. (length_with_meta n r m p.«data» ∙ h.0, h.1);
          puts = λ r m x p h. (length_with_slot n r m p.«data» (copy_body x p.undo) ∙ h.0, length_freed_at n x p.undo ∙ h.1);
          frees = λ x p h. (h.0, length_freed_at n x p.undo ∙ h.1);
        }

-- ---- sweep

length_swept_at : (x : Place) (u : List ℕ) → length (swept_at x u) ≡ length u
length_swept_at (Undo e) u = length_stored entries_lie (swept_entry_is e u)
length_swept_at (Data r) u = refl
length_swept_at Nowhere u = refl

cut_at_long : (p₀ : Both) (x : Place) (m : Slot) (p : Both) → Long p₀ p → Long p₀ (cut_at x m p)
cut_at_long p₀ (Data r) m p h = (length_stored slots_lie (cut_slot_is r (unlinked m) p.«data») ∙ h.0, h.1)
cut_at_long p₀ (Undo e) m p h = (h.0, length_stored entries_lie (cut_copy_is e (unlinked m) p.undo) ∙ h.1)
cut_at_long p₀ Nowhere m p h = h

pub swept_from_long : (m : ℕ) (s : List ℕ) (r n : ℕ) (p : Both) → Long p (swept_from m s r n p)
swept_from_long m s r n p = swept_keeps m s (Long p) writes r n p (refl, refl)
  where
    writes : Trims (Long p)
    writes =
        record {
          empties = λ r q h. (length_stored slots_lie (swept_slot_is r q.«data») ∙ h.0, h.1);
          frees = λ x q h. (h.0, length_swept_at x q.undo ∙ h.1);
          cuts = cut_at_long p;
        }

-- ---- the calls

-- b's data and undo are as long as a's
abbrev pub Stay : Areas → Areas → Type 0
Stay a b = (length b.«data» ≡ length a.«data») × (length b.undo ≡ length a.undo)

-- a format that is accepted
pub format_stay : (a : Areas) → bad_length a ≡ false → Stay a (formatted a)
unfolding formatted
format_stay a e =
    let l = all_lent (length a.«data») (length a.undo) (length a.status)
    (not-false (lengths_ok (length a.«data») (length a.undo) (length a.status)) e) in
    (length_refreshed data_kind 64 a.«data» l.in_data, length_refreshed undo_kind 64 a.undo l.in_undo)

-- any other call
module _ (w : World) where
  abbrev d : List ℕ
  d = w.held.«data»

  abbrev u : List ℕ
  u = w.held.undo

  done_stay : (c : Call) → is_format c ≡ false → Stay w.held (when_done w c).left.held
  unfolding sealed updated withdrawn swept
  done_stay (format a b s) f = true_false true refl f
  done_stay opens f = (refl, refl)
  done_stay seal f = (length_sealed_area (pages d) d, length_sealed_area (pages u) u)
  done_stay begin f = (refl, refl)
  done_stay (next x) f = (refl, refl)
  done_stay (insert x y) f = (length_inserted x (view_in w.desk x).statement (lowest_empty d) y d, refl)
  done_stay (update x q y) f =
      let now : ℕ = (view_in w.desk x).statement in
      (length_updated_data x now q (lowest_free u) y d, length_updated_undo x now q (lowest_free u) d u)
  done_stay (delete x q) f = (length_deleted x (view_in w.desk x).statement q d, refl)
  done_stay (read x q) f = (refl, refl)
  done_stay (commit x) f = (refl, refl)
  done_stay (withdraw x) f = undone_long x first_statement d u
  done_stay (sweep first quota) f = swept_from_long (mark w.desk) w.held.status first (treated d first quota) (both d u)

  pub step_stay : (c : Call) → is_format c ≡ false → Stay w.held (after w c).held
  step_stay c f = step_settled w c (λ (t : Response). Stay w.held t.left.held) (λ ok. done_stay c f) (λ m e. (refl, refl))
