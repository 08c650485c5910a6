-- The nine writers of records, byte by byte ("01, The page"): the page of the record is touched, or counted anew where it is the sweep that
-- writes, and every other page and every other record keeps its bytes. Assumes nothing.
use mathlib.Core.List.{List}
use Prim.Native.Nat.{ℕ, ◌^◌, ◌≤◌, ◌<◌}
use lib.ListN.{length}
use Rattle.kind.specs.Kind.{rows, entries, data_kind, undo_kind}
use Rattle.records.specs.declared.slot.Slot.{Slot}
use Rattle.records.specs.declared.entry.Entry.{Entry}
use Rattle.records.proofs.Slots.{put_slot_within, put_meta_within, clear_slot_within}
use Rattle.records.proofs.Entries.{put_entry_within, put_copy_within, clear_entry_within}
use Rattle.touching.specs.Touching.{with_slot, with_meta, with_entry}
use Rattle.freeing.specs.Freeing.{without_slot, without_entry, swept_slot, swept_entry, cut_slot, cut_copy}
use Rattle.traces.specs.Traces.{Touched, Counted, TouchedAt}
use Rattle.traces.proofs.Pages.{data_held, undo_held, counting, touching, stored_at}

-- ---- by session n, in a data area

module _ (n : ℕ) (fits : n < 2 ^ 64) (r : ℕ) (d : List ℕ) (row : r < rows d) where
  -- a body may be short
  pub with_slot_touches : (m : Slot) (body : List ℕ) → length body ≤ 32 → TouchedAt data_kind (Touched data_kind n) r d (with_slot n r m body d)
  unfolding with_slot
  with_slot_touches m body short = stored_at (touching data_kind data_held n fits) row (put_slot_within r m body d short)

  pub with_meta_touches : (m : Slot) → TouchedAt data_kind (Touched data_kind n) r d (with_meta n r m d)
  unfolding with_meta
  with_meta_touches m = stored_at (touching data_kind data_held n fits) row (put_meta_within r m d)

  pub without_slot_touches : TouchedAt data_kind (Touched data_kind n) r d (without_slot n r d)
  unfolding without_slot
  without_slot_touches = stored_at (touching data_kind data_held n fits) row (clear_slot_within r d)

-- ---- in an undo area

module _ (n : ℕ) (fits : n < 2 ^ 64) (e : ℕ) (u : List ℕ) (here : e < entries u) where
  pub with_entry_touches : (m : Entry) (body : List ℕ) → length body ≤ 32 → TouchedAt undo_kind (Touched undo_kind n) e u (with_entry n e m body u)
  unfolding with_entry
  with_entry_touches m body short = stored_at (touching undo_kind undo_held n fits) here (put_entry_within e m body u short)

  pub without_entry_touches : TouchedAt undo_kind (Touched undo_kind n) e u (without_entry n e u)
  unfolding without_entry
  without_entry_touches = stored_at (touching undo_kind undo_held n fits) here (clear_entry_within e u)

-- ---- by the sweep, in a data area

module _ (r : ℕ) (d : List ℕ) (row : r < rows d) where
  pub swept_slot_counts : TouchedAt data_kind (Counted data_kind) r d (swept_slot r d)
  unfolding swept_slot
  swept_slot_counts = stored_at (counting data_kind data_held) row (clear_slot_within r d)

  pub cut_slot_counts : (m : Slot) → TouchedAt data_kind (Counted data_kind) r d (cut_slot r m d)
  unfolding cut_slot
  cut_slot_counts m = stored_at (counting data_kind data_held) row (put_meta_within r m d)

-- ---- in an undo area

module _ (e : ℕ) (u : List ℕ) (here : e < entries u) where
  pub swept_entry_counts : TouchedAt undo_kind (Counted undo_kind) e u (swept_entry e u)
  unfolding swept_entry
  swept_entry_counts = stored_at (counting undo_kind undo_held) here (clear_entry_within e u)

  pub cut_copy_counts : (m : Slot) → TouchedAt undo_kind (Counted undo_kind) e u (cut_copy e m u)
  unfolding cut_copy
  cut_copy_counts m = stored_at (counting undo_kind undo_held) here (put_copy_within e m u)
