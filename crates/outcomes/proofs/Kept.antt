-- Whatever each write of withdraw keeps, withdraw keeps; and so of sweep ("01, Writes, withdrawal, sweep"). Once, over any property of the
-- data and the undo area together; it asks for no wholeness. Assumes nothing.
use mathlib.Core.Bool.{Bool, true, false, not, ◌&&◌, cond}
use mathlib.Core.List.{List, [], ◌∷◌}
use Prim.Native.Nat.{ℕ, zero, suc, ◌+◌}
use lib.ListN.{drop}
use lib.Dec.{eqb}
use Rattle.kind.specs.Kind.{rows}
use Rattle.kind.specs.Areas.{Both, both}
use Rattle.records.specs.declared.slot.Slot.{Slot}
use Rattle.records.specs.Slot.{slot_at}
use Rattle.chain.specs.declared.Place.{Place}
use Rattle.chain.specs.Chain.{Version, chain_of}
use Rattle.touching.specs.Touching.{with_slot, with_meta}
use Rattle.freeing.specs.Freeing.{without_slot, swept_slot}
use Rattle.putback.specs.PutBack.{own, own_made, unexpired, freed_at, copy_body, taken_back, undone_row}
use Rattle.undoing.specs.Undoing.{undone_from, undone}
use Rattle.trimming.specs.Trimming.{dead_in, swept_at, swept_all, cut_at, swept_behind, swept_versions, swept_row}
use Rattle.sweeping.specs.Sweeping.{swept_from}

-- the writes of session n's withdrawal keep P: a slot emptied, its metadata written, a copy put back and its entry freed, an entry freed
pub record Withdraws (n : ℕ) (P : Both → Type 0) : Type 0 where
  pub empties : (r : ℕ) (p : Both) → P p → P (both (without_slot n r p.«data») p.undo)
  pub clears : (r : ℕ) (m : Slot) (p : Both) → P p → P (both (with_meta n r m p.«data») p.undo)
  pub puts : (r : ℕ) (m : Slot) (x : Place) (p : Both) → P p
      → P (both (with_slot n r m (copy_body x p.undo) p.«data») (freed_at n x p.undo))
  pub frees : (x : Place) (p : Both) → P p → P (both p.«data» (freed_at n x p.undo))

-- those of a sweep: a slot emptied, an entry freed, a pointer cut
pub record Trims (P : Both → Type 0) : Type 0 where
  pub empties : (r : ℕ) (p : Both) → P p → P (both (swept_slot r p.«data») p.undo)
  pub frees : (x : Place) (p : Both) → P p → P (both p.«data» (swept_at x p.undo))
  pub cuts : (x : Place) (m : Slot) (p : Both) → P p → P (cut_at x m p)

either : (P : Both → Type 0) (b : Bool) (p q : Both) → P p → P q → P (cond b p q)
either P true p q h k = h
either P false p q h k = k

-- ---- withdraw

module _ (n k : ℕ) (P : Both → Type 0) (w : Withdraws n P) where
  taken_back_keeps : (r : ℕ) (xs : List Version) (p : Both) → P p → P (taken_back n k r xs p)
  unfolding taken_back
  taken_back_keeps r [] p h = w.empties r p h
  taken_back_keeps r (x ∷ xs) p h =
      let u : List ℕ = freed_at n x.place p.undo in
      either P (own_made n k x.slot)
      (taken_back n k r xs (both p.«data» u))
      (both (with_slot n r (unexpired x.slot) (copy_body x.place p.undo) p.«data») u)
      (taken_back_keeps r xs (both p.«data» u) (w.frees x.place p h))
      (w.puts r (unexpired x.slot) x.place p h)

  undone_row_keeps : (r : ℕ) (p : Both) → P p → P (undone_row n k r p)
  unfolding undone_row
  undone_row_keeps r p h =
      let m : Slot = slot_at r p.«data» in
      let chain : List Version = drop 1 (chain_of p.«data» p.undo r).versions in
      let cleared : Both = both (with_meta n r (unexpired m) p.«data») p.undo in
      let ended : Bool = not (eqb m.create 0) && own n k m.expire m.expire_cmd in
      either P (own_made n k m) (taken_back n k r chain p) (cond ended cleared p)
      (taken_back_keeps r chain p h)
      (either P ended cleared p (w.clears r (unexpired m) p h) h)

  undone_from_keeps : (r m : ℕ) (p : Both) → P p → P (undone_from n k r m p)
  unfolding undone_from
  undone_from_keeps r zero p h = h
  undone_from_keeps r (suc m) p h = undone_from_keeps (r + 1) m (undone_row n k r p) (undone_row_keeps r p h)

  pub undone_keeps : (d u : List ℕ) → P (both d u) → P (undone n k d u)
  unfolding undone
  undone_keeps d u h = undone_from_keeps 0 (rows d) (both d u) h

-- ---- sweep

module _ (m : ℕ) (s : List ℕ) (P : Both → Type 0) (w : Trims P) where
  swept_all_keeps : (xs : List Version) (p : Both) → P p → P (both p.«data» (swept_all xs p.undo))
  unfolding swept_all
  swept_all_keeps [] p h = h
  swept_all_keeps (x ∷ xs) p h = swept_all_keeps xs (both p.«data» (swept_at x.place p.undo)) (w.frees x.place p h)

  swept_behind_keeps : (x : Version) (ys : List Version) (p : Both) → P p → P (swept_behind m s x ys p)
  unfolding swept_behind
  swept_behind_keeps x [] p h = h
  swept_behind_keeps x (y ∷ ys) p h =
      let swept : Both = both p.«data» (swept_all (y ∷ ys) p.undo) in
      either P (dead_in m s y.slot) (cut_at x.place x.slot swept) (swept_behind m s y ys p)
      (w.cuts x.place x.slot swept (swept_all_keeps (y ∷ ys) p h))
      (swept_behind_keeps y ys p h)

  swept_versions_keeps : (r : ℕ) (xs : List Version) (p : Both) → P p → P (swept_versions m s r xs p)
  unfolding swept_versions
  swept_versions_keeps r [] p h = h
  swept_versions_keeps r (x ∷ xs) p h =
      either P (dead_in m s x.slot) (both (swept_slot r p.«data») (swept_all xs p.undo)) (swept_behind m s x xs p)
      (swept_all_keeps xs (both (swept_slot r p.«data») p.undo) (w.empties r p h))
      (swept_behind_keeps x xs p h)

  pub swept_keeps : (r n : ℕ) (p : Both) → P p → P (swept_from m s r n p)
  unfolding swept_from swept_row
  swept_keeps r zero p h = h
  swept_keeps r (suc n) p h =
      swept_keeps (r + 1) n (swept_row m s r p) (swept_versions_keeps r (chain_of p.«data» p.undo r).versions p h)
