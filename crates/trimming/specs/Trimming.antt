-- What the sweep does to one row ("01, Writes, withdrawal, sweep"): along the chain of the row; nobody follows a pointer here. m is the
-- mark, s the status page. Assumes nothing.
use Rattle.std.specs.Prelude.{ℕ, ◌<◌, Bool, cond, List, [], ◌∷◌, length}
use Rattle.kind.specs.Kind.{rows, entries}
use Rattle.kind.specs.Areas.{Both, both}
use Rattle.records.specs.declared.slot.Slot.{Slot}
use Rattle.records.specs.Slot.{unlinked}
use Rattle.sight.specs.Conflict.{is_dead}
use Rattle.chain.specs.declared.Place.{Place}
use Rattle.chain.specs.declared.Place.TheVariants.{Nowhere, Data, Undo}
use Rattle.chain.specs.Chain.{Version, chain_of}
use Rattle.chain.specs.Walk.{stamp_of}
use Rattle.freeing.specs.Freeing.{swept_slot, swept_entry, cut_slot, cut_copy}

-- a version "whose expirer is committed and below the mark"
abbrev pub dead_in : ℕ → List ℕ → Slot → Bool
dead_in m s x = is_dead m s (stamp_of x)

-- ---- what goes

-- the entries in which versions lie, freed one after the other
abbrev pub swept_at : Place → List ℕ → List ℕ
swept_at (Undo e) u = swept_entry e u
swept_at (Data r) u = u
swept_at Nowhere u = u

unfoldable pub swept_all : List Version → List ℕ → List ℕ
swept_all [] u = u
swept_all (x ∷ xs) u = swept_all xs (swept_at x.place u)

-- ---- what stays in front of it

abbrev pub cut_at : Place → Slot → Both → Both
cut_at (Data r) x p = both (cut_slot r (unlinked x) p.«data») p.undo
cut_at (Undo e) x p = both p.«data» (cut_copy e (unlinked x) p.undo)
cut_at Nowhere x p = p

-- a place of these areas
abbrev pub inside : Place → List ℕ → List ℕ → Type 0
inside (Data r) d u = r < rows d
inside (Undo e) d u = e < entries u
inside Nowhere d u = Unit

-- ---- a row

-- behind a version x that stays, the older versions given: "the first version whose expirer is committed and below the mark goes with
-- all older ones"
unfoldable pub swept_behind : ℕ → List ℕ → Version → List Version → Both → Both
swept_behind m s x [] p = p
swept_behind m s x (y ∷ ys) p =
    cond (dead_in m s y.slot)
    (cut_at x.place x.slot (both p.«data» (swept_all (y ∷ ys) p.undo)))
    (swept_behind m s y ys p)

-- "or the slot is emptied"
unfoldable pub swept_versions : ℕ → List ℕ → ℕ → List Version → Both → Both
swept_versions m s r [] p = p
swept_versions m s r (x ∷ xs) p =
    cond (dead_in m s x.slot)
    (both (swept_slot r p.«data») (swept_all xs p.undo))
    (swept_behind m s x xs p)

unfoldable pub swept_row : ℕ → List ℕ → ℕ → Both → Both
swept_row m s r p = swept_versions m s r (chain_of p.«data» p.undo r).versions p

-- how many versions go: the first dead one and all older ones
unfoldable pub gone_behind : ℕ → List ℕ → List Version → ℕ
gone_behind m s [] = 0
gone_behind m s (x ∷ xs) = cond (dead_in m s x.slot) (length (x ∷ xs)) (gone_behind m s xs)

unfoldable pub gone_row : ℕ → List ℕ → ℕ → Both → ℕ
gone_row m s r p = gone_behind m s (chain_of p.«data» p.undo r).versions
