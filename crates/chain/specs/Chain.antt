-- The chain of a row: its versions from the slot along the undo pointers, and whether it ends whole or broken ("01, Sessions and
-- sight"). Nobody follows a pointer in a second definition. Assumes nothing.
use Rattle.std.specs.Prelude.{ℕ, zero, suc, Bool, true, false, not, ◌||◌, cond, List, [], ◌∷◌, eqb}
use Rattle.kind.specs.Kind.{pages, entries}
use Rattle.pointer.specs.declared.Lead.{Lead}
use Rattle.pointer.specs.declared.Lead.TheVariants.{Nowhere as Nothing, Entry as ToEntry, Astray}
use Rattle.pointer.specs.Pointer.{lead_of}
use Rattle.records.specs.declared.slot.Slot.{Slot}
use Rattle.records.specs.declared.entry.Entry.{Entry}
use Rattle.records.specs.Slot.{slot_at}
use Rattle.records.specs.Entry.{entry_at}
use Rattle.chain.specs.declared.Place.{Place}
use Rattle.chain.specs.declared.Place.TheVariants.{Data, Undo}
use Rattle.chain.specs.declared.Link.{Link}
use Rattle.chain.specs.declared.Link.TheVariants.{End, Break, To}

-- a version: where it lies, and its metadata
pub record Version : Type 0 where
  pub place : Place
  pub slot : Slot

pub record Chain : Type 0 where
  pub versions : List Version
  pub whole : Bool

abbrev pub ended : Bool → Chain
ended b = record { versions = []; whole = b }

abbrev pub onto : Version → Chain → Chain
onto x c = record { versions = x ∷ c.versions; whole = c.whole }

-- e is one of the entries passed
unfoldable pub among : ℕ → List ℕ → Bool
among e [] = false
among e (p ∷ ps) = eqb e p || among e ps

-- "leads to a free entry, one of another row or one whose copy has create 0": entry m does not carry a version of row r
unfoldable pub unfit : ℕ → Entry → Bool
unfit r m = eqb m.writer 0 || not (eqb m.row r) || eqb m.copy.create 0

-- by where a pointer leads: "0 means none" ends the chain whole; "isn't well formed, leads outside the area or between entries"
-- breaks it; at an entry the chain goes on as `next` says
abbrev pub along : Lead → (ℕ → Chain) → Chain
along Nothing next = ended true
along Astray next = ended false
along (ToEntry e) next = next e

-- the versions from a pointer on, where the entries `passed` lie behind; there are at most `fuel` entries left to pass
unfoldable pub chain_from : List ℕ → ℕ → ℕ → List ℕ → ℕ → Chain
chain_from u r zero passed ptr = along (lead_of (pages u) ptr) (λ (e : ℕ). ended false)
chain_from u r (suc fuel) passed ptr =
    along (lead_of (pages u) ptr)
    (λ (e : ℕ).
    cond (unfit r (entry_at e u) || among e passed) (ended false)
    (onto (record { place = Undo e; slot = (entry_at e u).copy }) (chain_from u r fuel (e ∷ passed) (entry_at e u).copy.undo_ptr)))

-- "Create 0 means empty; an empty slot has no chain, whatever its other bytes"
unfoldable pub chain_of : List ℕ → List ℕ → ℕ → Chain
chain_of d u r =
    cond (eqb (slot_at r d).create 0) (ended true)
    (onto (record { place = Data r; slot = slot_at r d }) (chain_from u r (entries u) [] (slot_at r d).undo_ptr))

-- one step along the chain: where a pointer of row r leads, the entries passed left out of account
abbrev pub link_at : List ℕ → ℕ → Lead → Link
link_at u r Nothing = End
link_at u r Astray = Break
link_at u r (ToEntry e) = cond (unfit r (entry_at e u)) Break (To e (entry_at e u))

unfoldable pub link_of : List ℕ → ℕ → ℕ → Link
link_of u r ptr = link_at u r (lead_of (pages u) ptr)
