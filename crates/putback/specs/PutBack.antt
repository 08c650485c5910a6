-- What withdrawing does to one row ("01, Writes, withdrawal, sweep"), over "S in statement k or later": the session is given by its
-- number n and the statement k. Along the chain of the row; nobody follows a pointer here. Assumes nothing.
use Rattle.std.specs.Prelude.{ℕ, Bool, not, ◌&&◌, cond, List, [], ◌∷◌, drop, eqb, leb}
use Rattle.kind.specs.Areas.{Both, both}
use Rattle.records.specs.declared.slot.Slot.{Slot}
use Rattle.records.specs.Slot.{slot_at}
use Rattle.records.specs.Entry.{copy_body_at}
use Rattle.chain.specs.declared.Place.{Place}
use Rattle.chain.specs.declared.Place.TheVariants.{Nowhere, Data, Undo}
use Rattle.chain.specs.Chain.{Version, chain_of}
use Rattle.touching.specs.Touching.{with_slot, with_meta}
use Rattle.freeing.specs.Freeing.{without_slot, without_entry}

-- x, at statement c, is S in statement k or later
unfoldable pub own : ℕ → ℕ → ℕ → ℕ → Bool
own n k x c = eqb x n && leb k c

-- a version that S made
abbrev pub own_made : ℕ → ℕ → Slot → Bool
own_made n k m = own n k m.create m.cmd

-- "with expire and expire_cmd cleared"
abbrev pub unexpired : Slot → Slot
unexpired m = record { create = m.create; expire = 0; undo_ptr = m.undo_ptr; cmd = m.cmd; expire_cmd = 0 }

-- "free the entry" in which a copy lies
abbrev pub freed_at : ℕ → Place → List ℕ → List ℕ
freed_at n (Undo e) u = without_entry n e u
freed_at n (Data r) u = u
freed_at n Nowhere u = u

-- the body of a copy
abbrev pub copy_body : Place → List ℕ → List ℕ
copy_body (Undo e) u = copy_body_at e u
copy_body (Data r) u = []
copy_body Nowhere u = []

-- behind a slot that S made, the older versions given: "put back the copy from its chain, with expire and expire_cmd cleared, and free
-- the entry; repeat until the creator isn't S. If no copy is left, empty the slot"
unfoldable pub taken_back : ℕ → ℕ → ℕ → List Version → Both → Both
taken_back n k r [] p = both (without_slot n r p.«data») p.undo
taken_back n k r (x ∷ xs) p =
    cond (own_made n k x.slot)
    (taken_back n k r xs (both p.«data» (freed_at n x.place p.undo)))
    (both (with_slot n r (unexpired x.slot) (copy_body x.place p.undo) p.«data») (freed_at n x.place p.undo))

-- "If the slot's creator is S .. If instead only the expirer is S, clear both expire fields", of an occupied row
unfoldable pub undone_row : ℕ → ℕ → ℕ → Both → Both
undone_row n k r p =
    cond (own_made n k (slot_at r p.«data»))
    (taken_back n k r (drop 1 (chain_of p.«data» p.undo r).versions) p)
    (cond
    (not (eqb (slot_at r p.«data»).create 0) && own n k (slot_at r p.«data»).expire (slot_at r p.«data»).expire_cmd)
    (both (with_meta n r (unexpired (slot_at r p.«data»)) p.«data») p.undo)
    p)
