-- What a session reads of a row: the first version of the chain that is there, and how many versions were looked at ("01, Sessions
-- and sight"); and where a version's body lies. Assumes nothing.
use Rattle.std.specs.Prelude.{ℕ, ◌+◌, Bool, cond, List, [], ◌∷◌, ltb}
use Rattle.kind.specs.Kind.{rows, entries}
use Rattle.records.specs.declared.slot.Slot.{Slot}
use Rattle.records.specs.Slot.{slot_place, body_at}
use Rattle.records.specs.Entry.{entry_place, copy_body_at}
use Rattle.desk.specs.View.{View}
use Rattle.sight.specs.declared.Stamp.{Stamp}
use Rattle.sight.specs.Sight.{there}
use Rattle.chain.specs.declared.Place.{Place}
use Rattle.chain.specs.declared.Place.TheVariants.{Nowhere, Data, Undo}
use Rattle.chain.specs.declared.Found.{Found as AtPlace}
use Rattle.chain.specs.declared.Link.{Link}
use Rattle.chain.specs.declared.Link.TheVariants.{End, Break, To}
use Rattle.chain.specs.declared.Walk.{Walk}
use Rattle.chain.specs.declared.Walk.TheVariants.{Found, Absent, Broken}
use Rattle.chain.specs.Chain.{Version, chain_from, chain_of}

-- what sight looks at in a slot or a slot copy
abbrev pub stamp_of : Slot → Stamp
stamp_of m = record { create = m.create; expire = m.expire; cmd = m.cmd; expire_cmd = m.expire_cmd }

-- a version found at a place, with the versions looked at
abbrev pub found_at : Place → ℕ → AtPlace
found_at place n = record { place = place; looked = n }

-- the first version that passes, with the versions looked at, n before these; where none does, whether the chain was whole
unfoldable pub first_in : (Slot → Bool) → ℕ → List Version → Bool → Walk
first_in p n [] whole = cond whole Absent Broken
first_in p n (x ∷ xs) whole = cond (p x.slot) (Found x.place (n + 1)) (first_in p (n + 1) xs whole)

-- "there for S", of a slot or a slot copy
abbrev pub there_in : View → List ℕ → Slot → Bool
there_in v s m = there v s (stamp_of m)

-- "S reads the first such version, starting at the slot and following undo pointers"
unfoldable pub walk_rule : List ℕ → List ℕ → List ℕ → View → ℕ → Walk
walk_rule d u s v r = first_in (there_in v s) 0 (chain_of d u r).versions (chain_of d u r).whole

-- the rest of it, from a pointer on, where the slot was looked at
unfoldable pub follow_rule : List ℕ → List ℕ → View → ℕ → ℕ → Walk
follow_rule u s v r ptr =
    first_in (there_in v s) 1 (chain_from u r (entries u) [] ptr).versions (chain_from u r (entries u) [] ptr).whole

-- what the walk answers where it stops at a link without a version
abbrev pub end_of : Link → Walk
end_of End = Absent
end_of Break = Broken
end_of (To e m) = Broken

-- the body of the version at a place, where the areas have that place
unfoldable pub body_of : Place → List ℕ → List ℕ → List ℕ
body_of Nowhere d u = []
body_of (Data r) d u = cond (ltb r (rows d)) (body_at r d) []
body_of (Undo e) d u = cond (ltb e (entries u)) (copy_body_at e u) []

-- so many bytes behind an address, which is a block and a place in it
abbrev pub behind : ℕ × ℕ → ℕ → ℕ × ℕ
behind p n = (p.0, p.1 + n)

-- "handed back where it lies, in the data area or the undo area": where the body begins, of areas that begin at pd and pu
unfoldable pub body_from : Place → List ℕ → List ℕ → ℕ × ℕ → ℕ × ℕ → ℕ × ℕ
body_from Nowhere d u pd pu = pd
body_from (Data r) d u pd pu = cond (ltb r (rows d)) (behind pd (slot_place r + 32)) pd
body_from (Undo e) d u pd pu = cond (ltb e (entries u)) (behind pu (entry_place e + 48)) pd
