-- What withdraw and sweep make of a row's versions ("01, Writes, withdrawal, sweep"), as lists. Assumes nothing.
use Rattle.std.specs.Prelude.{ℕ, cond, List, [], ◌∷◌}
use Rattle.records.specs.Slot.{unlinked}
use Rattle.chain.specs.declared.Place.TheVariants.{Data}
use Rattle.chain.specs.Chain.{Version, Chain}
use Rattle.strands.specs.Strands.{front, rest, on_last, on_first}
use Rattle.putback.specs.PutBack.{own, own_made, unexpired}
use Rattle.trimming.specs.Trimming.{dead_in}

-- withdraw drops the versions in front that S made in statement k or later, and the one that then stands in the slot is ended by nobody;
-- where S made none of them but ended the first, that is undone
unfoldable pub undone_versions : ℕ → ℕ → ℕ → List Version → List Version
undone_versions n k r [] = []
undone_versions n k r (x ∷ xs) =
    cond (own_made n k x.slot)
    (on_first (Data r) unexpired (rest (own_made n k) (x ∷ xs)))
    (cond (own n k x.slot.expire x.slot.expire_cmd) (on_first (Data r) unexpired (x ∷ xs)) (x ∷ xs))

unfoldable pub undone_chain : ℕ → ℕ → ℕ → Chain → Chain
undone_chain n k r c = record { versions = undone_versions n k r c.versions; whole = c.whole }

-- sweep keeps those before the first dead one, and the last of them leads nowhere
unfoldable pub swept_chain : ℕ → List ℕ → Chain → Chain
swept_chain m s c = record { versions = on_last unlinked (front (dead_in m s) c.versions); whole = c.whole }
