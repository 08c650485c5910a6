-- What goes from a pointer and from a slot on, as the steps of the sweep's walk say it: the rules of Trimming along the chain that the
-- areas hold. Assumes nothing.
use Rattle.std.specs.Prelude.{ℕ, List, []}
use Rattle.kind.specs.Kind.{entries}
use Rattle.kind.specs.Areas.{Both}
use Rattle.records.specs.declared.slot.Slot.{Slot}
use Rattle.chain.specs.declared.Place.TheVariants.{Data}
use Rattle.chain.specs.Chain.{Chain, chain_from}
use Rattle.trimming.specs.Trimming.{swept_all, swept_behind, gone_behind}

-- the chain of row r from a pointer on, and the area with its entries freed
abbrev pub rest_from : ℕ → ℕ → List ℕ → Chain
rest_from r ptr u = chain_from u r (entries u) [] ptr

abbrev pub swept_rest : ℕ → ℕ → List ℕ → List ℕ
swept_rest r ptr u = swept_all (rest_from r ptr u).versions u

-- behind the slot x of row r, which stays: how many versions go, and what is left
abbrev pub gone_older : ℕ → List ℕ → ℕ → Slot → Both → ℕ
gone_older m s r x p = gone_behind m s (rest_from r x.undo_ptr p.undo).versions

abbrev pub swept_older : ℕ → List ℕ → ℕ → Slot → Both → Both
swept_older m s r x p =
    swept_behind m s (record { place = Data r; slot = x }) (rest_from r x.undo_ptr p.undo).versions p
