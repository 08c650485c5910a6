-- `station::chirimok_open` meets its contract: the call, and the desk's words. Assumes nothing.
use Prim.Native.Nat.{ℕ}
use mathlib.Core.Path.{refl}
use mathlib.Core.List.{[]}
use Rattle.kind.specs.Areas.{Areas, areas}
use Rattle.desk.specs.declared.Desk.{Desk}
use Rattle.keep.specs.Keep.{open_rule}
use Rattle.ground.specs.Refuse.{kept}
use Rattle.words.specs.Words.{desk_in, words_of}
use Rattle.station.specs.Station.{open_call}
use Rattle.station.proofs.Calls.{calls, reads, kept_by}
use Rattle.station.proofs.chirimok_open.Goals as goal

pub returns : goal.returns
unfolding open_call
returns c =
    let lent = areas c.args.«data».now c.args.undo.now c.args.status.now in
    calls
    (λ (y : ℕ × Desk). y.0)
    (λ (a : Areas). a)
    (λ (y : ℕ × Desk). kept y.0 (words_of (kept y.0 y.1 (desk_in c.args.desk.now))) c.args.desk.now)
    (λ (y : ℕ × Desk). [])
    _
    (reads (open_rule lent) lent c.open-opened.ensures)
    c.code.ensures
    (kept_by _ c.args.desk.now refl c.put_kept.ensures)
    refl
