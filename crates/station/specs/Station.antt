-- What a call of the station's library leaves: each leaves what its rule does, through the one definition that turns words into a desk and back.
-- Assumes nothing.
use Rattle.std.specs.Prelude.{ℕ, ◌+◌, cond, List, [], ◌∷◌, eqb, ltb}
use Rattle.ground.specs.Refuse.{kept}
use Rattle.kind.specs.Kind.{rows, entries}
use Rattle.kind.specs.Areas.{Areas}
use Rattle.records.specs.Slot.{slot_place}
use Rattle.records.specs.Entry.{entry_place}
use Rattle.chain.specs.declared.Place.{Place}
use Rattle.chain.specs.declared.Place.TheVariants.{Nowhere, Data, Undo}
use Rattle.words.specs.Words.{desk_in, words_of}
use Rattle.calls.specs.Calls.{Left, format_leaves, open_leaves, seal_leaves, begin_leaves, next_leaves, insert_leaves, update_leaves, delete_leaves, read_leaves, commit_leaves, withdraw_leaves, sweep_leaves}

-- what a call hands back: the areas, the desk's words, and what it reports
pub record Handed : Type 0 where
  pub lent : Areas
  pub words : List ℕ
  pub reported : List ℕ

abbrev pub handed : Areas → List ℕ → List ℕ → Handed
handed a w out = record { lent = a; words = w; reported = out }

-- by what the call leaves and what it reports of it: where the words are lent to be read they stay
abbrev pub words_read : Left → List ℕ → List ℕ → ℕ × Handed
words_read l w out = (l.code, handed l.lent w out)

-- and where they are lent to be written they change only where the call is done
abbrev pub words_written : Left → List ℕ → List ℕ → ℕ × Handed
words_written l w out = (l.code, handed l.lent (kept l.code (words_of l.desk) w) out)

-- where a write is refused by 10 they change too: the session is marked ("02, T-07"); done, it leaves them
abbrev pub words_marked : Left → List ℕ → List ℕ → ℕ × Handed
words_marked l w out = (l.code, handed l.lent (cond (eqb l.code 10) (words_of l.desk) w) out)

-- where a body lies: 1 in the data area, 2 in the undo area, and at which byte of it; 0 nowhere
unfoldable pub lies_of : Place → List ℕ → List ℕ → ℕ × ℕ
lies_of Nowhere d u = (0, 0)
lies_of (Data r) d u = cond (ltb r (rows d)) (1, slot_place r + 32) (0, 0)
lies_of (Undo e) d u = cond (ltb e (entries u)) (2, entry_place e + 48) (0, 0)

-- ---- the calls, with the words and the out array of each

unfoldable pub format_call : Areas → List ℕ → ℕ × Handed
format_call a w = words_written (format_leaves a (desk_in w)) w []

unfoldable pub open_call : Areas → List ℕ → ℕ × Handed
open_call a w = words_written (open_leaves a (desk_in w)) w []

unfoldable pub seal_call : Areas → List ℕ → ℕ × Handed
seal_call a w = words_read (seal_leaves a (desk_in w)) w []

unfoldable pub begin_call : Areas → List ℕ → ℕ × Handed
begin_call a w = let l = begin_leaves a (desk_in w) in words_written l w (l.first ∷ [])

unfoldable pub next_call : Areas → List ℕ → ℕ → ℕ × Handed
next_call a w x = words_written (next_leaves a (desk_in w) x) w []

unfoldable pub insert_call : Areas → List ℕ → ℕ → List ℕ → ℕ × Handed
insert_call a w x body = let l = insert_leaves a (desk_in w) x body in words_read l w (l.first ∷ [])

unfoldable pub update_call : Areas → List ℕ → ℕ → ℕ → List ℕ → ℕ × Handed
update_call a w x row body = words_marked (update_leaves a (desk_in w) x row body) w []

unfoldable pub delete_call : Areas → List ℕ → ℕ → ℕ → ℕ × Handed
delete_call a w x row = words_marked (delete_leaves a (desk_in w) x row) w []

unfoldable pub read_call : Areas → List ℕ → ℕ → ℕ → ℕ × Handed
read_call a w x row =
    let l = read_leaves a (desk_in w) x row in
    let p = lies_of l.place a.«data» a.undo in
    words_read l w (l.first ∷ p.0 ∷ p.1 ∷ [])

unfoldable pub commit_call : Areas → List ℕ → ℕ → ℕ × Handed
commit_call a w x = words_written (commit_leaves a (desk_in w) x) w []

unfoldable pub withdraw_call : Areas → List ℕ → ℕ → ℕ × Handed
withdraw_call a w x = words_written (withdraw_leaves a (desk_in w) x) w []

unfoldable pub sweep_call : Areas → List ℕ → ℕ → ℕ → ℕ × Handed
sweep_call a w first quota = let l = sweep_leaves a (desk_in w) first quota in words_read l w (l.first ∷ l.second ∷ [])
