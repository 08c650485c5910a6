-- The rule of sweep: what it answers, and what it leaves in the areas ("01, Writes, withdrawal, sweep", "01, When the desk says no").
-- Assumes nothing.
use Rattle.std.specs.Prelude.{ℕ, zero, suc, ◌+◌, ◌-◌, Bool, not, List, [], ◌∷◌, length, ltb, min, Result, Ok, Err}
use Rattle.ground.specs.Refuse.{first_of, settle}
use Rattle.ground.specs.Range.{all_below}
use Rattle.answer.specs.declared.Refusal.{Refusal}
use Rattle.answer.specs.Code.{number_of}
use Rattle.desk.specs.declared.Desk.{Desk}
use Rattle.desk.specs.Sound.{sound}
use Rattle.desk.specs.Turns.{mark}
use Rattle.kind.specs.Kind.{rows}
use Rattle.kind.specs.Areas.{Areas, areas, bad_length, Both, both}
use Rattle.chain.specs.Chain.{chain_of}
use Rattle.trimming.specs.Trimming.{gone_row, swept_row}
use Rattle.sweeping.specs.declared.Swept.{Swept}

-- the paper's number and values of what sweep answers: the next row and the versions removed, both 0 where it refuses
abbrev pub next_of : Result Swept Refusal → ℕ
next_of (Ok x) = x.next
next_of (Err r) = 0

abbrev pub removed_of : Result Swept Refusal → ℕ
removed_of (Ok x) = x.removed
removed_of (Err r) = 0

abbrev pub said_swept : Result Swept Refusal → ℕ × ℕ × ℕ
said_swept r = (number_of r, next_of r, removed_of r)

-- "treats min(quota, rows left) of them"
unfoldable pub treated : List ℕ → ℕ → ℕ → ℕ
treated d first quota = min quota (rows d - first)

-- 6: "for sweep, any break in a row it treats"
unfoldable pub all_whole : List ℕ → List ℕ → ℕ → ℕ → Bool
all_whole d u first n = all_below (λ (i : ℕ). (chain_of d u (first + i)).whole) n

-- the n rows from r on, one after the other, and the versions that go from them
unfoldable pub swept_from : ℕ → List ℕ → ℕ → ℕ → Both → Both
swept_from m s r zero p = p
swept_from m s r (suc n) p = swept_from m s (r + 1) n (swept_row m s r p)

unfoldable pub removed_from : ℕ → List ℕ → ℕ → ℕ → Both → ℕ
removed_from m s r zero p = 0
removed_from m s r (suc n) p = gone_row m s r p + removed_from m s (r + 1) n (swept_row m s r p)

-- how many versions the n rows from r on hold
unfoldable pub held_from : ℕ → ℕ → Both → ℕ
held_from r zero p = 0
held_from r (suc n) p = length (chain_of p.«data» p.undo r).versions + held_from (r + 1) n p

-- 5: "first row > rows"
unfoldable pub sweep_refusal : Areas → Desk → ℕ → ℕ → ℕ
sweep_refusal a d first quota =
    first_of
    ((bad_length a, 1)
    ∷ (not (sound d), 2)
    ∷ (ltb (rows a.«data») first, 5)
    ∷ (not (all_whole a.«data» a.undo first (treated a.«data» first quota)), 6)
    ∷ [])

unfoldable pub swept : Areas → Desk → ℕ → ℕ → Both
swept a d first quota =
    swept_from (mark d) a.status first (treated a.«data» first quota) (both a.«data» a.undo)

-- "It reports the next row and the versions removed, equal to versions held before less versions held after in those rows"
unfoldable pub sweep_rule : Areas → Desk → ℕ → ℕ → (ℕ × ℕ × ℕ) × Areas
sweep_rule a d first quota =
    settle (sweep_refusal a d first quota) (
      (0, first + treated a.«data» first quota, held_from first (treated a.«data» first quota) (both a.«data» a.undo) - held_from first (treated a.«data» first quota) (swept a d first quota)),
      areas (swept a d first quota).«data» (swept a d first quota).undo a.status,
    )
    (λ (n : ℕ). ((n, 0, 0), a))
