-- The rules of format, seal and open: what each answers, and what it leaves in the areas ("01, The page", "01, When the desk says
-- no"). Assumes nothing.
use Rattle.std.specs.Prelude.{ℕ, ◌+◌, not, [], ◌∷◌, ltb, Result}
use Rattle.std.specs.Result.{result_unwrap_or}
use Rattle.ground.specs.Refuse.{first_of, settle}
use Rattle.answer.specs.declared.Refusal.{Refusal}
use Rattle.answer.specs.Code.{number_of}
use Rattle.places.specs.Open.{open_count}
use Rattle.desk.specs.declared.Desk.{Desk}
use Rattle.desk.specs.Desk.{first_number, fresh_desk, no_desk}
use Rattle.desk.specs.Sound.{sound}
use Rattle.kind.specs.Kind.{pages, data_kind, undo_kind, status_kind}
use Rattle.kind.specs.Areas.{Areas, areas, bad_length}
use Rattle.keep.specs.Whole.{fresh_area, sealed_area, highest, store_right}

-- the paper's number and value of what format and open answer
abbrev pub said : Result Desk Refusal → ℕ × Desk
said r = (number_of r, result_unwrap_or r no_desk)

-- ---- format

unfoldable pub format_refusal : Areas → ℕ
format_refusal a = first_of ((bad_length a, 1) ∷ [])

unfoldable pub formatted : Areas → Areas
formatted a =
    areas
    (fresh_area data_kind (pages a.«data»))
    (fresh_area undo_kind (pages a.undo))
    (fresh_area status_kind (pages a.status))

-- "answers a desk without sessions, next = 1"
unfoldable pub format_rule : Areas → (ℕ × Desk) × Areas
format_rule a = settle (format_refusal a) ((0, fresh_desk first_number), formatted a) (λ (n : ℕ). ((n, no_desk), a))

-- ---- seal

-- 2: "desk unsound"; 15: "a session is open"
unfoldable pub seal_refusal : Areas → Desk → ℕ
seal_refusal a d = first_of ((bad_length a, 1) ∷ (not (sound d), 2) ∷ (ltb 0 (open_count d.numbers), 15) ∷ [])

unfoldable pub sealed : Areas → Areas
sealed a =
    areas (sealed_area (pages a.«data») a.«data») (sealed_area (pages a.undo) a.undo) (sealed_area (pages a.status) a.status)

unfoldable pub seal_rule : Areas → Desk → ℕ × Areas
seal_rule a d = settle (seal_refusal a d) (0, sealed a) (λ (n : ℕ). (n, a))

-- ---- open

unfoldable pub open_refusal : Areas → ℕ
open_refusal a = first_of ((bad_length a, 1) ∷ (not (store_right a), 3) ∷ [])

-- "Open answers a desk without sessions, next = highest + 1"
unfoldable pub open_rule : Areas → ℕ × Desk
open_rule a = settle (open_refusal a) (0, fresh_desk (highest a.status + 1)) (λ (n : ℕ). (n, no_desk))
