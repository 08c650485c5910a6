-- What read, update and delete ask of a row ("01, When the desk says no", 5 to 10, and "02, T-05", 17, whose condition is doubt's). The
-- conditions stand here once; a call's list of refusals names them. Assumes nothing.
use Rattle.std.specs.Prelude.{ℕ, Bool, true, false, cond, List, [], ◌∷◌, Result, Ok, Err, eqb, leb}
use Rattle.ground.specs.Refuse.{first_of}
use Rattle.answer.specs.declared.Refusal.{Refusal}
use Rattle.answer.specs.declared.Refusal.TheVariants.{BadArgument}
use Rattle.kind.specs.Kind.{rows}
use Rattle.desk.specs.View.{View}
use Rattle.sight.specs.Conflict.{conflict_of}
use Rattle.records.specs.Slot.{slot_at}
use Rattle.chain.specs.declared.Found.{Found}
use Rattle.chain.specs.declared.Walk.{Walk}
use Rattle.chain.specs.declared.Walk.TheVariants.{Found as At, Absent, Broken as Break}
use Rattle.chain.specs.Walk.{stamp_of, walk_rule}
use Rattle.doubt.specs.declared.Missing.{Missing}
use Rattle.doubt.specs.Doubt.{doubts, look_rule, refusal_of}

-- 5: "row ≥ rows"
unfoldable pub no_row : List ℕ → ℕ → Bool
no_row d r = leb (rows d) r

-- 6: "broken chain met before a version is found"
abbrev pub is_broken : Walk → Bool
is_broken (At place n) = false
is_broken Absent = false
is_broken Break = true

unfoldable pub breaks : List ℕ → List ℕ → List ℕ → View → ℕ → Bool
breaks d u s v r = is_broken (walk_rule d u s v r)

-- 7: "no version there"
abbrev pub is_absent : Walk → Bool
is_absent (At place n) = false
is_absent Absent = true
is_absent Break = false

unfoldable pub misses : List ℕ → List ℕ → List ℕ → View → ℕ → Bool
misses d u s v r = is_absent (walk_rule d u s v r)

-- 8 to 10: "look at the slot"; the slot says number n
unfoldable pub says : List ℕ → List ℕ → View → ℕ → ℕ → Bool
says d s v r n = eqb (conflict_of v s (stamp_of (slot_at r d))) n

-- ---- as the functions answer

-- what comes of a walk: the version found, or what a walk without one refuses
abbrev pub sought_by : Result Found Missing → Result Found Refusal
sought_by (Ok found) = Ok found
sought_by (Err missing) = Err (refusal_of missing)

unfoldable pub seek_rule : List ℕ → List ℕ → List ℕ → View → ℕ → Result Found Refusal
seek_rule d u s v r = cond (no_row d r) (Err BadArgument) (sought_by (look_rule d u s v r))

-- what may be refused to a session that would write a row, in the order of the table; 17 "stands between 6 and 7"
unfoldable pub write_refusal : List ℕ → List ℕ → List ℕ → View → ℕ → ℕ
write_refusal d u s v r =
    first_of
    ((no_row d r, 5)
    ∷ (breaks d u s v r, 6)
    ∷ (doubts d u s v r, 17)
    ∷ (misses d u s v r, 7)
    ∷ (says d s v r 8, 8)
    ∷ (says d s v r 9, 9)
    ∷ (says d s v r 10, 10)
    ∷ [])
