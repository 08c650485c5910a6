-- Doubt along the front of a chain that was looked at ("02, T-05"): whether a version names a number whose status says nothing. It is said
-- over the versions of the chain, beside the walk, which does not ask it. Assumes nothing.
use Rattle.std.specs.Prelude.{ℕ, ◌≡◌, Bool, true, false, not, ◌&&◌, ◌||◌, cond, List, [], ◌∷◌, Result, Ok, Err, eqb}
use Rattle.desk.specs.View.{View}
use Rattle.status.specs.declared.Status.{Status}
use Rattle.status.specs.declared.Status.TheVariants.{InWork, Committed, Withdrawn, Reserved}
use Rattle.sight.specs.declared.Stamp.{Stamp}
use Rattle.sight.specs.Sight.{standing}
use Rattle.records.specs.declared.slot.Slot.{Slot}
use Rattle.answer.specs.declared.Refusal.{Refusal}
use Rattle.answer.specs.declared.Refusal.TheVariants.{Broken as Torn, NotThere, InDoubt}
use Rattle.kind.specs.Kind.{entries}
use Rattle.chain.specs.Chain.{Version, chain_from, chain_of}
use Rattle.chain.specs.declared.Walk.{Walk}
use Rattle.chain.specs.declared.Walk.TheVariants.{Found as At, Absent as NoVersion, Broken as Break}
use Rattle.chain.specs.declared.Found.{Found}
use Rattle.chain.specs.Walk.{stamp_of, there_in, found_at, walk_rule}
use Rattle.doubt.specs.declared.Missing.{Missing}
use Rattle.doubt.specs.declared.Missing.TheVariants.{Absent, Broken, Doubted}

abbrev pub is_reserved : Status → Bool
is_reserved InWork = false
is_reserved Committed = false
is_reserved Withdrawn = false
is_reserved Reserved = true

-- x "has status 11"; "Number 0 and those above 32,575 stay "never committed"", and are never reserved
unfoldable pub reserved : ℕ → List ℕ → Bool
reserved x s = is_reserved (standing x s)

-- a status page on which no number has it
abbrev pub NoneReserved : List ℕ → Type 0
NoneReserved s = (x : ℕ) → reserved x s ≡ false

-- x, "other than the acting session, has status 11"
unfoldable pub doubtful : ℕ → List ℕ → ℕ → Bool
doubtful session s x = not (eqb x session) && reserved x s

-- "the creator or expirer, other than the acting session, has status 11" (expire 0: none)
unfoldable pub in_doubt : ℕ → List ℕ → Stamp → Bool
in_doubt session s t = doubtful session s t.create || doubtful session s t.expire

-- of a slot or a slot copy
abbrev pub doubt_in : ℕ → List ℕ → Slot → Bool
doubt_in session s m = in_doubt session s (stamp_of m)

-- the versions looked at, "the answer included": up to the first that passes, and all where none does
unfoldable pub versions_looked_at : (Slot → Bool) → List Version → List Version
versions_looked_at p [] = []
versions_looked_at p (x ∷ xs) = x ∷ cond (p x.slot) [] (versions_looked_at p xs)

-- some of the versions passes
unfoldable pub some_in : (Slot → Bool) → List Version → Bool
some_in q [] = false
some_in q (x ∷ xs) = q x.slot || some_in q xs

-- 17: "any such version looked at, the answer included"
unfoldable pub doubts : List ℕ → List ℕ → List ℕ → View → ℕ → Bool
doubts d u s v r = some_in (doubt_in v.number s) (versions_looked_at (there_in v s) (chain_of d u r).versions)

-- the rest of it, from a pointer on, where the slot was looked at
unfoldable pub doubts_behind : List ℕ → List ℕ → View → ℕ → ℕ → Bool
doubts_behind u s v r ptr = some_in (doubt_in v.number s) (versions_looked_at (there_in v s) (chain_from u r (entries u) [] ptr).versions)

-- what comes of a walk, where t tells whether a version looked at was in doubt: "a break met before a version is found answers 6, and
-- otherwise any such version looked at, the answer included, gives 17"
abbrev pub look_by : Bool → Walk → Result Found Missing
look_by t (At place n) = cond t (Err Doubted) (Ok (found_at place n))
look_by t NoVersion = cond t (Err Doubted) (Err Absent)
look_by t Break = Err Broken

-- of row r, as view v has it
unfoldable pub look_rule : List ℕ → List ℕ → List ℕ → View → ℕ → Result Found Missing
look_rule d u s v r = look_by (doubts d u s v r) (walk_rule d u s v r)

-- what a call refuses where the walk answers no version: 7, 6 and 17
abbrev pub refusal_of : Missing → Refusal
refusal_of Absent = NotThere
refusal_of Broken = Torn
refusal_of Doubted = InDoubt
