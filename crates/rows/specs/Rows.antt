-- The rules of insert, update, delete and read: what each answers, and what it leaves in the areas that it writes ("01, Writes,
-- withdrawal, sweep", "01, When the desk says no"); 17 "stands between 6 and 7" ("02, T-05"), 18 "directly after 4" ("02, T-07"). Assumes
-- nothing.
use Rattle.std.specs.Prelude.{ℕ, Bool, not, ◌||◌, cond, List, [], ◌∷◌, length, get_or, eqb, Result, Ok, Err}
use Rattle.ground.specs.Refuse.{first_of, settle}
use Rattle.answer.specs.declared.Refusal.{Refusal}
use Rattle.answer.specs.Code.{number_of, reported}
use Rattle.desk.specs.declared.Desk.{Desk}
use Rattle.desk.specs.View.{View}
use Rattle.desk.specs.Sound.{sound}
use Rattle.places.specs.Open.{place_in, is_open}
use Rattle.columns.specs.Columns.{used_of}
use Rattle.sight.specs.Sight.{view_of}
use Rattle.desk.specs.Turns.{view_at, spoiled, is_spoiled}
use Rattle.kind.specs.Kind.{rows, entries}
use Rattle.kind.specs.Areas.{Areas, areas, bad_length}
use Rattle.chain.specs.declared.Found.{Found}
use Rattle.chain.specs.declared.Place.{Place}
use Rattle.chain.specs.declared.Place.TheVariants.{Nowhere}
use Rattle.chain.specs.declared.Walk.{Walk}
use Rattle.chain.specs.declared.Walk.TheVariants.{Found as At, Absent, Broken}
use Rattle.chain.specs.Walk.{walk_rule}
use Rattle.vacant.specs.Vacant.{lowest_empty, lowest_free}
use Rattle.doubt.specs.Doubt.{doubts}
use Rattle.seeking.specs.Seeking.{no_row, breaks, misses, says}
use Rattle.writing.specs.Writing.{inserted, updated_data, updated_undo, deleted}

-- the paper's number and values of what the calls answer
abbrev pub said_inserted : Result ℕ Refusal → ℕ × ℕ
said_inserted r = (number_of r, reported r)

-- where the version lies, and how many were looked at; nowhere, and none, where the call is refused
abbrev pub place_seen : Result Found Refusal → Place
place_seen (Ok f) = f.place
place_seen (Err n) = Nowhere

abbrev pub looked_at : Result Found Refusal → ℕ
looked_at (Ok f) = f.looked
looked_at (Err n) = 0

abbrev pub said_seen : Result Found Refusal → ℕ × Place × ℕ
said_seen r = (number_of r, place_seen r, looked_at r)

-- what session x of a desk sees by
abbrev pub view_in : Desk → ℕ → View
view_in d x = view_at (place_in x d.numbers) d

-- what the words lend of it to the session at place k: its list as far as it is used
abbrev pub view_lent : Desk → ℕ → ℕ → View
view_lent d x k = view_of x (get_or d.statements k 0) (used_of (view_at k d).list)

-- 5: "body not 32 bytes"
abbrev pub bad_body : List ℕ → Bool
bad_body body = not (eqb (length body) 32)

-- "After an answer 10, the desk marks that session spoiled, the one change that refusal makes": the desk that refusal n leaves to session
-- x, which would write
unfoldable pub refused_desk : ℕ → ℕ → Desk → Desk
refused_desk n x d = cond (eqb n 10) (spoiled (place_in x d.numbers) d) d

-- ---- insert

-- 11: "no empty slot (insert)"
unfoldable pub insert_refusal : Areas → Desk → ℕ → List ℕ → ℕ
insert_refusal a d x body =
    first_of
    ((bad_length a, 1)
    ∷ (not (sound d), 2)
    ∷ (not (is_open x d.numbers), 4)
    ∷ (is_spoiled x d, 18)
    ∷ (bad_body body, 5)
    ∷ (eqb (lowest_empty a.«data») (rows a.«data»), 11)
    ∷ [])

-- "Insert takes the lowest empty slot"
unfoldable pub insert_rule : Areas → Desk → ℕ → List ℕ → (ℕ × ℕ) × List ℕ
insert_rule a d x body =
    settle (insert_refusal a d x body)
    ((0, lowest_empty a.«data»), inserted x (view_in d x).statement (lowest_empty a.«data») body a.«data»)
    (λ (n : ℕ). ((n, 0), a.«data»))

-- ---- update

-- 11: "no free entry (update)"
unfoldable pub update_refusal : Areas → Desk → ℕ → ℕ → List ℕ → ℕ
update_refusal a d x r body =
    first_of
    ((bad_length a, 1)
    ∷ (not (sound d), 2)
    ∷ (not (is_open x d.numbers), 4)
    ∷ (is_spoiled x d, 18)
    ∷ (no_row a.«data» r || bad_body body, 5)
    ∷ (breaks a.«data» a.undo a.status (view_in d x) r, 6)
    ∷ (doubts a.«data» a.undo a.status (view_in d x) r, 17)
    ∷ (misses a.«data» a.undo a.status (view_in d x) r, 7)
    ∷ (says a.«data» a.status (view_in d x) r 8, 8)
    ∷ (says a.«data» a.status (view_in d x) r 9, 9)
    ∷ (says a.«data» a.status (view_in d x) r 10, 10)
    ∷ (eqb (lowest_free a.undo) (entries a.undo), 11)
    ∷ [])

-- "Update copies the slot to the lowest free entry"
unfoldable pub updated : Areas → Desk → ℕ → ℕ → List ℕ → Areas
updated a d x r body =
    areas
    (updated_data x (view_in d x).statement r (lowest_free a.undo) body a.«data»)
    (updated_undo x (view_in d x).statement r (lowest_free a.undo) a.«data» a.undo)
    a.status

unfoldable pub update_rule : Areas → Desk → ℕ → ℕ → List ℕ → (ℕ × Desk) × Areas
update_rule a d x r body =
    settle (update_refusal a d x r body) ((0, d), updated a d x r body) (λ (n : ℕ). ((n, refused_desk n x d), a))

-- ---- delete

unfoldable pub delete_refusal : Areas → Desk → ℕ → ℕ → ℕ
delete_refusal a d x r =
    first_of
    ((bad_length a, 1)
    ∷ (not (sound d), 2)
    ∷ (not (is_open x d.numbers), 4)
    ∷ (is_spoiled x d, 18)
    ∷ (no_row a.«data» r, 5)
    ∷ (breaks a.«data» a.undo a.status (view_in d x) r, 6)
    ∷ (doubts a.«data» a.undo a.status (view_in d x) r, 17)
    ∷ (misses a.«data» a.undo a.status (view_in d x) r, 7)
    ∷ (says a.«data» a.status (view_in d x) r 8, 8)
    ∷ (says a.«data» a.status (view_in d x) r 9, 9)
    ∷ (says a.«data» a.status (view_in d x) r 10, 10)
    ∷ [])

-- "Delete sets expire and expire_cmd"
unfoldable pub delete_rule : Areas → Desk → ℕ → ℕ → (ℕ × Desk) × List ℕ
delete_rule a d x r =
    settle (delete_refusal a d x r)
    ((0, d), deleted x (view_in d x).statement r a.«data»)
    (λ (n : ℕ). ((n, refused_desk n x d), a.«data»))

-- ---- read

unfoldable pub read_refusal : Areas → Desk → ℕ → ℕ → ℕ
read_refusal a d x r =
    first_of
    ((bad_length a, 1)
    ∷ (not (sound d), 2)
    ∷ (not (is_open x d.numbers), 4)
    ∷ (no_row a.«data» r, 5)
    ∷ (breaks a.«data» a.undo a.status (view_in d x) r, 6)
    ∷ (doubts a.«data» a.undo a.status (view_in d x) r, 17)
    ∷ (misses a.«data» a.undo a.status (view_in d x) r, 7)
    ∷ [])

-- where the version found lies, and "how many versions it looked at, the answer included"; where there is none the call is refused, by 6,
-- 17 or 7, and this is not asked
abbrev pub seen_by : Walk → ℕ × Place × ℕ
seen_by (At place n) = (0, place, n)
seen_by Absent = (0, Nowhere, 0)
seen_by Broken = (0, Nowhere, 0)

-- "S reads the first such version"; "Each number reported by a refused call is 0"
unfoldable pub read_rule : Areas → Desk → ℕ → ℕ → ℕ × Place × ℕ
read_rule a d x r =
    settle (read_refusal a d x r)
    (seen_by (walk_rule a.«data» a.undo a.status (view_in d x) r))
    (λ (n : ℕ). (n, Nowhere, 0))
