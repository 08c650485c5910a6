-- The rules of begin, next statement and commit: what each answers, the desk, and what it leaves on the status page ("01, Sessions and
-- sight", "01, When the desk says no"); next and commit of a spoiled session answer 18 ("02, T-07"). Assumes nothing.
use Rattle.std.specs.Prelude.{ℕ, not, List, [], ◌∷◌, get_or, eqb, Result}
use Rattle.ground.specs.Refuse.{first_of, settle}
use Rattle.answer.specs.declared.Refusal.{Refusal}
use Rattle.answer.specs.Code.{number_of, reported}
use Rattle.columns.specs.Limits.{sessions, last_statement}
use Rattle.places.specs.Open.{open_count, place_in, is_open}
use Rattle.desk.specs.declared.Desk.{Desk}
use Rattle.desk.specs.Desk.{last_next}
use Rattle.desk.specs.Sound.{sound}
use Rattle.desk.specs.Turns.{begun, moved, closed, is_spoiled}
use Rattle.words.specs.Words.{desk_in}
use Rattle.kind.specs.Areas.{Areas, bad_length}
use Rattle.page.specs.Header.{txn_id, put_field}
use Rattle.status.specs.declared.Status.TheVariants.{InWork, Committed}
use Rattle.status.specs.Status.{put_status}

-- the paper's number and values of what the calls answer, with the desk that their words say then
abbrev pub said_begun : Result ℕ Refusal → List ℕ → ℕ × ℕ × Desk
said_begun r w = (number_of r, reported r, desk_in w)

-- ---- begin

-- 12: "16 sessions open"; 13: "next is 32,576"
unfoldable pub begin_refusal : Areas → Desk → ℕ
begin_refusal a d =
    first_of
    ((bad_length a, 1)
    ∷ (not (sound d), 2)
    ∷ (eqb (open_count d.numbers) sessions, 12)
    ∷ (eqb d.next last_next, 13)
    ∷ [])

-- "Begin hands out the next number, with statement 0, and sets its status to 00"; "The status page's txn_id is the highest number
-- handed out; begin writes it"
unfoldable pub begin_rule : Areas → Desk → (ℕ × ℕ × Desk) × List ℕ
begin_rule a d =
    settle (begin_refusal a d)
    ((0, d.next, begun d), put_field txn_id 0 d.next (put_status d.next InWork a.status))
    (λ (n : ℕ). ((n, 0, d), a.status))

-- ---- next statement

-- 4: "session not open"; 18: "directly after 4"; 14: "statement is 65,535"
unfoldable pub next_refusal : Areas → Desk → ℕ → ℕ
next_refusal a d x =
    first_of
    ((bad_length a, 1)
    ∷ (not (sound d), 2)
    ∷ (not (is_open x d.numbers), 4)
    ∷ (is_spoiled x d, 18)
    ∷ (eqb (get_or d.statements (place_in x d.numbers) 0) last_statement, 14)
    ∷ [])

-- "Next statement adds 1"
unfoldable pub next_rule : Areas → Desk → ℕ → ℕ × Desk
next_rule a d x = settle (next_refusal a d x) (0, moved (place_in x d.numbers) d) (λ (n : ℕ). (n, d))

-- ---- commit

unfoldable pub commit_refusal : Areas → Desk → ℕ → ℕ
commit_refusal a d x =
    first_of ((bad_length a, 1) ∷ (not (sound d), 2) ∷ (not (is_open x d.numbers), 4) ∷ (is_spoiled x d, 18) ∷ [])

-- "Commit sets 01 and closes"
unfoldable pub commit_rule : Areas → Desk → ℕ → (ℕ × Desk) × List ℕ
commit_rule a d x =
    settle (commit_refusal a d x)
    ((0, closed (place_in x d.numbers) d), put_status x Committed a.status)
    (λ (n : ℕ). ((n, d), a.status))
