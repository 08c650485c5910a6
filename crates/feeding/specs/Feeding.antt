-- A script fed piece by piece ("01, The script and one whole run"): what one reading gives, and what answering it leaves. What stands in a
-- file no definition can say; what is done with what was read, these do. Assumes nothing.
use Rattle.std.specs.Prelude.{ℕ, zero, suc, ◌+◌, ◌≤◌, ◌≡◌, Bool, true, false, not, ◌&&◌, List, [], ◌∷◌, ◌++◌, length, take, drop, min, Option, Some, None, IfSome, eqb}
use Rattle.kind.specs.Areas.{Areas}
use Rattle.reply.specs.Reply.{longest as longest_answer}
use Rattle.script.specs.Script.{Carried, carried, output, Portion, run_rule}
use Rattle.feeding.specs.declared.Filled.{Filled}
use Rattle.feeding.specs.declared.Fed.{Fed}

-- ---- a reading

-- what a reading that answered `got` gave, into so much room behind the bytes kept: where it could be had, the text is longer by what was
-- counted, and no more comes exactly where nothing came
unfoldable pub filled_by : ℕ → Option ℕ → ℕ → Option Filled
filled_by kept (Some n) room = Some (record { end = kept + min n room; last = eqb (min n room) 0 })
filled_by kept None room = None

-- where a text ends behind what was kept: inside its buffer, and no more comes exactly where nothing came
pub record Behind (kept : ℕ) (before : List ℕ) (f : Filled) : Type 0 where
  pub begins : kept ≤ f.end
  pub within : f.end ≤ length before
  pub ends : f.last ≡ eqb f.end kept

-- what a reading leaves, whatever it answered: what was kept stands where it stood; and where it could be had, where the text ends
pub record Fills (kept : ℕ) (before behind : List ℕ) (r : Option Filled) : Type 0 where
  pub keeps : take kept behind ≡ take kept before
  pub given : IfSome r (Behind kept before)

-- ---- what is answered

-- how a text stands: what is carried along, and what of the text is left
pub record Stand : Type 0 where
  pub on : Carried
  pub left : List ℕ

abbrev pub stand : Carried → List ℕ → Stand
stand k text = record { on = k; left = text }

-- one run of what is left
abbrev pub run_of : Bool → ℕ → Stand → Portion
run_of last room s = run_rule s.on s.left last room

-- so many runs, each from where the one before it ended
unfoldable pub after : Bool → ℕ → Stand → ℕ → Stand
after last room s zero = s
after last room s (suc n) = stand (run_of last room (after last room s n)).on (drop (run_of last room (after last room s n)).taken (after last room s n).left)

-- and what they said
unfoldable pub said : Bool → ℕ → Stand → ℕ → List ℕ
said last room s zero = []
said last room s (suc n) = said last room s n ++ (run_of last room (after last room s n)).said

-- what serving a text leaves: some runs of it. Where all their answers were written, the last of them took nothing; then more text is read,
-- unless no more comes
pub record Serves (last : Bool) (room : ℕ) (s : Stand) (r : Fed) (left : Areas) : Type 0 where
  pub runs : ℕ
  pub carries : carried r.footing left ≡ (after last room s runs).on
  pub keeps : r.kept ≡ length (after last room s runs).left
  pub written : Bool
  pub more : r.more ≡ (written && not last)
  pub all : written ≡ true → (n : ℕ) × (runs ≡ suc n) × ((run_of last room (after last room s n)).taken ≡ 0)

abbrev pub is_none : List ℕ → Bool
is_none l = eqb (length l) 0

-- what a round leaves: some piece was read, behind what was kept; what is left of both stands at the front
pub record Rounds (k : Carried) (kept : ℕ) (before : List ℕ) (room : ℕ) (r : Fed) (left : Areas) (behind : List ℕ) : Type 0 where
  pub piece : List ℕ
  pub answers : Serves (is_none piece) room (stand k (take kept before ++ piece)) r left
  pub keeps : take r.kept behind ≡ (after (is_none piece) room (stand k (take kept before ++ piece)) answers.runs).left

-- ---- a text in pieces

-- one round: the piece that was read, and how many runs answered it
pub record Piece : Type 0 where
  pub read : List ℕ
  pub runs : ℕ

-- how it stands after a round, and what the round said: the piece is read behind what was kept
abbrev pub after_round : ℕ → Carried → List ℕ → Piece → Stand
after_round room k kept p = after (is_none p.read) room (stand k (kept ++ p.read)) p.runs

abbrev pub said_in : ℕ → Carried → List ℕ → Piece → List ℕ
said_in room k kept p = said (is_none p.read) room (stand k (kept ++ p.read)) p.runs

-- what was read in all, and what was said in all: each round goes on from what the one before it left
unfoldable pub read_all : List Piece → List ℕ
read_all [] = []
read_all (p ∷ ps) = p.read ++ read_all ps

unfoldable pub said_all : ℕ → Carried → List ℕ → List Piece → List ℕ
said_all room k kept [] = []
said_all room k kept (p ∷ ps) = said_in room k kept p ++ said_all room (after_round room k kept p).on (after_round room k kept p).left ps

-- to the end: the last piece is none, and the last run of it took nothing; the others are some
abbrev pub ToTheEnd : ℕ → Carried → List ℕ → List Piece → Type 0
ToTheEnd room k kept [] = ⊥
ToTheEnd room k kept (p ∷ []) =
    (is_none p.read ≡ true)
    × ((n : ℕ) × (p.runs ≡ suc n) × ((run_of true room (after true room (stand k (kept ++ p.read)) n)).taken ≡ 0))
ToTheEnd room k kept (p ∷ p₁ ∷ ps) =
    (is_none p.read ≡ false) × ToTheEnd room (after_round room k kept p).on (after_round room k kept p).left (p₁ ∷ ps)

-- what is said in all is the output of what was read in all, whatever its pieces: "left of the arrow the input, right of it the whole output"
abbrev pub WholeOutput : Type 0
WholeOutput =
    (room : ℕ) (k : Carried) (kept : List ℕ) (ps : List Piece)
    → longest_answer ≤ room
    → ToTheEnd room k kept ps
    → said_all room k kept ps ≡ output k (kept ++ read_all ps)
