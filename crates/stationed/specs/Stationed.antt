-- The calls of the station's library, one after the other, as a history ("01, What the station lends, and who decides"): the "three lent areas" and
-- the desk's words go into each call as the one before left them, and what a program is told is what it can take from the call's number, its out
-- array and the place of a body. Assumes nothing.
use Rattle.std.specs.Prelude.{ℕ, ◌<◌, ◌≡◌, Bool, true, false, ◌&&◌, ◌||◌, cond, List, [], ◌∷◌, length, get_or, take, drop, eqb}
use Rattle.ground.specs.Refuse.{kept}
use Rattle.kind.specs.Kind.{rows}
use Rattle.kind.specs.Areas.{Areas, areas}
use Rattle.columns.specs.Limits.{last_statement}
use Rattle.desk.specs.Sound.{sound}
use Rattle.words.specs.Words.{all_words, desk_in}
use Rattle.machine.specs.Table.{Body, History, plain_table, open_in}
use Rattle.machine.specs.Lines.{Call, format, opens, seal, begin, next, insert, update, delete, read, commit, withdraw, sweep, Verdict, is_done, is_format, Line, history_of}
use Rattle.history.specs.World.{World, world, answered}
use Rattle.history.specs.Asked.{AllProper, Matches}
use Rattle.station.specs.Station.{Handed, format_call, open_call, seal_call, begin_call, next_call, insert_call, update_call, delete_call, read_call, commit_call, withdraw_call, sweep_call}

-- what a station's program holds between two calls: the areas that it lends, and the words of the desk
pub record Held : Type 0 where
  pub lent : Areas
  pub words : List ℕ

abbrev pub held : Areas → List ℕ → Held
held a w = record { lent = a; words = w }

-- ---- one call

-- the function that a call is made by, on what is held: its number, and what it leaves. A format is lent areas of its own choice
abbrev pub asked : Held → Call → ℕ × Handed
asked h (format d u s) = format_call (areas d u s) h.words
asked h opens = open_call h.lent h.words
asked h seal = seal_call h.lent h.words
asked h begin = begin_call h.lent h.words
asked h (next x) = next_call h.lent h.words x
asked h (insert x y) = insert_call h.lent h.words x y
asked h (update x q y) = update_call h.lent h.words x q y
asked h (delete x q) = delete_call h.lent h.words x q
asked h (read x q) = read_call h.lent h.words x q
asked h (commit x) = commit_call h.lent h.words x
asked h (withdraw x) = withdraw_call h.lent h.words x
asked h (sweep first quota) = sweep_call h.lent h.words first quota

-- what is held then: what the call left; where a format is refused, the areas of before
abbrev pub lent_after : Held → Call → Areas
lent_after h c = cond (is_format c) (kept (asked h c).0 (asked h c).1.lent h.lent) (asked h c).1.lent

abbrev pub onward : Held → Call → Held
onward h c = held (lent_after h c) (asked h c).1.words

-- "handed back where it lies, in the data area or the undo area": the 32 bytes at the place that read reports, 1 for data and 2 for undo
abbrev pub bytes_at : ℕ → ℕ → Areas → Body
bytes_at area at a = cond (eqb area 1) (take 32 (drop at a.«data»)) (cond (eqb area 2) (take 32 (drop at a.undo)) [])

-- what is told: refused under its number where that is not 0; else "begin the number, insert the row, read count and body, sweep next row and
-- removed, the rest none", from the out array
abbrev pub told_by : Call → ℕ → List ℕ → Areas → Verdict
told_by (format d u s) n out a = answered n 0 0 []
told_by opens n out a = answered n 0 0 []
told_by seal n out a = answered n 0 0 []
told_by begin n out a = answered n (get_or out 0 0) 0 []
told_by (next x) n out a = answered n 0 0 []
told_by (insert x y) n out a = answered n (get_or out 0 0) 0 []
told_by (update x q y) n out a = answered n 0 0 []
told_by (delete x q) n out a = answered n 0 0 []
told_by (read x q) n out a = answered n (get_or out 0 0) 0 (bytes_at (get_or out 1 0) (get_or out 2 0) a)
told_by (commit x) n out a = answered n 0 0 []
told_by (withdraw x) n out a = answered n 0 0 []
told_by (sweep first quota) n out a = answered n (get_or out 0 0) (get_or out 1 0) []

abbrev pub told : Held → Call → Verdict
told h c = told_by c (asked h c).0 (asked h c).1.reported (asked h c).1.lent

-- the world behind what is held: the areas, and the desk that the words say
abbrev pub world_of : Held → World
world_of h = world h.lent (desk_in h.words)

-- the words are as many as a desk has, as the functions' types say
abbrev pub Worded : Held → Type 0
Worded h = length h.words ≡ all_words

-- ---- calls one after the other, each given what the one before left

abbrev pub onward_all : Held → List Call → Held
onward_all h [] = h
onward_all h (c ∷ cs) = onward_all (onward h c) cs

-- what a program that keeps a record of its calls has: each with what it was told
abbrev pub record_of : Held → List Call → List Line
record_of h [] = []
record_of h (c ∷ cs) = record { call = c; answer = told h c } ∷ record_of (onward h c) cs

abbrev pub history_by : Held → List Call → History
history_by h cs = history_of (record_of h cs)

-- one of the calls is a format, and is accepted
abbrev pub formatted : Held → List Call → Bool
formatted h [] = false
formatted h (c ∷ cs) = (is_format c && is_done (told h c)) || formatted (onward h c) cs

-- DEMAND 3, OF THE STATION: behind any calls of the twelve functions of which one is an accepted format, each given what the one before left,
-- chirimok_read of an open session reports a place at which the plain table's body lies, and answers 7 where the table has none. The table
-- is that of the program's own record
abbrev pub StationReading : Type 0
StationReading = (h : Held) → Worded h → (cs : List Call) → AllProper cs → formatted h cs ≡ true
    → (n : ℕ) → open_in (history_by h cs) n ≡ true
    → (r : ℕ) → r < rows (onward_all h cs).lent.«data»
    → Matches (plain_table (history_by h cs) n r) (told (onward_all h cs) (read n r))

-- ---- a word that does not fit

-- "its statement (0 to 65,535)" is the largest number that a desk has: words of which one is above it, next, a number, a statement, a mark or a member
-- of a list, say an unsound desk, and so every call that asks for a desk answers 2 ("01, Sessions and sight": "Anything else is an unsound desk")
abbrev pub WideUnsound : Type 0
WideUnsound = (w : List ℕ) (i : ℕ) → i < all_words → last_statement < get_or w i 0 → sound (desk_in w) ≡ false
