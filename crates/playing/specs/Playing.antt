-- What a call of a script leaves and answers ("01, The script and one whole run"): the call that its name says, and its answer as a line. Assumes
-- nothing.
use Rattle.std.specs.Prelude.{ℕ, ◌+◌, ◌≤◌, ◌≡◌, List, [], ◌∷◌, length}
use Rattle.std.proofs.lemmas.List.Edits.{sets}
use Rattle.answer.specs.declared.Refusal.TheVariants.{IllFormed as Ill}
use Rattle.answer.specs.Code.{code_of}
use Rattle.desk.specs.declared.Desk.{Desk}
use Rattle.kind.specs.Areas.{Areas}
use Rattle.calls.specs.Calls.{Left, bare, body, format_leaves, open_leaves, seal_leaves, begin_leaves, next_leaves, insert_leaves, update_leaves, delete_leaves, read_leaves, commit_leaves, withdraw_leaves, sweep_leaves}
use Rattle.numeral.specs.Numeral.{numeral_of, hex_of}
use Rattle.line.specs.declared.Verb.{Verb}
use Rattle.line.specs.declared.Verb.TheVariants.{Format, Open, Seal, Begin, Next, Insert, Update, Delete, Read, Commit, Withdraw, Sweep, IllFormed}
use Rattle.line.specs.declared.Command.{Command}
use Rattle.reply.specs.Reply.{answer_line}
use Rattle.playing.specs.declared.Played.{Played}

-- "answers one 16 and does nothing"
abbrev pub ill_leaves : Areas → Desk → Left
ill_leaves a d = bare (code_of Ill) a d

-- what the call leaves that a name says
abbrev pub played_by : Verb → Areas → Desk → ℕ → ℕ → List ℕ → Left
played_by Format a d x y body = format_leaves a d
played_by Open a d x y body = open_leaves a d
played_by Seal a d x y body = seal_leaves a d
played_by Begin a d x y body = begin_leaves a d
played_by Next a d x y body = next_leaves a d x
played_by Insert a d x y body = insert_leaves a d x body
played_by Update a d x y body = update_leaves a d x y body
played_by Delete a d x y body = delete_leaves a d x y
played_by Read a d x y body = read_leaves a d x y
played_by Commit a d x y body = commit_leaves a d x
played_by Withdraw a d x y body = withdraw_leaves a d x
played_by Sweep a d x y body = sweep_leaves a d x y
played_by IllFormed a d x y body = ill_leaves a d

unfoldable pub play_rule : Areas → Desk → Command → Left
play_rule a d c = played_by c.verb a d c.first c.second c.body

-- "begin the number, insert the row, read count and body, sweep next row and removed, the rest none"
abbrev pub number : ℕ → List (List ℕ)
number n = numeral_of n ∷ []

abbrev pub fields_of : Verb → Left → List (List ℕ)
fields_of Format l = []
fields_of Open l = []
fields_of Seal l = []
fields_of Begin l = number l.first
fields_of Next l = []
fields_of Insert l = number l.first
fields_of Update l = []
fields_of Delete l = []
fields_of Read l = numeral_of l.first ∷ hex_of (body l) ∷ []
fields_of Commit l = []
fields_of Withdraw l = []
fields_of Sweep l = numeral_of l.first ∷ numeral_of l.second ∷ []
fields_of IllFormed l = []

-- its line
abbrev pub line_of : Verb → Left → List ℕ
line_of v l = answer_line l.code (fields_of v l)

-- what a played call leaves is that: code and desk, the areas, and its line at a place of the buffer, inside it
pub record Plays (v : Verb) (l : Left) (at : ℕ) (buffer : List ℕ) (r : Played) (left : Areas) (behind : List ℕ) : Type 0 where
  pub answers : r.code ≡ l.code
  pub hands : r.desk ≡ l.desk
  pub ends : r.end ≡ at + length (line_of v l)
  pub leaves : left ≡ l.lent
  pub writes : behind ≡ sets buffer at (line_of v l)
  pub within : r.end ≤ length buffer
