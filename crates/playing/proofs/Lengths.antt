-- How long the answer of a call is: at most 88 bytes, of every rule ("01, The script and one whole run"). Numbers have at most 20 digits, and
-- the body that a read hands back at most 32 bytes. Assumes nothing.
use Prim.Native.Nat.{ℕ, ◌≤◌}
use mathlib.Core.List.{List}
use lib.ListN.{length}
use Rattle.answer.specs.declared.Refusal.TheVariants.{IllFormed as Ill}
use Rattle.answer.specs.Code.{code_of}
use Rattle.desk.specs.declared.Desk.{Desk}
use Rattle.kind.specs.Areas.{Areas}
use Rattle.chain.specs.Walk.{body_of}
use Rattle.chain.proofs.Bodies.{body_most}
use Rattle.keep.specs.Keep.{format_rule, open_rule, seal_rule}
use Rattle.turns.specs.Turns.{begin_rule, next_rule, commit_rule}
use Rattle.rows.specs.Rows.{insert_rule, update_rule, delete_rule, read_rule}
use Rattle.undoing.specs.Undoing.{withdraw_rule}
use Rattle.sweeping.specs.Sweeping.{sweep_rule}
use Rattle.line.specs.declared.Verb.{Verb}
use Rattle.line.specs.declared.Verb.TheVariants.{Format, Open, Seal, Begin, Next, Insert, Update, Delete, Read, Commit, Withdraw, Sweep, IllFormed}
use Rattle.line.specs.declared.Command.{Command}
use Rattle.reply.specs.Reply.{longest}
use Rattle.reply.proofs.Sayings.{answer_length_plain, answer_length_numbered, answer_length_paired, answer_length_bodied}
use Rattle.playing.specs.Playing.{line_of, played_by, play_rule}

module _ (a : Areas) (d : Desk) (x y : ℕ) (body : List ℕ) where
  played_most : (v : Verb) → length (line_of v (played_by v a d x y body)) ≤ longest
  unfolding longest
  played_most Format = answer_length_plain (format_rule a).0.0
  played_most Open = answer_length_plain (open_rule a).0
  played_most Seal = answer_length_plain (seal_rule a d).0
  played_most Begin = answer_length_numbered (begin_rule a d).0.0 (begin_rule a d).0.1
  played_most Next = answer_length_plain (next_rule a d x).0
  played_most Insert = answer_length_numbered (insert_rule a d x body).0.0 (insert_rule a d x body).0.1
  played_most Update = answer_length_plain (update_rule a d x y body).0.0
  played_most Delete = answer_length_plain (delete_rule a d x y).0.0
  played_most Read =
      let place = (read_rule a d x y).1 in
      answer_length_bodied (read_rule a d x y).0 (read_rule a d x y).2 (body_of place a.«data» a.undo) (body_most place a.«data» a.undo)
  played_most Commit = answer_length_plain (commit_rule a d x).0.0
  played_most Withdraw = answer_length_plain (withdraw_rule a d x).0.0
  played_most Sweep = answer_length_paired (sweep_rule a d x y).0.0 (sweep_rule a d x y).0.1 (sweep_rule a d x y).0.2
  played_most IllFormed = answer_length_plain (code_of Ill)

pub answer_most : (a : Areas) (d : Desk) (c : Command) → length (line_of c.verb (play_rule a d c)) ≤ longest
unfolding play_rule
answer_most a d c = played_most a d c.first c.second c.body c.verb
