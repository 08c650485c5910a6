-- A played call, from what its own function ensures and from what is said of it. Assumes nothing.
use Prim.Native.Nat.{ℕ, ◌+◌}
use mathlib.Core.Path.{◌≡◌, ap, subst, subst⁻¹, ◌∙◌}
use mathlib.Core.List.{List}
use lib.ListN.{length}
use lib.Seq.{sets}
use Rattle.desk.specs.declared.Desk.{Desk}
use Rattle.kind.specs.Areas.{Areas}
use Rattle.line.specs.declared.Verb.{Verb}
use Rattle.line.specs.declared.Command.{Command}
use Rattle.reply.specs.Reply.{answer_line, Says}
use Rattle.playing.specs.declared.Played.{Played}
use Rattle.calls.specs.Calls.{Left}
use Rattle.playing.specs.Playing.{played_by, play_rule, fields_of, line_of, Plays}

pub plays : {v : Verb} (l : Left) (at : ℕ) (buffer : List ℕ) (r : Played) (left : Areas) (behind : List ℕ) (fields : List (List ℕ))
    → r.code ≡ l.code
    → fields ≡ fields_of v l
    → r.desk ≡ l.desk
    → left ≡ l.lent
    → Says (answer_line r.code fields) at buffer r.end behind
    → Plays v l at buffer r left behind
plays {v} l at buffer r left behind fields code said desk leaves says =
    record {
      answers = code;
      hands = desk;
      ends = says.ends ∙ ap (λ (x : List ℕ). at + length x) line;
      leaves = leaves;
      writes = says.leaves ∙ ap (sets buffer at) line;
      within = says.within;
    }
  where
    line : answer_line r.code fields ≡ line_of v l
    line = ap (λ (n : ℕ). answer_line n fields) code ∙ ap (answer_line l.code) said

-- the call of the desk that the words say is the call of the desk that they were made of
pub on_desk_lem : (rule : Desk → Left) {v : Verb} {d e : Desk} {at : ℕ} {buffer : List ℕ} {r : Played} {left : Areas} {behind : List ℕ}
    → d ≡ e
    → Plays v (rule d) at buffer r left behind
    → Plays v (rule e) at buffer r left behind
on_desk_lem rule {v = v} {at = at} {buffer} {r} {left} {behind} same played = subst (λ (d : Desk). Plays v (rule d) at buffer r left behind) same played

-- a call, by its name
pub play_by : (v : Verb) (a : Areas) (d : Desk) (c : Command) (at : ℕ) (buffer : List ℕ) (r : Played) (left : Areas) (behind : List ℕ)
    → c.verb ≡ v
    → Plays v (played_by v a d c.first c.second c.body) at buffer r left behind
    → Plays c.verb (play_rule a d c) at buffer r left behind
unfolding play_rule
play_by v a d c at buffer r left behind is played =
    subst⁻¹ (λ (w : Verb). Plays w (played_by w a d c.first c.second c.body) at buffer r left behind) is played
