-- Lines one after the other are calls one after the other on the world behind them; so from an accepted format on they are a run of
-- history. Assumes nothing.
use mathlib.Core.Path.{◌≡◌, refl, sym, ap, ap₂, subst, ◌∙◌}
use mathlib.Core.Bool.{Bool, true, false, ◌||◌, cond, or-true}
use mathlib.Core.Logic.{◌⊎◌, inl, inr}
use mathlib.Core.Option.{Option, none, some}
use mathlib.Core.List.{List, [], ◌∷◌, ◌++◌, append_assoc}
use Prim.Native.Nat.{ℕ}
use lib.Dec.{eqb}
use borrow.Author.Tests.{eqb-true}
use Rattle.ground.proofs.Ranges.{and_true_left, and_true_right}
use Rattle.little.specs.Little.{Bytes}
use Rattle.little.proofs.AllBytes.{bytes_zeros}
use Rattle.kind.specs.Areas.{Areas}
use Rattle.chain.specs.Walk.{body_of}
use Rattle.machine.specs.Table.{Body}
use Rattle.machine.specs.Lines.{Call, format, is_done}
use Rattle.history.specs.World.{World, answered, step, after, after_all}
use Rattle.history.specs.Asked.{AllProper}
use Rattle.history.specs.Since.{accepted as accepted_in, formats as formats_in, Since}
use Rattle.history.proofs.Since.{since}
use Rattle.line.specs.declared.Verb.{Verb}
use Rattle.line.specs.declared.Verb.TheVariants.{Format, Open, Seal, Begin, Next, Insert, Update, Delete, Read, Commit, Withdraw, Sweep, IllFormed}
use Rattle.line.specs.declared.Command.{Command}
use Rattle.line.specs.Line.{command_of, command, ill, Proper}
use Rattle.line.proofs.Said.{line_proper}
use Rattle.playing.specs.Playing.{play_rule}
use Rattle.script.specs.Script.{is_format, Carried, left_in, line_in, stepped, command_in, answers, lent_to}
use Rattle.scripted.specs.Scripted.{world_in, call_by, made, after_line, onward, said_by, made_in, printed_all, and_then, calls_in, history_in, accepted, formats}
use Rattle.scripted.proofs.Steps.{only_format, line_step}

-- ---- the world

first_call : (w : World) (o : Option Call) (cs : List Call) → after_all (after_line w o) cs ≡ after_all w (and_then o cs)
first_call w none cs = refl
first_call w (some c) cs = refl

-- the world behind lines is the world that their calls lead to
pub world_lines : (ls : List (List ℕ)) (k : Carried) → world_in (onward k ls) ≡ after_all (world_in k) (calls_in k ls)
world_lines [] k = refl
world_lines (l ∷ ls) k =
    world_lines ls (stepped k (command_in k l))
    ∙ ap (λ (w : World). after_all w (calls_in (stepped k (command_in k l)) ls)) (line_step k (command_in k l)).0
    ∙ first_call (world_in k) (made k (command_in k l)) (calls_in (stepped k (command_in k l)) ls)

-- ---- the output

-- what lines print is what their calls answer on the world behind them
pub said_lines : (ls : List (List ℕ)) (k : Carried) → said_by k ls ≡ printed_all (world_in k) (made_in k ls)
said_lines [] k = refl
said_lines (l ∷ ls) k =
    ap₂ ◌++◌ (line_step k (command_in k l)).1
    (said_lines ls (stepped k (command_in k l))
    ∙ ap (λ (w : World). printed_all w (made_in (stepped k (command_in k l)) ls)) (line_step k (command_in k l)).0)

-- what the lines print stands before the rest of the output
pub answers_behind : (ls : List (List ℕ)) (k : Carried) (m : List ℕ) (ms : List (List ℕ))
    → answers k (ls ++ (m ∷ ms)) ≡ said_by k ls ++ answers (onward k ls) (m ∷ ms)
unfolding answers
answers_behind [] k m ms = refl
answers_behind (l ∷ ls) k m ms =
    first ls
    ∙ ap (λ (s : List ℕ). line ++ s) (answers_behind ls on m ms)
    ∙ sym (append_assoc line (said_by on ls) (answers (onward on ls) (m ∷ ms)))
  where
    on : Carried
    on = stepped k (command_in k l)

    line : List ℕ
    line = line_in k (command_in k l)

    -- it is not the last
    first : (ls : List (List ℕ)) → answers k (l ∷ (ls ++ (m ∷ ms))) ≡ line ++ answers on (ls ++ (m ∷ ms))
    first [] = refl
    first (n ∷ ls) = refl

-- ---- bodies are bytes

command_bytes : (k : Carried) (l : List ℕ) → Bytes (command_in k l).body
command_bytes k l = by k.footing.long
  where
    said : (command_of l ≡ ill) ⊎ Proper (command_of l) → Bytes (command_of l).body
    said (inl e) = subst (λ (c : Command). Bytes c.body) (sym e) (bytes_zeros 32)
    said (inr p) = p.body_bytes

    by : (b : Bool) → Bytes (cond b ill (command_of l)).body
    by true = bytes_zeros 32
    by false = said (line_proper l)

module _ (a : Areas) (x y : ℕ) (body : Body) (b : Bytes body) (cs : List Call) (p : AllProper cs) where
  proper_then : (v : Verb) → AllProper (and_then (call_by v a x y body) cs)
  proper_then Format = (tt, p)
  proper_then Open = (tt, p)
  proper_then Seal = (tt, p)
  proper_then Begin = (tt, p)
  proper_then Next = (tt, p)
  proper_then Insert = (b, p)
  proper_then Update = (b, p)
  proper_then Delete = (tt, p)
  proper_then Read = (tt, p)
  proper_then Commit = (tt, p)
  proper_then Withdraw = (tt, p)
  proper_then Sweep = (tt, p)
  proper_then IllFormed = p

pub all_proper_lem : (ls : List (List ℕ)) (k : Carried) → AllProper (calls_in k ls)
all_proper_lem [] k = tt
all_proper_lem (l ∷ ls) k =
    let c = command_in k l in
    proper_then (lent_to k c) c.first c.second c.body (command_bytes k l) (calls_in (stepped k c) ls) (all_proper_lem ls (stepped k c)) c.verb

-- ---- from an accepted format

-- a line that is an accepted format makes one on the world behind it
module _ (k : Carried) (cs : List Call) where
  formats_here : (x y : ℕ) (body : Body) → (left_in k (command Format x y body)).code ≡ 0
      → formats_in (world_in k) (and_then (made k (command Format x y body)) cs) ≡ true
  unfolding step left_in play_rule body_of
  formats_here x y body code =
      ap (λ (n : ℕ). is_done (answered n 0 0 []) || formats_in (after (world_in k) (format a.«data» a.undo a.status)) cs) code
    where
      a : Areas
      a = lent_to k (command Format x y body)

  formats_now : (v : Verb) (x y : ℕ) (body : Body) → is_format v ≡ true → (left_in k (command v x y body)).code ≡ 0
      → formats_in (world_in k) (and_then (made k (command v x y body)) cs) ≡ true
  formats_now v x y body f =
      subst (λ (v : Verb). (left_in k (command v x y body)).code ≡ 0 → formats_in (world_in k) (and_then (made k (command v x y body)) cs) ≡ true)
      (sym (only_format v f)) (formats_here x y body)

-- or a later one does
formats_later : (w : World) (o : Option Call) (cs : List Call) → formats_in (after_line w o) cs ≡ true → formats_in w (and_then o cs) ≡ true
formats_later w none cs e = e
formats_later w (some c) cs e = ap (λ (b : Bool). accepted_in w c || b) e ∙ or-true (accepted_in w c)

formats_calls : (ls : List (List ℕ)) (k : Carried) → formats k ls ≡ true → formats_in (world_in k) (calls_in k ls) ≡ true
formats_calls [] k e = e
formats_calls (l ∷ ls) k e = by (accepted k c) refl e (formats_calls ls (stepped k c))
  where
    c : Command
    c = command_in k l

    by : (b : Bool) → accepted k c ≡ b → (b || formats (stepped k c) ls) ≡ true
        → (formats (stepped k c) ls ≡ true → formats_in (world_in (stepped k c)) (calls_in (stepped k c) ls) ≡ true)
        → formats_in (world_in k) (and_then (made k c) (calls_in (stepped k c) ls)) ≡ true
    by true f e ih =
        formats_now k (calls_in (stepped k c) ls) c.verb c.first c.second c.body
        (and_true_left (is_format c.verb) (eqb (left_in k c).code 0) f)
        (eqb-true (left_in k c).code 0 (and_true_right (is_format c.verb) (eqb (left_in k c).code 0) f))
    by false f e ih =
        formats_later (world_in k) (made k c) (calls_in (stepped k c) ls)
        (ap (λ (w : World). formats_in w (calls_in (stepped k c) ls)) (sym (line_step k c).0) ∙ ih e)

-- lines of which one is an accepted format are a run of history, with the history that they say
pub script_run : (k : Carried) (ls : List (List ℕ)) → formats k ls ≡ true → Since (world_in (onward k ls)) (history_in k ls)
script_run k ls e =
    subst (λ (w : World). Since w (history_in k ls)) (sym (world_lines ls k))
    (since (world_in k) (calls_in k ls) (all_proper_lem ls k) (formats_calls ls k e))
