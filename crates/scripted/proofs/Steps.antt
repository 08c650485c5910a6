-- Each line of a script is a step of the world behind it: its call does to the world what the line does, and answers what the line prints;
-- an ill-formed line prints 16 and leaves the world. Of anything carried, before a format or behind one. Assumes nothing.
use Prim.Native.Nat.{ℕ, zero, suc, ◌≤◌}
use native.Mathlib.Omega.{arith}
use mathlib.Core.Path.{◌≡◌, refl, sym, ap, subst, ◌∙◌}
use mathlib.Core.Bool.{Bool, true, false, ◌&&◌, cond}
use mathlib.Core.Option.{Option, none, some}
use mathlib.Core.List.{List, [], ◌++◌}
use lib.ListN.{length, take, drop, length-append, length-drop}
use lib.Seq.{length-take-le, take-append-le, take_all}
use lib.Dec.{eqb, leb}
use borrow.Author.Tests.{eqb-true, eqb-false, le-leb}
use Rattle.ground.specs.Refuse.{settle}
use Rattle.kind.specs.Areas.{Areas, areas}
use Rattle.desk.specs.declared.Desk.{Desk}
use Rattle.keep.specs.Keep.{format_rule}
use Rattle.keep.proofs.Promises.{format_accepted}
use Rattle.calls.specs.Calls.{Left, body as body_in, format_leaves}
use Rattle.machine.specs.Table.{Body}
use Rattle.machine.specs.Lines.{Call, format, is_format as is_format_call}
use Rattle.history.specs.World.{World, world, answered, left_by, verdict_of, world_after, step, after}
use Rattle.line.specs.declared.Verb.{Verb}
use Rattle.line.specs.declared.Verb.TheVariants.{Format, Open, Seal, Begin, Next, Insert, Update, Delete, Read, Commit, Withdraw, Sweep, IllFormed}
use Rattle.line.specs.declared.Command.{Command}
use Rattle.reply.specs.Reply.{answer_line}
use Rattle.reply.proofs.Sayings.{answer_refused}
use Rattle.playing.specs.Playing.{ill_leaves, played_by, fields_of, line_of, play_rule}
use Rattle.line.specs.Line.{ill, command}
use Rattle.script.specs.Script.{named, is_format, lent, data_lent, undo_lent, Carried, left_in, line_in, stepped, lent_to}
use Rattle.script.proofs.Promises.{refused_leaves}
use Rattle.script.proofs.Steps.{lent_inside}
use Rattle.machine.proofs.Basics.{true_false}
use Rattle.scripted.specs.Scripted.{world_in, call_by, made, fields_for, line_for, after_line, printed, Follows, accepted}
use Rattle.scripted.proofs.Lengths.{Stay, format_stay, step_stay}

-- ---- what a line prints

-- the line of an answer, by the number that a rule gives
line_answered : (c : Call) (n a b : ℕ) (y : Body) → answer_line n (fields_for c a b y) ≡ line_for c (answered n a b y)
line_answered c zero a b y = refl
line_answered c (suc n) a b y = answer_refused (suc n) (fields_for c a b y) (λ e. omega (arith, e))

-- what the world of a call is where it is no format
plain_after : (w : World) (c : Call) → is_format_call c ≡ false → world_after (left_by w c) ≡ after w c
unfolding step
plain_after w c f =
    ap (λ (b : Bool). cond b (settle (left_by w c).code (world_after (left_by w c)) (λ (n : ℕ). w)) (world_after (left_by w c))) (sym f)

-- ---- the call that a name says

module _ (a : Areas) (d : Desk) (x y : ℕ) (body : List ℕ) where
  abbrev w : World
  w = world a d

  abbrev leaves : Verb → Left
  leaves v = played_by v a d x y body

  -- what the call leaves that a line makes, the fields of its answer, and whether it is a format; where it makes none, as an ill-formed line
  abbrev left_for : Option Call → Left
  left_for none = ill_leaves a d
  left_for (some c) = left_by w c

  abbrev fields_in : Option Call → Left → List (List ℕ)
  fields_in none l = []
  fields_in (some c) l = fields_for c l.first l.second (body_in l)

  abbrev format_in : Option Call → Bool
  format_in none = false
  format_in (some c) = is_format_call c

  -- by its name it is the same
  abbrev Makes : Verb → Option Call → Type 0
  Makes v o = (leaves v ≡ left_for o) × (fields_of v (leaves v) ≡ fields_in o (leaves v)) × (format_in o ≡ is_format v)

  makes : (v : Verb) → Makes v (call_by v a x y body)
  makes Format = (refl, refl, refl)
  makes Open = (refl, refl, refl)
  makes Seal = (refl, refl, refl)
  makes Begin = (refl, refl, refl)
  makes Next = (refl, refl, refl)
  makes Insert = (refl, refl, refl)
  makes Update = (refl, refl, refl)
  makes Delete = (refl, refl, refl)
  makes Read = (refl, refl, refl)
  makes Commit = (refl, refl, refl)
  makes Withdraw = (refl, refl, refl)
  makes Sweep = (refl, refl, refl)
  makes IllFormed = (refl, refl, refl)

  -- what it prints
  made_line : (v : Verb) (o : Option Call) → Makes v o → line_of v (leaves v) ≡ printed w o
  unfolding step
  made_line v none m = ap (answer_line (leaves v).code) m.1 ∙ ap (λ (l : Left). answer_line l.code []) m.0
  made_line v (some c) m =
      ap (answer_line (leaves v).code) m.1
      ∙ line_answered c (leaves v).code (leaves v).first (leaves v).second (body_in (leaves v))
      ∙ ap (λ (l : Left). line_for c (verdict_of l)) m.0

  -- a format's answer goes by the areas that it is given, any other's by the world
  format_line : (w' : World) → line_of Format (leaves Format) ≡ printed w' (call_by Format a x y body)
  unfolding step
  format_line w' = made_line Format (call_by Format a x y body) (makes Format)

  -- what it leaves
  made_world : (v : Verb) (o : Option Call) → Makes v o → is_format v ≡ false → world_after (leaves v) ≡ after_line w o
  made_world v none m f = ap world_after m.0
  made_world v (some c) m f = ap world_after m.0 ∙ plain_after w c (m.2 ∙ f)

  -- as long as it was lent
  made_stay : (v : Verb) (o : Option Call) → Makes v o → is_format v ≡ false → Stay a (after_line w o).held
  made_stay v none m f = (refl, refl)
  made_stay v (some c) m f = step_stay w c (m.2 ∙ f)

-- ---- what is carried on from it

-- as much is lent of an area as long
same_lent : (h : ℕ) (s t : List ℕ) → length t ≡ length s → lent h t ≡ lent h s
unfolding lent
same_lent h s t e = ap (λ (n : ℕ). cond (leb h n) h 0) e

-- what was lent stays lent, and lies before what was not
part_on : (h n : ℕ) (l d : List ℕ) → lent h d ≡ n → length l ≡ length (take n d) → take (lent h (l ++ drop n d)) (l ++ drop n d) ≡ l
part_on h n l d e long =
    let inside : n ≤ length d = lent_inside n h d (sym e) in
    let all : length l ≡ n = long ∙ length-take-le n d inside in
    let whole : length (l ++ drop n d) ≡ length d = length-append l (drop n d) ∙ omega (arith, inside, all, length-drop n d) in
    ap (λ (m : ℕ). take m (l ++ drop n d)) (same_lent h d (l ++ drop n d) whole ∙ e)
    ∙ take-append-le n l (drop n d) (omega (arith, all))
    ∙ take_all n l (omega (arith, all))

module _ (k : Carried) (c : Command) where
  -- what it is lent of data and undo, and what it does
  abbrev data_part : ℕ
  data_part = data_lent c k.footing k.lent.«data»

  abbrev undo_part : ℕ
  undo_part = undo_lent c k.footing k.lent.undo

  abbrev does : Left
  does = left_in k c

  -- the world behind it is what the call left
  world_on : Stay (lent_to k c) does.lent
      → lent (cond (accepted k c) data_part k.footing.«data») k.lent.«data» ≡ data_part
      → lent (cond (accepted k c) undo_part k.footing.undo) k.lent.undo ≡ undo_part
      → world_in (stepped k c) ≡ world does.lent does.desk
  unfolding stepped data_lent undo_lent
  world_on stay e f =
      ap (λ (s : List ℕ). world (areas s (take (lent (cond (accepted k c) undo_part k.footing.undo) left) left) does.lent.status) does.desk)
      (part_on (cond (accepted k c) data_part k.footing.«data») data_part does.lent.«data» k.lent.«data» e stay.0)
      ∙ ap (λ (s : List ℕ). world (areas does.lent.«data» s does.lent.status) does.desk)
      (part_on (cond (accepted k c) undo_part k.footing.undo) undo_part does.lent.undo k.lent.undo f stay.1)
    where
      left : List ℕ
      left = does.lent.undo ++ drop undo_part k.lent.undo

  -- ---- a call that is no format

  module _ (f : is_format c.verb ≡ false) where
    -- is lent what the world has
    lent_same : lent_to k c ≡ lent_to k ill
    unfolding data_lent undo_lent
    lent_same = ap
        (λ (b : Bool). areas
        (take (lent (cond b (named c.first) k.footing.«data») k.lent.«data») k.lent.«data»)
        (take (lent (cond b (named c.second) k.footing.undo) k.lent.undo) k.lent.undo)
        k.lent.status) f

    named_same : (h s : ℕ) (d : List ℕ) (x : ℕ) → x ≡ lent (cond (is_format c.verb) h s) d → lent (cond (accepted k c) x s) d ≡ x
    named_same h s d x e =
        ap (λ (b : Bool). lent (cond (b && eqb does.code 0) x s) d) f ∙ ap (λ (b : Bool). lent (cond b h s) d) (sym f) ∙ sym e

    plain_world : world_in (stepped k c) ≡ after_line (world_in k) (made k c)
    unfolding left_in play_rule data_lent undo_lent
    plain_world =
        world_on stay (named_same (named c.first) k.footing.«data» k.lent.«data» data_part refl)
        (named_same (named c.second) k.footing.undo k.lent.undo undo_part refl)
        ∙ done
        ∙ ap (λ (a : Areas). after_line (world a k.footing.desk) (made k c)) lent_same
      where
        it : Makes (lent_to k c) k.footing.desk c.first c.second c.body c.verb (made k c)
        it = makes (lent_to k c) k.footing.desk c.first c.second c.body c.verb

        done : world does.lent does.desk ≡ after_line (world (lent_to k c) k.footing.desk) (made k c)
        done = made_world (lent_to k c) k.footing.desk c.first c.second c.body c.verb (made k c) it f

        stay : Stay (lent_to k c) does.lent
        stay =
            subst (λ (w : World). Stay (lent_to k c) w.held) (sym done)
            (made_stay (lent_to k c) k.footing.desk c.first c.second c.body c.verb (made k c) it f)

    plain_line : line_in k c ≡ printed (world_in k) (made k c)
    unfolding left_in play_rule
    plain_line =
        made_line (lent_to k c) k.footing.desk c.first c.second c.body c.verb (made k c)
        (makes (lent_to k c) k.footing.desk c.first c.second c.body c.verb)
        ∙ ap (λ (a : Areas). printed (world a k.footing.desk) (made k c)) lent_same

-- ---- a format

-- what is lent can be lent again
lent_again : (n h : ℕ) (d : List ℕ) → n ≡ lent h d → lent n d ≡ n
unfolding lent
lent_again n h d e = ap (λ (b : Bool). cond b n 0) (le-leb n (length d) (lent_inside n h d e))

module _ (k : Carried) (x y : ℕ) (body : List ℕ) where
  abbrev c : Command
  c = command Format x y body

  abbrev a : Areas
  a = lent_to k c

  abbrev asks : Call
  asks = format a.«data» a.undo a.status

  format_world : world_in (stepped k c) ≡ after (world_in k) asks
  unfolding step left_in play_rule data_lent undo_lent
  format_world = by (eqb (format_rule a).0.0 0) refl
    where
      -- as much is lent again as the format named
      again : (n h s : ℕ) (d : List ℕ) → n ≡ lent h d → eqb (format_rule a).0.0 0 ≡ true → lent (cond (eqb (format_rule a).0.0 0) n s) d ≡ n
      again n h s d is e = ap (λ (b : Bool). lent (cond b n s) d) e ∙ lent_again n h d is

      new : (n : ℕ) (w : World) → n ≡ 0 → w ≡ settle n w (λ (n : ℕ). world_in k)
      new n w e = rw e refl

      old : (n : ℕ) (w : World) → (n ≡ 0 → ⊥) → world_in k ≡ settle n w (λ (n : ℕ). world_in k)
      old zero w ne = absurd (ne refl)
      old (suc n) w ne = refl

      by : (b : Bool) → eqb (format_rule a).0.0 0 ≡ b → world_in (stepped k c) ≡ after (world_in k) asks
      by true e =
          let code : (format_rule a).0.0 ≡ 0 = eqb-true (format_rule a).0.0 0 e in
          let is = format_accepted a code in
          world_on k c
          (subst (λ (r : (ℕ × Desk) × Areas). Stay a r.1) (sym is.1) (format_stay a is.0))
          (again (data_part k c) (named x) k.footing.«data» k.lent.«data» refl e)
          (again (undo_part k c) (named y) k.footing.undo k.lent.undo refl e)
          ∙ new (format_rule a).0.0 (world_after (format_leaves a k.footing.desk)) code
      by false e =
          let code : (format_rule a).0.0 ≡ 0 → ⊥ = eqb-false (format_rule a).0.0 0 e in
          ap world_in (refused_leaves k c code) ∙ old (format_rule a).0.0 (world_after (format_leaves a (world_in k).desk)) code

-- ---- any line

pub only_format : (v : Verb) → is_format v ≡ true → v ≡ Format
only_format Format e = refl
only_format Open e = true_false false e refl
only_format Seal e = true_false false e refl
only_format Begin e = true_false false e refl
only_format Next e = true_false false e refl
only_format Insert e = true_false false e refl
only_format Update e = true_false false e refl
only_format Delete e = true_false false e refl
only_format Read e = true_false false e refl
only_format Commit e = true_false false e refl
only_format Withdraw e = true_false false e refl
only_format Sweep e = true_false false e refl
only_format IllFormed e = true_false false e refl

pub line_step : (k : Carried) (c : Command) → Follows k c
unfolding left_in play_rule
line_step k c = by (is_format c.verb) refl
  where
    formats : (x y : ℕ) (body : List ℕ) → Follows k (command Format x y body)
    formats x y body = (format_world k x y body, format_line (lent_to k (command Format x y body)) k.footing.desk x y body (world_in k))

    by : (b : Bool) → is_format c.verb ≡ b → Follows k c
    by true e =
        subst (λ (v : Verb). Follows k (command v c.first c.second c.body)) (sym (only_format c.verb e))
        (formats c.first c.second c.body)
    by false e = (plain_world k c e, plain_line k c e)
