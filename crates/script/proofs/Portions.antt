-- A run up to a place of the text: from there on the rule does what it does from the start. Assumes nothing.
use Prim.Native.Nat.{ℕ, ◌+◌, ◌-◌, ◌≤◌, ◌<◌}
use native.Mathlib.Omega.{arith}
use mathlib.Core.Path.{◌≡◌, refl, sym, ap, ◌∙◌}
use mathlib.Core.Bool.{Bool, true, false, cond}
use mathlib.Core.List.{List, [], ◌∷◌, ◌++◌}
use lib.ListN.{length, take, drop, length-append, length-drop}
use lib.Seq.{sets, drop-drop}
use lib.Dec.{ltb}
use borrow.Author.Tests.{lt-ltb, le-ltb}
use Rattle.little.proofs.Parts.{sets_append}
use Rattle.kind.specs.Areas.{Areas}
use Rattle.lines.specs.Span.{before, parts}
use Rattle.lines.proofs.Spans.{before_length, before_take, parts_cut, parts_ended, parts_last}
use Rattle.lines.specs.Lines.{end_from}
use Rattle.line.specs.declared.Command.{Command}
use Rattle.line.specs.Line.{command_of, ill}
use Rattle.reply.specs.Reply.{longest}
use Rattle.script.specs.declared.Footing.{Footing}
use Rattle.script.specs.declared.Stepped.{Stepped}
use Rattle.script.specs.declared.Ran.{Ran}
use Rattle.script.specs.Script.{Carried, carried, line_in, stepped, command_in, Steps, Portion, portion, lined, rest_of, rested, Rests, full, run_lines, run_rule, Yields}

-- ---- the rule, step by step

pub full_no : (room : ℕ) (r : Portion) → length r.said + longest ≤ room → full room r ≡ false
full_no room r h = le-ltb room (length r.said + longest) h

pub full_yes : (room : ℕ) (r : Portion) → room < length r.said + longest → full room r ≡ true
full_yes room r h = lt-ltb room (length r.said + longest) h

pub run_full : (room : ℕ) (last : Bool) (r : Portion) (ls : List (List ℕ)) → full room r ≡ true → run_lines room last r ls ≡ r
unfolding run_lines
run_full room last r [] h = refl
run_full room last r (l ∷ []) h = rw h refl
run_full room last r (l ∷ m ∷ ls) h = rw h refl

pub run_next : (room : ℕ) (last : Bool) (r : Portion) (l : List ℕ) (b : ℕ) (s : List ℕ) → full room r ≡ false
    → run_lines room last r (l ∷ parts b s) ≡ run_lines room last (lined r l) (parts b s)
unfolding run_lines
run_next room last r l b s h =
    ap (λ (ps : List (List ℕ)). run_lines room last r (l ∷ ps)) (parts_cut b s)
    ∙ on (cond (ltb (length (before b s)) (length s)) (parts b (drop (length (before b s) + 1) s)) [])
    ∙ ap (run_lines room last (lined r l)) (sym (parts_cut b s))
  where
    on : (ls : List (List ℕ)) → run_lines room last r (l ∷ before b s ∷ ls) ≡ run_lines room last (lined r l) (before b s ∷ ls)
    on ls = rw h refl

pub run_last : (room : ℕ) (last : Bool) (r : Portion) (l : List ℕ) → full room r ≡ false → run_lines room last r (l ∷ []) ≡ rested last r l
unfolding run_lines
run_last room last r l h = rw h refl

-- ---- a place of the text

module _ (text : List ℕ) (at end : ℕ) where
  -- the line that ends there, and the lines behind it
  line_here : end ≡ end_from text at
      → end < length text
      → (take (end - at) (drop at text) ≡ before 10 (drop at text))
      × (parts 10 (drop at text) ≡ before 10 (drop at text) ∷ parts 10 (drop (end + 1) text))
      × (end + 1 ≡ at + length (before 10 (drop at text)) + 1)
  line_here is within = (
    ap (λ (n : ℕ). take n (drop at text)) long ∙ sym (before_take 10 (drop at text)),
    parts_ended 10 (drop at text) short
        ∙ ap (λ (l : List ℕ). before 10 (drop at text) ∷ parts 10 l) (drop-drop (length (before 10 (drop at text)) + 1) at text ∙ ap (λ (n : ℕ). drop n text) place),
    omega (arith, is),
  )
    where
      long : end - at ≡ length (before 10 (drop at text))
      long = omega (arith, is)

      place : at + (length (before 10 (drop at text)) + 1) ≡ end + 1
      place = omega (arith, is)

      short : length (before 10 (drop at text)) < length (drop at text)
      short = rw length-drop (omega (arith, is, within))

  -- what is left, where no line ends
  pub line_left : at ≤ length text → end ≡ end_from text at → length text ≤ end
      → (parts 10 (drop at text) ≡ drop at text ∷ []) × (end - at ≡ length (drop at text)) × (end ≡ length text)
  line_left h is past = (
    parts_last 10 (drop at text) (omega (arith, long, before_length 10 (drop at text), is, past)),
    omega (arith, long, before_length 10 (drop at text), is, past),
    omega (arith, long, before_length 10 (drop at text), is, past),
  )
    where
      long : length (drop at text) ≡ length text - at
      long = length-drop at text

-- ---- a run so far

pub record Sofar (text : List ℕ) (last : Bool) (k₀ : Carried) (out₀ : List ℕ) (k : Carried) (at made : ℕ) (out : List ℕ) : Type 0 where
  pub said : List ℕ
  pub long : made ≡ length said
  pub wrote : out ≡ sets out₀ 0 said
  pub goes_on : run_lines (length out₀) last (portion said at k) (parts 10 (drop at text)) ≡ run_rule k₀ text last (length out₀)

pub sofar_start : (text : List ℕ) (last : Bool) (k : Carried) (out : List ℕ) → Sofar text last k out k 0 0 out
unfolding run_rule
sofar_start text last k out = record { said = []; long = refl; wrote = refl; goes_on = refl }

module _ (text : List ℕ) (last : Bool) (k₀ : Carried) (out₀ : List ℕ) (s : Footing) (a : Areas) (at made end : ℕ) (out : List ℕ) (so : Sofar text last k₀ out₀ (carried s a) at made out) where
  -- one line more
  pub sofar_next : (c : Command) (r : Stepped) (left : Areas) (behind : List ℕ)
      → made + longest ≤ length out₀
      → end ≡ end_from text at
      → end < length text
      → c ≡ cond s.long ill (command_of (take (end - at) (drop at text)))
      → Steps (carried s a) c made out r left behind
      → Sofar text last k₀ out₀ (carried r.footing left) (end + 1) r.end behind
  unfolding lined
  sofar_next c r left behind room is within command steps = record {
    said = so.said ++ line_in (carried s a) c;
    long = steps.ends ∙ ap (λ (n : ℕ). n + length (line_in (carried s a) c)) so.long ∙ sym (length-append so.said (line_in (carried s a) c));
    wrote =
        steps.writes
        ∙ ap (λ (l : List ℕ). sets l made (line_in (carried s a) c)) so.wrote
        ∙ ap (λ (n : ℕ). sets (sets out₀ 0 so.said) n (line_in (carried s a) c)) (so.long ∙ sym (zero_left _))
        ∙ sym (sets_append out₀ 0 so.said (line_in (carried s a) c));
    goes_on =
        ap (λ (q : Portion). run_lines (length out₀) last q (parts 10 (drop (end + 1) text))) (sym same)
        ∙ sym (run_next (length out₀) last (portion so.said at (carried s a)) l 10 (drop (end + 1) text) (full_no (length out₀) (portion so.said at (carried s a)) (omega (arith, so.long, room))))
        ∙ ap (run_lines (length out₀) last (portion so.said at (carried s a))) (sym (line_here text at end is within).1)
        ∙ so.goes_on;
  }
    where
      l : List ℕ
      l = before 10 (drop at text)

      zero_left : (n : ℕ) → 0 + n ≡ n
      zero_left n = omega arith

      named : c ≡ command_in (carried s a) l
      named = command ∙ ap (λ (x : List ℕ). cond s.long ill (command_of x)) (line_here text at end is within).0

      same : lined (portion so.said at (carried s a)) l
          ≡ portion (so.said ++ line_in (carried s a) c) (end + 1) (carried r.footing left)
      same =
          ap (λ (x : Command). portion (so.said ++ line_in (carried s a) x) (at + length l + 1) (stepped (carried s a) x)) (sym named)
          ∙ ap (λ (n : ℕ). portion (so.said ++ line_in (carried s a) c) n (stepped (carried s a) c)) (sym (line_here text at end is within).2)
          ∙ ap (portion (so.said ++ line_in (carried s a) c) (end + 1)) (sym steps.carries)

  -- no room for one more
  pub sofar_full : length out₀ < made + longest
      → Yields (run_rule k₀ text last (length out₀)) out₀ (record { footing = s; taken = at; made = made }) a out
  sofar_full h = record {
    takes = ap (λ (q : Portion). q.taken) is;
    makes = so.long ∙ ap (λ (q : Portion). length q.said) is;
    carries = ap (λ (q : Portion). q.on.footing) is;
    leaves = ap (λ (q : Portion). q.on.lent) is;
    writes = so.wrote ∙ ap (λ (q : Portion). sets out₀ 0 q.said) is;
  }
    where
      is : portion so.said at (carried s a) ≡ run_rule k₀ text last (length out₀)
      is =
          sym (run_full (length out₀) last (portion so.said at (carried s a)) (parts 10 (drop at text)) (full_yes (length out₀) (portion so.said at (carried s a)) (omega (arith, so.long, h))))
          ∙ so.goes_on

  -- the end of the text
  pub sofar_rest : (r : Ran) (behind : List ℕ)
      → made + longest ≤ length out₀
      → at ≤ length text
      → end ≡ end_from text at
      → length text ≤ end
      → Rests s at (end - at) last made out r behind
      → Yields (run_rule k₀ text last (length out₀)) out₀ r a behind
  unfolding rested
  sofar_rest r behind room h is past rests = record {
    takes = rests.takes ∙ ap (λ (n : ℕ). at + (rest_of last s n).1) n_is ∙ ap (λ (q : Portion). q.taken) run;
    makes =
        rests.makes
        ∙ ap (λ (n : ℕ). made + length (rest_of last s n).0) n_is
        ∙ ap (λ (n : ℕ). n + length (rest_of last s (length (drop at text))).0) so.long
        ∙ sym (length-append so.said (rest_of last s (length (drop at text))).0)
        ∙ ap (λ (q : Portion). length q.said) run;
    carries = rests.carries ∙ ap (λ (n : ℕ). (rest_of last s n).2) n_is ∙ ap (λ (q : Portion). q.on.footing) run;
    leaves = ap (λ (q : Portion). q.on.lent) run;
    writes =
        rests.writes
        ∙ ap (λ (n : ℕ). sets out made (rest_of last s n).0) n_is
        ∙ ap (λ (x : List ℕ). sets x made (rest_of last s (length (drop at text))).0) so.wrote
        ∙ ap (λ (n : ℕ). sets (sets out₀ 0 so.said) n (rest_of last s (length (drop at text))).0) (so.long ∙ sym (zero_left _))
        ∙ sym (sets_append out₀ 0 so.said (rest_of last s (length (drop at text))).0)
        ∙ ap (λ (q : Portion). sets out₀ 0 q.said) run;
  }
    where
      zero_left : (n : ℕ) → 0 + n ≡ n
      zero_left n = omega arith

      n_is : end - at ≡ length (drop at text)
      n_is = (line_left text at end h is past).1

      run : rested last (portion so.said at (carried s a)) (drop at text) ≡ run_rule k₀ text last (length out₀)
      run =
          sym (run_last (length out₀) last (portion so.said at (carried s a)) (drop at text) (full_no (length out₀) (portion so.said at (carried s a)) (omega (arith, so.long, room))))
          ∙ ap (run_lines (length out₀) last (portion so.said at (carried s a))) (sym (line_left text at end h is past).0)
          ∙ so.goes_on
