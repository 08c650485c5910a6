-- What the rule of a run promises ("01, The script and one whole run"): a text may come in pieces, an end is an end, and a run goes on; before
-- an accepted format every well-formed call but format answers 1, and a refused line leaves everything but the mark of a 10 ("02, T-07"). Assumes
-- nothing.
use Prim.Native.Nat.{ℕ, zero, suc, ◌+◌, ◌-◌, ◌*◌, ◌≤◌, ◌<◌}
use native.Mathlib.Omega.{arith}
use mathlib.Core.Path.{◌≡◌, refl, sym, ap, subst⁻¹, ◌∙◌}
use mathlib.Core.Logic.{⊎_elim}
use mathlib.Core.Bool.{Bool, true, false, not, ◌&&◌, cond, and-false}
use mathlib.Core.List.{List, [], ◌∷◌, ◌++◌, append-nil, append_assoc}
use lib.ListN.{length, take, drop, length-append, length-drop, take-append-drop}
use lib.Seq.{drop-length, drop-drop}
use lib.Dec.{eqb, leb, ltb}
use borrow.Author.Tests.{eqb-true, ne_eqb, lt-leb, leb-false}
use Rattle.ground.proofs.Ranges.{lt_or_le}
use Rattle.ground.proofs.Refusals.{kept_old}
use Rattle.lines.specs.Span.{before, parts, lacks}
use Rattle.lines.proofs.Spans.{before_length, before_whole, parts_cut, parts_ended, parts_last, lacks_before, parts_alone, parts_ended_append, parts_glued}
use Rattle.kind.specs.Kind.{length_ok, lengths_ok}
use Rattle.kind.specs.Areas.{Areas, areas}
use Rattle.places.specs.Open.{place_in}
use Rattle.desk.specs.declared.Desk.{Desk}
use Rattle.desk.specs.Turns.{spoiled}
use Rattle.keep.specs.Keep.{format_rule, open_refusal, open_rule, seal_refusal, seal_rule}
use Rattle.keep.proofs.Promises.{format_refused, seal_refused}
use Rattle.turns.specs.Turns.{begin_refusal, begin_rule, next_refusal, next_rule, commit_refusal, commit_rule}
use Rattle.turns.proofs.Promises.{begin_refused, next_refused_leaves, commit_refused_leaves}
use Rattle.rows.specs.Rows.{refused_desk, insert_refusal, insert_rule, update_refusal, update_rule, delete_refusal, delete_rule, read_refusal, read_rule}
use Rattle.rows.proofs.Calls.{desk_calm}
use Rattle.rows.proofs.Promises.{insert_refused_leaves, update_refused_leaves, delete_refused_leaves, update_desk, delete_desk}
use Rattle.undoing.specs.Undoing.{withdraw_refusal, withdraw_rule}
use Rattle.undoing.proofs.Promises.{withdraw_refused_leaves}
use Rattle.sweeping.specs.Sweeping.{sweep_refusal, sweep_rule}
use Rattle.sweeping.proofs.Promises.{sweep_refused_leaves}
use Rattle.line.specs.declared.Verb.{Verb}
use Rattle.line.specs.declared.Verb.TheVariants.{Format, Open, Seal, Begin, Next, Insert, Update, Delete, Read, Commit, Withdraw, Sweep, IllFormed}
use Rattle.line.specs.declared.Command.{Command}
use Rattle.line.specs.Line.{command_of, ill, longest as longest_line}
use Rattle.line.proofs.Taken.{call_long}
use Rattle.std.specs.Option.{unwrap_or}
use Rattle.reply.specs.Reply.{longest as longest_answer}
use Rattle.calls.specs.Calls.{Left}
use Rattle.playing.specs.Playing.{line_of, played_by, play_rule}
use Rattle.playing.proofs.Lengths.{answer_most}
use Rattle.script.specs.declared.Footing.{Footing}
use Rattle.script.specs.Script.{lent, is_format, data_lent, undo_lent, Carried, carried, left_in, line_in, changes_row, refused_footing, stepped, command_in, sixteen, answers, output, Portion, portion, in_line, lined, rest_of, rested, full, run_lines, run_rule, lent_to}
use Rattle.script.proofs.Portions.{full_no, run_full, run_next, run_last}

true_false : (t : Bool) → t ≡ true → t ≡ false → ⊥
true_false t p q = let z : ◌≡◌ {A = ℕ} 0 1 = cc in omega arith

-- ---- the output of a text, step by step

-- a line that has ended
pub answers_next : (k : Carried) (l : List ℕ) (b : ℕ) (s : List ℕ)
    → answers k (l ∷ parts b s) ≡ line_in k (command_in k l) ++ answers (stepped k (command_in k l)) (parts b s)
unfolding answers
answers_next k l b s =
    ap (λ (ps : List (List ℕ)). answers k (l ∷ ps)) (parts_cut b s)
    ∙ ap (λ (ps : List (List ℕ)). line_in k (command_in k l) ++ answers (stepped k (command_in k l)) ps) (sym (parts_cut b s))

output_next : (k : Carried) (s more : List ℕ) → length (before 10 s) < length s
    → output k (s ++ more)
    ≡ line_in k (command_in k (before 10 s)) ++ output (stepped k (command_in k (before 10 s))) (drop (length (before 10 s) + 1) s ++ more)
output_next k s more h =
    ap (answers k) (parts_ended_append 10 s more h) ∙ answers_next k (before 10 s) 10 (drop (length (before 10 s) + 1) s ++ more)

-- in a line that has been found too long
abbrev too_long : Carried → Carried
too_long k = carried (in_line true k.footing) k.lent

-- whatever comes behind more than 128 bytes, they say no call
command_long : (k : Carried) (l : List ℕ) → longest_line < length l → command_in k l ≡ ill
unfolding command_of
command_long k l h = by k.footing.long
  where
    none : command_of l ≡ ill
    none = ap (λ o. unwrap_or o ill) (sym (call_long l h))

    by : (b : Bool) → cond b ill (command_of l) ≡ ill
    by true = refl
    by false = none

-- so that it makes no difference whether they are kept or noted as too long
left_long : (k : Carried) → left_in k ill ≡ left_in (too_long k) ill
unfolding left_in data_lent undo_lent
left_long k = refl

step_long : (k : Carried) → stepped k ill ≡ stepped (too_long k) ill
unfolding stepped left_in data_lent undo_lent
step_long k = refl

answers_long : (k : Carried) (s l : List ℕ) (ls : List (List ℕ)) → longest_line < length s
    → answers k ((s ++ l) ∷ ls) ≡ answers (too_long k) (l ∷ ls)
unfolding answers
answers_long k s l [] h =
    ap (λ (t : Bool). cond (t && not k.footing.long) [] sixteen) (ne_eqb (length (s ++ l)) 0 some)
    ∙ ap (λ (t : Bool). cond t [] sixteen) (sym (and-false (eqb (length l) 0)))
  where
    some : length (s ++ l) ≡ 0 → ⊥
    some e = omega (arith, h, e, length-append s l)
answers_long k s l (m ∷ ls) h =
    ap (λ (c : Command). line_in k c ++ answers (stepped k c) (m ∷ ls)) (command_long k (s ++ l) (omega (arith, h, length-append s l)))
    ∙ ap (λ (l : Left). line_of IllFormed l ++ answers (stepped k ill) (m ∷ ls)) (left_long k)
    ∙ ap (λ (q : Carried). line_in (too_long k) ill ++ answers q (m ∷ ls)) (step_long k)

output_long : (k : Carried) (s more : List ℕ) → lacks 10 s ≡ true → longest_line < length s → output k (s ++ more) ≡ output (too_long k) more
output_long k s more lone h =
    ap (answers k) (parts_glued 10 s more lone)
    ∙ answers_long k s (before 10 more) (cond (ltb (length (before 10 more)) (length more)) (parts 10 (drop (length (before 10 more) + 1) more)) []) h
    ∙ ap (answers (too_long k)) (sym (parts_cut 10 more))

-- ---- what stands behind the last newline

-- where so much is said of it, taken and carried on, the output is what is said and what comes of the rest
abbrev Rest : Carried → List ℕ → List ℕ → List ℕ × ℕ × Footing → Type 0
Rest k s more w = output k (s ++ more) ≡ w.0 ++ output (carried w.2 k.lent) (drop w.1 s ++ more)

abbrev Rested : Bool → List ℕ → Type 0
Rested last more = (k : Carried) (s : List ℕ) → length (before 10 s) ≡ length s → Rest k s more (rest_of last k.footing (length s))

-- it lacks a newline
lacks_rest : (s : List ℕ) → length (before 10 s) ≡ length s → lacks 10 s ≡ true
lacks_rest s e = ap (lacks 10) (sym (before_whole 10 s e)) ∙ lacks_before 10 s

-- more comes: it waits, or it is too long already
rest_more : (more : List ℕ) → Rested false more
unfolding rest_of
rest_more more k s e = by (leb (length s) longest_line) refl
  where
    by : (t : Bool) → leb (length s) longest_line ≡ t
        → Rest k s more (cond t ([], 0, k.footing) ([], length s, in_line true k.footing))
    by true h = refl
    by false h =
        output_long k s more (lacks_rest s e) (leb-false (length s) longest_line h)
        ∙ ap (λ (l : List ℕ). output (too_long k) (l ++ more)) (sym (drop-length s))

-- no more comes: it is an unended line, or there is none
rest_end : Rested true []
unfolding rest_of answers parts
rest_end k s e = by (eqb (length s) 0 && not k.footing.long) refl
  where
    by : (t : Bool) → (eqb (length s) 0 && not k.footing.long) ≡ t
        → Rest k s [] (cond t ([], 0, k.footing) (sixteen, length s, in_line false k.footing))
    by true h = refl
    by false h =
        ap (output k) (append-nil s)
        ∙ ap (answers k) (parts_last 10 s e)
        ∙ ap (λ (t : Bool). cond t [] sixteen) h
        ∙ sym (append-nil sixteen)
        ∙ ap (λ (l : List ℕ). sixteen ++ output (carried (in_line false k.footing) k.lent) (l ++ [])) (sym (drop-length s))

-- ---- a run says the front of the output, and carries on so that the rest comes out

forward : (room : ℕ) (last : Bool) (r : Portion) (ls : List (List ℕ)) → r.taken ≤ (run_lines room last r ls).taken
unfolding run_lines rested lined
forward room last r [] = omega arith
forward room last r (l ∷ []) = by (full room r)
  where
    by : (t : Bool) → r.taken ≤ (cond t r (rested last r l)).taken
    by true = omega arith
    by false = omega arith
forward room last r (l ∷ m ∷ ls) = by (full room r) (forward room last (lined r l) (m ∷ ls))
  where
    by : (t : Bool) → r.taken + length l + 1 ≤ (run_lines room last (lined r l) (m ∷ ls)).taken
        → r.taken ≤ (cond t r (run_lines room last (lined r l) (m ∷ ls))).taken
    by true h = omega arith
    by false h = omega (arith, h)

module _ (room : ℕ) (last : Bool) (more : List ℕ) (rests : Rested last more) where
  abbrev Goes : Portion → Portion → List ℕ → Type 0
  Goes r w s = r.said ++ output r.on (s ++ more) ≡ w.said ++ output w.on (drop (w.taken - r.taken) s ++ more)

  goes_full : (r : Portion) (s : List ℕ) → full room r ≡ true → Goes r (run_lines room last r (parts 10 s)) s
  goes_full r s e =
      subst⁻¹ (λ (w : Portion). Goes r w s) (run_full room last r (parts 10 s) e)
      (ap (λ (n : ℕ). r.said ++ output r.on (drop n s ++ more)) (sym (none r.taken)))
    where
      none : (n : ℕ) → n - n ≡ 0
      none n = omega arith

  goes_last : (r : Portion) (s : List ℕ) → full room r ≡ false → length (before 10 s) ≡ length s → Goes r (run_lines room last r (parts 10 s)) s
  unfolding rested
  goes_last r s e h =
      subst⁻¹ (λ (w : Portion). Goes r w s) (ap (run_lines room last r) (parts_last 10 s h) ∙ run_last room last r s e)
      (ap (λ (l : List ℕ). r.said ++ l) (rests r.on s h)
      ∙ sym (append_assoc r.said w.0 (output (carried w.2 r.on.lent) (drop w.1 s ++ more)))
      ∙ ap (λ (n : ℕ). (r.said ++ w.0) ++ output (carried w.2 r.on.lent) (drop n s ++ more)) (sym (less r.taken w.1)))
    where
      w : List ℕ × ℕ × Footing
      w = rest_of last r.on.footing (length s)

      less : (n m : ℕ) → n + m - n ≡ m
      less n m = omega arith

  goes_next : (r : Portion) (s : List ℕ) → full room r ≡ false → length (before 10 s) < length s
      → Goes (lined r (before 10 s)) (run_lines room last (lined r (before 10 s)) (parts 10 (drop (length (before 10 s) + 1) s))) (drop (length (before 10 s) + 1) s)
      → Goes r (run_lines room last r (parts 10 s)) s
  unfolding lined
  goes_next r s e h ih =
      subst⁻¹ (λ (w : Portion). Goes r w s)
      (ap (run_lines room last r) (parts_ended 10 s h) ∙ run_next room last r (before 10 s) 10 (drop (length (before 10 s) + 1) s) e)
      (ap (λ (l : List ℕ). r.said ++ l) (output_next r.on s more h)
      ∙ sym (append_assoc r.said (line_in r.on c) (output (stepped r.on c) (drop (length (before 10 s) + 1) s ++ more)))
      ∙ ih
      ∙ ap (λ (l : List ℕ). w.said ++ output w.on (l ++ more)) (drop-drop (w.taken - (r.taken + length (before 10 s) + 1)) (length (before 10 s) + 1) s)
      ∙ ap (λ (n : ℕ). w.said ++ output w.on (drop n s ++ more)) (place (forward room last (lined r (before 10 s)) (parts 10 (drop (length (before 10 s) + 1) s)))))
    where
      c : Command
      c = command_in r.on (before 10 s)

      w : Portion
      w = run_lines room last (lined r (before 10 s)) (parts 10 (drop (length (before 10 s) + 1) s))

      place : r.taken + length (before 10 s) + 1 ≤ w.taken
          → length (before 10 s) + 1 + (w.taken - (r.taken + length (before 10 s) + 1)) ≡ w.taken - r.taken
      place on = omega (arith, on)

  goes : (n : ℕ) (r : Portion) (s : List ℕ) → length s < n → Goes r (run_lines room last r (parts 10 s)) s
  goes zero r s h = absurd (omega (arith, h))
  goes (suc n) r s h = by (full room r) refl (goes n (lined r (before 10 s)) (drop (length (before 10 s) + 1) s))
    where
      by : (t : Bool) → full room r ≡ t
          → (length (drop (length (before 10 s) + 1) s) < n
          → Goes (lined r (before 10 s)) (run_lines room last (lined r (before 10 s)) (parts 10 (drop (length (before 10 s) + 1) s))) (drop (length (before 10 s) + 1) s))
          → Goes r (run_lines room last r (parts 10 s)) s
      by true e ih = goes_full r s e
      by false e ih =
          ⊎_elim
          (λ (l : length (before 10 s) < length s). goes_next r s e l (ih (omega (arith, l, h, length-drop (length (before 10 s) + 1) s))))
          (λ (l : length s ≤ length (before 10 s)). goes_last r s e (omega (arith, l, before_length 10 s)))
          (lt_or_le (length (before 10 s)) (length s))

  -- from the start
  goes_all : (k : Carried) (text : List ℕ)
      → output k (text ++ more)
      ≡ (run_rule k text last room).said ++ output (run_rule k text last room).on (drop (run_rule k text last room).taken text ++ more)
  unfolding run_rule
  goes_all k text =
      goes (suc (length text)) (portion [] 0 k) text (omega arith)
      ∙ ap (λ (n : ℕ). w.said ++ output w.on (drop n text ++ more)) (all w.taken)
    where
      w : Portion
      w = run_lines room last (portion [] 0 k) (parts 10 text)

      all : (n : ℕ) → n - 0 ≡ n
      all n = omega arith

-- ---- promises of a run

-- a text may come in pieces: what one run says, and then the output of what it left with more behind it, is the output of the whole text
pub run_carries : (k : Carried) (text more : List ℕ) (room : ℕ)
    → output k (text ++ more)
    ≡ (run_rule k text false room).said ++ output (run_rule k text false room).on (drop (run_rule k text false room).taken text ++ more)
run_carries k text more room = goes_all room false more (rest_more more) k text

-- where no more text comes, what one run says and then the output of what it left
pub run_ends : (k : Carried) (text : List ℕ) (room : ℕ)
    → output k text ≡ (run_rule k text true room).said ++ output (run_rule k text true room).on (drop (run_rule k text true room).taken text)
run_ends k text room =
    ap (output k) (sym (append-nil text))
    ∙ goes_all room true [] rest_end k text
    ∙ ap (λ (l : List ℕ). w.said ++ output w.on l) (append-nil (drop w.taken text))
  where
    w : Portion
    w = run_rule k text true room

-- a run goes on: where there is room for an answer and the text has a newline, some of it is done with
pub run_goes_on : (k : Carried) (text : List ℕ) (last : Bool) (room : ℕ) → longest_answer ≤ room → lacks 10 text ≡ false
    → 1 ≤ (run_rule k text last room).taken
unfolding run_rule lined
run_goes_on k text last room h some =
    subst⁻¹ (λ (w : Portion). 1 ≤ w.taken)
    (ap (run_lines room last (portion [] 0 k)) (parts_ended 10 text short) ∙ run_next room last (portion [] 0 k) (before 10 text) 10 (drop (length (before 10 text) + 1) text) free)
    (omega (arith, forward room last (lined (portion [] 0 k) (before 10 text)) (parts 10 (drop (length (before 10 text) + 1) text))))
  where
    free : full room (portion [] 0 k) ≡ false
    free = full_no room (portion [] 0 k) (omega (arith, h))

    short : length (before 10 text) < length text
    short =
        ⊎_elim
        (λ (l : length (before 10 text) < length text). l)
        (λ (l : length text ≤ length (before 10 text)).
        absurd (true_false (lacks 10 text) (lacks_rest text (omega (arith, l, before_length 10 text))) some))
        (lt_or_le (length (before 10 text)) (length text))

-- and where it is longer than a line may be, too
pub run_goes_on_long : (k : Carried) (text : List ℕ) (last : Bool) (room : ℕ) → longest_answer ≤ room → longest_line < length text
    → 1 ≤ (run_rule k text last room).taken
unfolding run_rule rested rest_of
run_goes_on_long k text last room h long = by (lacks 10 text) refl
  where
    free : full room (portion [] 0 k) ≡ false
    free = full_no room (portion [] 0 k) (omega (arith, h))

    some : length text ≡ 0 → ⊥
    some e = omega (arith, long, e)

    taken : (b : Bool) → length text ≡ (rest_of b k.footing (length text)).1
    taken true = rw (ne_eqb (length text) 0 some) refl
    taken false = rw (lt-leb (length text) longest_line long) refl

    by : (t : Bool) → lacks 10 text ≡ t → 1 ≤ (run_rule k text last room).taken
    by true e =
        subst⁻¹ (λ (w : Portion). 1 ≤ w.taken)
        (ap (run_lines room last (portion [] 0 k)) (parts_alone 10 text e) ∙ run_last room last (portion [] 0 k) text free)
        (omega (arith, taken last, long))
    by false e = run_goes_on k text last room h e

-- ---- where there is room, one run says the whole output

-- the end of a text is done with to the last byte
end_of : (s : Footing) (n : ℕ) → ((rest_of true s n).1 ≡ n) × ((rest_of true s n).2.long ≡ false)
unfolding rest_of
end_of s n = by (eqb n 0) s.long refl refl
  where
    by : (a b : Bool) → eqb n 0 ≡ a → s.long ≡ b
        → ((cond {A = List ℕ × ℕ × Footing} (a && not b) ([], 0, s) (sixteen, n, in_line false s)).1 ≡ n)
        × ((cond {A = List ℕ × ℕ × Footing} (a && not b) ([], 0, s) (sixteen, n, in_line false s)).2.long ≡ false)
    by true false e f = (sym (eqb-true n 0 e), f)
    by true true e f = (refl, refl)
    by false b e f = (refl, refl)

-- where no more text comes and a run takes nothing of it, nothing is left to say
rest_done : (k : Carried) (text : List ℕ) → (rested true (portion [] 0 k) text).taken ≡ 0
    → output (rested true (portion [] 0 k) text).on (drop (rested true (portion [] 0 k) text).taken text) ≡ []
unfolding rested answers parts
rest_done k [] none =
    ap (λ (n : ℕ). output (rested true (portion [] 0 k) []).on (drop n [])) none
    ∙ ap (λ (b : Bool). cond (not b) [] sixteen) (end_of k.footing 0).1
rest_done k (b ∷ text) none = absurd (omega (arith, none, (end_of k.footing (length (b ∷ text))).0))

pub run_done : (k : Carried) (text : List ℕ) (room : ℕ) → longest_answer ≤ room → (run_rule k text true room).taken ≡ 0
    → output (run_rule k text true room).on (drop (run_rule k text true room).taken text) ≡ []
unfolding run_rule
run_done k text room h none = by (lacks 10 text) refl
  where
    w : Portion
    w = run_rule k text true room

    by : (t : Bool) → lacks 10 text ≡ t → output w.on (drop w.taken text) ≡ []
    by true e =
        subst⁻¹ (λ (r : Portion). output r.on (drop r.taken text) ≡ []) is
        (rest_done k text (ap (λ (r : Portion). r.taken) (sym is) ∙ none))
      where
        is : w ≡ rested true (portion [] 0 k) text
        is = ap (run_lines room true (portion [] 0 k)) (parts_alone 10 text e) ∙ run_last room true (portion [] 0 k) text (full_no room (portion [] 0 k) (omega (arith, h)))
    by false e = absurd (omega (arith, none, run_goes_on k text true room h e))

-- no answer is longer than 88 bytes
line_fits : (k : Carried) (c : Command) → length (line_in k c) ≤ longest_answer
unfolding left_in
line_fits k c = answer_most (lent_to k c) k.footing.desk c

module _ (room : ℕ) where
  abbrev Whole : Portion → Portion → List ℕ → Type 0
  Whole r w s = (w.taken ≡ r.taken + length s) × (w.on.footing.long ≡ false)

  whole_last : (r : Portion) (s : List ℕ) → full room r ≡ false → length (before 10 s) ≡ length s → Whole r (run_lines room true r (parts 10 s)) s
  unfolding rested
  whole_last r s e h =
      subst⁻¹ (λ (w : Portion). Whole r w s) (ap (run_lines room true r) (parts_last 10 s h) ∙ run_last room true r s e)
      (ap (λ (n : ℕ). r.taken + n) (end_of r.on.footing (length s)).0, (end_of r.on.footing (length s)).1)

  whole_next : (r : Portion) (s : List ℕ) → full room r ≡ false → length (before 10 s) < length s
      → Whole (lined r (before 10 s)) (run_lines room true (lined r (before 10 s)) (parts 10 (drop (length (before 10 s) + 1) s))) (drop (length (before 10 s) + 1) s)
      → Whole r (run_lines room true r (parts 10 s)) s
  unfolding lined
  whole_next r s e h ih =
      subst⁻¹ (λ (w : Portion). Whole r w s)
      (ap (run_lines room true r) (parts_ended 10 s h) ∙ run_next room true r (before 10 s) 10 (drop (length (before 10 s) + 1) s) e)
      (omega (arith, ih.0, h, length-drop (length (before 10 s) + 1) s), ih.1)

  whole : (n : ℕ) (r : Portion) (s : List ℕ) → length s < n → length r.said + longest_answer * (length s + 1) ≤ room
      → Whole r (run_lines room true r (parts 10 s)) s
  unfolding longest_answer lined
  whole zero r s h enough = absurd (omega (arith, h))
  whole (suc n) r s h enough =
      by (whole n (lined r (before 10 s)) (drop (length (before 10 s) + 1) s))
    where
      free : full room r ≡ false
      free = full_no room r (omega (arith, enough))

      by : (length (drop (length (before 10 s) + 1) s) < n
          → length (lined r (before 10 s)).said + longest_answer * (length (drop (length (before 10 s) + 1) s) + 1) ≤ room
          → Whole (lined r (before 10 s)) (run_lines room true (lined r (before 10 s)) (parts 10 (drop (length (before 10 s) + 1) s))) (drop (length (before 10 s) + 1) s))
          → Whole r (run_lines room true r (parts 10 s)) s
      by ih =
          ⊎_elim
          (λ (l : length (before 10 s) < length s).
          whole_next r s free l
          (ih (omega (arith, l, h, length-drop (length (before 10 s) + 1) s))
          (omega (arith, l, enough, length-drop (length (before 10 s) + 1) s, length-append r.said (line_in r.on (command_in r.on (before 10 s))), line_fits r.on (command_in r.on (before 10 s))))))
          (λ (l : length s ≤ length (before 10 s)). whole_last r s free (omega (arith, l, before_length 10 s)))
          (lt_or_le (length (before 10 s)) (length s))

  -- "left of the arrow the input, right of it the whole output"
  pub run_whole : (k : Carried) (text : List ℕ) → longest_answer * (length text + 1) ≤ room
      → ((run_rule k text true room).said ≡ output k text) × ((run_rule k text true room).taken ≡ length text)
  unfolding run_rule answers parts
  run_whole k text enough = (
    sym (run_ends k text room
        ∙ ap (λ (n : ℕ). w.said ++ output w.on (drop n text)) taken
        ∙ ap (λ (l : List ℕ). w.said ++ output w.on l) (drop-length text)
        ∙ ap (λ (b : Bool). w.said ++ cond (not b) [] sixteen) all.1
        ∙ append-nil w.said),
    taken,
  )
    where
      w : Portion
      w = run_rule k text true room

      all : (w.taken ≡ 0 + length text) × (w.on.footing.long ≡ false)
      all = whole (suc (length text)) (portion [] 0 k) text (omega arith) (omega (arith, enough))

      taken : w.taken ≡ length text
      taken = omega (arith, all.0)

-- ---- before an accepted format

module _ (a : Areas) (d : Desk) (x y : ℕ) (body : List ℕ) where
  one : lengths_ok (length a.«data») (length a.undo) (length a.status) ≡ false
      → (v : Verb)
      → is_format v ≡ false
      → (v ≡ IllFormed → ⊥)
      → ((played_by v a d x y body).code ≡ 1) × ((played_by v a d x y body).lent ≡ a)
  unfolding open_rule open_refusal seal_rule seal_refusal begin_rule begin_refusal next_rule next_refusal insert_rule insert_refusal update_rule update_refusal delete_rule delete_refusal read_rule read_refusal commit_rule commit_refusal withdraw_rule withdraw_refusal sweep_rule sweep_refusal
  one l Format f g = absurd (true_false true refl f)
  one l Open f g = (rw l refl, refl)
  one l Seal f g = (rw l refl, rw l refl)
  one l Begin f g = (rw l refl, rw l refl)
  one l Next f g = (rw l refl, refl)
  one l Insert f g = (rw l refl, rw l refl)
  one l Update f g = (rw l refl, rw l refl)
  one l Delete f g = (rw l refl, rw l refl)
  one l Read f g = (rw l refl, refl)
  one l Commit f g = (rw l refl, rw l refl)
  one l Withdraw f g = (rw l refl, rw l refl)
  one l Sweep f g = (rw l refl, rw l refl)
  one l IllFormed f g = absurd (g refl)

-- nothing is lent where the last accepted format is none
none_lent : (c : Command) (s : Footing) (d : List ℕ) → s.«data» ≡ 0 → is_format c.verb ≡ false → data_lent c s d ≡ 0
unfolding data_lent lent
none_lent c s d e f = rw (f, e) (by (leb 0 (length d)))
  where
    by : (b : Bool) → cond {A = ℕ} b 0 0 ≡ 0
    by true = refl
    by false = refl

-- "Before an accepted format every well-formed call but format answers 1", and leaves what it was lent
pub fresh_one : (k : Carried) (c : Command) → k.footing.«data» ≡ 0 → is_format c.verb ≡ false → (c.verb ≡ IllFormed → ⊥)
    → ((left_in k c).code ≡ 1) × ((left_in k c).lent ≡ lent_to k c)
unfolding left_in play_rule lengths_ok length_ok
fresh_one k c e f g = one (lent_to k c) k.footing.desk c.first c.second c.body bad c.verb f g
  where
    nothing : data_lent c k.footing k.lent.«data» ≡ 0
    nothing = none_lent c k.footing k.lent.«data» e f

    bad : lengths_ok (length (lent_to k c).«data») (length (lent_to k c).undo) (length (lent_to k c).status) ≡ false
    bad = ap (λ (n : ℕ). lengths_ok (length (take n k.lent.«data»)) (length (lent_to k c).undo) (length (lent_to k c).status)) nothing

-- ---- where a line is refused

module _ (a : Areas) (d : Desk) (x y : ℕ) (body : List ℕ) where
  abbrev does : Verb → Left
  does v = played_by v a d x y body

  -- "Every refusal leaves areas and desk unchanged", but for the mark that a 10 of update or delete sets ("02, T-07")
  leaves : (v : Verb) → ((does v).code ≡ 0 → ⊥) → ((does v).desk ≡ cond (changes_row v) (refused_desk (does v).code x d) d) × ((does v).lent ≡ a)
  leaves Format h = (sym (kept_old (format_rule a).0.0 (format_rule a).0.1 d h), format_refused a h)
  leaves Open h = (sym (kept_old (open_rule a).0 (open_rule a).1 d h), refl)
  leaves Seal h = (refl, seal_refused a d h)
  leaves Begin h = ((begin_refused a d h).0, ap (areas a.«data» a.undo) (begin_refused a d h).1)
  leaves Next h = (next_refused_leaves a d x h, refl)
  leaves Insert h = (refl, ap (λ (s : List ℕ). areas s a.undo a.status) (insert_refused_leaves a d x body h).1)
  leaves Update h = (update_desk a d x y body, update_refused_leaves a d x y body h)
  leaves Delete h = (delete_desk a d x y, ap (λ (s : List ℕ). areas s a.undo a.status) (delete_refused_leaves a d x y h))
  leaves Read h = (refl, refl)
  leaves Commit h = ((commit_refused_leaves a d x h).0, ap (areas a.«data» a.undo) (commit_refused_leaves a d x h).1)
  leaves Withdraw h = withdraw_refused_leaves a d x h
  leaves Sweep h = (refl, (sweep_refused_leaves a d x y h).2)
  leaves IllFormed h = (refl, refl)

module _ (k : Carried) (c : Command) where
  -- the number that its line answers, and the desk that it comes to
  abbrev number : ℕ
  number = (left_in k c).code

  abbrev desk : Desk
  desk = k.footing.desk

  -- the same, with another desk, in a line that is not too long
  abbrev on_desk : Desk → Footing
  on_desk d = record { desk = d; «data» = k.footing.«data»; undo = k.footing.undo; long = false }

  left_refused : (number ≡ 0 → ⊥)
      → ((left_in k c).desk ≡ cond (changes_row c.verb) (refused_desk number c.first desk) desk) × ((left_in k c).lent ≡ lent_to k c)
  unfolding left_in play_rule
  left_refused h = leaves (lent_to k c) desk c.first c.second c.body c.verb h

  -- "Every refusal leaves areas and desk unchanged", but for the mark that a 10 of update or delete sets: of a line, too, and the lengths that
  -- the last accepted format named
  pub refused_leaves : (number ≡ 0 → ⊥) → stepped k c ≡ carried (refused_footing c.verb number c.first k.footing) k.lent
  unfolding stepped
  refused_leaves h =
      ap (λ (b : Bool). carried (record { desk = l.desk; «data» = cond b n k.footing.«data»; undo = cond b m k.footing.undo; long = false }) (areas (l.lent.«data» ++ drop n k.lent.«data») (l.lent.undo ++ drop m k.lent.undo) l.lent.status)) plain
      ∙ ap (λ (e : Desk). carried (on_desk e) (areas (l.lent.«data» ++ drop n k.lent.«data») (l.lent.undo ++ drop m k.lent.undo) l.lent.status)) same.0
      ∙ ap (λ (a : Areas). carried on (areas (a.«data» ++ drop n k.lent.«data») (a.undo ++ drop m k.lent.undo) a.status)) same.1
      ∙ ap (λ (s : List ℕ). carried on (areas s (take m k.lent.undo ++ drop m k.lent.undo) k.lent.status)) (take-append-drop n k.lent.«data»)
      ∙ ap (λ (s : List ℕ). carried on (areas k.lent.«data» s k.lent.status)) (take-append-drop m k.lent.undo)
    where
      n : ℕ
      n = data_lent c k.footing k.lent.«data»

      m : ℕ
      m = undo_lent c k.footing k.lent.undo

      l : Left
      l = left_in k c

      on : Footing
      on = refused_footing c.verb number c.first k.footing

      plain : (is_format c.verb && eqb l.code 0) ≡ false
      plain = ap (λ (b : Bool). is_format c.verb && b) (ne_eqb l.code 0 h) ∙ and-false (is_format c.verb)

      same : (l.desk ≡ cond (changes_row c.verb) (refused_desk number c.first desk) desk) × (l.lent ≡ lent_to k c)
      same = left_refused h

  -- where the number is no 10 all of it stays
  pub refused_stays : (number ≡ 0 → ⊥) → (number ≡ 10 → ⊥) → stepped k c ≡ carried (in_line false k.footing) k.lent
  refused_stays h other = refused_leaves h ∙ ap (λ (d : Desk). carried (on_desk d) k.lent) (by (changes_row c.verb))
    where
      by : (b : Bool) → cond b (refused_desk number c.first desk) desk ≡ desk
      by true = desk_calm number c.first desk (ne_eqb number 10 other)
      by false = refl

  -- "After an answer 10, the desk marks that session spoiled, the one change that refusal makes" ("02, T-07")
  pub ten_marks : changes_row c.verb ≡ true → number ≡ 10 → stepped k c ≡ carried (on_desk (spoiled (place_in c.first desk.numbers) desk)) k.lent
  unfolding refused_desk
  ten_marks changes ten =
      refused_leaves (λ none. omega (arith, ten, none))
      ∙ ap (λ (b : Bool). carried (on_desk (cond b (refused_desk number c.first desk) desk)) k.lent) changes
      ∙ ap (λ (n : ℕ). carried (on_desk (refused_desk n c.first desk)) k.lent) ten
