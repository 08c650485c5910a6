-- A text answered run by run: how it stands after some runs, and what a run that takes nothing says of what is left. Assumes nothing.
use Prim.Native.Nat.{ℕ, zero, suc, ◌+◌, ◌-◌, ◌≤◌, ◌<◌}
use native.Mathlib.Omega.{arith}
use mathlib.Core.Path.{◌≡◌, refl, sym, ap, ◌∙◌}
use mathlib.Core.Logic.{⊎_elim}
use mathlib.Core.Bool.{Bool, true, false, not, ◌&&◌, ◌||◌, true≢false}
use mathlib.Core.List.{List, []}
use lib.ListN.{length, take, drop, length-drop}
use lib.Seq.{take_all, drop-drop, drop-length}
use lib.Dec.{eqb}
use borrow.Author.Tests.{eqb-true}
use Rattle.ground.proofs.Ranges.{lt_or_le}
use Rattle.kind.specs.Areas.{Areas}
use Rattle.line.specs.Line.{longest as longest_line}
use Rattle.reply.specs.Reply.{longest as longest_answer}
use Rattle.script.specs.declared.Footing.{Footing}
use Rattle.script.specs.declared.Ran.{Ran}
use Rattle.script.specs.Script.{Carried, carried, Portion, run_rule, Yields}
use Rattle.script.proofs.Promises.{run_goes_on_long}
use Rattle.feeding.specs.declared.Fed.{Fed}
use Rattle.feeding.specs.Feeding.{Stand, stand, run_of, after, Serves}

-- ---- some runs of a text

pub record Sofar (last : Bool) (room : ℕ) (s₀ s : Stand) : Type 0 where
  pub runs : ℕ
  pub stands : s ≡ after last room s₀ runs

pub sofar_start : (last : Bool) (room : ℕ) (k : Carried) (text : List ℕ) → Sofar last room (stand k text) (stand k (drop 0 text))
unfolding after
sofar_start last room k text = record { runs = 0; stands = refl }

-- a run of what is left behind a place
module _ (last : Bool) (room : ℕ) (s₀ : Stand) (k : Carried) (text : List ℕ) (at : ℕ) (so : Sofar last room s₀ (stand k (drop at text))) (out : List ℕ) (r : Ran) (left : Areas) (behind : List ℕ)
    (roomy : length out ≡ room) (ran : Yields (run_rule k (take (length text - at) (drop at text)) last (length out)) out r left behind) where
  -- it is the rule's next
  same : run_rule k (take (length text - at) (drop at text)) last (length out) ≡ run_of last room (after last room s₀ so.runs)
  same =
      ap (λ (l : List ℕ). run_rule k l last (length out)) (take_all (length text - at) (drop at text) (omega (arith, length-drop at text)))
      ∙ ap (run_rule k (drop at text) last) roomy
      ∙ ap (run_of last room) so.stands

  took : r.taken ≡ (run_of last room (after last room s₀ so.runs)).taken
  took = ran.takes ∙ ap (λ (w : Portion). w.taken) same

  on : carried r.footing left ≡ (run_of last room (after last room s₀ so.runs)).on
  on = ap (λ (s : Footing). carried s left) ran.carries ∙ ap (carried _) ran.leaves ∙ ap (λ (w : Portion). w.on) same

  behind_it : drop (at + r.taken) text ≡ drop (run_of last room (after last room s₀ so.runs)).taken (after last room s₀ so.runs).left
  behind_it =
      sym (drop-drop r.taken at text)
      ∙ ap (λ (n : ℕ). drop n (drop at text)) took
      ∙ ap (λ (s : Stand). drop (run_of last room (after last room s₀ so.runs)).taken s.left) so.stands

  pub sofar_next : Sofar last room s₀ (stand (carried r.footing left) (drop (at + r.taken) text))
  unfolding after
  sofar_next = record {
    runs = suc so.runs;
    stands = ap (λ (c : Carried). stand c (drop (at + r.taken) text)) on ∙ ap (stand (run_of last room (after last room s₀ so.runs)).on) behind_it;
  }

  -- the last of them
  pub answered : (written : Bool) (f : Fed)
      → (not written || eqb r.taken 0) ≡ true
      → f ≡ record { footing = r.footing; kept = length text - (at + r.taken); more = written && not last }
      → Serves last room s₀ f left
  unfolding after
  answered written f stops e = record {
    runs = suc so.runs;
    carries = ap (λ (x : Fed). carried x.footing left) e ∙ on;
    keeps = ap (λ (x : Fed). x.kept) e ∙ sym (length-drop (at + r.taken) text) ∙ ap length behind_it;
    written = written;
    more = ap (λ (x : Fed). x.more) e;
    all = λ yes. (so.runs, refl, sym took ∙ none written yes stops);
  }
    where
      none : (b : Bool) → b ≡ true → (not b || eqb r.taken 0) ≡ true → r.taken ≡ 0
      none true p q = eqb-true r.taken 0 q
      none false p q = absurd (true≢false (sym p))

-- ---- what is left

-- it is the end of the text
pub after_end : (last : Bool) (room : ℕ) (s : Stand) (n : ℕ) → (d : ℕ) × ((after last room s n).left ≡ drop d s.left)
unfolding after
after_end last room s zero = (0, refl)
after_end last room s (suc n) =
    let e = after_end last room s n in
    let w = (run_of last room (after last room s n)).taken in
    (e.0 + w, ap (drop w) e.1 ∙ drop-drop w e.0 s.left)

end_drop : (d : ℕ) (l : List ℕ) → drop (length l - length (drop d l)) l ≡ drop d l
end_drop d l =
    ⊎_elim
    (λ (h : d < length l). let e : length l - length (drop d l) ≡ d = omega (arith, length-drop d l) in ap (λ (n : ℕ). drop n l) e)
    (λ (h : length l ≤ d).
    let e : length l - length (drop d l) ≡ length l = omega (arith, length-drop d l) in
    let z : d ≡ length l + (d - length l) = omega arith in
    ap (λ (n : ℕ). drop n l) e ∙ drop-length l ∙ sym (ap (λ (n : ℕ). drop n l) z ∙ sym (drop-drop (d - length l) (length l) l) ∙ ap (drop (d - length l)) (drop-length l) ∙ drop_none (d - length l)))
    (lt_or_le d (length l))
  where
    drop_none : (n : ℕ) → drop {A = ℕ} n [] ≡ []
    drop_none zero = refl
    drop_none (suc n) = refl

pub after_left : (last : Bool) (room : ℕ) (s : Stand) (n : ℕ) → drop (length s.left - length (after last room s n).left) s.left ≡ (after last room s n).left
after_left last room s n =
    let e = after_end last room s n in
    ap (λ (l : List ℕ). drop (length s.left - length l) s.left) e.1 ∙ end_drop e.0 s.left ∙ sym e.1

pub after_short : (last : Bool) (room : ℕ) (s : Stand) (n : ℕ) → length (after last room s n).left ≤ length s.left
after_short last room s n = let e = after_end last room s n in omega (arith, ap length e.1, length-drop e.0 s.left)

-- where more is to be read, what is left is no longer than a line may be: so there is room behind it
pub answers_short : (last : Bool) (room : ℕ) (s : Stand) (f : Fed) (left : Areas) → Serves last room s f left → longest_answer ≤ room → f.more ≡ true → f.kept ≤ longest_line
unfolding after
answers_short last room s f left a roomy more = by (a.all (yes a.written (sym a.more ∙ more)))
  where
    yes : (b : Bool) → (b && not last) ≡ true → b ≡ true
    yes true h = refl
    yes false h = h

    by : (n : ℕ) × (a.runs ≡ suc n) × ((run_of last room (after last room s n)).taken ≡ 0) → f.kept ≤ longest_line
    by (n, is, none) =
        ⊎_elim
        (λ (h : longest_line < length (after last room s n).left).
        absurd (omega (arith, none, run_goes_on_long (after last room s n).on (after last room s n).left last room roomy h)))
        (λ (h : length (after last room s n).left ≤ longest_line).
        omega (arith, a.keeps, ap (λ (m : ℕ). length (after last room s m).left) is, ap (λ (m : ℕ). length (drop m (after last room s n).left)) none, h))
        (lt_or_le longest_line (length (after last room s n).left))
