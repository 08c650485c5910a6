-- What an iterator gives that takes each n-th item of another, where n is 1, or passes over its first n, where n is 0: all that the other gives.
-- For the proofs of loops and searches, so that a step of 2, or an item passed over, is refused for what it leaves out, and not because no law
-- tells what such an iterator gives. Assumes nothing.
use mathlib.Core.Path.{◌≡◌, sym, ap, subst, ◌∙◌}
use mathlib.Core.Bool.{Bool, true, false, cond}
use mathlib.Core.List.{List, [], ◌∷◌}
use Prim.Native.Nat.{ℕ, ◌+◌, ◌≤◌}
use native.Mathlib.Omega.{arith}
use lib.ListN.{length}
use Rattle.std.specs.Prelude.{Option, Some, None}
use Rattle.std.specs.Iterator.{AlwaysYields, YieldsThen}
use Rattle.std.specs.Iterator.Adapters.{skip_source, skip_count, skip_steps, step_by_source, step_by_gap, step_by_first_take, step_by_steps}
use Rattle.std.specs.Iterator.Runs.{Run}
use Rattle.std.specs.declared.iter.Skip.{Skip}
use Rattle.std.specs.declared.iter.StepBy.{StepBy}
use Rattle.std.proofs.lemmas.Iterator.{YieldsList}
use Rattle.std.proofs.lemmas.Iterator.Adapters.{YieldsList-from_skip}

-- ---- what a call's clause `runs` tells: how the iterator goes on, by its run, and where it stood, by what the run's beginning is

abbrev pub steps_of : {S A : Type 0} {steps : S → Option A → S → Type 0} → Run steps → S → Option A → S → Type 0
steps_of {steps = steps} p = steps

abbrev pub start_of : {S : Type 0} {from s : S} → from ≡ s → S
start_of {s = s} e = s

-- ---- each item

module _ {S A : Type 0} (steps : S → Option A → S → Type 0) where
  none_passed : (n : ℕ) (xs : List A) (s t : S) (r : Option A) → n ≡ 0 → length xs ≤ n → YieldsThen steps s xs r t → steps s r t
  none_passed n [] s t r z l y = subst (λ u. steps u r t) (sym y.1) y.2
  none_passed n (x ∷ xs) s t r z l y = absurd (omega arith)

  no_gap : (fresh : Bool) (n : ℕ) → n ≡ 0 → cond fresh 0 n ≡ 0
  no_gap true n g = omega arith
  no_gap false n g = g

  -- where no item is passed over, a call of it is a call of the other
  one_call : (s t : StepBy S) (r : Option A) → step_by_gap s ≡ 0 → step_by_steps steps s r t → steps (step_by_source s) r (step_by_source t)
  one_call s t None g call = let past = call.2 in none_passed past.0 past.1 _ _ _ (past.2 ∙ no_gap (step_by_first_take s) (step_by_gap s) g) past.4 past.3
  one_call s t (Some x) g call = let past = call.2 in none_passed past.0 past.1 _ _ _ (past.2 ∙ no_gap (step_by_first_take s) (step_by_gap s) g) (omega (arith, past.4)) past.3

  each : {B : Type 0} (v : A → B) (ys : List B) (s : StepBy S) → step_by_gap s ≡ 0 → AlwaysYields steps v (step_by_source s) ys → AlwaysYields (step_by_steps steps) v s ys
  each v [] s g all = λ x t call. all x (step_by_source t) (one_call s t (Some x) g call)
  each v (y ∷ ys) s g all = (
    (λ t call. all.0 (step_by_source t) (one_call s t None g call)),
    λ x t call.
        let next = all.1 x (step_by_source t) (one_call s t (Some x) g call) in
        (next.0, each v ys t (call.0 ∙ g) next.1),
  )

pub YieldsList-from_each : {S A B : Type 0} {steps : S → Option A → S → Type 0} {v : A → B} {u s : StepBy S} {t : S} {ys : List B}
    → u ≡ s → step_by_source s ≡ t → step_by_gap s + 1 ≡ 1 → YieldsList steps v t ys → YieldsList (step_by_steps steps) v u ys
YieldsList-from_each {steps = steps} {v} {u} {s} {t} {ys} is at g road = record {
  runs = each steps v ys u (ap step_by_gap is ∙ omega (arith, g)) (subst (λ r. AlwaysYields steps v r ys) (sym (ap step_by_source is ∙ at)) road.runs);
}

-- and one that passes over the first n, where n is 0
pub YieldsList-from_all : {S A B : Type 0} {steps : S → Option A → S → Type 0} {v : A → B} {u s : Skip S} {t : S} {ys : List B}
    → u ≡ s → skip_source s ≡ t → skip_count s ≡ 0 → YieldsList steps v t ys → YieldsList (skip_steps steps) v u ys
YieldsList-from_all {steps = steps} {v} {u} {s} {t} {ys} is at none road =
    YieldsList-from_skip 0 (subst (λ r. YieldsList steps v r ys) (sym (ap skip_source is ∙ at)) road) (ap skip_count is ∙ none)
