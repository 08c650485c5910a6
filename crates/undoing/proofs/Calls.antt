-- The rule of withdraw, case by case. Assumes nothing.
use mathlib.Core.Path.{◌≡◌, sym, ap, ◌∙◌}
use mathlib.Core.Bool.{Bool, true, false}
use mathlib.Core.List.{List, [], ◌∷◌}
use Prim.Native.Nat.{ℕ}
use Rattle.std.specs.Prelude.{Err}
use Rattle.ground.specs.Refuse.{first_of, settle}
use Rattle.answer.specs.declared.Refusal.{Refusal}
use Rattle.answer.specs.Code.{code_of}
use Rattle.places.specs.Open.{place_in}
use Rattle.desk.specs.declared.Desk.{Desk}
use Rattle.desk.specs.Desk.{first_statement}
use Rattle.desk.specs.Turns.{closed}
use Rattle.kind.specs.Kind.{rows}
use Rattle.kind.specs.Areas.{Areas, areas, Both, both}
use Rattle.status.specs.declared.Status.TheVariants.{Withdrawn}
use Rattle.status.specs.Status.{put_status}
use Rattle.admit.proofs.Admissions.{Admits, admission, refuses, goes_on, admits_at}
use Rattle.undoing.specs.Undoing.{some_broken, undone_from, undone, withdraw_refusal, withdrawn, withdraw_rule}

module _ (d u s : List ℕ) (desk : Desk) (x : ℕ) where
  abbrev rest : List (Bool × ℕ)
  rest = (some_broken x first_statement d u, 6) ∷ []

  abbrev done : ℕ → (ℕ × Desk) × Areas
  done k = ((0, closed k desk), withdrawn (areas d u s) x)

  abbrev no : ℕ → (ℕ × Desk) × Areas
  no n = ((n, desk), areas d u s)

  pub withdraw_refused : (n : Refusal) → admission d u s desk x ≡ Err n → withdraw_rule (areas d u s) desk x ≡ no (code_of n)
  unfolding withdraw_rule withdraw_refusal
  withdraw_refused n e = refuses d u s desk x n rest (done (place_in x desk.numbers)) no e

  -- by what admission says, and b is what was answered of a break
  module _ {b : Bool} (k : ℕ) (a : Admits d u s desk x k) (asked : b ≡ some_broken x first_statement d u) where
    withdraw_on : {t : Bool} → b ≡ t → withdraw_rule (areas d u s) desk x ≡ settle (first_of ((t, 6) ∷ [])) (done k) no
    unfolding withdraw_rule withdraw_refusal
    withdraw_on h =
        goes_on d u s desk x k a rest (done (place_in x desk.numbers)) no
        ∙ ap (λ (i : ℕ). settle (first_of rest) (done i) no) (sym (admits_at d u s desk x k a))
        ∙ ap (λ (t : Bool). settle (first_of ((t, 6) ∷ [])) (done k) no) (sym asked ∙ h)

    pub withdraw_6 : b ≡ true → withdraw_rule (areas d u s) desk x ≡ no 6
    withdraw_6 h = withdraw_on h

    -- y, z and t are the areas as the callees left them
    pub withdraw_0 : {y z t : List ℕ} → b ≡ false → both y z ≡ undone_from x first_statement 0 (rows d) (both d u) → t ≡ put_status x Withdrawn s
        → withdraw_rule (areas d u s) desk x ≡ ((0, closed k desk), areas y z t)
    unfolding withdrawn undone
    withdraw_0 {y} {z} {t} h taken set =
        withdraw_on h
        ∙ ap (λ (p : Both). ((0, closed k desk), areas p.«data» p.undo (put_status x Withdrawn s))) (sym taken)
        ∙ ap (λ (l : List ℕ). ((0, closed k desk), areas y z l)) (sym set)
