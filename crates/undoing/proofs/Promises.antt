-- The promises of withdraw: no second result meets its contract, and a refused call leaves the desk and the areas as they were
-- ("01, When the desk says no"). Assumes nothing.
use mathlib.Core.Path.{◌≡◌, refl}
use mathlib.Core.List.{List}
use Prim.Native.Nat.{ℕ}
use lib.ListN.{length}
use Rattle.std.specs.Prelude.{Result}
use Rattle.ground.specs.Does.{Does}
use Rattle.ground.proofs.Once.{once}
use Rattle.ground.proofs.Refusals.{settled}
use Rattle.answer.specs.declared.Refusal.{Refusal}
use Rattle.places.specs.Open.{place_in}
use Rattle.desk.specs.declared.Desk.{Desk}
use Rattle.desk.specs.Turns.{closed}
use Rattle.words.specs.Words.{all_words}
use Rattle.kind.specs.Areas.{Areas}
use Rattle.admit.specs.Admit.{said}
use Rattle.admit.proofs.Admissions.{said_once}
use Rattle.undoing.specs.Undoing.{withdraw_refusal, withdrawn, withdraw_rule}

module _ (a : Areas) (d : Desk) (x : ℕ) where
  pub withdraw_once : (r r' : Result (Unit {0}) Refusal) (w w' : List ℕ) (y y' : Areas)
      → length w ≡ all_words
      → length w' ≡ all_words
      → Does (withdraw_rule a d x) (said r w) y
      → Does (withdraw_rule a d x) (said r' w') y'
      → ((r ≡ r') × (w ≡ w')) × (y ≡ y')
  withdraw_once r r' w w' y y' long long' p q =
      let o = once p q in (said_once w w' long long' r r' o.0, o.1)

  pub withdraw_refused_leaves : ((withdraw_rule a d x).0.0 ≡ 0 → ⊥) → ((withdraw_rule a d x).0.1 ≡ d) × ((withdraw_rule a d x).1 ≡ a)
  unfolding withdraw_rule
  withdraw_refused_leaves =
      settled ((0, closed (place_in x d.numbers) d), withdrawn a x) (λ (n : ℕ). ((n, d), a)) (withdraw_refusal a d x)
      (λ (y : (ℕ × Desk) × Areas). (y.0.0 ≡ 0 → ⊥) → (y.0.1 ≡ d) × (y.1 ≡ a))
      (λ e h. absurd (h refl))
      (λ m h. (refl, refl))
