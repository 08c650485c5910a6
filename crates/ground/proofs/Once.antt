-- Contracts that are equations with a rule: no second result meets one, once for every call; and a call meets one by the case of
-- its rule. Assumes nothing.
use mathlib.Core.Path.{◌≡◌, sym, ap, ◌∙◌}
use Rattle.ground.specs.Does.{Does}

pub once : {A B : Type 0} {rule : A × B} {r r' : A} {x x' : B} → Does rule r x → Does rule r' x' → (r ≡ r') × (x ≡ x')
once p q = (p.answers ∙ sym q.answers, p.leaves ∙ sym q.leaves)

-- a call does what the case of its rule says
pub does_case : {A B : Type 0} {rule : A × B} {a x : A} {b y : B} → rule ≡ (x, y) → a ≡ x → b ≡ y → Does rule a b
does_case e p q = record { answers = p ∙ sym (ap (λ r. r.0) e); leaves = q ∙ sym (ap (λ r. r.1) e) }

-- two facts at once, for a goal that asks each under a name of its own
pub by_halves : {A B C : Type 0} → (A → B → C) → A × B → C
by_halves f h = f h.0 h.1
