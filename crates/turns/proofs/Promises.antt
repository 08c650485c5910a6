-- The promises of begin, next statement and commit: no second result meets their contracts, and a refused call leaves desk and status
-- page as they were. Assumes nothing.
use mathlib.Core.Path.{◌≡◌, refl, sym, ap, ◌∙◌}
use mathlib.Core.List.{List}
use Prim.Native.Nat.{ℕ}
use lib.ListN.{length}
use Rattle.std.specs.Prelude.{Result}
use Rattle.ground.specs.Does.{Does}
use Rattle.ground.proofs.Refusals.{settled}
use Rattle.ground.proofs.Once.{once}
use Rattle.answer.specs.declared.Refusal.{Refusal}
use Rattle.answer.proofs.Codes.{reported_once}
use Rattle.places.specs.Open.{place_in}
use Rattle.desk.specs.declared.Desk.{Desk}
use Rattle.desk.specs.Turns.{begun, moved, closed}
use Rattle.words.specs.Words.{all_words}
use Rattle.words.proofs.Laws.{words_once}
use Rattle.kind.specs.Areas.{Areas}
use Rattle.page.specs.Header.{txn_id, put_field}
use Rattle.status.specs.declared.Status.TheVariants.{InWork, Committed}
use Rattle.status.specs.Status.{put_status}
use Rattle.admit.specs.Admit.{said}
use Rattle.admit.proofs.Admissions.{said_once}
use Rattle.turns.specs.Turns.{said_begun, begin_refusal, begin_rule, next_refusal, next_rule, commit_refusal, commit_rule}

-- ---- no second result: answer, words and status page

module _ (w w' : List ℕ) (long : length w ≡ all_words) (long' : length w' ≡ all_words) where
  said_begun_injective : (r r' : Result ℕ Refusal) → said_begun r w ≡ said_begun r' w' → (r ≡ r') × (w ≡ w')
  said_begun_injective r r' e =
      (reported_once r r' (ap (λ (p : ℕ × ℕ × Desk). p.0) e) (ap (λ (p : ℕ × ℕ × Desk). p.1) e), words_once w w' long long' (ap (λ (p : ℕ × ℕ × Desk). p.2) e))

  pub begin_once : (a : Areas) (d : Desk) (r r' : Result ℕ Refusal) (x x' : List ℕ) → Does (begin_rule a d) (said_begun r w) x → Does (begin_rule a d) (said_begun r' w') x'
      → ((r ≡ r') × (w ≡ w')) × (x ≡ x')
  begin_once a d r r' x x' p q = let o = once p q in (said_begun_injective r r' o.0, o.1)

  pub next_once : (a : Areas) (d : Desk) (x : ℕ) (r r' : Result (Unit {0}) Refusal) → said r w ≡ next_rule a d x → said r' w' ≡ next_rule a d x → (r ≡ r') × (w ≡ w')
  next_once a d x r r' p q = said_once w w' long long' r r' (p ∙ sym q)

  pub commit_once : (a : Areas) (d : Desk) (s : ℕ) (r r' : Result (Unit {0}) Refusal) (x x' : List ℕ) → Does (commit_rule a d s) (said r w) x → Does (commit_rule a d s) (said r' w') x'
      → ((r ≡ r') × (w ≡ w')) × (x ≡ x')
  commit_once a d s r r' x x' p q = let o = once p q in (said_once w w' long long' r r' o.0, o.1)

-- ---- a refused call leaves everything, and reports 0

pub begin_refused : (a : Areas) (d : Desk) → ((begin_rule a d).0.0 ≡ 0 → ⊥)
    → ((begin_rule a d).0.2 ≡ d) × ((begin_rule a d).1 ≡ a.status) × ((begin_rule a d).0.1 ≡ 0)
unfolding begin_rule
begin_refused a d =
    settled
    ((0, d.next, begun d), put_field txn_id 0 d.next (put_status d.next InWork a.status))
    (λ (n : ℕ). ((n, 0, d), a.status))
    (begin_refusal a d)
    (λ (y : (ℕ × ℕ × Desk) × List ℕ). (y.0.0 ≡ 0 → ⊥) → (y.0.2 ≡ d) × (y.1 ≡ a.status) × (y.0.1 ≡ 0))
    (λ e h. absurd (h refl))
    (λ m h. (refl, refl, refl))

pub next_refused_leaves : (a : Areas) (d : Desk) (x : ℕ) → ((next_rule a d x).0 ≡ 0 → ⊥) → (next_rule a d x).1 ≡ d
unfolding next_rule
next_refused_leaves a d x =
    settled (0, moved (place_in x d.numbers) d) (λ (n : ℕ). (n, d)) (next_refusal a d x)
    (λ (y : ℕ × Desk). (y.0 ≡ 0 → ⊥) → y.1 ≡ d)
    (λ e h. absurd (h refl))
    (λ m h. refl)

pub commit_refused_leaves : (a : Areas) (d : Desk) (x : ℕ) → ((commit_rule a d x).0.0 ≡ 0 → ⊥) → ((commit_rule a d x).0.1 ≡ d) × ((commit_rule a d x).1 ≡ a.status)
unfolding commit_rule
commit_refused_leaves a d x =
    settled ((0, closed (place_in x d.numbers) d), put_status x Committed a.status) (λ (n : ℕ). ((n, d), a.status)) (commit_refusal a d x)
    (λ (y : (ℕ × Desk) × List ℕ). (y.0.0 ≡ 0 → ⊥) → (y.0.1 ≡ d) × (y.1 ≡ a.status))
    (λ e h. absurd (h refl))
    (λ m h. (refl, refl))
