-- What the contract of sweep promises ("01, Writes, withdrawal, sweep", "01, When the desk says no"). Assumes nothing.
use mathlib.Core.Path.{◌≡◌, refl, sym, ap, ◌∙◌}
use mathlib.Core.Logic.{◌⊎◌}
use Prim.Native.Nat.{ℕ, ◌+◌, ◌-◌, ◌≤◌, ◌<◌}
use native.Mathlib.Omega.{arith}
use Rattle.std.specs.Prelude.{Result, Ok}
use Rattle.ground.specs.Does.{Does}
use Rattle.ground.proofs.Once.{once}
use Rattle.ground.proofs.Refusals.{settled}
use Rattle.answer.specs.declared.Refusal.{Refusal}
use Rattle.answer.proofs.Codes.{answered_once}
use Rattle.little.specs.Little.{Bytes}
use Rattle.desk.specs.declared.Desk.{Desk}
use Rattle.desk.specs.Turns.{mark}
use Rattle.kind.specs.Areas.{Areas, areas, both}
use Rattle.strands.specs.Strands.{Same}
use Rattle.strands.proofs.Rows.{rows_others}
use Rattle.trimming.specs.Trimming.{swept_row}
use Rattle.sweeping.specs.declared.Swept.{Swept}
use Rattle.sweeping.specs.Sweeping.{said_swept, treated, swept_from, held_from, sweep_refusal, swept, sweep_rule}
use Rattle.sweeping.proofs.Treats.{swept_turns}
use Rattle.sweeping.proofs.Calls.{treats_inside}

module _ (a : Areas) (d : Desk) (first quota : ℕ) where
  -- no second result meets the contract
  pub sweep_once : (r r' : Result Swept Refusal) (x x' : Areas)
      → Does (sweep_rule a d first quota) (said_swept r) x
      → Does (sweep_rule a d first quota) (said_swept r') x'
      → (r ≡ r') × (x ≡ x')
  sweep_once r r' x x' p q = let o = once p q in (same o.0, o.1)
    where
      same : said_swept r ≡ said_swept r' → r ≡ r'
      same e =
          answered_once r r' (ap (λ (n : ℕ × ℕ × ℕ). n.0) e)
          (λ y y' is is'.
          let all : said_swept (Ok y) ≡ said_swept (Ok y') = ap said_swept (sym is) ∙ e ∙ ap said_swept is' in
          let n : y.next ≡ y'.next = ap (λ (n : ℕ × ℕ × ℕ). n.1) all in
          let k : y.removed ≡ y'.removed = ap (λ (n : ℕ × ℕ × ℕ). n.2) all in
          λ i. record { next = n i; removed = k i })

  -- how many rows are treated, and what is answered and left where nothing is refused
  abbrev n : ℕ
  n = treated a.«data» first quota

  abbrev done : (ℕ × ℕ × ℕ) × Areas
  done = (
    (0, first + n, held_from first n (both a.«data» a.undo) - held_from first n (swept a d first quota)),
    areas (swept a d first quota).«data» (swept a d first quota).undo a.status,
  )

  abbrev no : ℕ → (ℕ × ℕ × ℕ) × Areas
  no k = ((k, 0, 0), a)

  -- "Every refusal leaves areas and desk unchanged" (but for a 10: "02, T-07"), "Each number reported by a refused call is 0"
  pub sweep_refused_leaves : ((sweep_rule a d first quota).0.0 ≡ 0 → ⊥)
      → ((sweep_rule a d first quota).0.1 ≡ 0) × ((sweep_rule a d first quota).0.2 ≡ 0) × ((sweep_rule a d first quota).1 ≡ a)
  unfolding sweep_rule
  sweep_refused_leaves =
      settled done no (sweep_refusal a d first quota)
      (λ (y : (ℕ × ℕ × ℕ) × Areas). (y.0.0 ≡ 0 → ⊥) → (y.0.1 ≡ 0) × (y.0.2 ≡ 0) × (y.1 ≡ a))
      (λ e h. absurd (h refl))
      (λ m h. (refl, refl, refl))

  -- the rows that are not treated keep slot, body and chain
  pub sweep_leaves_lem : Bytes a.«data» → Bytes a.undo → (t : ℕ) → (t < first) ⊎ (first + n ≤ t)
      → Same t (both a.«data» a.undo) (both (sweep_rule a d first quota).1.«data» (sweep_rule a d first quota).1.undo)
  unfolding sweep_rule swept
  sweep_leaves_lem own own' t out =
      settled done no (sweep_refusal a d first quota)
      (λ (y : (ℕ × ℕ × ℕ) × Areas). Same t (both a.«data» a.undo) (both y.1.«data» y.1.undo))
      (λ e. rows_others (swept_row (mark d) a.status) (swept_from (mark d) a.status) (swept_turns (mark d) a.status) n first
      (both a.«data» a.undo)
      (record { few = treats_inside a d first quota e; «data» = own; undo = own' })
      t
      out)
      (λ m. record { chains = refl; slots = refl; bodies = refl })

  -- "treats min(quota, rows left) of them": no more than asked, and no row outside the area
  pub sweep_few : n ≤ quota
  unfolding treated
  sweep_few = omega arith
