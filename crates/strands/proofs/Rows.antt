-- Rows treated one after the other, by withdraw and by the sweep ("01, Writes, withdrawal, sweep"): each row among them has the chain
-- that it would have if it alone were treated, and every other row keeps slot, body and chain. Assumes nothing.
use mathlib.Core.Path.{◌≡◌, refl, sym, ap, subst, ◌∙◌}
use mathlib.Core.Logic.{◌⊎◌, inl, inr, ⊎_elim}
use mathlib.Core.Bool.{Bool, true, false}
use mathlib.Core.List.{List}
use Prim.Native.Nat.{ℕ, zero, suc, ◌+◌, ◌≤◌, ◌<◌}
use native.Mathlib.Omega.{arith}
use lib.Dec.{eqb}
use borrow.Author.Tests.{eqb-true, eqb-false}
use Rattle.kind.specs.Areas.{Both}
use Rattle.chain.specs.Chain.{Chain, chain_of}
use Rattle.strands.specs.Strands.{Copies, Shaped, Treated, RowIn, RowsIn, Same, Turns}
use Rattle.strands.proofs.Apart.{of_row_refl, copies_refl, copies_trans, chain_of_treated}
use Rattle.strands.proofs.Shapes.{shaped_refl, shaped_trans}

-- a row in which nothing is written
pub treated_refl : (r : ℕ) (d u : List ℕ) → Treated r d u d u
treated_refl r d u =
    record {
      of_row = of_row_refl r u;
      copies = copies_refl u;
      slots = λ t ne. refl;
      bodies = λ t ne. refl;
      «data» = shaped_refl d;
      undo = shaped_refl u;
    }

-- a row that is treated leaves every other as it was
same_treated : {r : ℕ} {p p' : Both} → Treated r p.«data» p.undo p'.«data» p'.undo → (t : ℕ) → (t ≡ r → ⊥) → Same t p p'
same_treated k t ne = record { chains = chain_of_treated k t ne; slots = k.slots t ne; bodies = k.bodies t ne }

same_trans : {t : ℕ} {p p₁ p₂ : Both} → Same t p p₁ → Same t p₁ p₂ → Same t p p₂
same_trans a b = record { chains = b.chains ∙ a.chains; slots = b.slots ∙ a.slots; bodies = b.bodies ∙ a.bodies }

abbrev chain_in : Both → ℕ → Chain
chain_in p t = chain_of p.«data» p.undo t

-- f treats a row, g the n rows from r on
module _ (f : ℕ → Both → Both) (g : ℕ → ℕ → Both → Both) (turns : Turns f g) where
  pub first_in_lem : (n r : ℕ) (p : Both) → RowsIn (r + suc n) p → RowIn r p.«data» p.undo
  first_in_lem n r p h = record { row = omega (arith, h.few); «data» = h.«data»; undo = h.undo }

  pub treats : (n r : ℕ) (p : Both) → RowsIn (r + suc n) p → Treated r p.«data» p.undo (f r p).«data» (f r p).undo
  treats n r p h = turns.treats r p (first_in_lem n r p h)

  -- the other rows are still to be treated
  pub later_in : (n r : ℕ) (p : Both) → RowsIn (r + suc n) p → RowsIn (r + 1 + n) (f r p)
  later_in n r p h =
      let k : Treated r p.«data» p.undo (f r p).«data» (f r p).undo = treats n r p h in
      record {
        few = omega (arith, h.few, k.«data».long);
        «data» = k.«data».bytes h.«data»;
        undo = k.undo.bytes h.undo;
      }

  -- a row that is not among them is as it was
  pub rows_others : (n r : ℕ) (p : Both) → RowsIn (r + n) p → (t : ℕ) → (t < r) ⊎ (r + n ≤ t) → Same t p (g r n p)
  rows_others zero r p h t out =
      subst (Same t p) (sym (turns.none r p)) (record { chains = refl; slots = refl; bodies = refl })
  rows_others (suc n) r p h t out =
      subst (Same t p) (sym (turns.next r n p))
      (same_trans
      (same_treated (treats n r p h) t (⊎_elim (λ (l : t < r) (e : t ≡ r). omega arith) (λ (l : r + suc n ≤ t) (e : t ≡ r). omega arith) out))
      (rows_others n (r + 1) (f r p) (later_in n r p h) t (⊎_elim (λ (l : t < r). inl (omega arith)) (λ (l : r + suc n ≤ t). inr (omega arith)) out)))

  -- one among them has the chain F that its own treatment gives, of a chain of which P holds
  module _ (t : ℕ) (P : Chain → Type 0) (F : Chain → Chain)
      (own : (q : Both) → RowIn t q.«data» q.undo → P (chain_of q.«data» q.undo t)
      → chain_of (f t q).«data» (f t q).undo t ≡ F (chain_of q.«data» q.undo t))
    where
      pub rows_own : (n r : ℕ) (p : Both) → RowsIn (r + n) p → r ≤ t → t < r + n → P (chain_of p.«data» p.undo t)
          → chain_of (g r n p).«data» (g r n p).undo t ≡ F (chain_of p.«data» p.undo t)
      rows_own zero r p h low high had = absurd (omega arith)
      rows_own (suc n) r p h low high had = by (eqb t r) refl (rows_own n (r + 1) (f r p) (later_in n r p h))
        where
          by : (b : Bool) → eqb t r ≡ b
              → (r + 1 ≤ t → t < r + 1 + n → P (chain_in (f r p) t) → chain_in (g (r + 1) n (f r p)) t ≡ F (chain_in (f r p) t))
              → chain_in (g r (suc n) p) t ≡ F (chain_in p t)
          by true e ih =
              let same : t ≡ r = eqb-true t r e in
              ap (λ (q : Both). chain_in q t) (turns.next r n p)
              ∙ (rows_others n (r + 1) (f r p) (later_in n r p h) t (inl (omega arith))).chains
              ∙ ap (λ (x : ℕ). chain_in (f x p) t) (sym same)
              ∙ own p (subst (λ (x : ℕ). RowIn x p.«data» p.undo) (sym same) (first_in_lem n r p h)) had
          by false e ih =
              let ne : t ≡ r → ⊥ = eqb-false t r e in
              let kept : chain_in (f r p) t ≡ chain_in p t = chain_of_treated (treats n r p h) t ne in
              ap (λ (q : Both). chain_in q t) (turns.next r n p)
              ∙ ih (omega arith) (omega arith) (subst P (sym kept) had)
              ∙ ap F kept

  -- the areas keep their shape, and the copies that stay their bodies
  pub rows_shaped : (n r : ℕ) (p : Both) → RowsIn (r + n) p
      → Shaped p.«data» (g r n p).«data» × Shaped p.undo (g r n p).undo × Copies p.undo (g r n p).undo
  rows_shaped zero r p h =
      subst (λ (q : Both). Shaped p.«data» q.«data» × Shaped p.undo q.undo × Copies p.undo q.undo) (sym (turns.none r p))
      (shaped_refl p.«data», shaped_refl p.undo, copies_refl p.undo)
  rows_shaped (suc n) r p h =
      let k : Treated r p.«data» p.undo (f r p).«data» (f r p).undo = treats n r p h in
      let z : Both = g (r + 1) n (f r p) in
      let ih : Shaped (f r p).«data» z.«data» × Shaped (f r p).undo z.undo × Copies (f r p).undo z.undo =
      rows_shaped n (r + 1) (f r p) (later_in n r p h)
      in
      subst (λ (q : Both). Shaped p.«data» q.«data» × Shaped p.undo q.undo × Copies p.undo q.undo) (sym (turns.next r n p)) (
        shaped_trans p.«data» (f r p).«data» z.«data» k.«data» ih.0,
        shaped_trans p.undo (f r p).undo z.undo k.undo ih.1,
        copies_trans p.undo (f r p).undo z.undo k.copies ih.2,
      )
