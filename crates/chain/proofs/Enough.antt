-- Distinct entries are at most as many as there are, so the number of entries is fuel enough: with more of it a chain is the same.
-- Assumes nothing.
use mathlib.Core.Path.{◌≡◌, refl, sym, ap, ◌∙◌}
use mathlib.Core.Bool.{Bool, true, false, ◌||◌, cond, true≢false}
use mathlib.Core.List.{List, [], ◌∷◌}
use Prim.Native.Nat.{ℕ, zero, suc, ◌+◌, ◌≤◌, ◌<◌}
use native.Mathlib.Nat.{zero-add, suc-add, add-zero}
use native.Mathlib.Omega.{arith}
use lib.ListN.{length}
use lib.Dec.{eqb}
use borrow.Author.Tests.{eqb-true, eqb-false}
use Rattle.kind.specs.Kind.{entries}
use Rattle.records.specs.declared.entry.Entry.{Entry}
use Rattle.chain.specs.declared.Link.{Link}
use Rattle.chain.specs.declared.Link.TheVariants.{End, Break, To}
use Rattle.chain.specs.Chain.{ended, onto, among, chain_from, link_of}
use Rattle.chain.proofs.Links.{link_real}
use Rattle.chain.proofs.Chains.{copy_of, chain_from_end, chain_from_break, chain_from_passed, chain_from_on, chain_from_full}

-- ---- pigeons

abbrev pub Distinct : List ℕ → Type 0
Distinct [] = Unit
Distinct (p ∷ ps) = (among p ps ≡ false) × Distinct ps

abbrev pub Below : ℕ → List ℕ → Type 0
Below n [] = Unit
Below n (p ∷ ps) = (p < n) × Below n ps

-- ps without x
rid : ℕ → List ℕ → List ℕ
rid x [] = []
rid x (p ∷ ps) = cond (eqb x p) (rid x ps) (p ∷ rid x ps)

rid_none : (x : ℕ) (ps : List ℕ) → among x ps ≡ false → rid x ps ≡ ps
unfolding rid among
rid_none x [] h = refl
rid_none x (p ∷ ps) h = by (eqb x p) (rid_none x ps) h
  where
    by : (t : Bool) → (among x ps ≡ false → rid x ps ≡ ps) → t || among x ps ≡ false → cond t (rid x ps) (p ∷ rid x ps) ≡ p ∷ ps
    by true g k = absurd (true≢false k)
    by false g k = ap (λ (r : List ℕ). p ∷ r) (g k)

rid_long : (x : ℕ) (ps : List ℕ) → Distinct ps → length ps ≤ suc (length (rid x ps))
unfolding rid
rid_long x [] d = omega arith
rid_long x (p ∷ ps) d = by (eqb x p) refl (rid_long x ps d.1)
  where
    by : (t : Bool) → eqb x p ≡ t → length ps ≤ suc (length (rid x ps)) → suc (length ps) ≤ suc (length (cond t (rid x ps) (p ∷ rid x ps)))
    by true e g = omega (arith, ap length (rid_none x ps (rw (eqb-true x p e) d.0)))
    by false e g = omega arith

rid_among : (x q : ℕ) (ps : List ℕ) → among q ps ≡ false → among q (rid x ps) ≡ false
unfolding rid among
rid_among x q [] h = refl
rid_among x q (p ∷ ps) h = by (eqb q p) (eqb x p) refl (rid_among x q ps) h
  where
    by : (t s : Bool) → eqb q p ≡ t → (among q ps ≡ false → among q (rid x ps) ≡ false) → t || among q ps ≡ false
        → among q (cond s (rid x ps) (p ∷ rid x ps)) ≡ false
    by true s e g k = absurd (true≢false k)
    by false true e g k = g k
    by false false e g k = rw e (g k)

rid_distinct : (x : ℕ) (ps : List ℕ) → Distinct ps → Distinct (rid x ps)
unfolding rid
rid_distinct x [] d = tt
rid_distinct x (p ∷ ps) d = by (eqb x p) (rid_distinct x ps d.1) (rid_among x p ps d.0)
  where
    by : (s : Bool) → Distinct (rid x ps) → among p (rid x ps) ≡ false → Distinct (cond s (rid x ps) (p ∷ rid x ps))
    by true r a = r
    by false r a = (a, r)

rid_below : (n : ℕ) (ps : List ℕ) → Below (suc n) ps → Below n (rid n ps)
unfolding rid
rid_below n [] b = tt
rid_below n (p ∷ ps) b = by (eqb n p) refl (rid_below n ps b.1)
  where
    by : (s : Bool) → eqb n p ≡ s → Below n (rid n ps) → Below n (cond s (rid n ps) (p ∷ rid n ps))
    by true e r = r
    by false e r = let ne : n ≡ p → ⊥ = eqb-false n p e in (omega (arith, b.0), r)

pub pigeons : (n : ℕ) (ps : List ℕ) → Distinct ps → Below n ps → length ps ≤ n
pigeons zero [] d b = omega arith
pigeons zero (p ∷ ps) d b = absurd (omega (arith, b.0))
pigeons (suc n) ps d b = omega (arith, rid_long n ps d, pigeons n (rid n ps) (rid_distinct n ps d) (rid_below n ps b))

-- ---- chains

module _ (u : List ℕ) (r k : ℕ) where
  -- where every entry has been passed, the next one was
  full : (more : ℕ) (ps : List ℕ) (ptr e : ℕ) (m : Entry) → link_of u r ptr ≡ To e m
      → Distinct ps → Below (entries u) ps → length ps ≡ entries u → chain_from u r more ps ptr ≡ ended false
  full more ps ptr e m to d b long = by (among e ps) refl
    where
      by : (t : Bool) → among e ps ≡ t → chain_from u r more ps ptr ≡ ended false
      by true h = chain_from_passed u r ps ptr e m to more h
      by false h = absurd (omega (arith, pigeons (entries u) (e ∷ ps) (h, d) ((link_real u r ptr e m to).inside, b)))

  pub more : (fuel : ℕ) (ps : List ℕ) (ptr : ℕ) → Distinct ps → Below (entries u) ps → fuel + length ps ≡ entries u
      → chain_from u r (fuel + k) ps ptr ≡ chain_from u r fuel ps ptr
  more zero ps ptr d b s = rw zero-add (on (link_of u r ptr) refl)
    where
      on : (l : Link) → link_of u r ptr ≡ l → chain_from u r k ps ptr ≡ chain_from u r zero ps ptr
      on End h = chain_from_end u r k ps ptr h ∙ sym (chain_from_end u r zero ps ptr h)
      on Break h = chain_from_break u r k ps ptr h ∙ sym (chain_from_break u r zero ps ptr h)
      on (To e m) h = full k ps ptr e m h d b (omega arith) ∙ sym (chain_from_full u r ps ptr e m h)
  more (suc fuel) ps ptr d b s = rw suc-add (on (link_of u r ptr) refl (λ e m. more fuel (e ∷ ps) m.copy.undo_ptr))
    where
      on : (l : Link) → link_of u r ptr ≡ l
          → ((e : ℕ) (m : Entry) → Distinct (e ∷ ps) → Below (entries u) (e ∷ ps) → fuel + suc (length ps) ≡ entries u
          → chain_from u r (fuel + k) (e ∷ ps) m.copy.undo_ptr ≡ chain_from u r fuel (e ∷ ps) m.copy.undo_ptr)
          → chain_from u r (suc (fuel + k)) ps ptr ≡ chain_from u r (suc fuel) ps ptr
      on End h g = chain_from_end u r (suc (fuel + k)) ps ptr h ∙ sym (chain_from_end u r (suc fuel) ps ptr h)
      on Break h g = chain_from_break u r (suc (fuel + k)) ps ptr h ∙ sym (chain_from_break u r (suc fuel) ps ptr h)
      on (To e m) h g = by (among e ps) refl
        where
          by : (t : Bool) → among e ps ≡ t → chain_from u r (suc (fuel + k)) ps ptr ≡ chain_from u r (suc fuel) ps ptr
          by true p = chain_from_passed u r ps ptr e m h (suc (fuel + k)) p ∙ sym (chain_from_passed u r ps ptr e m h (suc fuel) p)
          by false p =
              chain_from_on u r ps ptr e m h (fuel + k) p
              ∙ ap (onto (copy_of e m)) (g e m (p, d) ((link_real u r ptr e m h).inside, b) (omega arith))
              ∙ sym (chain_from_on u r ps ptr e m h fuel p)

  pub chain_enough : (ptr : ℕ) → chain_from u r (entries u + k) [] ptr ≡ chain_from u r (entries u) [] ptr
  chain_enough ptr = more (entries u) [] ptr tt tt (add-zero (entries u))
