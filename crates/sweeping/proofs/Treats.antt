-- Row after row ("01, Writes, withdrawal, sweep"): a row that is treated leaves all others as they are, so the rule from here on is the
-- rule from the start, and what goes is what the rows held before less what they hold after. Assumes nothing.
use mathlib.Core.Path.{◌≡◌, refl, sym, ap, subst, ◌∙◌}
use mathlib.Core.Logic.{inl}
use mathlib.Core.Bool.{true}
use mathlib.Core.List.{List, [], ◌∷◌}
use Prim.Native.Nat.{ℕ, zero, suc, ◌+◌, ◌-◌, ◌*◌, ◌/◌, ◌≤◌, ◌<◌}
use native.Mathlib.Nat.{zero-add}
use native.Mathlib.Omega.{arith}
use lib.ListN.{length, get_or}
use Rattle.ground.proofs.Ranges.{all_at}
use Rattle.little.specs.Little.{Bytes}
use Rattle.kind.specs.Kind.{rows}
use Rattle.kind.specs.Areas.{Both, both}
use Rattle.chain.specs.Chain.{Chain, chain_of}
use Rattle.strands.specs.Strands.{RowsIn, Turns}
use Rattle.strands.proofs.Apart.{chain_of_treated}
use Rattle.strands.proofs.Rows.{first_in_lem, treats, later_in, rows_others}
use Rattle.trimming.specs.Trimming.{gone_row, swept_row}
use Rattle.trimming.proofs.Sweeps.{row_few}
use Rattle.trimming.proofs.Trims.{swept_row_treated, gone_row_count}
use Rattle.sweeping.specs.Sweeping.{all_whole, swept_from, removed_from, held_from}

abbrev pub chain : Both → ℕ → Chain
chain p r = chain_of p.«data» p.undo r

-- the n rows from r on are rows of the area, which holds bytes, and have no break
pub record Ready (r n : ℕ) (p : Both) : Type 0 where
  pub lies : RowsIn (r + n) p
  pub whole : (t : ℕ) → r ≤ t → t < r + n → (chain p t).whole ≡ true

-- what an area holds are bytes, element by element
bytes_each : (l : List ℕ) → ((i : ℕ) → get_or l i 0 < 256) → Bytes l
bytes_each [] h = tt
bytes_each (x ∷ l) h = (h 0, bytes_each l (λ i. h (suc i)))

pub inside : (d u : List ℕ) (first n : ℕ) → first + n ≤ rows d → ((i : ℕ) → get_or d i 0 < 256) → ((i : ℕ) → get_or u i 0 < 256)
    → RowsIn (first + n) (both d u)
inside d u first n h each each' = record { few = h; «data» = bytes_each d each; undo = bytes_each u each' }

pub ready : (d u : List ℕ) (first n : ℕ) → RowsIn (first + n) (both d u) → all_whole d u first n ≡ true → Ready first n (both d u)
unfolding all_whole
ready d u first n lies h =
    record {
      lies = lies;
      whole = λ t low high. each t (omega arith) (all_at (λ (i : ℕ). (chain_of d u (first + i)).whole) n h (t - first) (omega arith));
    }
  where
    each : (t : ℕ) → first + (t - first) ≡ t → (chain_of d u (first + (t - first))).whole ≡ true → (chain_of d u t).whole ≡ true
    each t is w = ap (λ (k : ℕ). (chain_of d u k).whole) (sym is) ∙ w

module _ (m : ℕ) (s : List ℕ) where
  pub swept_turns : Turns (swept_row m s) (swept_from m s)
  unfolding swept_from
  swept_turns =
      record {
        none = λ r p. refl;
        next = λ r n p. refl;
        treats = λ r p h. swept_row_treated m s r p.«data» p.undo h;
      }

  -- ---- one row

  module _ (r n : ℕ) (p : Both) (h : Ready r (suc n) p) where
    row_held : length (chain p r).versions ≡ gone_row m s r p + length (chain (swept_row m s r p) r).versions
    row_held =
        gone_row_count m s r p.«data» p.undo (first_in_lem (swept_row m s) (swept_from m s) swept_turns n r p h.lies)
        (h.whole r (omega arith) (omega arith))

    row_other : (t : ℕ) → (t ≡ r → ⊥) → chain (swept_row m s r p) t ≡ chain p t
    row_other = chain_of_treated (treats (swept_row m s) (swept_from m s) swept_turns n r p h.lies)

    ready_next : Ready (r + 1) n (swept_row m s r p)
    ready_next =
        record {
          lies = later_in (swept_row m s) (swept_from m s) swept_turns n r p h.lies;
          whole =
              λ t low high. ap (λ (c : Chain). c.whole) (row_other t (λ (e : t ≡ r). omega arith)) ∙ h.whole t (omega arith) (omega arith);
        }

  -- ---- "the versions removed, equal to versions held before less versions held after in those rows"

  held_same : (r n : ℕ) (p p' : Both) → ((t : ℕ) → r ≤ t → chain p' t ≡ chain p t) → held_from r n p' ≡ held_from r n p
  unfolding held_from
  held_same r zero p p' same = refl
  held_same r (suc n) p p' same =
      ap (λ (c : Chain). length c.versions + held_from (r + 1) n p') (same r (omega arith))
      ∙ ap (λ (k : ℕ). length (chain p r).versions + k) (held_same (r + 1) n p p' (λ t low. same t (omega arith)))

  pub held_removed : (r n : ℕ) (p : Both) → Ready r n p → held_from r n p ≡ removed_from m s r n p + held_from r n (swept_from m s r n p)
  unfolding held_from removed_from swept_from
  held_removed r zero p h = refl
  held_removed r (suc n) p h =
      let next : Both = swept_row m s r p in
      let last : Both = swept_from m s (r + 1) n next in
      sum (length (chain p r).versions) (held_from (r + 1) n p) (gone_row m s r p) (length (chain next r).versions) (held_from (r + 1) n next)
      (length (chain last r).versions) (removed_from m s (r + 1) n next) (held_from (r + 1) n last)
      (row_held r n p h)
      (held_same (r + 1) n p next (λ t low. row_other r n p h t (λ (e : t ≡ r). omega arith)))
      (held_removed (r + 1) n next (ready_next r n p h))
      (ap (λ (c : Chain). length c.versions) (rows_others (swept_row m s) (swept_from m s) swept_turns n (r + 1) next (ready_next r n p h).lies r (inl (omega arith))).chains)
    where
      sum : (a b g x y y' z z' : ℕ) → a ≡ g + x → y ≡ b → y ≡ z + z' → y' ≡ x → a + b ≡ g + z + (y' + z')
      sum a b g x y y' z z' e f k l = omega arith

  -- ---- the loop over the n rows from `first` on, which stands at row r, and `removed` versions are gone

  -- of which k are left from r on
  pub record At (first n : ℕ) (p₀ : Both) (r k : ℕ) (p : Both) (removed : ℕ) : Type 0 where
    pub leaves : swept_from m s r k p ≡ swept_from m s first n p₀
    pub counts : removed + removed_from m s r k p ≡ removed_from m s first n p₀
    pub rest : Ready r k p

  abbrev pub Upto : ℕ → ℕ → Both → Both → ℕ → ℕ → Type 0
  Upto first n p₀ p r removed = At first n p₀ r (first + n - r) p removed

  module _ (first n : ℕ) (p₀ : Both) where
    pub upto_start : Ready first n p₀ → Upto first n p₀ p₀ first 0
    upto_start h =
        let all : first + n - first ≡ n = omega arith in
        record {
          leaves = ap (λ (k : ℕ). swept_from m s first k p₀) all;
          counts = zero-add (removed_from m s first (first + n - first) p₀) ∙ ap (λ (k : ℕ). removed_from m s first k p₀) all;
          rest = subst (λ (k : ℕ). Ready first k p₀) (sym all) h;
        }

    module _ (p : Both) (r removed : ℕ) (h : Upto first n p₀ p r removed) where
      -- the next row has no break
      pub upto_whole : r < first + n → (chain p r).whole ≡ true
      upto_whole less = h.rest.whole r (omega arith) (omega arith)

      pub upto_next : {k : ℕ} {p' : Both} → r < first + n → k ≡ gone_row m s r p → p' ≡ swept_row m s r p
          → Upto first n p₀ p' (r + 1) (removed + k)
      unfolding swept_from removed_from
      upto_next {k} {p'} less gone swept = rw (gone, swept) (step (first + n - (r + 1)) (omega arith))
        where
          next : Both
          next = swept_row m s r p

          counted : (g x total : ℕ) → removed + (g + x) ≡ total → removed + g + x ≡ total
          counted g x total e = omega arith

          step : (j : ℕ) → first + n - r ≡ suc j → At first n p₀ (r + 1) j next (removed + gone_row m s r p)
          step j is =
              record {
                leaves = ap (λ (x : ℕ). swept_from m s r x p) (sym is) ∙ h.leaves;
                counts =
                    counted (gone_row m s r p) (removed_from m s (r + 1) j next) (removed_from m s first n p₀)
                    (ap (λ (x : ℕ). removed + removed_from m s r x p) (sym is) ∙ h.counts);
                rest = ready_next r j p (subst (λ (x : ℕ). Ready r x p) is h.rest);
              }

      abbrev Done : Type 0
      Done = (removed ≡ removed_from m s first n p₀) × (p ≡ swept_from m s first n p₀)

      pub upto_end : first + n ≤ r → Done
      unfolding swept_from removed_from
      upto_end less =
          let none : first + n - r ≡ 0 = omega arith in
          let rest : removed_from m s r (first + n - r) p ≡ 0 = ap (λ (k : ℕ). removed_from m s r k p) none in
          (omega (arith, h.counts), ap (λ (k : ℕ). swept_from m s r k p) (sym none) ∙ h.leaves)

-- ---- as the code finds it

-- of one row no more versions go than there are entries, and one
pub gone_few : {k : ℕ} (m : ℕ) (s d u : List ℕ) (r : ℕ) → k ≡ gone_row m s r (both d u) → length u / 8192 ≤ 64 → k ≤ 6465
gone_few m s d u r is few = let most : gone_row m s r (both d u) ≤ suc (length u / 8192 * 101) = row_few m s d u r in omega arith
