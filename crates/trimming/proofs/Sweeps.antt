-- The sweep of one row, case by case ("01, Writes, withdrawal, sweep"), and how many versions go at most. Assumes nothing.
use mathlib.Core.Path.{◌≡◌, refl, sym, ap, ◌∙◌}
use mathlib.Core.Bool.{Bool, true, false, cond}
use mathlib.Core.List.{List, [], ◌∷◌}
use Prim.Native.Nat.{ℕ, suc, ◌+◌, ◌≤◌}
use native.Mathlib.Omega.{arith}
use lib.ListN.{length}
use lib.Dec.{eqb}
use borrow.Author.Tests.{eqb-true, eqb-false}
use Rattle.kind.specs.Kind.{entries}
use Rattle.kind.specs.Areas.{Both, both}
use Rattle.records.specs.declared.slot.Slot.{Slot}
use Rattle.records.specs.Slot.{slot_at}
use Rattle.chain.specs.declared.Place.TheVariants.{Data}
use Rattle.chain.specs.Chain.{Version, Chain, onto, chain_from, chain_of}
use Rattle.chain.proofs.Rows.{slot_version, chain_of_empty, chain_of_used}
use Rattle.strands.proofs.Runs.{chain_few}
use Rattle.freeing.specs.Freeing.{swept_slot}
use Rattle.trimming.specs.Trimming.{dead_in, swept_all, swept_behind, swept_versions, swept_row, gone_behind, gone_row}
use Rattle.trimming.proofs.Behinds.{older, version}

-- ---- how many

-- as many copies as there are entries
pub rest_few : {n : ℕ} (u : List ℕ) (r ptr : ℕ) → n ≡ length (chain_from u r (entries u) [] ptr).versions → n ≤ entries u
rest_few u r ptr is = omega (arith, chain_few u r (entries u) [] ptr)

-- no more go than there are
gone_few : (mark : ℕ) (s : List ℕ) (xs : List Version) → gone_behind mark s xs ≤ length xs
unfolding gone_behind
gone_few mark s [] = omega arith
gone_few mark s (x ∷ xs) = by (dead_in mark s x.slot) (gone_few mark s xs)
  where
    by : (t : Bool) → gone_behind mark s xs ≤ length xs → cond t (suc (length xs)) (gone_behind mark s xs) ≤ suc (length xs)
    by true h = omega arith
    by false h = omega arith

-- ---- case by case

module _ (d u : List ℕ) (r : ℕ) {x : Slot} (read : x ≡ slot_at r d) (some : x.create ≡ 0 → ⊥) where
  chain : chain_of d u r ≡ onto (version (Data r) x) (chain_from u r (entries u) [] x.undo_ptr)
  chain =
      chain_of_used d u r (λ (z : (slot_at r d).create ≡ 0). some (ap (λ (m : Slot). m.create) read ∙ z))
      ∙ ap (λ (m : Slot). onto (version (Data r) m) (chain_from u r (entries u) [] m.undo_ptr)) (sym read)

  versions : (chain_of d u r).versions ≡ version (Data r) x ∷ older u r x
  versions = ap (λ (c : Chain). c.versions) chain

  pub row_whole : (chain_of d u r).whole ≡ true → (chain_from u r (entries u) [] x.undo_ptr).whole ≡ true
  row_whole w = sym (ap (λ (c : Chain). c.whole) chain) ∙ w

module _ (mark : ℕ) (s d u : List ℕ) (r : ℕ) where
  -- what a sweep of the row answers and leaves
  abbrev pub Sweeps : ℕ → Both → Type 0
  Sweeps n p = (n ≡ gone_row mark s r (both d u)) × (p ≡ swept_row mark s r (both d u))

  -- "an empty slot has no chain"
  pub row_empty : {x : Slot} → x ≡ slot_at r d → x.create ≡ 0 → Sweeps 0 (both d u)
  unfolding gone_row swept_row gone_behind swept_versions
  row_empty {x} read z =
      let none : (chain_of d u r).versions ≡ []
      = ap (λ (c : Chain). c.versions) (chain_of_empty d u r (ap (λ (m : Slot). m.create) (sym read) ∙ z)) in (
        sym (ap (gone_behind mark s) none),
        sym (ap (λ (l : List Version). swept_versions mark s r l (both d u)) none),
      )

  module _ {x : Slot} (read : x ≡ slot_at r d) (some : x.create ≡ 0 → ⊥) where
    counts : gone_behind mark s (version (Data r) x ∷ older u r x) ≡ gone_row mark s r (both d u)
    unfolding gone_row
    counts = sym (ap (gone_behind mark s) (versions d u r read some))

    leaves : swept_versions mark s r (version (Data r) x ∷ older u r x) (both d u) ≡ swept_row mark s r (both d u)
    unfolding swept_row
    leaves = sym (ap (λ (l : List Version). swept_versions mark s r l (both d u)) (versions d u r read some))

    module _ {b : Bool} (saw : b ≡ dead_in mark s x) where
      -- the slot's version goes with all older ones: "the slot is emptied"
      pub row_dead : {n : ℕ} {d' u' : List ℕ} → b ≡ true → n ≡ length (older u r x) → u' ≡ swept_all (older u r x) u → d' ≡ swept_slot r d
          → Sweeps (n + 1) (both d' u')
      unfolding gone_behind swept_versions
      row_dead {n} {d'} {u'} h counted freed emptied =
          let dead : dead_in mark s x ≡ true = sym saw ∙ h in
          let all : gone_behind mark s (version (Data r) x ∷ older u r x) ≡ suc (length (older u r x)) = rw dead refl in
          let gone : swept_versions mark s r (version (Data r) x ∷ older u r x) (both d u) ≡ both (swept_slot r d) (swept_all (older u r x) u) = rw dead refl in
          let one : n + 1 ≡ suc (length (older u r x)) = omega (arith, counted) in (
            one ∙ sym all ∙ counts,
            ap (λ (l : List ℕ). both l u') emptied ∙ ap (both (swept_slot r d)) freed ∙ sym gone ∙ leaves,
          )

      -- it stays
      pub row_behind : {n : ℕ} {p : Both} → b ≡ false → n ≡ gone_behind mark s (older u r x)
          → p ≡ swept_behind mark s (version (Data r) x) (older u r x) (both d u) → Sweeps n p
      unfolding gone_behind swept_versions
      row_behind {n} {p} h counted swept =
          let alive : dead_in mark s x ≡ false = sym saw ∙ h in
          let skip : gone_behind mark s (version (Data r) x ∷ older u r x) ≡ gone_behind mark s (older u r x) = rw alive refl in
          let stays : swept_versions mark s r (version (Data r) x ∷ older u r x) (both d u) ≡ swept_behind mark s (version (Data r) x) (older u r x) (both d u)
          = rw alive refl in
          (counted ∙ sym skip ∙ counts, swept ∙ sym stays ∙ leaves)

  -- the slot's version and as many copies as there are entries
  pub row_few : gone_row mark s r (both d u) ≤ suc (entries u)
  unfolding gone_row
  row_few = by (eqb (slot_at r d).create 0) refl
    where
      long : (xs : List Version) → (chain_of d u r).versions ≡ xs → length xs ≤ suc (entries u)
          → gone_behind mark s (chain_of d u r).versions ≤ suc (entries u)
      long xs is h = let few : gone_behind mark s xs ≤ length xs = gone_few mark s xs in rw is (omega arith)

      by : (t : Bool) → eqb (slot_at r d).create 0 ≡ t → gone_behind mark s (chain_of d u r).versions ≤ suc (entries u)
      by true h = long [] (ap (λ (c : Chain). c.versions) (chain_of_empty d u r (eqb-true (slot_at r d).create 0 h))) (omega arith)
      by false h =
          let few : length (older u r (slot_at r d)) ≤ entries u = chain_few u r (entries u) [] (slot_at r d).undo_ptr in
          long (slot_version d r ∷ older u r (slot_at r d))
          (ap (λ (c : Chain). c.versions) (chain_of_used d u r (eqb-false (slot_at r d).create 0 h)))
          (omega arith)
