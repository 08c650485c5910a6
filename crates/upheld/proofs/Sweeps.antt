-- What sweep makes of the rows, seen as the machine's ("01, Writes, withdrawal, sweep"): every row that it treats is cut by the
-- machine's rule, bodies included, all other rows are as they were, whole chains stay whole, and the areas keep their shape.
-- Assumes nothing.
use mathlib.Core.Path.{◌≡◌, refl, sym, ap, subst, ◌∙◌}
use mathlib.Core.Bool.{Bool, true, false, ◌&&◌, cond}
use mathlib.Core.List.{List, [], ◌∷◌}
use Prim.Native.Nat.{ℕ, ◌+◌}
use lib.Dec.{eqb, ltb, leb}
use borrow.Author.Tests.{eqb-true, eqb-false}
use Rattle.kind.specs.Kind.{entries}
use Rattle.kind.specs.Areas.{Both, both}
use Rattle.records.specs.Slot.{slot_at, unlinked}
use Rattle.chain.specs.Chain.{Version, Chain, chain_from, chain_of}
use Rattle.chain.proofs.Rows.{slot_version, chain_of_empty, chain_of_used}
use Rattle.strands.specs.Strands.{Shaped, Treated, RowIn, RowsIn, front, on_last}
use Rattle.trimming.specs.Trimming.{dead_in, swept_row}
use Rattle.sweeping.proofs.Treats.{swept_turns}
use Rattle.trimming.proofs.Trims.{swept_row_treated, body_at_swept_row_own, chain_of_swept_row_own}
use Rattle.sweeping.specs.Sweeping.{swept_from}
use Rattle.versions.specs.Versions.{AllWhole}
use Rattle.machine.specs.Machine.{Version as Held, dead, cut}
use Rattle.seen.specs.Seen.{standings, held_of, all_held, row_of}
use Rattle.seen.proofs.Walked.{dead_is}
use Rattle.upheld.proofs.Stays.{held_in, whole_in, row_kept, shaped_after, whole_after, rows_after}

module _ (m : ℕ) (s : List ℕ) where
  -- ---- lists of versions

  module _ (d u : List ℕ) where
    -- a pointer is no part of what the machine has
    held_unlinked : (xs : List Version) → all_held d u (on_last unlinked xs) ≡ all_held d u xs
    unfolding on_last
    held_unlinked [] = refl
    held_unlinked (x ∷ []) = refl
    held_unlinked (x ∷ y ∷ ys) = ap (λ (vs : List Held). held_of d u x ∷ vs) (held_unlinked (y ∷ ys))

    -- the machine cuts at the same version
    held_front : (xs : List Version) → all_held d u (front (dead_in m s) xs) ≡ cut (dead (standings s) m) (all_held d u xs)
    unfolding front
    held_front [] = refl
    held_front (x ∷ xs) =
        by (dead_in m s x.slot) (held_front xs)
        ∙ ap (λ (b : Bool). cond b [] (held_of d u x ∷ cut (dead (standings s) m) (all_held d u xs))) (sym (dead_is s d u m x))
      where
        by : (b : Bool) → all_held d u (front (dead_in m s) xs) ≡ cut (dead (standings s) m) (all_held d u xs)
            → all_held d u (cond b [] (x ∷ front (dead_in m s) xs)) ≡ cond b [] (held_of d u x ∷ cut (dead (standings s) m) (all_held d u xs))
        by true ih = refl
        by false ih = ap (λ (vs : List Held). held_of d u x ∷ vs) ih

  -- ---- one row, its chain whole

  module _ (t : ℕ) (d u : List ℕ) (h : RowIn t d u) (whole : whole_in (both d u) t) where
    abbrev after : Both
    after = swept_row m s t (both d u)

    treated : Treated t d u after.«data» after.undo
    treated = swept_row_treated m s t d u h

    chain : chain_of after.«data» after.undo t
        ≡ record { versions = on_last unlinked (front (dead_in m s) (chain_of d u t).versions); whole = true }
    chain = chain_of_swept_row_own m s t d u h whole

    -- where the chain begins with a dead version or none, nothing is left
    kept : held_in after t ≡ all_held d u (chain_of after.«data» after.undo t).versions
    unfolding on_last front
    kept = by (dead_in m s (slot_at t d)) (eqb (slot_at t d).create 0) refl refl
      where
        none : (chain_of after.«data» after.undo t).versions ≡ []
            → held_in after t ≡ all_held d u (chain_of after.«data» after.undo t).versions
        none e = subst (λ (vs : List Version). all_held after.«data» after.undo vs ≡ all_held d u vs) (sym e) refl

        left : Chain → List Version
        left c = on_last unlinked (front (dead_in m s) c.versions)

        behind : Chain
        behind = chain_from u t (entries u) [] (slot_at t d).undo_ptr

        by : (a b : Bool) → dead_in m s (slot_at t d) ≡ a → eqb (slot_at t d).create 0 ≡ b
            → held_in after t ≡ all_held d u (chain_of after.«data» after.undo t).versions
        by false b stays e =
            row_kept d u after.«data» after.undo treated.of_row.size treated.copies t treated.«data».long
            (body_at_swept_row_own m s t d u h stays)
        by true true goes e = none (ap (λ (c : Chain). c.versions) chain ∙ ap left (chain_of_empty d u t (eqb-true (slot_at t d).create 0 e)))
        by true false goes e =
            none
            (ap (λ (c : Chain). c.versions) chain
            ∙ ap left (chain_of_used d u t (eqb-false (slot_at t d).create 0 e))
            ∙ ap (λ (b : Bool). on_last unlinked (cond b [] (slot_version d t ∷ front (dead_in m s) behind.versions))) goes)

    row_swept : (held_in after t ≡ cut (dead (standings s) m) (held_in (both d u) t)) × whole_in after t
    row_swept = (
      kept
          ∙ ap (λ (c : Chain). all_held d u c.versions) chain
          ∙ held_unlinked d u (front (dead_in m s) (chain_of d u t).versions)
          ∙ held_front d u (chain_of d u t).versions,
      ap (λ (c : Chain). c.whole) chain,
    )

  -- ---- all rows

  one : (t : ℕ) (q : Both) → RowIn t q.«data» q.undo → whole_in q t
      → (held_in (swept_row m s t q) t ≡ cut (dead (standings s) m) (held_in q t)) × whole_in (swept_row m s t q) t
  one t q = row_swept t q.«data» q.undo

module _ (m : ℕ) (s : List ℕ) (first n : ℕ) (d u : List ℕ) (h : RowsIn (first + n) (both d u)) (whole : AllWhole d u) where
  pub sweep_rows : (q : ℕ)
      → row_of (swept_from m s first n (both d u)).«data» (swept_from m s first n (both d u)).undo q
      ≡ cond (leb first q && ltb q (first + n)) (cut (dead (standings s) m) (row_of d u q)) (row_of d u q)
  sweep_rows =
      rows_after (swept_row m s) (swept_from m s) (swept_turns m s) (cut (dead (standings s) m)) (one m s) first n d u h whole refl

  pub sweep_whole : AllWhole (swept_from m s first n (both d u)).«data» (swept_from m s first n (both d u)).undo
  sweep_whole = whole_after (swept_row m s) (swept_from m s) (swept_turns m s) (cut (dead (standings s) m)) (one m s) first n d u h whole

  pub sweep_shaped : Shaped d (swept_from m s first n (both d u)).«data» × Shaped u (swept_from m s first n (both d u)).undo
  sweep_shaped = shaped_after (swept_row m s) (swept_from m s) (swept_turns m s) first n d u h
