-- What withdraw and sweep do to the chains of all rows ("01, Writes, withdrawal, sweep"): on whole chains withdraw drops the versions
-- that S made and clears the expirer S, sweep keeps each treated chain's front before the first dead version, and all other chains are
-- as they were. The order of rows is of no account. Assumes nothing.
use mathlib.Core.Path.{◌≡◌, refl, sym, ap, ◌∙◌}
use mathlib.Core.Logic.{◌⊎◌}
use mathlib.Core.Bool.{Bool, true, false, not, ◌&&◌}
use mathlib.Core.List.{List, []}
use Prim.Native.Nat.{ℕ, ◌+◌, ◌≤◌, ◌<◌}
use native.Mathlib.Omega.{arith}
use lib.Dec.{eqb}
use borrow.Author.Tests.{eqb-true, eqb-false, eq-eqb, ne_eqb}
use Rattle.kind.specs.Kind.{rows, entries}
use Rattle.kind.specs.Areas.{Both, both}
use Rattle.records.specs.Slot.{slot_at}
use Rattle.chain.specs.declared.Place.TheVariants.{Data}
use Rattle.chain.specs.Chain.{Version, Chain, onto, chain_from, chain_of}
use Rattle.chain.proofs.Rows.{chain_of_empty, chain_of_used}
use Rattle.strands.specs.Strands.{RowIn, RowsIn, Turns}
use Rattle.strands.proofs.Rows.{rows_others, rows_own}
use Rattle.putback.specs.PutBack.{own, own_made, undone_row}
use Rattle.undoing.specs.Undoing.{undone_from, undone}
use Rattle.trimming.specs.Trimming.{swept_row}
use Rattle.trimming.proofs.Trims.{chain_of_swept_row_own}
use Rattle.sweeping.specs.Sweeping.{swept_from}
use Rattle.sweeping.proofs.Treats.{swept_turns}
use Rattle.outcomes.specs.Outcomes.{undone_versions, undone_chain, swept_chain}
use Rattle.outcomes.proofs.Undones.{own_ended, undone_row_treated, undone_row_none, chain_of_undone_row_ended, chain_of_undone_row_made}

-- ---- withdraw

pub undone_turns : (n k : ℕ) → Turns (undone_row n k) (undone_from n k)
unfolding undone_from
undone_turns n k =
    record {
      none = λ r p. refl;
      next = λ r m p. refl;
      treats = λ r p h. undone_row_treated n k r p.«data» p.undo h;
    }

module _ (n k : ℕ) (number : 0 < n) where
  -- one row, its chain whole
  module _ (t : ℕ) (d u : List ℕ) (h : RowIn t d u) (whole : (chain_of d u t).whole ≡ true) where
    abbrev after : Chain
    after = chain_of (undone_row n k t (both d u)).«data» (undone_row n k t (both d u)).undo t

    -- an empty slot is passed by: no session is number 0
    empty : (slot_at t d).create ≡ 0 → after ≡ undone_chain n k t (chain_of d u t)
    unfolding undone_chain undone_versions own
    empty z =
        let nobody : eqb (slot_at t d).create n ≡ false = ne_eqb (slot_at t d).create n (λ e. omega arith) in
        let made : own_made n k (slot_at t d) ≡ false = rw nobody in
        let ended : own_ended n k t d u h ≡ false = rw (eq-eqb (slot_at t d).create 0 z) in
        ap (λ (p : Both). chain_of p.«data» p.undo t) (undone_row_none n k t d u h made ended)
        ∙ chain_of_empty d u t z
        ∙ ap (undone_chain n k t) (sym (chain_of_empty d u t z))

    -- an occupied one: by whether S made the slot, or else ended it
    used : ((slot_at t d).create ≡ 0 → ⊥) → after ≡ undone_chain n k t (chain_of d u t)
    unfolding undone_chain undone_versions
    used some = by (own_made n k (slot_at t d)) (own n k (slot_at t d).expire (slot_at t d).expire_cmd) refl refl
      where
        first : Version
        first = record { place = Data t; slot = slot_at t d }

        behind : Chain
        behind = chain_from u t (entries u) [] (slot_at t d).undo_ptr

        is : chain_of d u t ≡ onto first behind
        is = chain_of_used d u t some

        ends : (b : Bool) → own n k (slot_at t d).expire (slot_at t d).expire_cmd ≡ b → own_ended n k t d u h ≡ b
        ends b e = ap (λ (c : Bool). not c && own n k (slot_at t d).expire (slot_at t d).expire_cmd) (ne_eqb (slot_at t d).create 0 some) ∙ e

        by : (a b : Bool) → own_made n k (slot_at t d) ≡ a → own n k (slot_at t d).expire (slot_at t d).expire_cmd ≡ b
            → after ≡ undone_chain n k t (chain_of d u t)
        by true b made e = chain_of_undone_row_made n k t d u h number made (λ z. whole) ∙ rw (is, made)
        by false true made e = chain_of_undone_row_ended n k t d u h made (ends true e) ∙ rw (is, made, e)
        by false false made e =
            ap (λ (p : Both). chain_of p.«data» p.undo t) (undone_row_none n k t d u h made (ends false e)) ∙ rw (is, made, e)

    row_undone : after ≡ undone_chain n k t (chain_of d u t)
    row_undone = by (eqb (slot_at t d).create 0) refl
      where
        by : (b : Bool) → eqb (slot_at t d).create 0 ≡ b → after ≡ undone_chain n k t (chain_of d u t)
        by true e = empty (eqb-true (slot_at t d).create 0 e)
        by false e = used (eqb-false (slot_at t d).create 0 e)

  -- all rows
  pub withdraw_chain : (d u : List ℕ) → RowsIn (rows d) (both d u) → (t : ℕ) → t < rows d → (chain_of d u t).whole ≡ true
      → chain_of (undone n k d u).«data» (undone n k d u).undo t ≡ undone_chain n k t (chain_of d u t)
  unfolding undone
  withdraw_chain d u h t inside whole =
      rows_own (undone_row n k) (undone_from n k) (undone_turns n k) t (λ (c : Chain). c.whole ≡ true) (undone_chain n k t)
      (λ q row. row_undone t q.«data» q.undo row)
      (rows d)
      0
      (both d u)
      (record { few = omega arith; «data» = h.«data»; undo = h.undo })
      (omega arith)
      (omega arith)
      whole

-- ---- sweep

module _ (m : ℕ) (s : List ℕ) where
  module _ (first n : ℕ) (p : Both) (h : RowsIn (first + n) p) where
    -- a treated row keeps its front before the first dead version
    pub sweep_chain : (t : ℕ) → first ≤ t → t < first + n → (chain_of p.«data» p.undo t).whole ≡ true
        → chain_of (swept_from m s first n p).«data» (swept_from m s first n p).undo t ≡ swept_chain m s (chain_of p.«data» p.undo t)
    unfolding swept_chain
    sweep_chain t low high whole =
        rows_own (swept_row m s) (swept_from m s) (swept_turns m s) t (λ (c : Chain). c.whole ≡ true) (swept_chain m s) one n first p h low high whole
      where
        one : (q : Both) → RowIn t q.«data» q.undo → (chain_of q.«data» q.undo t).whole ≡ true
            → chain_of (swept_row m s t q).«data» (swept_row m s t q).undo t ≡ swept_chain m s (chain_of q.«data» q.undo t)
        one q row w =
            chain_of_swept_row_own m s t q.«data» q.undo row w
            ∙ ap (λ (b : Bool). record { versions = (swept_chain m s (chain_of q.«data» q.undo t)).versions; whole = b }) (sym w)

    -- every other row is as it was
    pub sweep_others : (t : ℕ) → (t < first) ⊎ (first + n ≤ t)
        → chain_of (swept_from m s first n p).«data» (swept_from m s first n p).undo t ≡ chain_of p.«data» p.undo t
    sweep_others t out = (rows_others (swept_row m s) (swept_from m s) (swept_turns m s) n first p h t out).chains
