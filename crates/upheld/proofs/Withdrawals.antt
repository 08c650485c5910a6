-- What withdraw makes of the rows, seen as the machine's ("01, Writes, withdrawal, sweep"): every row is undone by the machine's rule,
-- bodies included, whole chains stay whole, and the areas keep their shape. Assumes nothing.
use mathlib.Core.Path.{◌≡◌, refl, sym, ap, subst, ◌∙◌}
use mathlib.Core.Bool.{Bool, true, false, not, ◌&&◌, cond}
use mathlib.Core.List.{List, [], ◌∷◌}
use Prim.Native.Nat.{ℕ, ◌+◌, ◌<◌}
use native.Mathlib.Omega.{arith}
use lib.ListN.{drop}
use lib.Dec.{eqb, ltb}
use borrow.Author.Tests.{eqb-true, eqb-false, ne_eqb, eq-eqb, ltb-true, ltb-false, lt-ltb}
use Rattle.kind.specs.Kind.{rows, entries}
use Rattle.kind.specs.Areas.{Both, both}
use Rattle.records.specs.declared.slot.Slot.{Slot}
use Rattle.records.specs.Slot.{slot_at, body_at}
use Rattle.chain.specs.declared.Place.{Place}
use Rattle.chain.specs.declared.Place.TheVariants.{Data}
use Rattle.chain.specs.Chain.{Version, Chain, onto, chain_from, chain_of}
use Rattle.chain.specs.Walk.{body_of}
use Rattle.chain.proofs.Bodies.{slot_body}
use Rattle.chain.proofs.Rows.{slot_version, chain_of_empty, chain_of_used}
use Rattle.strands.specs.Strands.{Shaped, Treated, RowIn, RowsIn, Strand, entry_in, rest, on_first}
use Rattle.strands.proofs.Apart.{row_in_treated}
use Rattle.strands.proofs.Runs.{step_place, step_inside, chain_strand}
use Rattle.putback.specs.PutBack.{own, own_made, unexpired, copy_body, undone_row}
use Rattle.undoing.specs.Undoing.{undone_from, undone}
use Rattle.versions.specs.Versions.{AllWhole}
use Rattle.outcomes.proofs.Outcomes.{undone_turns}
use Rattle.outcomes.proofs.Undones.{own_ended, undone_row_treated, undone_row_none, chain_of_undone_row_ended, chain_of_undone_row_made, body_at_undone_row_made, body_at_undone_row_ended, whole_undone_row}
use Rattle.machine.specs.Machine.{Version as Held, expired, expire_first, since, put_back, undone as undone_rows}
use Rattle.seen.specs.Seen.{held_of, all_held, row_of}
use Rattle.upheld.proofs.Stays.{held_in, whole_in, older_kept, within, within_in, row_of_outside, shaped_after, whole_after, rows_after}

-- ---- lists of versions

module _ (n k : ℕ) where
  -- the machine drops the same versions
  put_back_is : (d u : List ℕ) (xs : List Version) → put_back (since n k) (all_held d u xs) ≡ expire_first 0 0 (all_held d u (rest (own_made n k) xs))
  unfolding rest own
  put_back_is d u [] = refl
  put_back_is d u (x ∷ xs) = by (own_made n k x.slot) (put_back_is d u xs)
    where
      by : (b : Bool) → put_back (since n k) (all_held d u xs) ≡ expire_first 0 0 (all_held d u (rest (own_made n k) xs))
          → cond b (put_back (since n k) (all_held d u xs)) (expired 0 0 (held_of d u x) ∷ all_held d u xs)
          ≡ expire_first 0 0 (all_held d u (cond b (rest (own_made n k) xs) (x ∷ xs)))
      by true ih = ih
      by false ih = refl

-- what is left of a strand lies in an entry
rest_body : (p : Slot → Bool) (d u : List ℕ) (r : ℕ) (w : Bool) (xs : List Version) (ps : List ℕ) (ptr : ℕ) (z : Version) (zs : List Version)
    → Strand u r w ps ptr xs
    → rest p xs ≡ z ∷ zs
    → copy_body z.place u ≡ body_of z.place d u
unfolding rest body_of
rest_body p d u r w [] ps ptr z zs s e = let q : ◌≡◌ {A = ℕ} 0 1 = cc in absurd (omega arith)
rest_body p d u r w (x ∷ xs) ps ptr z zs s e =
    by (p x.slot) e (rest_body p d u r w xs (entry_in x ∷ ps) x.slot.undo_ptr z zs s.1)
  where
    here : copy_body x.place u ≡ body_of x.place d u
    here =
        subst (λ (y : Place). copy_body y u ≡ body_of y d u) (sym (step_place s.0))
        (rw (lt-ltb (entry_in x) (entries u) (step_inside s.0)))

    by : (b : Bool) → cond b (rest p xs) (x ∷ xs) ≡ z ∷ zs → (rest p xs ≡ z ∷ zs → copy_body z.place u ≡ body_of z.place d u)
        → copy_body z.place u ≡ body_of z.place d u
    by true q ih = ih q
    by false q ih = let first : x ≡ z = cc in subst (λ (y : Version). copy_body y.place u ≡ body_of y.place d u) first here

-- ---- one row, its chain whole

module _ (n k : ℕ) (number : 0 < n) (t : ℕ) (d u : List ℕ) (h : RowIn t d u) (whole : whole_in (both d u) t) where
  abbrev after : Both
  after = undone_row n k t (both d u)

  abbrev Undone : Type 0
  Undone = held_in after t ≡ undone_rows (since n k) (held_in (both d u) t)

  treated : Treated t d u after.«data» after.undo
  treated = undone_row_treated n k t d u h

  -- version x stands in the slot, ended by nobody, and what was older than it is as it was
  put_back_lem : (x : Version) (xs : List Version)
      → (chain_of after.«data» after.undo t).versions ≡ record { place = Data t; slot = unexpired x.slot } ∷ xs
      → body_at t after.«data» ≡ body_of x.place d u
      → held_in after t ≡ expired 0 0 (held_of d u x) ∷ all_held d u xs
  put_back_lem x xs is body =
      ap (all_held after.«data» after.undo) is
      ∙ ap
      (λ (b : List ℕ).
      record { create = x.slot.create; cmd = x.slot.cmd; expire = 0; expire_cmd = 0; body = b } ∷ all_held after.«data» after.undo xs)
      (slot_body after.«data» after.undo t (row_in_treated treated t h).row ∙ body)
      ∙ ap (λ (vs : List Held). expired 0 0 (held_of d u x) ∷ vs)
      (subst (λ (vs : List Version). all_held after.«data» after.undo (drop 1 vs) ≡ all_held d u (drop 1 vs)) is
      (older_kept d u after.«data» after.undo treated.of_row.size treated.copies t))

  -- nothing is written
  untouched : own_made n k (slot_at t d) ≡ false → own_ended n k t d u h ≡ false
      → held_in (both d u) t ≡ undone_rows (since n k) (held_in (both d u) t)
      → Undone
  untouched made ended same = ap (λ (p : Both). held_in p t) (undone_row_none n k t d u h made ended) ∙ same

  empty : (slot_at t d).create ≡ 0 → Undone
  unfolding own
  empty z =
      let nobody : eqb (slot_at t d).create n ≡ false = ne_eqb (slot_at t d).create n (λ e. omega arith) in
      untouched (rw nobody) (rw (eq-eqb (slot_at t d).create 0 z))
      (subst (λ (c : Chain). all_held d u c.versions ≡ undone_rows (since n k) (all_held d u c.versions)) (sym (chain_of_empty d u t z)) refl)

  used : ((slot_at t d).create ≡ 0 → ⊥) → Undone
  unfolding own rest on_first
  used some = by (own_made n k (slot_at t d)) (own n k (slot_at t d).expire (slot_at t d).expire_cmd) refl refl
    where
      first : Version
      first = slot_version d t

      behind : Chain
      behind = chain_from u t (entries u) [] (slot_at t d).undo_ptr

      is : chain_of d u t ≡ onto first behind
      is = chain_of_used d u t some

      -- what the machine makes of the row
      by_rule : (a b : Bool) → own_made n k (slot_at t d) ≡ a → own n k (slot_at t d).expire (slot_at t d).expire_cmd ≡ b
          → undone_rows (since n k) (held_in (both d u) t)
          ≡ cond a (expire_first 0 0 (all_held d u (rest (own_made n k) behind.versions)))
          (cond b (expired 0 0 (held_of d u first) ∷ all_held d u behind.versions) (all_held d u (first ∷ behind.versions)))
      by_rule a b made e =
          ap (λ (c : Chain). undone_rows (since n k) (all_held d u c.versions)) is
          ∙ rw (made, e, put_back_is n k d u behind.versions)

      ends : (b : Bool) → own n k (slot_at t d).expire (slot_at t d).expire_cmd ≡ b → own_ended n k t d u h ≡ b
      ends b e = ap (λ (c : Bool). not c && own n k (slot_at t d).expire (slot_at t d).expire_cmd) (ne_eqb (slot_at t d).create 0 some) ∙ e

      -- S made the slot: what is left are older versions
      older : own_made n k (slot_at t d) ≡ true → rest (own_made n k) (chain_of d u t).versions ≡ rest (own_made n k) behind.versions
      older made =
          ap (λ (c : Chain). rest (own_made n k) c.versions) is
          ∙ ap (λ (b : Bool). cond b (rest (own_made n k) behind.versions) (first ∷ behind.versions)) made

      chain : own_made n k (slot_at t d) ≡ true → (xs : List Version) → rest (own_made n k) behind.versions ≡ xs
          → (chain_of after.«data» after.undo t).versions ≡ on_first (Data t) unexpired xs
      chain made xs e =
          ap (λ (c : Chain). c.versions) (chain_of_undone_row_made n k t d u h number made (λ z. whole))
          ∙ ap (on_first (Data t) unexpired) (older made ∙ e)

      left : own_made n k (slot_at t d) ≡ true → (xs : List Version) → rest (own_made n k) behind.versions ≡ xs
          → held_in after t ≡ expire_first 0 0 (all_held d u xs)
      left made [] e = ap (all_held after.«data» after.undo) (chain made [] e)
      left made (x ∷ xs) e =
          put_back_lem x xs (chain made (x ∷ xs) e)
          (body_at_undone_row_made n k t d u h number made x xs (older made ∙ e)
          ∙ rest_body (own_made n k) d u t behind.whole behind.versions [] (slot_at t d).undo_ptr x xs
          (chain_strand u t (entries u) [] (slot_at t d).undo_ptr) e)

      by : (a b : Bool) → own_made n k (slot_at t d) ≡ a → own n k (slot_at t d).expire (slot_at t d).expire_cmd ≡ b → Undone
      by true b made e = left made (rest (own_made n k) behind.versions) refl ∙ sym (by_rule true b made e)
      by false true made e =
          put_back_lem first behind.versions
          (ap (λ (c : Chain). c.versions) (chain_of_undone_row_ended n k t d u h made (ends true e))
          ∙ ap (λ (c : Chain). on_first (Data t) unexpired c.versions) is)
          (body_at_undone_row_ended n k t d u h made ∙ sym (slot_body d u t h.row))
          ∙ sym (by_rule false true made e)
      by false false made e =
          untouched made (ends false e) (ap (λ (c : Chain). all_held d u c.versions) is ∙ sym (by_rule false false made e))

  row_undone : Undone × whole_in after t
  row_undone = (by (eqb (slot_at t d).create 0) refl, whole_undone_row n k t d u h number whole)
    where
      by : (b : Bool) → eqb (slot_at t d).create 0 ≡ b → Undone
      by true e = empty (eqb-true (slot_at t d).create 0 e)
      by false e = used (eqb-false (slot_at t d).create 0 e)

-- ---- all rows

module _ (n k : ℕ) (number : 0 < n) (d u : List ℕ) (h : RowsIn (rows d) (both d u)) (whole : AllWhole d u) where
  one : (t : ℕ) (q : Both) → RowIn t q.«data» q.undo → whole_in q t
      → (held_in (undone_row n k t q) t ≡ undone_rows (since n k) (held_in q t)) × whole_in (undone_row n k t q) t
  one t q = row_undone n k number t q.«data» q.undo

  all : RowsIn (0 + rows d) (both d u)
  all = record { few = omega arith; «data» = h.«data»; undo = h.undo }

  pub withdraw_rows : (q : ℕ) → row_of (undone n k d u).«data» (undone n k d u).undo q ≡ undone_rows (since n k) (row_of d u q)
  unfolding undone
  withdraw_rows q =
      rows_after (undone_row n k) (undone_from n k) (undone_turns n k) (undone_rows (since n k)) one 0 (rows d) d u all whole refl q
      ∙ by (ltb q (rows d)) refl
    where
      now : Bool → List Held → List Held
      now b vs = cond b (undone_rows (since n k) vs) vs

      by : (b : Bool) → ltb q (rows d) ≡ b → now (within 0 (rows d) q) (row_of d u q) ≡ undone_rows (since n k) (row_of d u q)
      by true e =
          let inside : q < rows d = ltb-true q (rows d) e in
          ap (λ (b : Bool). now b (row_of d u q)) (within_in 0 (rows d) q (omega arith) (omega arith))
      by false e =
          subst (λ (vs : List Held). now (within 0 (rows d) q) vs ≡ undone_rows (since n k) vs)
          (sym (row_of_outside d u q (ltb-false q (rows d) e)))
          (none (within 0 (rows d) q))
        where
          none : (b : Bool) → now b [] ≡ []
          none true = refl
          none false = refl

  pub withdraw_whole : AllWhole (undone n k d u).«data» (undone n k d u).undo
  unfolding undone
  withdraw_whole = whole_after (undone_row n k) (undone_from n k) (undone_turns n k) (undone_rows (since n k)) one 0 (rows d) d u all whole

  pub withdraw_shaped : Shaped d (undone n k d u).«data» × Shaped u (undone n k d u).undo
  unfolding undone
  withdraw_shaped = shaped_after (undone_row n k) (undone_from n k) (undone_turns n k) 0 (rows d) d u all
