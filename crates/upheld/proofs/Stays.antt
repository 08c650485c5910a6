-- What stays of a row keeps its bodies; and rows treated one after the other, seen as the machine's: each is as it would be if it
-- alone were treated, and whole ("01, Writes, withdrawal, sweep"). Assumes nothing.
use mathlib.Core.Path.{◌≡◌, refl, sym, ap, subst, ◌∙◌}
use mathlib.Core.Logic.{◌⊎◌, inl, inr}
use mathlib.Core.Bool.{Bool, true, false, ◌&&◌, cond}
use mathlib.Core.List.{List, [], ◌∷◌}
use Prim.Native.Nat.{ℕ, zero, suc, ◌+◌, ◌*◌, ◌/◌, ◌≤◌, ◌<◌}
use native.Mathlib.Omega.{arith}
use lib.ListN.{length, drop}
use lib.Dec.{eqb, ltb, leb}
use borrow.Author.Tests.{eqb-true, eqb-false, ltb-true, ltb-false, leb-true, leb-false, lt-ltb, le-ltb, le-leb, lt-leb}
use Rattle.kind.specs.Kind.{pages, rows, entries}
use Rattle.kind.specs.Areas.{Both, both}
use Rattle.records.specs.declared.entry.Entry.{Entry}
use Rattle.records.specs.Slot.{slot_at, body_at}
use Rattle.records.specs.Entry.{entry_at, copy_body_at}
use Rattle.chain.specs.declared.Place.{Place}
use Rattle.chain.specs.Chain.{Version, Chain, chain_from, chain_of}
use Rattle.chain.specs.Walk.{body_of}
use Rattle.chain.proofs.Links.{link_real}
use Rattle.chain.proofs.Rows.{slot_version, chain_of_empty, chain_of_used}
use Rattle.strands.specs.Strands.{Copies, Shaped, Treated, entry_in, Step, Strand, RowIn, RowsIn, Turns}
use Rattle.strands.proofs.Apart.{chain_of_treated}
use Rattle.strands.proofs.Rows.{rows_shaped}
use Rattle.strands.proofs.Runs.{step_place, step_entry, chain_strand}
use Rattle.versions.specs.Versions.{AllWhole}
use Rattle.machine.specs.Machine.{Version as Held}
use Rattle.seen.specs.Seen.{all_held, row_of}

-- a row's versions as the machine has them, of a row of the area
abbrev pub held_in : Both → ℕ → List Held
held_in p t = all_held p.«data» p.undo (chain_of p.«data» p.undo t).versions

module _ (d u : List ℕ) (q : ℕ) where
  row_of_inside : q < rows d → row_of d u q ≡ held_in (both d u) q
  row_of_inside h = rw (lt-ltb q (rows d) h)

  pub row_of_outside : rows d ≤ q → row_of d u q ≡ []
  row_of_outside h = rw (le-ltb q (rows d) h)

-- ---- bodies

module _ (d u d' u' : List ℕ) (size : pages u' ≡ pages u) (copies : Copies u u') where
  -- a version of a chain lies in an entry in use, so its body is kept
  copy_kept : {r : ℕ} {ps : List ℕ} {ptr : ℕ} {x : Version} → Step u' r ps ptr x → body_of x.place d' u' ≡ body_of x.place d u
  unfolding body_of
  copy_kept {r} {ps} {ptr} {x} s = subst (λ (p : Place). body_of p d' u' ≡ body_of p d u) (sym (step_place s)) (by (copies.bodies (entry_in x)))
    where
      by : ((entry_at (entry_in x) u').writer ≡ 0) ⊎ (copy_body_at (entry_in x) u' ≡ copy_body_at (entry_in x) u)
          → cond (ltb (entry_in x) (entries u')) (copy_body_at (entry_in x) u') [] ≡ cond (ltb (entry_in x) (entries u)) (copy_body_at (entry_in x) u) []
      by (inl free) =
          absurd ((link_real u' r ptr (entry_in x) s.entry s.to).carries.used (ap (λ (m : Entry). m.writer) (step_entry s) ∙ free))
      by (inr same) =
          ap (λ (n : ℕ). cond (ltb (entry_in x) (n * 101)) (copy_body_at (entry_in x) u') []) size
          ∙ ap (λ (b : List ℕ). cond (ltb (entry_in x) (entries u)) b []) same

  strand_kept : (r : ℕ) (w : Bool) (xs : List Version) (ps : List ℕ) (ptr : ℕ) → Strand u' r w ps ptr xs → all_held d' u' xs ≡ all_held d u xs
  strand_kept r w [] ps ptr s = refl
  strand_kept r w (x ∷ xs) ps ptr s = rw (copy_kept s.0, strand_kept r w xs (entry_in x ∷ ps) x.slot.undo_ptr s.1)

  module _ (t : ℕ) where
    -- a row is empty, or its slot with what lies in entries
    by_slot : (P : List Version → Type 0) → P [] → ((xs : List Version) → all_held d' u' xs ≡ all_held d u xs → P (slot_version d' t ∷ xs))
        → P (chain_of d' u' t).versions
    by_slot P none some = by (eqb (slot_at t d').create 0) refl
      where
        behind : Chain
        behind = chain_from u' t (entries u') [] (slot_at t d').undo_ptr

        by : (b : Bool) → eqb (slot_at t d').create 0 ≡ b → P (chain_of d' u' t).versions
        by true e = subst (λ (c : Chain). P c.versions) (sym (chain_of_empty d' u' t (eqb-true (slot_at t d').create 0 e))) none
        by false e =
            subst (λ (c : Chain). P c.versions) (sym (chain_of_used d' u' t (eqb-false (slot_at t d').create 0 e)))
            (some behind.versions
            (strand_kept t behind.whole behind.versions [] (slot_at t d').undo_ptr
            (chain_strand u' t (entries u') [] (slot_at t d').undo_ptr)))

    -- what stands behind the first version
    pub older_kept : all_held d' u' (drop 1 (chain_of d' u' t).versions) ≡ all_held d u (drop 1 (chain_of d' u' t).versions)
    older_kept = by_slot (λ (xs : List Version). all_held d' u' (drop 1 xs) ≡ all_held d u (drop 1 xs)) refl (λ xs same. same)

    -- and all of them, where the slot has the body that it had
    pub row_kept : length d' ≡ length d → body_at t d' ≡ body_at t d → held_in (both d' u') t ≡ all_held d u (chain_of d' u' t).versions
    unfolding body_of
    row_kept long same = by_slot (λ (xs : List Version). all_held d' u' xs ≡ all_held d u xs) refl (λ xs older. rw (body, older))
      where
        body : cond (ltb t (rows d')) (body_at t d') [] ≡ cond (ltb t (rows d)) (body_at t d) []
        body = rw (long, same)

-- a row that is not treated is as it was
held_other : {r : ℕ} {d u d' u' : List ℕ} → Treated r d u d' u' → (t : ℕ) → (t ≡ r → ⊥) → held_in (both d' u') t ≡ held_in (both d u) t
held_other {r} {d} {u} {d'} {u'} k t ne =
    row_kept d u d' u' k.of_row.size k.copies t k.«data».long (k.bodies t ne)
    ∙ ap (λ (c : Chain). all_held d u c.versions) (chain_of_treated k t ne)

-- ---- rows, one after the other

-- t is one of the n rows from r on
abbrev pub within : ℕ → ℕ → ℕ → Bool
within r n t = leb r t && ltb t (r + n)

pub within_in : (r n t : ℕ) → r ≤ t → t < r + n → within r n t ≡ true
within_in r n t low high = rw (le-leb r t low, lt-ltb t (r + n) high)

-- t is none of no rows
within_none : (r t : ℕ) → within r 0 t ≡ false
within_none r t = by (leb r t) refl
  where
    by : (b : Bool) → leb r t ≡ b → (b && ltb t (r + 0)) ≡ false
    by true e = le-ltb t (r + 0) (omega (arith, leb-true r t e))
    by false e = refl

-- without the first row
within_next : (r n t : ℕ) → (t ≡ r → ⊥) → within (r + 1) n t ≡ within r (suc n) t
within_next r n t ne = ap (λ (b : Bool). b && ltb t (r + 1 + n)) (by (leb r t) refl) ∙ ap (λ (m : ℕ). leb r t && ltb t m) more
  where
    more : r + 1 + n ≡ r + suc n
    more = omega arith

    by : (b : Bool) → leb r t ≡ b → leb (r + 1) t ≡ leb r t
    by true e = let low : r ≤ t = leb-true r t e in le-leb (r + 1) t (omega arith) ∙ sym e
    by false e = lt-leb (r + 1) t (omega (arith, leb-false r t e)) ∙ sym e

abbrev pub whole_in : Both → ℕ → Type 0
whole_in p t = (chain_of p.«data» p.undo t).whole ≡ true

-- f treats a row, g the n rows from r on
module _ (f : ℕ → Both → Both) (g : ℕ → ℕ → Both → Both) (turns : Turns f g) where
  pub shaped_after : (r n : ℕ) (d u : List ℕ) → RowsIn (r + n) (both d u)
      → Shaped d (g r n (both d u)).«data» × Shaped u (g r n (both d u)).undo
  shaped_after r n d u h = ((rows_shaped f g turns n r (both d u) h).0, (rows_shaped f g turns n r (both d u) h).1)

  -- a whole row has the versions F by its own treatment, and stays whole
  module _ (F : List Held → List Held)
      (own : (t : ℕ) (q : Both) → RowIn t q.«data» q.undo → whole_in q t → (held_in (f t q) t ≡ F (held_in q t)) × whole_in (f t q) t)
    where
      rows_held_lem : (t n r : ℕ) (p : Both) → RowsIn (r + n) p → whole_in p t
          → (held_in (g r n p) t ≡ cond (within r n t) (F (held_in p t)) (held_in p t)) × whole_in (g r n p) t
      rows_held_lem t zero r p h whole =
          subst (λ (q : Both). (held_in q t ≡ cond (within r 0 t) (F (held_in p t)) (held_in p t)) × whole_in q t) (sym (turns.none r p)) (
            ap (λ (b : Bool). cond b (F (held_in p t)) (held_in p t)) (sym (within_none r t)),
            whole,
          )
      rows_held_lem t (suc n) r p h whole =
          subst (λ (q : Both). (held_in q t ≡ cond (within r (suc n) t) (F (held_in p t)) (held_in p t)) × whole_in q t) (sym (turns.next r n p))
          (by (eqb t r) refl (rows_held_lem t n (r + 1) (f r p) later))
        where
          here : RowIn r p.«data» p.undo
          here = record { row = omega (arith, h.few); «data» = h.«data»; undo = h.undo }

          k : Treated r p.«data» p.undo (f r p).«data» (f r p).undo
          k = turns.treats r p here

          -- the other rows are still to be treated
          later : RowsIn (r + 1 + n) (f r p)
          later =
              record {
                few = omega (arith, h.few, k.«data».long);
                «data» = k.«data».bytes h.«data»;
                undo = k.undo.bytes h.undo;
              }

          now : Bool → List Held → List Held
          now b vs = cond b (F vs) vs

          -- row r itself is then none of the others
          by : (b : Bool) → eqb t r ≡ b
              → (whole_in (f r p) t → (held_in (g (r + 1) n (f r p)) t ≡ now (within (r + 1) n t) (held_in (f r p) t)) × whole_in (g (r + 1) n (f r p)) t)
              → (held_in (g (r + 1) n (f r p)) t ≡ now (within r (suc n) t) (held_in p t)) × whole_in (g (r + 1) n (f r p)) t
          by true e ih =
              let same : r ≡ t = sym (eqb-true t r e) in
              let it : (held_in (f r p) t ≡ F (held_in p t)) × whole_in (f r p) t =
              subst (λ (x : ℕ). (held_in (f x p) t ≡ F (held_in p t)) × whole_in (f x p) t) (sym same)
              (own t p (subst (λ (x : ℕ). RowIn x p.«data» p.undo) same here) whole)
              in
              let out : within (r + 1) n t ≡ false = ap (λ (b : Bool). b && ltb t (r + 1 + n)) (lt-leb (r + 1) t (omega arith)) in (
                (ih it.1).0
                    ∙ ap (λ (b : Bool). now b (held_in (f r p) t)) out
                    ∙ it.0
                    ∙ ap (λ (b : Bool). now b (held_in p t)) (sym (within_in r (suc n) t (omega arith) (omega arith))),
                (ih it.1).1,
              )
          by false e ih =
              let ne : t ≡ r → ⊥ = eqb-false t r e in
              let still : whole_in (f r p) t = ap (λ (c : Chain). c.whole) (chain_of_treated k t ne) ∙ whole in (
                (ih still).0
                    ∙ ap (λ (b : Bool). now b (held_in (f r p) t)) (within_next r n t ne)
                    ∙ ap (now (within r (suc n) t)) (held_other k t ne),
                (ih still).1,
              )

      module _ (r n : ℕ) (d u : List ℕ) (h : RowsIn (r + n) (both d u)) (whole : AllWhole d u) where
        abbrev after : Both
        after = g r n (both d u)

        same_rows : rows after.«data» ≡ rows d
        same_rows = ap (λ (m : ℕ). m / 8192 * 127) (shaped_after r n d u h).0.long

        pub whole_after : AllWhole (g r n (both d u)).«data» (g r n (both d u)).undo
        whole_after t inside = (rows_held_lem t n r (both d u) h (whole t (subst (λ (m : ℕ). t < m) same_rows inside))).1

        -- rows behind the last are empty before and after
        pub rows_after : F [] ≡ [] → (q : ℕ)
            → row_of (g r n (both d u)).«data» (g r n (both d u)).undo q ≡ cond (within r n q) (F (row_of d u q)) (row_of d u q)
        rows_after nothing q = by (ltb q (rows d)) refl
          where
            now : List Held → List Held
            now vs = cond (within r n q) (F vs) vs

            empty : (b : Bool) → cond b (F []) [] ≡ []
            empty true = nothing
            empty false = refl

            by : (b : Bool) → ltb q (rows d) ≡ b → row_of after.«data» after.undo q ≡ now (row_of d u q)
            by true e =
                let inside : q < rows d = ltb-true q (rows d) e in
                row_of_inside after.«data» after.undo q (subst (λ (m : ℕ). q < m) (sym same_rows) inside)
                ∙ (rows_held_lem q n r (both d u) h (whole q inside)).0
                ∙ ap now (sym (row_of_inside d u q inside))
            by false e =
                let outside : rows d ≤ q = ltb-false q (rows d) e in
                row_of_outside after.«data» after.undo q (subst (λ (m : ℕ). m ≤ q) (sym same_rows) outside)
                ∙ sym (empty (within r n q))
                ∙ ap now (sym (row_of_outside d u q outside))
