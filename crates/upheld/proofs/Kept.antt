-- What format and seal make of the rows and the statuses, seen as the machine's ("01, The page"): a sealed area says what it said, and
-- a formatted store has only empty rows, whole chains and numbers in work. Assumes nothing.
use mathlib.Core.Path.{◌≡◌, refl, sym, ap, ap₂, subst, ◌∙◌}
use mathlib.Core.Bool.{Bool, true, false, ◌&&◌, cond}
use mathlib.Core.List.{List, [], ◌∷◌}
use Prim.Native.Nat.{ℕ, ◌+◌, ◌*◌, ◌/◌, ◌%◌, ◌<◌}
use native.Mathlib.Omega.{arith}
use lib.Dec.{eqb, leb, ltb}
use borrow.Author.Tests.{eqb-true, ltb-true, leb-true, not-false}
use Rattle.kind.specs.Kind.{pages, rows, data_kind, undo_kind, status_kind}
use Rattle.kind.specs.Place.{number_of}
use Rattle.pointer.specs.declared.Lead.{Lead}
use Rattle.pointer.specs.declared.Lead.TheVariants.{Nowhere as Nothing, Entry as ToEntry, Astray}
use Rattle.pointer.specs.Pointer.{lead_of}
use Rattle.status.specs.declared.Status.{Status}
use Rattle.status.specs.declared.Status.TheVariants.{InWork}
use Rattle.status.specs.Status.{last_number, status_at}
use Rattle.records.specs.declared.entry.Entry.{Entry}
use Rattle.records.specs.Slot.{slot_at, body_at}
use Rattle.records.specs.Entry.{entry_at, copy_body_at}
use Rattle.page.specs.Header.{page_at}
use Rattle.page.specs.Count.{in_use}
use Rattle.page.proofs.Counts.{in_use_slot}
use Rattle.whole.proofs.Rights.{slot_at_sealed_page, body_at_sealed_page, entry_at_sealed_page, copy_body_at_sealed_page, in_use_fresh_page}
use Rattle.sight.specs.Sight.{standing}
use Rattle.chain.specs.declared.Place.{Place}
use Rattle.chain.specs.declared.Place.TheVariants.{Nowhere, Data, Undo}
use Rattle.chain.specs.declared.Link.TheVariants.{Break, To}
use Rattle.chain.specs.Chain.{Version, Chain, ended, unfit, chain_of, link_at, link_of}
use Rattle.chain.specs.Walk.{body_of}
use Rattle.chain.proofs.Rows.{chain_of_empty, chain_of_agree}
use Rattle.versions.specs.Versions.{AllWhole}
use Rattle.keep.specs.Whole.{fresh_area, sealed_area}
use Rattle.keep.proofs.Promises.{length_fresh_area, page_at_fresh_area, status_at_fresh_area, sealed_area_keeps, length_sealed_area, status_at_sealed_area}
use Rattle.machine.specs.Machine.{Version as Held}
use Rattle.seen.specs.Seen.{all_held, row_of}
use Rattle.upheld.proofs.Written.{held}

-- ---- sealed areas: "Format and seal write" the checksum, which is in no record and no status

pub sealed_standing : (s : List ℕ) (x : ℕ) → standing x (sealed_area (pages s) s) ≡ standing x s
unfolding standing
sealed_standing s x = ap (λ (y : Status). cond (leb 1 x && leb x last_number) y InWork) (status_at_sealed_area (pages s) x s)

module _ (d u : List ℕ) where
  abbrev d' : List ℕ
  d' = sealed_area (pages d) d

  abbrev u' : List ℕ
  u' = sealed_area (pages u) u

  link_sealed : (t : ℕ) (l : Lead) → link_at u' t l ≡ link_at u t l
  link_sealed t Nothing = refl
  link_sealed t Astray = refl
  link_sealed t (ToEntry e) =
      ap (λ (m : Entry). cond (unfit t m) Break (To e m)) (sealed_area_keeps (entry_at e) (entry_at_sealed_page e) (pages u) u)

  chain_sealed : (t : ℕ) → chain_of d' u' t ≡ chain_of d u t
  unfolding link_of
  chain_sealed t =
      chain_of_agree u u' t
      (λ ptr. ap (λ (n : ℕ). link_at u' t (lead_of (n / 8192) ptr)) (length_sealed_area (pages u) u) ∙ link_sealed t (lead_of (pages u) ptr))
      d d'
      (ap (λ (n : ℕ). n / 8192 * 101) (length_sealed_area (pages u) u))
      (sealed_area_keeps (slot_at t) (slot_at_sealed_page t) (pages d) d)

  body_sealed : (p : Place) → body_of p d' u' ≡ body_of p d u
  unfolding body_of
  body_sealed Nowhere = refl
  body_sealed (Data r) =
      ap₂ (λ (n : ℕ) (b : List ℕ). cond (ltb r (n / 8192 * 127)) b []) (length_sealed_area (pages d) d)
      (sealed_area_keeps (body_at r) (body_at_sealed_page r) (pages d) d)
  body_sealed (Undo e) =
      ap₂ (λ (n : ℕ) (b : List ℕ). cond (ltb e (n / 8192 * 101)) b []) (length_sealed_area (pages u) u)
      (sealed_area_keeps (copy_body_at e) (copy_body_at_sealed_page e) (pages u) u)

  held_sealed : (xs : List Version) → all_held d' u' xs ≡ all_held d u xs
  held_sealed [] = refl
  held_sealed (x ∷ xs) = ap₂ (λ (b : List ℕ) (vs : List Held). held x.slot b ∷ vs) (body_sealed x.place) (held_sealed xs)

  pub sealed_rows : (q : ℕ) → row_of (sealed_area (pages d) d) (sealed_area (pages u) u) q ≡ row_of d u q
  sealed_rows q =
      ap₂ (λ (n : ℕ) (vs : List Held). cond (ltb q (n / 8192 * 127)) vs []) (length_sealed_area (pages d) d)
      (ap (λ (c : Chain). all_held d' u' c.versions) (chain_sealed q) ∙ held_sealed (chain_of d u q).versions)

  pub sealed_whole : AllWhole d u → AllWhole (sealed_area (pages d) d) (sealed_area (pages u) u)
  sealed_whole all t h =
      ap (λ (c : Chain). c.whole) (chain_sealed t) ∙ all t (subst (λ (n : ℕ). t < n / 8192 * 127) (length_sealed_area (pages d) d) h)

-- ---- fresh areas: every slot is empty

fresh_slot : (n q : ℕ) → q < rows (fresh_area data_kind n) → (slot_at q (fresh_area data_kind n)).create ≡ 0
fresh_slot n q h =
    let d : List ℕ = fresh_area data_kind n in
    let p : ℕ = q / 127 in
    let i : ℕ = q % 127 in
    let here : number_of 127 p i ≡ q = omega arith in
    let below : p < n = omega (arith, h, length_fresh_area data_kind n) in
    let empty : in_use 64 (page_at p d) i ≡ false =
    ap (λ (page : List ℕ). in_use 64 page i) (page_at_fresh_area data_kind n p below)
    ∙ in_use_fresh_page data_kind (p + 1) 64 i
    in
    ap (λ (x : ℕ). (slot_at x d).create) (sym here)
    ∙ eqb-true (slot_at (number_of 127 p i) d).create 0
    (not-false (eqb (slot_at (number_of 127 p i) d).create 0) (sym (in_use_slot p i d (omega arith)) ∙ empty))

fresh_chain : (n : ℕ) (u : List ℕ) (q : ℕ) → q < rows (fresh_area data_kind n) → chain_of (fresh_area data_kind n) u q ≡ ended true
fresh_chain n u q h = chain_of_empty (fresh_area data_kind n) u q (fresh_slot n q h)

pub fresh_whole : (n m : ℕ) → AllWhole (fresh_area data_kind n) (fresh_area undo_kind m)
fresh_whole n m t h = ap (λ (c : Chain). c.whole) (fresh_chain n (fresh_area undo_kind m) t h)

pub fresh_rows : (n m q : ℕ) → row_of (fresh_area data_kind n) (fresh_area undo_kind m) q ≡ []
fresh_rows n m q = by (ltb q (rows d)) refl
  where
    d : List ℕ
    d = fresh_area data_kind n

    u : List ℕ
    u = fresh_area undo_kind m

    by : (b : Bool) → ltb q (rows d) ≡ b → cond b (all_held d u (chain_of d u q).versions) [] ≡ []
    by true h = ap (λ (c : Chain). all_held d u c.versions) (fresh_chain n u q (ltb-true q (rows d) h))
    by false h = refl

-- and every number in work
pub fresh_standing : (x : ℕ) → standing x (fresh_area status_kind 1) ≡ InWork
unfolding standing
fresh_standing x = by (leb 1 x) (leb x last_number) refl
  where
    by : (a b : Bool) → leb x last_number ≡ b → cond (a && b) (status_at x (fresh_area status_kind 1)) InWork ≡ InWork
    by false b e = refl
    by true false e = refl
    by true true e = status_at_fresh_area status_kind x (omega (arith, leb-true x 32575 e))
