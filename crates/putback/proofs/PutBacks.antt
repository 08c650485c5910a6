-- What withdrawing does to one row, step by step as the functions take it ("01, Writes, withdrawal, sweep"): m is the metadata that
-- they read, and what a callee ensures is a hypothesis. Assumes nothing.
use mathlib.Core.Path.{◌≡◌, sym, ap, ap₂, ◌∙◌}
use mathlib.Core.Bool.{Bool, true, false, not, ◌&&◌}
use mathlib.Core.List.{List, []}
use Prim.Native.Nat.{ℕ, suc, ◌≤◌, ◌<◌}
use native.Mathlib.Omega.{arith}
use lib.Dec.{eqb, leb}
use borrow.Author.Tests.{eqb-true}
use Rattle.ground.proofs.Ranges.{and_true_left}
use Rattle.kind.specs.Kind.{entries}
use Rattle.kind.specs.Areas.{both}
use Rattle.records.specs.declared.slot.Slot.{Slot}
use Rattle.records.specs.declared.entry.Entry.{Entry}
use Rattle.records.specs.Slot.{slot_at}
use Rattle.records.specs.Entry.{copy_body_at}
use Rattle.chain.specs.declared.Link.{Link}
use Rattle.chain.specs.declared.Link.TheVariants.{To}
use Rattle.chain.specs.Chain.{Chain, onto, chain_from, chain_of, link_of}
use Rattle.chain.proofs.Links.{link_real}
use Rattle.chain.proofs.Chains.{copy_of}
use Rattle.chain.proofs.Rows.{slot_version, chain_of_used}
use Rattle.touching.specs.Touching.{with_slot, with_meta}
use Rattle.freeing.specs.Freeing.{without_slot, without_entry}
use Rattle.strands.proofs.Strands.{without_entry_frees, freed_step, versions_none, versions_out}
use Rattle.putback.specs.PutBack.{own, own_made, unexpired, taken_back, undone_row}

-- ---- a slot's version, where m was read in the slot and b is what was answered of it

own_number : (n k x c : ℕ) → own n k x c ≡ true → x ≡ n
unfolding own
own_number n k x c h = eqb-true x n (and_true_left (eqb x n) (leb k c) h)

module _ {m : Slot} {b : Bool} (n k r : ℕ) (d : List ℕ) (read : m ≡ slot_at r d) (asked : b ≡ own_made n k m) where
  pub own_slot : {t : Bool} → b ≡ t → own_made n k (slot_at r d) ≡ t
  own_slot h = ap (own_made n k) (sym read) ∙ sym asked ∙ h

  -- a slot that S made is occupied, so its chain begins with it
  pub own_chain : (u : List ℕ) → b ≡ true → 0 < n
      → chain_of d u r ≡ onto (slot_version d r) (chain_from u r (entries u) [] (slot_at r d).undo_ptr)
  own_chain u h some =
      let is : (slot_at r d).create ≡ n = own_number n k (slot_at r d).create (slot_at r d).cmd (own_slot h) in
      chain_of_used d u r (λ z. omega arith)

-- ---- behind a slot that S made

module _ (n k r : ℕ) (d u : List ℕ) where
  -- "If no copy is left, empty the slot"
  taken_none : (c : Chain) → c.versions ≡ [] → taken_back n k r c.versions (both d u) ≡ both (without_slot n r d) u
  unfolding taken_back
  taken_none c h = rw h

  module _ (e : ℕ) (m : Entry) (c : Chain) where
    -- the entry of a copy of S's own is freed
    taken_own : own_made n k m.copy ≡ true
        → taken_back n k r (onto (copy_of e m) c).versions (both d u) ≡ taken_back n k r c.versions (both d (without_entry n e u))
    unfolding taken_back
    taken_own h = rw h

    -- "repeat until the creator isn't S"
    taken_other : own_made n k m.copy ≡ false
        → taken_back n k r (onto (copy_of e m) c).versions (both d u)
        ≡ both (with_slot n r (unexpired m.copy) (copy_body_at e u) d) (without_entry n e u)
    unfolding taken_back
    taken_other h = rw h

-- as the loop begins
pub take_start : {left : ℕ} (n k r : ℕ) (d u : List ℕ) (ptr : ℕ) → left ≡ entries u
    → taken_back n k r (chain_from u r left [] ptr).versions (both d u) ≡ taken_back n k r (chain_from u r (entries u) [] ptr).versions (both d u)
take_start n k r d u ptr all = ap (λ (fuel : ℕ). taken_back n k r (chain_from u r fuel [] ptr).versions (both d u)) all

-- the loop, where d and u are the areas now, m the entry to which the pointer leads, b what was answered of its copy
module _ {y : List ℕ} (n k r : ℕ) (d u : List ℕ) (left ptr : ℕ) where
  module _ {b : Bool} {next : ℕ} (e : ℕ) (m : Entry) (to : link_of u r ptr ≡ To e m) (more : left ≡ suc next) (asked : b ≡ own_made n k m.copy) (freed : y ≡ without_entry n e u) where
    step : chain_from u r left [] ptr ≡ onto (copy_of e m) (chain_from y r next [] m.copy.undo_ptr)
    step =
        ap (λ (fuel : ℕ). chain_from u r fuel [] ptr) more
        ∙ freed_step r next ptr u y e m to (rw freed (without_entry_frees n e u (link_real u r ptr e m to).inside))

    -- the rule from the next copy on is the rule from here on
    pub take_on : b ≡ true
        → taken_back n k r (chain_from y r next [] m.copy.undo_ptr).versions (both d y)
        ≡ taken_back n k r (chain_from u r left [] ptr).versions (both d u)
    take_on h =
        ap (λ (a : List ℕ). taken_back n k r (chain_from y r next [] m.copy.undo_ptr).versions (both d a)) freed
        ∙ sym (taken_own n k r d u e m (chain_from y r next [] m.copy.undo_ptr) (sym asked ∙ h))
        ∙ ap (λ (c : Chain). taken_back n k r c.versions (both d u)) (sym step)

    pub take_put : {x : List ℕ} → b ≡ false → x ≡ with_slot n r (unexpired m.copy) (copy_body_at e u) d
        → both x y ≡ taken_back n k r (chain_from u r left [] ptr).versions (both d u)
    take_put h put =
        ap₂ both put freed
        ∙ sym (taken_other n k r d u e m (chain_from y r next [] m.copy.undo_ptr) (sym asked ∙ h))
        ∙ ap (λ (c : Chain). taken_back n k r c.versions (both d u)) (sym step)

  module _ (emptied : y ≡ without_slot n r d) where
    take_none : (chain_from u r left [] ptr).versions ≡ [] → both y u ≡ taken_back n k r (chain_from u r left [] ptr).versions (both d u)
    take_none h = ap (λ (a : List ℕ). both a u) emptied ∙ sym (taken_none n k r d u (chain_from u r left [] ptr) h)

    -- as many entries were freed as there are
    pub take_out : left ≤ 0 → both y u ≡ taken_back n k r (chain_from u r left [] ptr).versions (both d u)
    take_out h =
        let z : left ≡ 0 = omega arith in
        take_none (ap (λ (fuel : ℕ). (chain_from u r fuel [] ptr).versions) z ∙ versions_out u r [] ptr)

    -- the pointer leads to no copy
    pub take_end : {l : Link} → l ≡ link_of u r ptr → ((e : ℕ) (m : Entry) → l ≡ To e m → ⊥)
        → both y u ≡ taken_back n k r (chain_from u r left [] ptr).versions (both d u)
    take_end is away = take_none (versions_none u r [] ptr left is away)

-- ---- one row

module _ {m : Slot} {b : Bool} (n k r : ℕ) (d u : List ℕ) (read : m ≡ slot_at r d) (asked : b ≡ own_made n k m) where
  -- "If the slot's creator is S"
  pub undo_made : {y z : List ℕ} → b ≡ true → 0 < n
      → both y z ≡ taken_back n k r (chain_from u r (entries u) [] m.undo_ptr).versions (both d u)
      → both y z ≡ undone_row n k r (both d u)
  unfolding undone_row
  undo_made h some taken =
      rw (own_slot n k r d read asked h, own_chain n k r d read asked u h some)
      (taken ∙ ap (λ (x : Slot). taken_back n k r (chain_from u r (entries u) [] x.undo_ptr).versions (both d u)) read)

  -- "If instead only the expirer is S": c is what the code answered of the expirer
  module _ {c : Bool} (other : b ≡ false) (ended : c ≡ own n k m.expire m.expire_cmd) where
    expirer : {t : Bool} → (not (eqb m.create 0) && c) ≡ t
        → (not (eqb (slot_at r d).create 0) && own n k (slot_at r d).expire (slot_at r d).expire_cmd) ≡ t
    expirer h =
        ap (λ (x : Slot). not (eqb x.create 0) && own n k x.expire x.expire_cmd) (sym read)
        ∙ ap (λ (x : Bool). not (eqb m.create 0) && x) (sym ended)
        ∙ h

    pub undo_ended : {x : Slot} {y : List ℕ} → (not (eqb m.create 0) && c) ≡ true → x ≡ unexpired m → y ≡ with_meta n r x d
        → both y u ≡ undone_row n k r (both d u)
    unfolding undone_row
    undo_ended h is put = rw (own_slot n k r d read asked other, expirer h) (ap (λ (a : List ℕ). both a u) (put ∙ ap (λ (x : Slot). with_meta n r x d) (is ∙ ap unexpired read)))

    pub undo_left : (not (eqb m.create 0) && c) ≡ false → both d u ≡ undone_row n k r (both d u)
    unfolding undone_row
    undo_left h = rw (own_slot n k r d read asked other, expirer h)
