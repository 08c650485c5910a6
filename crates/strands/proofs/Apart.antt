-- Rows are independent: treating one row changes no chain of another, so the order of rows is of no account. Withdraw and the sweep
-- both cite it ("01, Writes, withdrawal, sweep"). Assumes nothing.
use mathlib.Core.Path.{◌≡◌, refl, sym, ap, subst, ◌∙◌}
use mathlib.Core.Logic.{◌⊎◌, inl, inr}
use mathlib.Core.Bool.{Bool, true, false, cond}
use mathlib.Core.List.{List}
use Prim.Native.Nat.{ℕ, ◌*◌, ◌/◌, ◌<◌}
use lib.Dec.{eqb}
use borrow.Author.Tests.{eqb-true, eqb-false}
use Rattle.kind.specs.Kind.{pages, entries}
use Rattle.pointer.specs.declared.Lead.{Lead}
use Rattle.pointer.specs.declared.Lead.TheVariants.{Nowhere as Nothing, Entry as ToEntry, Astray}
use Rattle.pointer.specs.Pointer.{lead_of}
use Rattle.records.specs.declared.slot.Slot.{Slot}
use Rattle.records.specs.declared.entry.Entry.{Entry}
use Rattle.records.specs.Slot.{slot_at}
use Rattle.records.specs.Entry.{entry_at, copy_body_at}
use Rattle.records.proofs.Slots.{SlotFit}
use Rattle.records.proofs.Entries.{entries_lie}
use Rattle.chain.specs.declared.Link.TheVariants.{Break, To}
use Rattle.chain.specs.Chain.{unfit, chain_of, link_at, link_of}
use Rattle.chain.proofs.Links.{unfit_free, unfit_other}
use Rattle.chain.proofs.Rows.{chain_of_agree}
use Rattle.page.proofs.Stored.{length_stored, entry_at_stored_other, copy_body_at_stored_other}
use Rattle.freeing.specs.Freeing.{cut_copy}
use Rattle.freeing.proofs.Freeings.{cut_copy_is, entry_at_cut_copy, copy_body_at_cut_copy}
use Rattle.strands.specs.Strands.{Frees, OfRow, Copies, Treated, RowIn}

-- an entry as it was, or row r's and now free or still row r's
abbrev Alike : ℕ → Entry → Entry → Type 0
Alike r m m' = (m' ≡ m) ⊎ ((m.row ≡ r) × ((m'.writer ≡ 0) ⊎ (m'.row ≡ r)))

-- ---- what differs in one row alone

pub frees_of_row : (e r : ℕ) (u u' : List ℕ) → Frees e u u' → (entry_at e u).row ≡ r → OfRow r u u'
frees_of_row e r u u' f row = record { size = f.size; entries = λ q. by q (eqb q e) refl }
  where
    by : (q : ℕ) (b : Bool) → eqb q e ≡ b → Alike r (entry_at q u) (entry_at q u')
    by q true k =
        let same : q ≡ e = eqb-true q e k in
        inr (ap (λ (x : ℕ). (entry_at x u).row) same ∙ row, inl (ap (λ (x : ℕ). (entry_at x u').writer) same ∙ f.free))
    by q false k = inl (f.others q (eqb-false q e k))

pub cut_copy_of_row : (e r : ℕ) (m : Slot) (u : List ℕ) → e < entries u → SlotFit m → (entry_at e u).row ≡ r → OfRow r u (cut_copy e m u)
cut_copy_of_row e r m u here fit row =
    record { size = ap (λ (n : ℕ). n / 8192) (length_stored entries_lie (cut_copy_is e m u)); entries = λ q. by q (eqb q e) refl }
  where
    by : (q : ℕ) (b : Bool) → eqb q e ≡ b → Alike r (entry_at q u) (entry_at q (cut_copy e m u))
    by q true k =
        let same : q ≡ e = eqb-true q e k in
        inr (ap (λ (x : ℕ). (entry_at x u).row) same ∙ row, inr (ap (λ (x : ℕ). (entry_at x (cut_copy e m u)).row) same ∙ ap (λ (x : Entry). x.row) (entry_at_cut_copy e m u here fit) ∙ row))
    by q false k = inl (entry_at_stored_other (cut_copy_is e m u) q (eqb-false q e k))

pub of_row_refl : (r : ℕ) (u : List ℕ) → OfRow r u u
of_row_refl r u = record { size = refl; entries = λ q. inl refl }

pub of_row_trans : (r : ℕ) (u u₁ u₂ : List ℕ) → OfRow r u u₁ → OfRow r u₁ u₂ → OfRow r u u₂
of_row_trans r u u₁ u₂ f g = record { size = g.size ∙ f.size; entries = λ q. by q (f.entries q) (g.entries q) }
  where
    by : (q : ℕ) → Alike r (entry_at q u) (entry_at q u₁) → Alike r (entry_at q u₁) (entry_at q u₂) → Alike r (entry_at q u) (entry_at q u₂)
    by q (inl a) (inl b) = inl (b ∙ a)
    by q (inl a) (inr b) = inr (sym (ap (λ (m : Entry). m.row) a) ∙ b.0, b.1)
    by q (inr a) (inl b) =
        inr (
          a.0,
          subst (λ (m : Entry). (m.writer ≡ 0) ⊎ (m.row ≡ r)) (sym b) a.1,
        )
    by q (inr a) (inr b) = inr (a.0, b.1)

-- ---- the bodies of copies that stay

pub copies_refl : (u : List ℕ) → Copies u u
copies_refl u = record { free = λ e h. h; bodies = λ e. inr refl }

pub copies_trans : (u u₁ u₂ : List ℕ) → Copies u u₁ → Copies u₁ u₂ → Copies u u₂
copies_trans u u₁ u₂ f g = record { free = λ e h. g.free e (f.free e h); bodies = λ e. by e (f.bodies e) (g.bodies e) }
  where
    by : (e : ℕ) → ((entry_at e u₁).writer ≡ 0) ⊎ (copy_body_at e u₁ ≡ copy_body_at e u) → ((entry_at e u₂).writer ≡ 0) ⊎ (copy_body_at e u₂ ≡ copy_body_at e u₁)
        → ((entry_at e u₂).writer ≡ 0) ⊎ (copy_body_at e u₂ ≡ copy_body_at e u)
    by e a (inl z) = inl z
    by e (inl z) (inr b) = inl (g.free e z)
    by e (inr a) (inr b) = inr (b ∙ a)

pub frees_copies : (e : ℕ) (u u' : List ℕ) → Frees e u u' → Copies u u'
frees_copies e u u' f = record { free = λ q h. free q (eqb q e) refl h; bodies = λ q. by q (eqb q e) refl }
  where
    gone : (q : ℕ) → eqb q e ≡ true → (entry_at q u').writer ≡ 0
    gone q k = ap (λ (x : ℕ). (entry_at x u').writer) (eqb-true q e k) ∙ f.free

    free : (q : ℕ) (b : Bool) → eqb q e ≡ b → (entry_at q u).writer ≡ 0 → (entry_at q u').writer ≡ 0
    free q true k h = gone q k
    free q false k h = ap (λ (m : Entry). m.writer) (f.others q (eqb-false q e k)) ∙ h

    by : (q : ℕ) (b : Bool) → eqb q e ≡ b → ((entry_at q u').writer ≡ 0) ⊎ (copy_body_at q u' ≡ copy_body_at q u)
    by q true k = inl (gone q k)
    by q false k = inr (f.bodies q (eqb-false q e k))

pub cut_copy_copies : (e : ℕ) (m : Slot) (u : List ℕ) → e < entries u → SlotFit m → Copies u (cut_copy e m u)
cut_copy_copies e m u here fit = record { free = λ q h. free q (eqb q e) refl ∙ h; bodies = λ q. inr (by q (eqb q e) refl) }
  where
    free : (q : ℕ) (b : Bool) → eqb q e ≡ b → (entry_at q (cut_copy e m u)).writer ≡ (entry_at q u).writer
    free q true k =
        subst (λ (x : ℕ). (entry_at x (cut_copy e m u)).writer ≡ (entry_at x u).writer) (sym (eqb-true q e k))
        (ap (λ (x : Entry). x.writer) (entry_at_cut_copy e m u here fit))
    free q false k = ap (λ (x : Entry). x.writer) (entry_at_stored_other (cut_copy_is e m u) q (eqb-false q e k))

    by : (q : ℕ) (b : Bool) → eqb q e ≡ b → copy_body_at q (cut_copy e m u) ≡ copy_body_at q u
    by q true k =
        subst (λ (x : ℕ). copy_body_at x (cut_copy e m u) ≡ copy_body_at x u) (sym (eqb-true q e k)) (copy_body_at_cut_copy e m u here)
    by q false k = copy_body_at_stored_other (cut_copy_is e m u) q (eqb-false q e k)

-- ---- a link of another row leads nowhere different: an entry of row r breaks its chain, and so does a free one

module _ {r : ℕ} {u u' : List ℕ} (f : OfRow r u u') (t : ℕ) (ne : t ≡ r → ⊥) where
  others : (m : Entry) → (m.writer ≡ 0) ⊎ (m.row ≡ r) → unfit t m ≡ true
  others m (inl free) = unfit_free t m free
  others m (inr row) = unfit_other t m (λ e. ne (sym e ∙ row))

  link_of_row : (ptr : ℕ) → link_of u' t ptr ≡ link_of u t ptr
  unfolding link_of
  link_of_row ptr = ap (λ (n : ℕ). link_at u' t (lead_of n ptr)) f.size ∙ by (lead_of (pages u) ptr)
    where
      at : (q : ℕ) → Alike r (entry_at q u) (entry_at q u') → link_at u' t (ToEntry q) ≡ link_at u t (ToEntry q)
      at q (inl same) = ap (λ (m : Entry). cond (unfit t m) Break (To q m)) same
      at q (inr differs) =
          ap (λ (b : Bool). cond b Break (To q (entry_at q u'))) (others (entry_at q u') differs.1)
          ∙ sym (ap (λ (b : Bool). cond b Break (To q (entry_at q u))) (others (entry_at q u) (inr differs.0)))

      by : (l : Lead) → link_at u' t l ≡ link_at u t l
      by Nothing = refl
      by Astray = refl
      by (ToEntry q) = at q (f.entries q)

  pub chain_of_of_row : (d d' : List ℕ) → slot_at t d' ≡ slot_at t d → chain_of d' u' t ≡ chain_of d u t
  chain_of_of_row d d' slot = chain_of_agree u u' t link_of_row d d' (ap (λ (n : ℕ). n * 101) f.size) slot

module _ {r : ℕ} {d u d' u' : List ℕ} (f : Treated r d u d' u') where
  -- the order of rows is of no account: a row that is not treated has the chain that it had
  pub chain_of_treated : (t : ℕ) → (t ≡ r → ⊥) → chain_of d' u' t ≡ chain_of d u t
  chain_of_treated t ne = chain_of_of_row f.of_row t ne d d' (f.slots t ne)

  -- and every row can be treated next
  pub row_in_treated : (t : ℕ) → RowIn t d u → RowIn t d' u'
  row_in_treated t h =
      record {
        row = subst (λ (n : ℕ). t < n / 8192 * 127) (sym f.«data».long) h.row;
        «data» = f.«data».bytes h.«data»;
        undo = f.undo.bytes h.undo;
      }
