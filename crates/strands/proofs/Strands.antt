-- What freeing entries does to chains, for withdraw and for the sweep ("01, Writes, withdrawal, sweep"): a chain is the same where an
-- entry is freed and where it was passed, and rows are independent. Assumes nothing.
use mathlib.Core.Path.{◌≡◌, refl, sym, ap, ◌∙◌}
use mathlib.Core.Bool.{Bool, true, false, ◌||◌, cond}
use mathlib.Core.List.{List, [], ◌∷◌}
use Prim.Native.Nat.{ℕ, zero, suc, ◌/◌, ◌<◌}
use lib.Dec.{eqb}
use borrow.Author.Tests.{eqb-true, eqb-false}
use Rattle.ground.proofs.Ranges.{or_swap}
use Rattle.kind.specs.Kind.{pages, entries}
use Rattle.pointer.specs.declared.Lead.{Lead}
use Rattle.pointer.specs.declared.Lead.TheVariants.{Nowhere as Nothing, Entry as ToEntry, Astray}
use Rattle.pointer.specs.Pointer.{lead_of}
use Rattle.records.specs.declared.entry.Entry.{Entry}
use Rattle.records.specs.Entry.{entry_at}
use Rattle.records.proofs.Entries.{entries_lie}
use Rattle.chain.specs.declared.Place.TheVariants.{Undo}
use Rattle.chain.specs.declared.Link.{Link}
use Rattle.chain.specs.declared.Link.TheVariants.{End, Break, To}
use Rattle.chain.specs.Chain.{Chain, onto, among, unfit, chain_from, link_at, link_of}
use Rattle.chain.proofs.Links.{unfit_free}
use Rattle.chain.proofs.Chains.{copy_of, chain_from_end, chain_from_break, chain_from_passed, chain_from_on, chain_from_full}
use Rattle.page.proofs.Stored.{StoredEntry, length_stored, entry_at_stored_other, copy_body_at_stored_other}
use Rattle.freeing.specs.Freeing.{without_entry, swept_entry}
use Rattle.freeing.proofs.Freeings.{without_entry_is, swept_entry_is, writer_without_entry, writer_swept_entry}
use Rattle.strands.specs.Strands.{Frees}

-- ---- the two ways to free an entry

frees_stored : (e : ℕ) (u u' : List ℕ) → StoredEntry e u u' → (entry_at e u').writer ≡ 0 → Frees e u u'
frees_stored e u u' w free =
    record {
      size = ap (λ (n : ℕ). n / 8192) (length_stored entries_lie w);
      free = free;
      others = entry_at_stored_other w;
      bodies = copy_body_at_stored_other w;
    }

pub without_entry_frees : (txn e : ℕ) (u : List ℕ) → e < entries u → Frees e u (without_entry txn e u)
without_entry_frees txn e u here = frees_stored e u (without_entry txn e u) (without_entry_is e u txn) (writer_without_entry e u here txn)

pub swept_entry_frees : (e : ℕ) (u : List ℕ) → e < entries u → Frees e u (swept_entry e u)
swept_entry_frees e u here = frees_stored e u (swept_entry e u) (swept_entry_is e u) (writer_swept_entry e u here)

-- ---- links

-- a link where the entries of g are gone
abbrev pub less : (ℕ → Bool) → Link → Link
less g End = End
less g Break = Break
less g (To q m) = cond (g q) Break (To q m)

-- a pointer to a free entry breaks the chain, any other leads where it led
pub link_freed : (e : ℕ) (u u' : List ℕ) → Frees e u u' → (r ptr : ℕ) → link_of u' r ptr ≡ less (λ (q : ℕ). eqb q e) (link_of u r ptr)
unfolding link_of
link_freed e u u' f r ptr = ap (λ (n : ℕ). link_at u' r (lead_of n ptr)) f.size ∙ by (lead_of (pages u) ptr)
  where
    is : ℕ → Bool
    is q = eqb q e

    gone : (q : ℕ) (b : Bool) → eqb q e ≡ true → Break ≡ less is (cond b Break (To q (entry_at q u)))
    gone q true k = refl
    gone q false k = sym (ap (λ (c : Bool). cond c Break (To q (entry_at q u))) k)

    kept : (q : ℕ) (b : Bool) → eqb q e ≡ false → cond b Break (To q (entry_at q u)) ≡ less is (cond b Break (To q (entry_at q u)))
    kept q true k = refl
    kept q false k = sym (ap (λ (c : Bool). cond c Break (To q (entry_at q u))) k)

    at : (q : ℕ) (b : Bool) → eqb q e ≡ b → link_at u' r (ToEntry q) ≡ less is (link_at u r (ToEntry q))
    at q true k =
        let free : (entry_at q u').writer ≡ 0 = ap (λ (x : ℕ). (entry_at x u').writer) (eqb-true q e k) ∙ f.free in
        ap (λ (b : Bool). cond b Break (To q (entry_at q u'))) (unfit_free r (entry_at q u') free)
        ∙ gone q (unfit r (entry_at q u)) k
    at q false k =
        ap (λ (m : Entry). cond (unfit r m) Break (To q m)) (f.others q (eqb-false q e k))
        ∙ kept q (unfit r (entry_at q u)) k

    by : (l : Lead) → link_at u' r l ≡ less is (link_at u r l)
    by Nothing = refl
    by Astray = refl
    by (ToEntry q) = at q (eqb q e) refl

-- ---- chains depend on the area through links only, and where entries are gone the chain is as if they had been passed: a pointer
-- that leads to one breaks it in both

module _ (g : ℕ → Bool) (u u' : List ℕ) (r : ℕ) (links : (ptr : ℕ) → link_of u' r ptr ≡ less g (link_of u r ptr)) where
  pub chain_from_less : (fuel : ℕ) (ps qs : List ℕ) (ptr : ℕ) → ((q : ℕ) → among q qs ≡ (g q || among q ps))
      → chain_from u' r fuel ps ptr ≡ chain_from u r fuel qs ptr
  unfolding among
  chain_from_less zero ps qs ptr s = on (link_of u r ptr) refl
    where
      on : (l : Link) → link_of u r ptr ≡ l → chain_from u' r zero ps ptr ≡ chain_from u r zero qs ptr
      on End h = chain_from_end u' r zero ps ptr (links ptr ∙ ap (less g) h) ∙ sym (chain_from_end u r zero qs ptr h)
      on Break h = chain_from_break u' r zero ps ptr (links ptr ∙ ap (less g) h) ∙ sym (chain_from_break u r zero qs ptr h)
      on (To q m) h = by (g q) refl
        where
          by : (b : Bool) → g q ≡ b → chain_from u' r zero ps ptr ≡ chain_from u r zero qs ptr
          by true k =
              chain_from_break u' r zero ps ptr (links ptr ∙ ap (less g) h ∙ ap (λ (b : Bool). cond b Break (To q m)) k)
              ∙ sym (chain_from_full u r qs ptr q m h)
          by false k =
              chain_from_full u' r ps ptr q m (links ptr ∙ ap (less g) h ∙ ap (λ (b : Bool). cond b Break (To q m)) k)
              ∙ sym (chain_from_full u r qs ptr q m h)
  chain_from_less (suc fuel) ps qs ptr s = on (link_of u r ptr) refl (λ q m. chain_from_less fuel (q ∷ ps) (q ∷ qs) m.copy.undo_ptr)
    where
      -- one more entry passed in both
      further : (p q : ℕ) → among q (p ∷ qs) ≡ (g q || among q (p ∷ ps))
      further p q = ap (λ (b : Bool). eqb q p || b) (s q) ∙ or_swap (eqb q p) (g q) (among q ps)

      on : (l : Link) → link_of u r ptr ≡ l
          → ((q : ℕ) (m : Entry) → ((x : ℕ) → among x (q ∷ qs) ≡ (g x || among x (q ∷ ps)))
          → chain_from u' r fuel (q ∷ ps) m.copy.undo_ptr ≡ chain_from u r fuel (q ∷ qs) m.copy.undo_ptr)
          → chain_from u' r (suc fuel) ps ptr ≡ chain_from u r (suc fuel) qs ptr
      on End h ih = chain_from_end u' r (suc fuel) ps ptr (links ptr ∙ ap (less g) h) ∙ sym (chain_from_end u r (suc fuel) qs ptr h)
      on Break h ih = chain_from_break u' r (suc fuel) ps ptr (links ptr ∙ ap (less g) h) ∙ sym (chain_from_break u r (suc fuel) qs ptr h)
      on (To q m) h ih = by (g q) refl
        where
          passed : (b : Bool) → link_of u' r ptr ≡ To q m → among q qs ≡ among q ps → among q ps ≡ b
              → chain_from u' r (suc fuel) ps ptr ≡ chain_from u r (suc fuel) qs ptr
          passed true to same p =
              chain_from_passed u' r ps ptr q m to (suc fuel) p ∙ sym (chain_from_passed u r qs ptr q m h (suc fuel) (same ∙ p))
          passed false to same p =
              chain_from_on u' r ps ptr q m to fuel p
              ∙ ap (onto (copy_of q m)) (ih q m (further q))
              ∙ sym (chain_from_on u r qs ptr q m h fuel (same ∙ p))

          by : (b : Bool) → g q ≡ b → chain_from u' r (suc fuel) ps ptr ≡ chain_from u r (suc fuel) qs ptr
          by true k =
              chain_from_break u' r (suc fuel) ps ptr (links ptr ∙ ap (less g) h ∙ ap (λ (b : Bool). cond b Break (To q m)) k)
              ∙ sym (chain_from_passed u r qs ptr q m h (suc fuel) (s q ∙ ap (λ (b : Bool). b || among q ps) k))
          by false k =
              passed (among q ps) (links ptr ∙ ap (less g) h ∙ ap (λ (b : Bool). cond b Break (To q m)) k)
              (s q ∙ ap (λ (b : Bool). b || among q ps) k) refl

-- the chain where e is free is the chain where e was passed
pub chain_from_freed : (e : ℕ) (u u' : List ℕ) → Frees e u u' → (r fuel : ℕ) (ps : List ℕ) (ptr : ℕ)
    → chain_from u' r fuel ps ptr ≡ chain_from u r fuel (e ∷ ps) ptr
unfolding among
chain_from_freed e u u' f r fuel ps ptr =
    chain_from_less (λ (q : ℕ). eqb q e) u u' r (link_freed e u u' f r) fuel ps (e ∷ ps) ptr (λ q. refl)

-- ---- a loop that frees as it walks

-- one step: the rest of the chain is read from the area in which the entry is free, and nothing need be remembered as passed
pub freed_step : (r fuel ptr : ℕ) (u u' : List ℕ) (e : ℕ) (m : Entry) → link_of u r ptr ≡ To e m → Frees e u u'
    → chain_from u r (suc fuel) [] ptr ≡ onto (record { place = Undo e; slot = m.copy }) (chain_from u' r fuel [] m.copy.undo_ptr)
unfolding among
freed_step r fuel ptr u u' e m to f =
    chain_from_on u r [] ptr e m to fuel refl
    ∙ ap (onto (copy_of e m)) (sym (chain_from_freed e u u' f r fuel [] m.copy.undo_ptr))

-- its ends: no version is left where the pointer leads to none, and where no entry is left to pass
module _ (u : List ℕ) (r : ℕ) (ps : List ℕ) (ptr : ℕ) where
  versions_end : (fuel : ℕ) → link_of u r ptr ≡ End → (chain_from u r fuel ps ptr).versions ≡ []
  versions_end fuel h = ap (λ (c : Chain). c.versions) (chain_from_end u r fuel ps ptr h)

  versions_break : (fuel : ℕ) → link_of u r ptr ≡ Break → (chain_from u r fuel ps ptr).versions ≡ []
  versions_break fuel h = ap (λ (c : Chain). c.versions) (chain_from_break u r fuel ps ptr h)

  pub versions_none : {l : Link} (fuel : ℕ) → l ≡ link_of u r ptr → ((e : ℕ) (m : Entry) → l ≡ To e m → ⊥) → (chain_from u r fuel ps ptr).versions ≡ []
  versions_none {l} fuel is away = by l is away
    where
      by : (l : Link) → l ≡ link_of u r ptr → ((e : ℕ) (m : Entry) → l ≡ To e m → ⊥) → (chain_from u r fuel ps ptr).versions ≡ []
      by End is away = versions_end fuel (sym is)
      by Break is away = versions_break fuel (sym is)
      by (To e m) is away = absurd (away e m refl)

  pub versions_out : (chain_from u r zero ps ptr).versions ≡ []
  versions_out = on (link_of u r ptr) refl
    where
      on : (l : Link) → link_of u r ptr ≡ l → (chain_from u r zero ps ptr).versions ≡ []
      on End h = versions_end zero h
      on Break h = versions_break zero h
      on (To e m) h = ap (λ (c : Chain). c.versions) (chain_from_full u r ps ptr e m h)
