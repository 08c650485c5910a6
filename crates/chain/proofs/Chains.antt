-- The walk that counts its steps finds what the chain, which keeps the entries passed, has first: once, over any test of a version
-- ("01, Sessions and sight"). Assumes nothing.
use mathlib.Core.Path.{◌≡◌, refl, sym, ap, ◌∙◌}
use mathlib.Core.Logic.{◌⊎◌, ⊎_elim}
use mathlib.Core.Bool.{Bool, true, false, ◌||◌, cond, false≢true}
use mathlib.Core.List.{List, [], ◌∷◌}
use Prim.Native.Nat.{ℕ, zero, suc, ◌+◌, ◌-◌, ◌≤◌, ◌<◌}
use native.Mathlib.Omega.{arith}
use Rattle.kind.specs.Kind.{pages}
use Rattle.pointer.specs.declared.Lead.{Lead}
use Rattle.pointer.specs.declared.Lead.TheVariants.{Nowhere as Nothing, Entry as ToEntry, Astray}
use Rattle.pointer.specs.Pointer.{lead_of}
use Rattle.records.specs.declared.slot.Slot.{Slot}
use Rattle.records.specs.declared.entry.Entry.{Entry}
use Rattle.records.specs.Entry.{entry_at}
use Rattle.chain.specs.declared.Place.TheVariants.{Undo}
use Rattle.chain.specs.declared.Link.{Link}
use Rattle.chain.specs.declared.Link.TheVariants.{End, Break, To}
use Rattle.chain.specs.declared.Walk.{Walk}
use Rattle.chain.specs.declared.Walk.TheVariants.{Found, Absent, Broken}
use Rattle.chain.specs.Chain.{Version, Chain, ended, onto, among, unfit, along, chain_from, link_at, link_of}
use Rattle.chain.specs.Walk.{first_in, end_of}
use Rattle.chain.proofs.Links.{link_real, among_cases, among_first, among_later}

-- ---- the chain, link by link

-- where a link leads to an entry, f says what follows
abbrev linked : Link → (ℕ → Entry → Chain) → Chain
linked End f = ended true
linked Break f = ended false
linked (To e m) f = f e m

abbrev pub copy_of : ℕ → Entry → Version
copy_of e m = record { place = Undo e; slot = m.copy }

module _ (u : List ℕ) (r : ℕ) where
  chain_from_zero : (ps : List ℕ) (ptr : ℕ) → chain_from u r zero ps ptr ≡ linked (link_of u r ptr) (λ (e : ℕ) (m : Entry). ended false)
  unfolding chain_from link_of
  chain_from_zero ps ptr = by (lead_of (pages u) ptr)
    where
      fit : (t : Bool) (e : ℕ) → ended false ≡ linked (cond t Break (To e (entry_at e u))) (λ (e : ℕ) (m : Entry). ended false)
      fit true e = refl
      fit false e = refl

      by : (l : Lead) → along l (λ (e : ℕ). ended false) ≡ linked (link_at u r l) (λ (e : ℕ) (m : Entry). ended false)
      by Nothing = refl
      by Astray = refl
      by (ToEntry e) = fit (unfit r (entry_at e u)) e

  -- the chain behind entry m
  abbrev behind : ℕ → List ℕ → Entry → Chain
  behind fuel ps m = chain_from u r fuel ps m.copy.undo_ptr

  chain_from_suc : (fuel : ℕ) (ps : List ℕ) (ptr : ℕ)
      → chain_from u r (suc fuel) ps ptr
      ≡ linked (link_of u r ptr) (λ (e : ℕ) (m : Entry). cond (among e ps) (ended false) (onto (copy_of e m) (behind fuel (e ∷ ps) m)))
  unfolding chain_from link_of
  chain_from_suc fuel ps ptr = by (lead_of (pages u) ptr)
    where
      next : ℕ → Entry → Chain
      next e m = cond (among e ps) (ended false) (onto (copy_of e m) (behind fuel (e ∷ ps) m))

      fit : (t : Bool) (e : ℕ)
          → cond (t || among e ps) (ended false) (onto (copy_of e (entry_at e u)) (behind fuel (e ∷ ps) (entry_at e u)))
          ≡ linked (cond t Break (To e (entry_at e u))) next
      fit true e = refl
      fit false e = refl

      by : (l : Lead)
          → along l
          (λ (e : ℕ).
          cond (unfit r (entry_at e u) || among e ps) (ended false) (onto (copy_of e (entry_at e u)) (behind fuel (e ∷ ps) (entry_at e u))))
          ≡ linked (link_at u r l) next
      by Nothing = refl
      by Astray = refl
      by (ToEntry e) = fit (unfit r (entry_at e u)) e

  -- "0 means none"
  pub chain_from_end : (fuel : ℕ) (ps : List ℕ) (ptr : ℕ) → link_of u r ptr ≡ End → chain_from u r fuel ps ptr ≡ ended true
  chain_from_end zero ps ptr h = rw (chain_from_zero, h)
  chain_from_end (suc fuel) ps ptr h = rw (chain_from_suc, h)

  pub chain_from_break : (fuel : ℕ) (ps : List ℕ) (ptr : ℕ) → link_of u r ptr ≡ Break → chain_from u r fuel ps ptr ≡ ended false
  chain_from_break zero ps ptr h = rw (chain_from_zero, h)
  chain_from_break (suc fuel) ps ptr h = rw (chain_from_suc, h)

  module _ (ps : List ℕ) (ptr e : ℕ) (m : Entry) (to : link_of u r ptr ≡ To e m) where
    -- "leads to an entry already passed"
    pub chain_from_passed : (fuel : ℕ) → among e ps ≡ true → chain_from u r fuel ps ptr ≡ ended false
    chain_from_passed zero h = rw (chain_from_zero, to)
    chain_from_passed (suc fuel) h = rw (chain_from_suc, to, h)

    pub chain_from_on : (fuel : ℕ) → among e ps ≡ false → chain_from u r (suc fuel) ps ptr ≡ onto (copy_of e m) (behind fuel (e ∷ ps) m)
    chain_from_on fuel h = rw (chain_from_suc, to, h)

    -- no entry is left to pass
    pub chain_from_full : chain_from u r zero ps ptr ≡ ended false
    chain_from_full = rw (chain_from_zero, to)

-- ---- two walks

-- where a link leads to an entry, f says what the walk answers
abbrev onward : Link → (ℕ → Entry → Walk) → Walk
onward End f = Absent
onward Break f = Broken
onward (To e m) f = f e m

module _ (u : List ℕ) (r : ℕ) (p : Slot → Bool) where
  -- the walk that only counts: at most `fuel` entries on, with n versions looked at
  unfoldable pub run : ℕ → ℕ → Link → Walk
  run zero n l = end_of l
  run (suc fuel) n l =
      onward l (λ (e : ℕ) (m : Entry). cond (p m.copy) (Found (Undo e) (n + 1)) (run fuel (n + 1) (link_of u r m.copy.undo_ptr)))

  -- the walk that keeps the entries passed
  unfoldable seek : ℕ → List ℕ → ℕ → Link → Walk
  seek zero ps n l = end_of l
  seek (suc fuel) ps n l =
      onward l
      (λ (e : ℕ) (m : Entry).
      cond (among e ps) Broken
      (cond (p m.copy) (Found (Undo e) (n + 1)) (seek fuel (e ∷ ps) (n + 1) (link_of u r m.copy.undo_ptr))))

  abbrev first_of : ℕ → Chain → Walk
  first_of n c = first_in p n c.versions c.whole

  -- finds what the chain has first
  seek_chain : (fuel : ℕ) (ps : List ℕ) (n ptr : ℕ) → first_of n (chain_from u r fuel ps ptr) ≡ seek fuel ps n (link_of u r ptr)
  unfolding first_in seek
  seek_chain zero ps n ptr = ap (first_of n) (chain_from_zero u r ps ptr) ∙ by (link_of u r ptr)
    where
      by : (l : Link) → first_of n (linked l (λ (e : ℕ) (m : Entry). ended false)) ≡ end_of l
      by End = refl
      by Break = refl
      by (To e m) = refl
  seek_chain (suc fuel) ps n ptr =
      ap (first_of n) (chain_from_suc u r fuel ps ptr)
      ∙ by (link_of u r ptr) (λ e m. seek_chain fuel (e ∷ ps) (n + 1) m.copy.undo_ptr)
    where
      rest : ℕ → Entry → Chain
      rest e m = behind u r fuel (e ∷ ps) m

      sought : ℕ → Entry → Walk
      sought e m = seek fuel (e ∷ ps) (n + 1) (link_of u r m.copy.undo_ptr)

      old : (t : Bool) (e : ℕ) (m : Entry) → first_of (n + 1) (rest e m) ≡ sought e m
          → first_of n (cond t (ended false) (onto (copy_of e m) (rest e m))) ≡ cond t Broken (cond (p m.copy) (Found (Undo e) (n + 1)) (sought e m))
      old true e m ih = refl
      old false e m ih = ap (λ (w : Walk). cond (p m.copy) (Found (Undo e) (n + 1)) w) ih

      by : (l : Link) → ((e : ℕ) (m : Entry) → first_of (n + 1) (rest e m) ≡ sought e m)
          → first_of n (linked l (λ (e : ℕ) (m : Entry). cond (among e ps) (ended false) (onto (copy_of e m) (rest e m))))
          ≡ onward l (λ (e : ℕ) (m : Entry). cond (among e ps) Broken (cond (p m.copy) (Found (Undo e) (n + 1)) (sought e m)))
      by End ih = refl
      by Break ih = refl
      by (To e m) ih = old (among e ps) e m (ih e m)

  -- ---- the ring

  -- the entries passed did not pass the test, and each leads to one of them or to where the walk stands
  data Into (ps : List ℕ) (l : Link) : Link → Type 0 where
    here : Into ps l l
    back : {q : ℕ} → among q ps ≡ true → Into ps l (To q (entry_at q u))

  record Passed (ps : List ℕ) (l : Link) : Type 0 where
    pub fails : (q : ℕ) → among q ps ≡ true → p (entry_at q u).copy ≡ false
    pub leads : (q : ℕ) → among q ps ≡ true → Into ps l (link_of u r (entry_at q u).copy.undo_ptr)

  into : (ps : List ℕ) (e : ℕ) → among e ps ≡ true → (l : Link) → Into ps (To e (entry_at e u)) l → (P : Link → Type 0)
      → ((q : ℕ) → among q ps ≡ true → P (To q (entry_at q u))) → P l
  into ps e m l here P f = f e m
  into ps e m l (back k) P f = f _ k

  -- in a ring of entries that do not pass the test the count runs out
  ring : (ps : List ℕ) (e : ℕ) → among e ps ≡ true → Passed ps (To e (entry_at e u)) → (fuel n q : ℕ) → among q ps ≡ true
      → run fuel n (To q (entry_at q u)) ≡ Broken
  unfolding run
  ring ps e m h zero n q k = refl
  ring ps e m h (suc fuel) n q k =
      rw (h.fails q k)
      (into ps e m (link_of u r (entry_at q u).copy.undo_ptr) (h.leads q k) (λ (l : Link). run fuel (n + 1) l ≡ Broken)
      (λ t j. ring ps e m h fuel (n + 1) t j))

  -- one more entry passed
  further : (ps : List ℕ) (e : ℕ) {l : Link} → Into ps (To e (entry_at e u)) l → Into (e ∷ ps) (link_of u r (entry_at e u).copy.undo_ptr) l
  further ps e here = back (among_first e ps)
  further ps e (back {q} k) = back (among_later q e ps k)

  pass : (ps : List ℕ) (e : ℕ) → Passed ps (To e (entry_at e u)) → p (entry_at e u).copy ≡ false
      → Passed (e ∷ ps) (link_of u r (entry_at e u).copy.undo_ptr)
  pass ps e h miss =
      record {
        fails = λ q k. ⊎_elim (λ (s : q ≡ e). rw s miss) (λ (m : among q ps ≡ true). h.fails q m) (among_cases q e ps k);
        leads = λ q k. ⊎_elim (λ (s : q ≡ e). rw s here) (λ (m : among q ps ≡ true). further ps e (h.leads q m)) (among_cases q e ps k);
      }

  -- where the walk that keeps the entries stops at one that it passed, the walk that counts goes round until its count runs out
  seek_run : (fuel n : ℕ) (ps : List ℕ) (ptr : ℕ) → Passed ps (link_of u r ptr) → seek fuel ps n (link_of u r ptr) ≡ run fuel n (link_of u r ptr)
  unfolding run seek
  seek_run zero n ps ptr h = refl
  seek_run (suc fuel) n ps ptr h = by (link_of u r ptr) refl h (λ e. seek_run fuel (n + 1) (e ∷ ps) (entry_at e u).copy.undo_ptr)
    where
      on : ℕ → Link
      on e = link_of u r (entry_at e u).copy.undo_ptr

      new : (t : Bool) (e : ℕ) → p (entry_at e u).copy ≡ t
          → (p (entry_at e u).copy ≡ false → seek fuel (e ∷ ps) (n + 1) (on e) ≡ run fuel (n + 1) (on e))
          → cond t (Found (Undo e) (n + 1)) (seek fuel (e ∷ ps) (n + 1) (on e)) ≡ cond t (Found (Undo e) (n + 1)) (run fuel (n + 1) (on e))
      new true e k g = refl
      new false e k g = g k

      old : (t : Bool) (e : ℕ) → among e ps ≡ t → Passed ps (To e (entry_at e u))
          → (Passed (e ∷ ps) (on e) → seek fuel (e ∷ ps) (n + 1) (on e) ≡ run fuel (n + 1) (on e))
          → cond t Broken (cond (p (entry_at e u).copy) (Found (Undo e) (n + 1)) (seek fuel (e ∷ ps) (n + 1) (on e)))
          ≡ run (suc fuel) n (To e (entry_at e u))
      old true e m h ih = sym (ring ps e m h (suc fuel) n e m)
      old false e m h ih = new (p (entry_at e u).copy) e refl (λ miss. ih (pass ps e h miss))

      real : (e : ℕ) (m : Entry) → m ≡ entry_at e u → Passed ps (To e m)
          → (Passed (e ∷ ps) (on e) → seek fuel (e ∷ ps) (n + 1) (on e) ≡ run fuel (n + 1) (on e))
          → seek (suc fuel) ps n (To e m) ≡ run (suc fuel) n (To e m)
      real e m s h ih = rw s (old (among e ps) e refl (rw s at h) ih)

      by : (l : Link) → link_of u r ptr ≡ l → Passed ps l
          → ((e : ℕ) → Passed (e ∷ ps) (on e) → seek fuel (e ∷ ps) (n + 1) (on e) ≡ run fuel (n + 1) (on e))
          → seek (suc fuel) ps n l ≡ run (suc fuel) n l
      by End k h ih = refl
      by Break k h ih = refl
      by (To e m) k h ih = real e m (link_real u r ptr e m k).stands h (ih e)

  -- nothing has been passed yet
  none : (l : Link) → Passed [] l
  unfolding among
  none l = record { fails = λ q k. absurd (false≢true k); leads = λ q k. absurd (false≢true k) }

  -- the agreement: the first version along a chain, by counting
  pub chain_run : (fuel n ptr : ℕ)
      → first_in p n (chain_from u r fuel [] ptr).versions (chain_from u r fuel [] ptr).whole ≡ run fuel n (link_of u r ptr)
  chain_run fuel n ptr = seek_chain fuel [] n ptr ∙ seek_run fuel n [] ptr (none (link_of u r ptr))

  -- ---- where the walk ends without a version

  module _ (n : ℕ) (l : Link) where
    pub run_ended : l ≡ End → (fuel : ℕ) → run fuel n l ≡ Absent
    unfolding run
    run_ended is zero = rw is
    run_ended is (suc fuel) = rw is

    pub run_broke : l ≡ Break → (fuel : ℕ) → run fuel n l ≡ Broken
    unfolding run
    run_broke is zero = rw is
    run_broke is (suc fuel) = rw is

  -- ---- the steps of a walk of at most `most` entries, with n versions looked at, the slot among them

  module _ (most n : ℕ) where
    -- the slot alone was looked at
    pub run_start : (l : Link) → run (suc most - 1) n l ≡ run most n l
    run_start l = let e : suc most - 1 ≡ most = omega arith in ap (λ (k : ℕ). run k n l) e

    -- the count has run out
    pub run_out : (l : Link) → most < n → run (suc most - n) n l ≡ end_of l
    unfolding run
    run_out l h = let e : suc most - n ≡ 0 = omega arith in ap (λ (k : ℕ). run k n l) e

    -- the walk ends without a version
    pub run_end : (tag : Link → ℕ) → ((e : ℕ) (m : Entry) → tag (To e m) ≡ 2) → (l : Link) → (tag l ≡ 0) ⊎ (tag l ≡ 1) → (fuel : ℕ)
        → run fuel n l ≡ end_of l
    unfolding run
    run_end tag two l h zero = refl
    run_end tag two End h (suc fuel) = refl
    run_end tag two Break h (suc fuel) = refl
    run_end tag two (To e m) h (suc fuel) =
        absurd (⊎_elim (λ (q : tag (To e m) ≡ 0). omega (arith, two e m)) (λ (q : tag (To e m) ≡ 1). omega (arith, two e m)) h)

    module _ (l : Link) (e : ℕ) (m : Entry) (to : l ≡ To e m) (less : n ≤ most) where
      pub run_found : p m.copy ≡ true → run (suc most - n) n l ≡ Found (Undo e) (n + 1)
      unfolding run
      run_found h = let k : suc most - n ≡ suc (suc most - (n + 1)) = omega arith in rw (k, to, h)

      pub run_on : p m.copy ≡ false → run (suc most - n) n l ≡ run (suc most - (n + 1)) (n + 1) (link_of u r m.copy.undo_ptr)
      unfolding run
      run_on h = let k : suc most - n ≡ suc (suc most - (n + 1)) = omega arith in rw (k, to, h)
