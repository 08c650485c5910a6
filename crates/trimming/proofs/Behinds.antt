-- Sweeping behind a slot that stays ("01, Writes, withdrawal, sweep"): along a whole chain nothing is written before the first version
-- that goes. Assumes nothing.
use mathlib.Core.Path.{◌≡◌, refl, sym, ap, subst, ◌∙◌}
use mathlib.Core.Bool.{Bool, true, false, ◌||◌}
use mathlib.Core.List.{List, [], ◌∷◌}
use Prim.Native.Nat.{ℕ, suc, ◌≤◌, ◌<◌}
use native.Mathlib.Omega.{arith}
use lib.ListN.{length}
use lib.Dec.{eqb}
use Rattle.kind.specs.Kind.{rows, entries}
use Rattle.kind.specs.Areas.{Both, both}
use Rattle.records.specs.declared.slot.Slot.{Slot}
use Rattle.records.specs.declared.entry.Entry.{Entry}
use Rattle.chain.specs.declared.Place.{Place}
use Rattle.chain.specs.declared.Place.TheVariants.{Nowhere, Data, Undo}
use Rattle.chain.specs.declared.Link.{Link}
use Rattle.chain.specs.declared.Link.TheVariants.{To}
use Rattle.chain.specs.Chain.{Version, Chain, onto, among, chain_from, link_of}
use Rattle.chain.proofs.Links.{link_real}
use Rattle.chain.proofs.Chains.{copy_of, chain_from_passed, chain_from_on}
use Rattle.chain.proofs.Rows.{broken}
use Rattle.strands.specs.Strands.{entry_in, Strand}
use Rattle.strands.proofs.Runs.{chain_strand, chain_few, strand_chain}
use Rattle.strands.proofs.Strands.{versions_none, versions_out}
use Rattle.trimming.specs.Trimming.{dead_in, inside, cut_at, swept_all, swept_behind, gone_behind}

-- ---- whole chains

-- a strand is one with fewer entries passed as well
strand_fewer : (u : List ℕ) (r : ℕ) (w : Bool) (xs : List Version) (ps qs : List ℕ) (ptr : ℕ)
    → ((t : ℕ) → among t ps ≡ false → among t qs ≡ false)
    → Strand u r w ps ptr xs
    → Strand u r w qs ptr xs
unfolding among
strand_fewer u r w [] ps qs ptr fewer s = s
strand_fewer u r w (x ∷ xs) ps qs ptr fewer s = (
  record { entry = s.0.entry; to = s.0.to; fresh = fewer (entry_in x) s.0.fresh; is = s.0.is },
  strand_fewer u r w xs (entry_in x ∷ ps) (entry_in x ∷ qs) x.slot.undo_ptr (λ t. further t (eqb t (entry_in x))) s.1,
)
  where
    further : (t : ℕ) (b : Bool) → b || among t ps ≡ false → b || among t qs ≡ false
    further t true h = h
    further t false h = fewer t h

-- no entry is passed twice and the count does not run out: with fewer entries passed and more to pass the chain is the same
whole_fresh : (u : List ℕ) (r left n : ℕ) (ps : List ℕ) (ptr : ℕ) → left ≤ n → (chain_from u r left ps ptr).whole ≡ true
    → chain_from u r n [] ptr ≡ chain_from u r left ps ptr
unfolding among
whole_fresh u r left n ps ptr less w =
    let vs : List Version = (chain_from u r left ps ptr).versions in
    let strand : Strand u r true ps ptr vs = subst (λ (b : Bool). Strand u r b ps ptr vs) w (chain_strand u r left ps ptr) in
    strand_chain u r vs n [] ptr (omega (arith, chain_few u r left ps ptr)) (strand_fewer u r true vs ps [] ptr (λ t h. refl) strand)
    ∙ ap (λ (b : Bool). record { versions = vs; whole = b }) (sym w)

-- where a whole chain goes on, it has not passed the entry, and has some left to pass
whole_on : (u : List ℕ) (r left : ℕ) (ps : List ℕ) (ptr e : ℕ) (m : Entry) → link_of u r ptr ≡ To e m → (chain_from u r (suc left) ps ptr).whole ≡ true
    → chain_from u r (suc left) ps ptr ≡ onto (copy_of e m) (chain_from u r left (e ∷ ps) m.copy.undo_ptr)
whole_on u r left ps ptr e m to w = by (among e ps) refl
  where
    by : (t : Bool) → among e ps ≡ t
        → chain_from u r (suc left) ps ptr ≡ onto (copy_of e m) (chain_from u r left (e ∷ ps) m.copy.undo_ptr)
    by true p = absurd (broken (chain_from u r (suc left) ps ptr) (chain_from_passed u r ps ptr e m to (suc left) p) w)
    by false p = chain_from_on u r ps ptr e m to left p

-- ---- the walk to the first version that goes

-- areas as long have the place as well
pub inside_long : (at : Place) (d d' u u' : List ℕ) → length d' ≡ length d → length u' ≡ length u → inside at d u → inside at d' u'
inside_long (Data r) d d' u u' long long' h = rw long h
inside_long (Undo e) d d' u u' long long' h = rw long' h
inside_long Nowhere d d' u u' long long' h = tt

-- behind the slot m of row r
abbrev pub older : List ℕ → ℕ → Slot → List Version
older u r m = (chain_from u r (entries u) [] m.undo_ptr).versions

abbrev pub version : Place → Slot → Version
version at m = record { place = at; slot = m }

module _ (mark : ℕ) (s d₀ u₀ : List ℕ) (r : ℕ) (m : Slot) where
  -- the version `newer` at a place of the areas d and u stays, as do all before it, and there are `left` entries to pass
  pub record Stays (d u : List ℕ) (left : ℕ) (at : Place) (newer : Slot) : Type 0 where
    pub passed : List ℕ
    pub whole : (chain_from u r left passed newer.undo_ptr).whole ≡ true
    pub gone : gone_behind mark s (chain_from u r left passed newer.undo_ptr).versions ≡ gone_behind mark s (older u₀ r m)
    pub swept : swept_behind mark s (version at newer) (chain_from u r left passed newer.undo_ptr).versions (both d u)
        ≡ swept_behind mark s (version (Data r) m) (older u₀ r m) (both d₀ u₀)
    pub within : inside at d u

  pub stays_start : {left : ℕ} → left ≡ entries u₀ → r < rows d₀ → (chain_from u₀ r (entries u₀) [] m.undo_ptr).whole ≡ true
      → Stays d₀ u₀ left (Data r) m
  stays_start all h w = rw all (record { passed = []; whole = w; gone = refl; swept = refl; within = h })

  module _ (d u : List ℕ) (left : ℕ) (at : Place) (newer : Slot) (h : Stays d u left at newer) where
    abbrev here : Chain
    here = chain_from u r left h.passed newer.undo_ptr

    -- nothing behind it goes
    abbrev Kept : Type 0
    Kept = (0 ≡ gone_behind mark s (older u₀ r m)) × (both d u ≡ swept_behind mark s (version (Data r) m) (older u₀ r m) (both d₀ u₀))

    kept : here.versions ≡ [] → Kept
    unfolding gone_behind swept_behind
    kept none = (
      sym (ap (gone_behind mark s) none) ∙ h.gone,
      sym (ap (λ (l : List Version). swept_behind mark s (version at newer) l (both d u)) none) ∙ h.swept,
    )

    pub stays_end : {l : Link} → l ≡ link_of u r newer.undo_ptr → ((e : ℕ) (n : Entry) → l ≡ To e n → ⊥) → Kept
    stays_end is away = kept (versions_none u r h.passed newer.undo_ptr left is away)

    pub stays_out : left ≤ 0 → Kept
    stays_out z =
        let none : left ≡ 0 = omega arith in
        kept
        (ap (λ (k : ℕ). (chain_from u r k h.passed newer.undo_ptr).versions) none
        ∙ versions_out u r h.passed newer.undo_ptr)

    -- an entry e stands behind it
    module _ {next : ℕ} (e : ℕ) (n : Entry) (more : left ≡ suc next) (to : link_of u r newer.undo_ptr ≡ To e n) where
      abbrev further : Chain
      further = chain_from u r next (e ∷ h.passed) n.copy.undo_ptr

      goes_on : here ≡ onto (copy_of e n) further
      goes_on =
          ap (λ (i : ℕ). chain_from u r i h.passed newer.undo_ptr) more
          ∙ whole_on u r next h.passed newer.undo_ptr e n to
          (ap (λ (i : ℕ). (chain_from u r i h.passed newer.undo_ptr).whole) (sym more) ∙ h.whole)

      split : here.versions ≡ copy_of e n ∷ further.versions
      split = ap (λ (c : Chain). c.versions) goes_on

      -- and stays: "the first version whose expirer is committed and below the mark"
      pub stays_next : dead_in mark s n.copy ≡ false → Stays d u next (Undo e) n.copy
      unfolding gone_behind swept_behind
      stays_next alive =
          record {
            passed = e ∷ h.passed;
            whole = sym (ap (λ (c : Chain). c.whole) goes_on) ∙ h.whole;
            gone = count further.versions split;
            swept = leave further.versions split;
            within = (link_real u r newer.undo_ptr e n to).inside;
          }
        where
          count : (xs : List Version) → here.versions ≡ copy_of e n ∷ xs → gone_behind mark s xs ≡ gone_behind mark s (older u₀ r m)
          count xs is =
              let skip : gone_behind mark s (copy_of e n ∷ xs) ≡ gone_behind mark s xs = rw alive refl in
              sym skip ∙ sym (ap (gone_behind mark s) is) ∙ h.gone

          leave : (xs : List Version) → here.versions ≡ copy_of e n ∷ xs
              → swept_behind mark s (copy_of e n) xs (both d u) ≡ swept_behind mark s (version (Data r) m) (older u₀ r m) (both d₀ u₀)
          leave xs is =
              let skip : swept_behind mark s (version at newer) (copy_of e n ∷ xs) (both d u) ≡ swept_behind mark s (copy_of e n) xs (both d u) = rw alive refl in
              sym skip ∙ sym (ap (λ (l : List Version). swept_behind mark s (version at newer) l (both d u)) is) ∙ h.swept

      -- or "goes with all older ones": the chain from here on is the rest of the chain from any beginning
      module _ (less : left ≤ entries u) (dead : dead_in mark s n.copy ≡ true) where
        same : older u r newer ≡ copy_of e n ∷ further.versions
        same =
            ap (λ (c : Chain). c.versions) (whole_fresh u r left (entries u) h.passed newer.undo_ptr less h.whole) ∙ split

        pub goes_counts : {k : ℕ} → k ≡ length (older u r newer) → k ≡ gone_behind mark s (older u₀ r m)
        unfolding gone_behind
        goes_counts {k} is = is ∙ ap length same ∙ count further.versions split
          where
            count : (xs : List Version) → here.versions ≡ copy_of e n ∷ xs → length (copy_of e n ∷ xs) ≡ gone_behind mark s (older u₀ r m)
            count xs is =
                let all : gone_behind mark s (copy_of e n ∷ xs) ≡ length (copy_of e n ∷ xs) = rw dead refl in
                sym all ∙ sym (ap (gone_behind mark s) is) ∙ h.gone

        pub goes_leaves : {u' : List ℕ} {p : Both} → u' ≡ swept_all (older u r newer) u → p ≡ cut_at at newer (both d u')
            → p ≡ swept_behind mark s (version (Data r) m) (older u₀ r m) (both d₀ u₀)
        unfolding swept_behind
        goes_leaves {u'} {p} freed cut =
            cut
            ∙ ap (λ (l : List ℕ). cut_at at newer (both d l)) (freed ∙ ap (λ (l : List Version). swept_all l u) same)
            ∙ leave further.versions split
          where
            leave : (xs : List Version) → here.versions ≡ copy_of e n ∷ xs
                → cut_at at newer (both d (swept_all (copy_of e n ∷ xs) u)) ≡ swept_behind mark s (version (Data r) m) (older u₀ r m) (both d₀ u₀)
            leave xs is =
                let all : swept_behind mark s (version at newer) (copy_of e n ∷ xs) (both d u) ≡ cut_at at newer (both d (swept_all (copy_of e n ∷ xs) u)) = rw dead refl in
                sym all ∙ sym (ap (λ (l : List Version). swept_behind mark s (version at newer) l (both d u)) is) ∙ h.swept
