-- Doubt, case by case; and that the count of copies that a walk tells leads over just the versions that it looked at ("02, T-05").
-- Assumes nothing.
use mathlib.Core.Path.{◌≡◌, refl, sym, ap, subst, ◌∙◌, fun_ext}
use mathlib.Core.Bool.{Bool, true, false, not, ◌&&◌, ◌||◌, cond, and-false, or-false}
use mathlib.Core.List.{List, [], ◌∷◌}
use Prim.Native.Nat.{ℕ, zero, suc, ◌+◌}
use native.Mathlib.Omega.{arith}
use lib.Dec.{eqb, ltb}
use denote.Enum.Bare.{sameb}
use borrow.Author.Tests.{eq-eqb, ne_eqb}
use Rattle.ground.proofs.Ranges.{and_true_left, and_true_right, or_true_right, or_false_left}
use Rattle.kind.specs.Kind.{entries}
use Rattle.status.specs.declared.Status.{Status}
use Rattle.status.specs.declared.Status.TheVariants.{InWork, Committed, Withdrawn, Reserved}
use Rattle.status.specs.contracts.Status.{the_type}
use Rattle.desk.specs.View.{View}
use Rattle.sight.specs.declared.Stamp.{Stamp}
use Rattle.sight.specs.Sight.{view_of, standing, is_committed, committed, listed, sees, earlier, known, there}
use Rattle.sight.proofs.Fronts.{FrontOf, front_there}
use Rattle.records.specs.declared.slot.Slot.{Slot}
use Rattle.records.specs.declared.entry.Entry.{Entry}
use Rattle.records.specs.Slot.{slot_at}
use Rattle.chain.specs.declared.Place.{Place}
use Rattle.chain.specs.declared.Link.{Link}
use Rattle.chain.specs.declared.Link.TheVariants.{End, Break, To}
use Rattle.chain.specs.declared.Walk.{Walk}
use Rattle.chain.specs.declared.Walk.TheVariants.{Found, Absent, Broken}
use Rattle.chain.specs.Chain.{Version, Chain, ended, onto, among, chain_from, chain_of, link_of}
use Rattle.chain.specs.Walk.{stamp_of, there_in, first_in, follow_rule}
use Rattle.chain.proofs.Chains.{copy_of, chain_from_end, chain_from_break, chain_from_passed, chain_from_on, chain_from_full}
use Rattle.chain.proofs.Rows.{chain_of_empty, chain_of_used}
use Rattle.chain.proofs.Walks.{found}
use Rattle.doubt.specs.Doubt.{is_reserved, reserved, NoneReserved, doubtful, in_doubt, doubt_in, versions_looked_at, some_in, doubts, doubts_behind}

-- ---- a number

-- a status of 11, as the derived equality tells it
pub same_reserved : (v : Status) → sameb the_type v Reserved ≡ is_reserved v
same_reserved InWork = refl
same_reserved Committed = refl
same_reserved Withdrawn = refl
same_reserved Reserved = refl

module _ (session : ℕ) (s : List ℕ) (x : ℕ) where
  pub doubtful_own : x ≡ session → doubtful session s x ≡ false
  unfolding doubtful
  doubtful_own e = rw (eq-eqb x session e)

  pub doubtful_other : (x ≡ session → ⊥) → doubtful session s x ≡ reserved x s
  unfolding doubtful
  doubtful_other ne = rw (ne_eqb x session ne)

  -- a number that is not reserved is in no doubt
  pub doubtful_none : reserved x s ≡ false → doubtful session s x ≡ false
  unfolding doubtful
  doubtful_none h = rw h (and-false (not (eqb x session)))

-- ---- some of the versions

-- no version passes where none at all does
some_none : (q : Slot → Bool) (xs : List Version) → ((m : Slot) → q m ≡ false) → some_in q xs ≡ false
unfolding some_in
some_none q [] h = refl
some_none q (x ∷ xs) h = rw (h x.slot) (some_none q xs h)

-- ---- link by link

module _ (u : List ℕ) (r : ℕ) (q : Slot → Bool) where
  -- one of the first n copies from a link on, the entries passed left out of account
  unfoldable pub some_on : ℕ → Link → Bool
  some_on zero l = false
  some_on (suc n) End = false
  some_on (suc n) Break = false
  some_on (suc n) (To e m) = q m.copy || some_on n (link_of u r m.copy.undo_ptr)

  pub some_on_end : (n : ℕ) → some_on n End ≡ false
  unfolding some_on
  some_on_end zero = refl
  some_on_end (suc n) = refl

  pub some_on_out : (l : Link) → some_on 0 l ≡ false
  unfolding some_on
  some_on_out l = refl

  pub some_on_on : (n : ℕ) (l : Link) (e : ℕ) (m : Entry) → l ≡ To e m → some_on (suc n) l ≡ q m.copy || some_on n (link_of u r m.copy.undo_ptr)
  unfolding some_on
  some_on_on n l e m to = rw to

-- ---- the walk's count

-- how many copies behind k versions a walk has looked at, where `most` is all that there may be; a broken one is not asked
abbrev Copies : ℕ → ℕ → Walk → ℕ → Type 0
Copies most k (Found place m) n = m ≡ k + n
Copies most k Absent n = n ≡ most
Copies most k Broken n = ⊥

module _ (u : List ℕ) (r : ℕ) (p q : Slot → Bool) where
  abbrev walked : ℕ → Chain → Walk
  walked k c = first_in p k c.versions c.whole

  abbrev looked : Chain → Bool
  looked c = some_in q (versions_looked_at p c.versions)

  -- what is to be shown of a chain that goes on from link l
  abbrev Agrees : ℕ → ℕ → ℕ → Link → Chain → Type 0
  Agrees most k n l c = Copies most k (walked k c) n → some_on u r q n l ≡ looked c

  at_end : (most k n : ℕ) → Agrees most k n End (ended true)
  unfolding some_in versions_looked_at first_in some_on
  at_end most k zero h = refl
  at_end most k (suc n) h = refl

  at_break : (most k n : ℕ) (l : Link) → Agrees most k n l (ended false)
  unfolding first_in
  at_break most k n l h = absurd h

  at_copy : (most k n e : ℕ) (m : Entry) (c : Chain)
      → ((n : ℕ) → Agrees most (k + 1) n (link_of u r m.copy.undo_ptr) c)
      → Agrees (suc most) k n (To e m) (onto (copy_of e m) c)
  unfolding some_in versions_looked_at first_in some_on
  at_copy most k n e m c ih h = by (p m.copy) h n refl
    where
      by : (t : Bool) → Copies (suc most) k (cond t (Found (copy_of e m).place (k + 1)) (walked (k + 1) c)) n
          → (i : ℕ) → n ≡ i
          → some_on u r q i (To e m) ≡ q m.copy || some_in q (cond t [] (versions_looked_at p c.versions))
      by true h zero z = absurd (omega arith)
      by true h (suc zero) z = refl
      by true h (suc (suc i)) z = absurd (omega arith)
      by false h zero z = absurd (none (walked (k + 1) c) refl h)
        where
          none : (w : Walk) → walked (k + 1) c ≡ w → Copies (suc most) k w n → ⊥
          none (Found place j) is g = omega (arith, g, z, (found p c.whole (k + 1) c.versions place j is).1)
          none Absent is g = omega arith
          none Broken is g = g
      by false h (suc i) z = ap (λ (b : Bool). q m.copy || b) (ih i (on (walked (k + 1) c) h))
        where
          on : (w : Walk) → Copies (suc most) k w n → Copies most (k + 1) w i
          on (Found place j) g = omega (arith, g, z)
          on Absent g = omega arith
          on Broken g = g

  chain_agrees : (most k n : ℕ) (ps : List ℕ) (ptr : ℕ) → Agrees most k n (link_of u r ptr) (chain_from u r most ps ptr)
  chain_agrees zero k n ps ptr = by (link_of u r ptr) refl
    where
      by : (l : Link) → link_of u r ptr ≡ l → Agrees zero k n l (chain_from u r zero ps ptr)
      by End h = subst (Agrees zero k n End) (sym (chain_from_end u r zero ps ptr h)) (at_end zero k n)
      by Break h = subst (Agrees zero k n Break) (sym (chain_from_break u r zero ps ptr h)) (at_break zero k n Break)
      by (To e m) h = subst (Agrees zero k n (To e m)) (sym (chain_from_full u r ps ptr e m h)) (at_break zero k n (To e m))
  chain_agrees (suc most) k n ps ptr = by (link_of u r ptr) refl (λ e m i. chain_agrees most (k + 1) i (e ∷ ps) m.copy.undo_ptr)
    where
      by : (l : Link) → link_of u r ptr ≡ l
          → ((e : ℕ) (m : Entry) (i : ℕ) → Agrees most (k + 1) i (link_of u r m.copy.undo_ptr) (chain_from u r most (e ∷ ps) m.copy.undo_ptr))
          → Agrees (suc most) k n l (chain_from u r (suc most) ps ptr)
      by End h ih = subst (Agrees (suc most) k n End) (sym (chain_from_end u r (suc most) ps ptr h)) (at_end (suc most) k n)
      by Break h ih = subst (Agrees (suc most) k n Break) (sym (chain_from_break u r (suc most) ps ptr h)) (at_break (suc most) k n Break)
      by (To e m) h ih = new (among e ps) refl
        where
          new : (t : Bool) → among e ps ≡ t → Agrees (suc most) k n (To e m) (chain_from u r (suc most) ps ptr)
          new true a =
              subst (Agrees (suc most) k n (To e m)) (sym (chain_from_passed u r ps ptr e m h (suc most) a)) (at_break (suc most) k n (To e m))
          new false a =
              subst (Agrees (suc most) k n (To e m)) (sym (chain_from_on u r ps ptr e m h most a)) (at_copy most k n e m (chain_from u r most (e ∷ ps) m.copy.undo_ptr) (ih e m))

-- ---- what the walk looked at

module _ (d u s : List ℕ) (v : View) (r : ℕ) where
  -- the versions looked at of a chain
  abbrev looked_of : Chain → Bool
  looked_of c = some_in (doubt_in v.number s) (versions_looked_at (there_in v s) c.versions)

  abbrev slot : Slot
  slot = slot_at r d

  -- an empty slot is no version
  pub doubts_empty : slot.create ≡ 0 → doubts d u s v r ≡ false
  unfolding doubts versions_looked_at some_in
  doubts_empty z = ap looked_of (chain_of_empty d u r z)

  module _ (some : slot.create ≡ 0 → ⊥) where
    -- the slot is the answer
    pub doubts_at : there_in v s slot ≡ true → doubts d u s v r ≡ doubt_in v.number s slot
    unfolding doubts versions_looked_at some_in
    doubts_at h = ap looked_of (chain_of_used d u r some) ∙ rw h (or-false (doubt_in v.number s slot))

    -- the walk goes on behind it
    pub doubts_behind_lem : there_in v s slot ≡ false → doubts d u s v r ≡ doubt_in v.number s slot || doubts_behind u s v r slot.undo_ptr
    unfolding doubts doubts_behind versions_looked_at some_in
    doubts_behind_lem h = ap looked_of (chain_of_used d u r some) ∙ rw h

  -- the slot of a row is looked at first
  pub doubts_slot : (slot.create ≡ 0 → ⊥) → doubts d u s v r ≡ false → doubt_in v.number s slot ≡ false
  unfolding doubts versions_looked_at some_in
  doubts_slot some h = or_false_left (doubt_in v.number s slot) _ (sym (ap looked_of (chain_of_used d u r some)) ∙ h)

  -- a status page without a reserved number leaves no doubt
  pub doubts_none : NoneReserved s → doubts d u s v r ≡ false
  unfolding doubts in_doubt
  doubts_none h =
      some_none (doubt_in v.number s) (versions_looked_at (there_in v s) (chain_of d u r).versions)
      (λ m. rw (doubtful_none v.number s m.create (h m.create), doubtful_none v.number s m.expire (h m.expire)))

-- behind the slot, as the walk from a pointer on tells its count: n copies to the version found, all where there is none
module _ (u s : List ℕ) (v : View) (r ptr : ℕ) where
  behind_by : (n : ℕ) (w : Walk) → follow_rule u s v r ptr ≡ w → Copies (entries u) 1 w n → some_on u r (doubt_in v.number s) n (link_of u r ptr) ≡ doubts_behind u s v r ptr
  unfolding follow_rule doubts_behind
  behind_by n w is h =
      chain_agrees u r (there_in v s) (doubt_in v.number s) (entries u) 1 n [] ptr (subst (λ (y : Walk). Copies (entries u) 1 y n) (sym is) h)

  pub behind_found : (place : Place) (n : ℕ) → follow_rule u s v r ptr ≡ Found place (n + 1)
      → some_on u r (doubt_in v.number s) n (link_of u r ptr) ≡ doubts_behind u s v r ptr
  behind_found place n is = behind_by n (Found place (n + 1)) is (omega arith)

  pub behind_absent : follow_rule u s v r ptr ≡ Absent → some_on u r (doubt_in v.number s) (entries u) (link_of u r ptr) ≡ doubts_behind u s v r ptr
  behind_absent is = behind_by (entries u) Absent is refl

-- who is committed is not reserved
committed_clear : (t : Status) → is_committed t ≡ true → is_reserved t ≡ false
committed_clear InWork e = refl
committed_clear Committed e = refl
committed_clear Withdrawn e = refl
committed_clear Reserved e = sym e

-- who "is S in an earlier statement or is seen" is not in doubt
known_clear : (v : View) (s : List ℕ) (x cmd : ℕ) → known v s x cmd ≡ true → doubtful v.number s x ≡ false
unfolding known earlier sees committed doubtful reserved
known_clear v s x cmd k = by (eqb x v.number) refl
  where
    by : (t : Bool) → eqb x v.number ≡ t → not (eqb x v.number) && is_reserved (standing x s) ≡ false
    by true e = rw e
    by false e =
        let seen : sees v.number v.list s x ≡ true = or_true_right (earlier v x cmd) (sees v.number v.list s x) k (rw e) in
        let c : is_committed (standing x s) ≡ true = and_true_right (not (eqb x 0) && ltb x v.number && not (listed x v.list)) (is_committed (standing x s)) seen in
        rw (e, committed_clear (standing x s) c)

-- so that of a version that is there the expirer alone may be
pub there_doubt : (v : View) (s : List ℕ) (t : Stamp) → there v s t ≡ true → in_doubt v.number s t ≡ doubtful v.number s t.expire
unfolding there in_doubt
there_doubt v s t h =
    rw (known_clear v s t.create t.cmd (and_true_left (known v s t.create t.cmd) (eqb t.expire 0 || not (known v s t.expire t.expire_cmd)) h))

-- ---- two views that differ in unused places alone

pub front_doubts : (m l : List ℕ)
    → FrontOf m l
    → (number statement : ℕ) (d u s : List ℕ) (r : ℕ)
    → doubts d u s (view_of number statement m) r ≡ doubts d u s (view_of number statement l) r
unfolding doubts
front_doubts m l front number statement d u s r =
    ap (λ (p : Slot → Bool). some_in (doubt_in number s) (versions_looked_at p (chain_of d u r).versions))
    (fun_ext (λ x. front_there m l front number statement s (stamp_of x)))
