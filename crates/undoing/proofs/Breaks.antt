-- Whether "a break [is] met between a slot created by S and the first version not created by S" ("01, Writes, withdrawal, sweep"), as
-- the code looks for it: row by row, and in each along the chain, by counting. Assumes nothing.
use mathlib.Core.Path.{◌≡◌, refl, sym, ap, ◌∙◌}
use mathlib.Core.Logic.{◌⊎◌, inl, inr}
use mathlib.Core.Bool.{Bool, true, false, not}
use mathlib.Core.List.{List}
use Prim.Native.Nat.{ℕ, suc, ◌+◌, ◌-◌, ◌≤◌, ◌<◌}
use Rattle.ground.specs.Range.{all_below}
use Rattle.ground.proofs.Ranges.{all_fails}
use Rattle.kind.specs.Kind.{rows, entries}
use Rattle.records.specs.declared.slot.Slot.{Slot}
use Rattle.records.specs.declared.entry.Entry.{Entry}
use Rattle.records.specs.Slot.{slot_at}
use Rattle.chain.specs.declared.Link.{Link}
use Rattle.chain.specs.declared.Link.TheVariants.{End, Break, To}
use Rattle.chain.specs.declared.Walk.{Walk}
use Rattle.chain.specs.Chain.{link_of}
use Rattle.chain.specs.Walk.{first_in, end_of}
use Rattle.chain.proofs.Chains.{run, chain_run, run_start, run_end, run_out, run_found, run_on}
use Rattle.seeking.specs.Seeking.{is_broken}
use Rattle.putback.specs.PutBack.{own_made}
use Rattle.putback.proofs.PutBacks.{own_slot, own_chain}
use Rattle.undoing.specs.Undoing.{broken_row, some_broken}

-- "not created by S"
abbrev pub others : ℕ → ℕ → Slot → Bool
others n k m = not (own_made n k m)

-- no break is met in row r
abbrev pub fine : ℕ → ℕ → List ℕ → List ℕ → ℕ → Bool
fine n k d u r = not (broken_row n k d u r)

-- the walk that counts, along the chain of row r: with `looked` versions looked at, of at most `most` copies and the slot
abbrev pub walked : ℕ → ℕ → List ℕ → ℕ → ℕ → ℕ → Link → Walk
walked n k u r most looked l = run u r (others n k) (suc most - looked) looked l

-- ---- all rows

module _ (n k : ℕ) (d u : List ℕ) where
  pub none_looked : all_below (fine n k d u) 0 ≡ true
  unfolding all_below
  none_looked = refl

  pub none_broken : (r : ℕ) → r ≡ rows d → all_below (fine n k d u) r ≡ true → false ≡ some_broken n k d u
  unfolding some_broken
  none_broken r e h = sym (ap not (ap (all_below (fine n k d u)) (sym e) ∙ h))

  pub one_broken : (r : ℕ) → r < rows d → broken_row n k d u r ≡ true → true ≡ some_broken n k d u
  unfolding some_broken
  one_broken r inside h = sym (ap not (all_fails (fine n k d u) (rows d) r inside (ap not h)))

-- ---- one row, where m was read in its slot and b is what was answered of it

module _ {m : Slot} {b : Bool} (n k : ℕ) (d u : List ℕ) (r : ℕ) (read : m ≡ slot_at r d) (asked : b ≡ own_made n k m) where
  -- a slot that another made, or nobody
  pub row_other : b ≡ false → fine n k d u r ≡ true
  unfolding broken_row
  row_other h = rw (own_slot n k r d read asked h)

  -- from the slot on, the walk says whether a break is met
  pub row_start : b ≡ true → 0 < n
      → is_broken (walked n k u r (entries u) 1 (link_of u r m.undo_ptr)) ≡ broken_row n k d u r
  unfolding broken_row first_in
  row_start h some =
      rw (own_chain n k r d read asked u h some, own_slot n k r d read asked h)
      (ap is_broken (run_start u r (others n k) (entries u) 1 (link_of u r m.undo_ptr))
      ∙ ap (λ (x : Slot). is_broken (run u r (others n k) (entries u) 1 (link_of u r x.undo_ptr))) read
      ∙ ap is_broken (sym (chain_run u r (others n k) (entries u) 1 (slot_at r d).undo_ptr)))

-- the ways a link goes, numbered
abbrev tag : Link → ℕ
tag End = 0
tag Break = 1
tag (To e m) = 2

-- and so it does from where it stands: l is the link that it follows next
module _ {l : Link} (n k : ℕ) (d u : List ℕ) (r looked ptr : ℕ) (walk : is_broken (walked n k u r (entries u) looked (link_of u r ptr)) ≡ broken_row n k d u r) (is : l ≡ link_of u r ptr) where
  row_now : {w : Walk} → walked n k u r (entries u) looked l ≡ w → broken_row n k d u r ≡ is_broken w
  row_now e = sym walk ∙ ap (λ (x : Link). is_broken (walked n k u r (entries u) looked x)) (sym is) ∙ ap is_broken e

  row_stop : {x : Link} → l ≡ x → (tag x ≡ 0) ⊎ (tag x ≡ 1) → broken_row n k d u r ≡ is_broken (end_of x)
  row_stop {x} e h =
      row_now
      (ap (walked n k u r (entries u) looked) e
      ∙ run_end u r (others n k) 0 looked tag (λ e m. refl) x h (suc (entries u) - looked))

  pub row_end : l ≡ End → fine n k d u r ≡ true
  row_end e = ap not (row_stop e (inl refl))

  pub row_break : l ≡ Break → broken_row n k d u r ≡ true
  row_break e = row_stop e (inr refl)

  module _ (e : ℕ) (x : Entry) (to : l ≡ To e x) where
    -- as many copies as there are entries were looked at
    pub row_out : entries u < looked → broken_row n k d u r ≡ true
    row_out out = row_now (run_out u r (others n k) (entries u) looked l out ∙ ap end_of to)

    module _ {c : Bool} (less : looked ≤ entries u) (told : c ≡ own_made n k x.copy) where
      -- "the first version not created by S"
      pub row_found : c ≡ false → fine n k d u r ≡ true
      row_found f = ap not (row_now (run_found u r (others n k) (entries u) looked l e x to less (ap not (sym told ∙ f))))

      pub row_on : c ≡ true → is_broken (walked n k u r (entries u) (looked + 1) (link_of u r x.copy.undo_ptr)) ≡ broken_row n k d u r
      row_on f = sym (row_now (run_on u r (others n k) (entries u) looked l e x to less (ap not (sym told ∙ f))))
