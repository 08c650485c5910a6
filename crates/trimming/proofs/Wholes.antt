-- Whether a row's chain is whole, as the code finds it: it walks for a version that passes a test that none passes, and only counts
-- ("01, Sessions and sight"). Assumes nothing.
use mathlib.Core.Path.{◌≡◌, refl, sym, ap, ◌∙◌}
use mathlib.Core.Bool.{Bool, true, false, cond}
use mathlib.Core.List.{List, [], ◌∷◌}
use Prim.Native.Nat.{ℕ, zero, suc, ◌-◌, ◌<◌}
use native.Mathlib.Omega.{arith}
use Rattle.kind.specs.Kind.{entries}
use Rattle.records.specs.declared.slot.Slot.{Slot}
use Rattle.records.specs.declared.entry.Entry.{Entry}
use Rattle.records.specs.Slot.{slot_at}
use Rattle.chain.specs.declared.Link.{Link}
use Rattle.chain.specs.declared.Link.TheVariants.{End, Break, To}
use Rattle.chain.specs.declared.Walk.{Walk}
use Rattle.chain.specs.declared.Walk.TheVariants.{Absent, Broken}
use Rattle.chain.specs.Chain.{Version, Chain, chain_from, chain_of, link_of}
use Rattle.chain.proofs.Chains.{run, chain_run, run_out}
use Rattle.chain.proofs.Rows.{chain_of_empty, chain_of_used}
use Rattle.chain.proofs.Walks.{Fails, first_none}

-- the test that no version passes
abbrev pub never : Slot → Bool
never m = false

never_passes : (xs : List Version) → Fails never xs
never_passes [] = tt
never_passes (x ∷ xs) = (refl, never_passes xs)

-- what such a walk finds where the chain is whole, and where it is broken
abbrev pub wholly : Bool → Walk
wholly b = cond b Absent Broken

wholly_true : (b : Bool) → wholly b ≡ Absent → true ≡ b
wholly_true true h = refl
wholly_true false h = let z : ◌≡◌ {A = ℕ} 0 1 = cc in absurd (omega arith)

wholly_false : (b : Bool) → wholly b ≡ Broken → false ≡ b
wholly_false true h = let z : ◌≡◌ {A = ℕ} 0 1 = cc in absurd (omega arith)
wholly_false false h = refl

module _ (u : List ℕ) (r : ℕ) where
  -- from a pointer on
  abbrev pub rest : ℕ → Chain
  rest ptr = chain_from u r (entries u) [] ptr

  whole_run : (ptr : ℕ) → wholly (rest ptr).whole ≡ run u r never (entries u) 1 (link_of u r ptr)
  whole_run ptr =
      sym (first_none never (rest ptr).whole 1 (rest ptr).versions (never_passes (rest ptr).versions))
      ∙ chain_run u r never (entries u) 1 ptr

  run_none : (fuel n : ℕ) → run u r never fuel n End ≡ Absent
  unfolding run
  run_none zero n = refl
  run_none (suc fuel) n = refl

  run_broken : (fuel n : ℕ) → run u r never fuel n Break ≡ Broken
  unfolding run
  run_broken zero n = refl
  run_broken (suc fuel) n = refl

-- ---- where the walk stands: `l` is the link, `looked` the versions looked at, `ptr` the pointer in the slot

module _ (d u : List ℕ) (r : ℕ) where
  -- "an empty slot has no chain"
  pub whole_empty : {m : Slot} → m ≡ slot_at r d → m.create ≡ 0 → true ≡ (chain_of d u r).whole
  whole_empty read h =
      sym (ap (λ (c : Chain). c.whole) (chain_of_empty d u r (ap (λ (x : Slot). x.create) (sym read) ∙ h)))

  module _ {m : Slot} (read : m ≡ slot_at r d) (some : m.create ≡ 0 → ⊥) where
    behind : (chain_of d u r).whole ≡ (rest u r m.undo_ptr).whole
    behind =
        ap (λ (c : Chain). c.whole) (chain_of_used d u r (λ (z : (slot_at r d).create ≡ 0). some (ap (λ (x : Slot). x.create) read ∙ z)))
        ∙ ap (λ (x : Slot). (rest u r x.undo_ptr).whole) (sym read)

    module _ {l : Link} (fuel looked : ℕ)
        (so : run u r never fuel looked l ≡ run u r never (entries u) 1 (link_of u r m.undo_ptr)) where
      pub whole_end : l ≡ End → true ≡ (chain_of d u r).whole
      whole_end h =
          wholly_true _
          (ap wholly behind
          ∙ whole_run u r m.undo_ptr
          ∙ sym so
          ∙ ap (run u r never fuel looked) h
          ∙ run_none u r fuel looked)

      pub whole_break : l ≡ Break → false ≡ (chain_of d u r).whole
      whole_break h =
          wholly_false _
          (ap wholly behind
          ∙ whole_run u r m.undo_ptr
          ∙ sym so
          ∙ ap (run u r never fuel looked) h
          ∙ run_broken u r fuel looked)

    -- as many copies as there are entries were looked at, and there is one more
    pub whole_out : {looked : ℕ} {l : Link} (e : ℕ) (n : Entry) → entries u < looked → l ≡ To e n
        → run u r never (suc (entries u) - looked) looked l ≡ run u r never (entries u) 1 (link_of u r m.undo_ptr)
        → false ≡ (chain_of d u r).whole
    whole_out {looked} {l} e n out to so =
        wholly_false _
        (ap wholly behind
        ∙ whole_run u r m.undo_ptr
        ∙ sym so
        ∙ ap (run u r never (suc (entries u) - looked) looked) to
        ∙ run_out u r never (entries u) looked (To e n) out)
