-- What a write that nothing is said against stands on, as the machine asks it; and nothing is said against what the machine allows.
-- Assumes nothing.
use Prim.Native.Nat.{ℕ, ◌≤◌, ◌<◌}
use mathlib.Core.Path.{◌≡◌, refl, ap, sym, subst, ◌∙◌}
use mathlib.Core.Bool.{Bool, true, false, ◌&&◌}
use mathlib.Core.Option.{some}
use mathlib.Core.List.{List, [], ◌∷◌}
use native.Mathlib.Omega.{arith}
use lib.Dec.{eqb, ltb}
use lib.ListN.{length}
use borrow.Author.Tests.{ltb-true, lt-leb}
use Rattle.ground.specs.Refuse.{first_of}
use Rattle.ground.proofs.Ranges.{and_true_left, and_true_right}
use Rattle.kind.specs.Kind.{rows, entries}
use Rattle.desk.specs.declared.Desk.{Desk}
use Rattle.desk.specs.View.{View}
use Rattle.records.specs.Slot.{slot_at}
use Rattle.chain.specs.declared.Walk.{Walk}
use Rattle.chain.specs.declared.Walk.TheVariants.{Found, Absent, Broken}
use Rattle.chain.specs.Chain.{chain_from, chain_of}
use Rattle.chain.specs.Walk.{stamp_of, walk_rule}
use Rattle.chain.proofs.Rows.{slot_version}
use Rattle.sight.specs.Sight.{known}
use Rattle.doubt.specs.Doubt.{NoneReserved}
use Rattle.doubt.proofs.Doubts.{doubts_none}
use Rattle.seeking.specs.Seeking.{no_row, is_broken, breaks, is_absent, misses, says}
use Rattle.seeking.proofs.Seekings.{Writable, writing}
use Rattle.machine.specs.Machine.{Version as Held, counts, first_there, is_some, looked_at, knows, writable, reads}
use Rattle.machine.proofs.Basics.{true_false}
use Rattle.seen.specs.Seen.{standings, held_of, all_held, row_of, seen_as}
use Rattle.seen.proofs.Walked.{Says}
use Rattle.seen.proofs.Knowing.{session_of, known_is}
use Rattle.seen.proofs.Rows.{row_empty, row_used}
use Rattle.seen.proofs.Readers.{walk_is}
use Rattle.conflict.proofs.Conflicts.{conflict_clear, clear_conflict}

module _ (d u s : List ℕ) (k : Desk) (v : View) (r : ℕ) (few : length v.list ≤ 15) (whole : (chain_of d u r).whole ≡ true) (can : Writable d u s v r) where
  -- a version is there
  there_is_one : is_some (first_there (counts (standings s) (session_of v) v.statement) (row_of d u r)) ≡ true
  there_is_one = go (walk_rule d u s v r) (looked_at (knows (seen_as d u s k) (session_of v)) (row_of d u r)) can.version.is (walk_is d u s k v r few can.inside whole)
    where
      go : (w : Walk) (n : ℕ) → w ≡ Found can.version.place can.version.looked → Says d u w (reads (seen_as d u s k) (session_of v) r) n
          → is_some (reads (seen_as d u s k) (session_of v) r) ≡ true
      go (Found p m) n e says = ap is_some says.0
      go Absent n e says = let z : ◌≡◌ {A = ℕ} 0 1 = cc in absurd (omega arith)
      go Broken n e says = absurd says

  pub writable_is : writable (standings s) (some (session_of v)) (row_of d u r) ≡ true
  writable_is =
      subst (λ (vs : List Held). is_some (first_there p (row_of d u r)) ≡ true → writable (standings s) (some (session_of v)) vs ≡ true) (sym row) go there_is_one
    where
      older : List Held
      older = all_held d u (chain_from u r (entries u) [] (slot_at r d).undo_ptr).versions

      p : ℕ → ℕ → Bool
      p = counts (standings s) (session_of v) v.statement

      row : row_of d u r ≡ held_of d u (slot_version d r) ∷ older
      row = row_used d u r can.inside can.occupied

      go : is_some (first_there p (row_of d u r)) ≡ true → writable (standings s) (some (session_of v)) (held_of d u (slot_version d r) ∷ older) ≡ true
      go e =
          let both = conflict_clear v s (stamp_of (slot_at r d)) can.allowed in
          let first : is_some (first_there p (held_of d u (slot_version d r) ∷ older)) ≡ true = ap (λ (vs : List Held). is_some (first_there p vs)) (sym row) ∙ e in
          rw (first, both.0) (known_is v s (slot_at r d).create (slot_at r d).cmd few ∙ both.1)

-- ---- the other way

module _ (d u s : List ℕ) (k : Desk) (v : View) (r : ℕ) (few : length v.list ≤ 15) (whole : r < rows d → (chain_of d u r).whole ≡ true) (stated : NoneReserved s)
    (can : writable (standings s) (some (session_of v)) (row_of d u r) ≡ true) where
  abbrev p : ℕ → ℕ → Bool
  p = counts (standings s) (session_of v) v.statement

  -- a row that S may write has a version
  none_empty : row_of d u r ≡ [] → ⊥
  none_empty e = true_false (writable (standings s) (some (session_of v)) (row_of d u r)) can (ap (writable (standings s) (some (session_of v))) e)

  pub may_inside : r < rows d
  may_inside = go (ltb r (rows d)) refl
    where
      go : (b : Bool) → ltb r (rows d) ≡ b → r < rows d
      go true e = ltb-true r (rows d) e
      go false e = absurd (none_empty (rw e))

  abbrev older : List Held
  older = all_held d u (chain_from u r (entries u) [] (slot_at r d).undo_ptr).versions

  row_is : row_of d u r ≡ held_of d u (slot_version d r) ∷ older
  row_is = row_used d u r may_inside (λ z. none_empty (row_empty d u r z))

  -- what the machine asks of it, by its parts
  parts : (is_some (first_there p (row_of d u r)) ≡ true) × (eqb (slot_at r d).expire 0 ≡ true) × (known v s (slot_at r d).create (slot_at r d).cmd ≡ true)
  parts =
      let e : writable (standings s) (some (session_of v)) (held_of d u (slot_version d r) ∷ older) ≡ true = ap (writable (standings s) (some (session_of v))) (sym row_is) ∙ can in
      let a : Bool = is_some (first_there p (held_of d u (slot_version d r) ∷ older)) in
      let b = and_true_right a (eqb (slot_at r d).expire 0 && p (slot_at r d).create (slot_at r d).cmd) e in (
        ap (λ (vs : List Held). is_some (first_there p vs)) row_is ∙ and_true_left a (eqb (slot_at r d).expire 0 && p (slot_at r d).create (slot_at r d).cmd) e,
        and_true_left (eqb (slot_at r d).expire 0) (p (slot_at r d).create (slot_at r d).cmd) b,
        sym (known_is v s (slot_at r d).create (slot_at r d).cmd few) ∙ and_true_right (eqb (slot_at r d).expire 0) (p (slot_at r d).create (slot_at r d).cmd) b,
      )

  -- the walk finds a version
  walks : (is_broken (walk_rule d u s v r) ≡ false) × (is_absent (walk_rule d u s v r) ≡ false)
  walks = go (walk_rule d u s v r) (walk_is d u s k v r few may_inside (whole may_inside))
    where
      go : (w : Walk) → Says d u w (reads (seen_as d u s k) (session_of v) r) (looked_at (knows (seen_as d u s k) (session_of v)) (row_of d u r))
          → (is_broken w ≡ false) × (is_absent w ≡ false)
      go (Found q n) y = (refl, refl)
      go Absent y = true_false (is_some (first_there p (row_of d u r))) parts.0 (ap is_some y)
      go Broken y = absurd y

  -- nothing is said against it: behind what is asked of the row, the list of refusals goes on
  pub may_pass : (rest : List (Bool × ℕ)) → first_of (writing d u s v r rest) ≡ first_of rest
  unfolding no_row breaks misses says
  may_pass rest = rw (lt-leb (rows d) r may_inside, walks.0, doubts_none d u s v r stated, walks.1, clear_conflict v s (stamp_of (slot_at r d)) parts.1 parts.2)
