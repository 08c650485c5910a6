-- What is asked for and not refused by 01's table is done: so a store that refuses all does not meet the theorems. Assumes nothing.
use Prim.Native.Nat.{ℕ, suc, ◌≤◌, ◌<◌}
use mathlib.Core.Path.{◌≡◌, refl, sym, ap, ◌∙◌}
use mathlib.Core.Bool.{Bool, true, false, not, ◌&&◌, or-false}
use mathlib.Core.Option.{some}
use mathlib.Core.List.{List, [], ◌∷◌}
use native.Mathlib.Omega.{arith}
use lib.Dec.{eqb, ltb}
use lib.ListN.{length}
use borrow.Author.Tests.{eqb-true, eq-eqb, ne_eqb, le-ltb}
use Rattle.ground.specs.Refuse.{first_of}
use Rattle.ground.proofs.Ranges.{same_truth}
use Rattle.places.specs.Open.{open_count, is_open}
use Rattle.desk.specs.Turns.{view_at, is_spoiled}
use Rattle.desk.specs.View.{View}
use Rattle.kind.specs.Kind.{lengths_ok, rows, entries}
use Rattle.records.specs.Slot.{slot_at}
use Rattle.records.specs.Entry.{entry_at}
use Rattle.chain.specs.Chain.{chain_of}
use Rattle.vacant.specs.Vacant.{lowest_empty, lowest_free}
use Rattle.vacant.proofs.Vacants.{lowest_empty_below, lowest_free_below}
use Rattle.seeking.specs.Seeking.{no_row}
use Rattle.seeking.proofs.Seekings.{Writable, writing}
use Rattle.keep.specs.Keep.{format_refusal, seal_refusal}
use Rattle.turns.specs.Turns.{begin_refusal, next_refusal, commit_refusal}
use Rattle.rows.specs.Rows.{view_in, insert_refusal, update_refusal, delete_refusal}
use Rattle.rows.proofs.Accepted.{deletes, updates}
use Rattle.undoing.specs.Undoing.{withdraw_refusal}
use Rattle.sweeping.specs.Sweeping.{sweep_refusal}
use Rattle.machine.specs.Lines.{Call, refused, is_done, format, seal, begin, next, insert, update, delete, commit, withdraw, sweep}
use Rattle.machine.specs.Machine.{writable}
use Rattle.seen.specs.Seen.{standings, row_of}
use Rattle.seen.proofs.Knowing.{session_of}
use Rattle.history.specs.World.{World, Response, says}
use Rattle.history.specs.Asked.{is_empty}
use Rattle.history.proofs.Worlds.{Good}
use Rattle.history.proofs.Steps.{refusal_of, when_done, step_settled}
use Rattle.history.proofs.Accepts.{writable_is, may_pass}
use Rattle.history.proofs.Writes.{view_few}
use Rattle.history.proofs.Refused.{done_ok, withdraws, sweeps}

is_done_lem : (w : World) (c : Call) → is_done (when_done w c).answer ≡ true → refusal_of w c ≡ 0 → is_done (says w c) ≡ true
is_done_lem w c d ok = step_settled w c (λ (t : Response). is_done t.answer ≡ true) (λ e. d) (λ m e. absurd (omega (arith, e, ok)))

-- and a call whose list gives a number is refused under it
is_refused : (w : World) (c : Call) (n : ℕ) → refusal_of w c ≡ suc n → says w c ≡ refused (suc n)
is_refused w c n e =
    step_settled w c (λ (t : Response). t.answer ≡ refused (suc n)) (λ ok. absurd (omega (arith, e, ok))) (λ m f. ap refused (sym f ∙ e))

pub format_done_lem : (w : World) (d u s : List ℕ) → lengths_ok (length d) (length u) (length s) ≡ true → is_done (says w (format d u s)) ≡ true
unfolding format_refusal
format_done_lem w d u s l = is_done_lem w (format d u s) refl (rw l)

module _ (w : World) (g : Good w) where
  pub begin_done_lem : open_count w.desk.numbers < 16 → w.desk.next < 32576 → is_done (says w begin) ≡ true
  unfolding begin_refusal
  begin_done_lem few left =
      is_done_lem w begin refl
      (rw (g.lengths, g.sound, ne_eqb (open_count w.desk.numbers) 16 (λ e. omega (arith, few, e)), ne_eqb w.desk.next 32576 (λ e. omega (arith, left, e))))

  pub seal_done_lem : open_count w.desk.numbers ≡ 0 → is_done (says w seal) ≡ true
  unfolding seal_refusal
  seal_done_lem none = is_done_lem w seal refl (rw (g.lengths, g.sound, none))

  pub sweep_done_lem : (first quota : ℕ) → first ≤ rows w.held.«data» → is_done (says w (sweep first quota)) ≡ true
  unfolding sweep_refusal
  sweep_done_lem first quota few =
      let inside : ltb (rows w.held.«data») first ≡ false = le-ltb (rows w.held.«data») first few in
      is_done_lem w (sweep first quota) refl (rw (g.lengths, g.sound, inside, sweeps w g first quota inside))

  module _ (n : ℕ) (opened : is_open n w.desk.numbers ≡ true) where
    pub withdraw_done_lem : is_done (says w (withdraw n)) ≡ true
    unfolding withdraw_refusal
    withdraw_done_lem = is_done_lem w (withdraw n) refl (rw (g.lengths, g.sound, opened, withdraws w g n))

    -- ---- a spoiled session is answered 18 ("02, T-07")

    module _ (lost : is_spoiled n w.desk ≡ true) where
      pub insert_18 : (b : List ℕ) → says w (insert n b) ≡ refused 18
      unfolding insert_refusal
      insert_18 b = is_refused w (insert n b) 17 (rw (g.lengths, g.sound, opened, lost) refl)

      pub update_18 : (r : ℕ) (b : List ℕ) → says w (update n r b) ≡ refused 18
      unfolding update_refusal
      update_18 r b = is_refused w (update n r b) 17 (rw (g.lengths, g.sound, opened, lost) refl)

      pub delete_18 : (r : ℕ) → says w (delete n r) ≡ refused 18
      unfolding delete_refusal
      delete_18 r = is_refused w (delete n r) 17 (rw (g.lengths, g.sound, opened, lost) refl)

      pub next_18 : says w (next n) ≡ refused 18
      unfolding next_refusal
      next_18 = is_refused w (next n) 17 (rw (g.lengths, g.sound, opened, lost) refl)

      pub commit_18 : says w (commit n) ≡ refused 18
      unfolding commit_refusal
      commit_18 = is_refused w (commit n) 17 (rw (g.lengths, g.sound, opened, lost) refl)

    -- ---- and one that is not

    -- a call that is done as b says where the session is not spoiled, and else is answered 18
    unless_spoiled_lem : (c : Call) (b : Bool) → (is_spoiled n w.desk ≡ true → says w c ≡ refused 18) → (is_spoiled n w.desk ≡ false → is_done (says w c) ≡ b)
        → is_done (says w c) ≡ (not (is_spoiled n w.desk) && b)
    unless_spoiled_lem c b lost free = by (is_spoiled n w.desk) refl
      where
        by : (t : Bool) → is_spoiled n w.desk ≡ t → is_done (says w c) ≡ (not t && b)
        by true e = ap is_done (lost e)
        by false e = free e

    next_done_lem : is_spoiled n w.desk ≡ false → (view_in w.desk n).statement < 65535 → is_done (says w (next n)) ≡ true
    unfolding next_refusal view_at
    next_done_lem free few =
        is_done_lem w (next n) refl
        (rw (g.lengths, g.sound, opened, free, ne_eqb (view_in w.desk n).statement 65535 (λ e. omega (arith, few, e))))

    pub next_is : (view_in w.desk n).statement < 65535 → is_done (says w (next n)) ≡ (not (is_spoiled n w.desk) && true)
    next_is few = unless_spoiled_lem (next n) true next_18 (λ free. next_done_lem free few)

    commit_done_lem : is_spoiled n w.desk ≡ false → is_done (says w (commit n)) ≡ true
    unfolding commit_refusal
    commit_done_lem free = is_done_lem w (commit n) refl (rw (g.lengths, g.sound, opened, free))

    pub commit_is : is_done (says w (commit n)) ≡ (not (is_spoiled n w.desk) && true)
    commit_is = unless_spoiled_lem (commit n) true commit_18 commit_done_lem

    insert_done_lem : is_spoiled n w.desk ≡ false → (b : List ℕ) → length b ≡ 32 → (r : ℕ) → r < rows w.held.«data» → is_empty w r ≡ true
        → is_done (says w (insert n b)) ≡ true
    unfolding insert_refusal
    insert_done_lem unspoiled b long r inside free =
        is_done_lem w (insert n b) refl
        (rw (g.lengths, g.sound, opened, unspoiled, eq-eqb (length b) 32 long, ne_eqb (lowest_empty w.held.«data») (rows w.held.«data») room))
      where
        room : lowest_empty w.held.«data» ≡ rows w.held.«data» → ⊥
        room e = lowest_empty_below w.held.«data» r (omega (arith, e, inside)) (eqb-true (slot_at r w.held.«data»).create 0 free)

    pub insert_is : (b : List ℕ) → length b ≡ 32 → (r : ℕ) → r < rows w.held.«data» → is_empty w r ≡ true
        → is_done (says w (insert n b)) ≡ (not (is_spoiled n w.desk) && true)
    insert_is b long r inside free =
        unless_spoiled_lem (insert n b) true (λ lost. insert_18 lost b) (λ unspoiled. insert_done_lem unspoiled b long r inside free)

    -- ---- update and delete

    abbrev d : List ℕ
    d = w.held.«data»

    abbrev u : List ℕ
    u = w.held.undo

    abbrev v : View
    v = view_in w.desk n

    -- the machine's session may write the row
    abbrev may : ℕ → Bool
    may r = writable (standings w.held.status) (some (session_of v)) (row_of d u r)

    module _ (r : ℕ) where
      whole : r < rows d → (chain_of d u r).whole ≡ true
      whole = g.whole r

      -- a write that nothing is said against is one that the machine allows
      allowed : Writable d u w.held.status v r → may r ≡ true
      allowed can = writable_is d u w.held.status w.desk v r (view_few w.desk n) (whole can.inside) can

      -- behind what is asked of the row, nothing is refused
      passes : may r ≡ true → (rest : List (Bool × ℕ)) → first_of (writing d u w.held.status v r rest) ≡ first_of rest
      passes can rest = may_pass d u w.held.status w.desk v r (view_few w.desk n) whole g.stated can rest

      delete_done_lem : is_spoiled n w.desk ≡ false → may r ≡ true → is_done (says w (delete n r)) ≡ true
      unfolding delete_refusal
      delete_done_lem unspoiled can = is_done_lem w (delete n r) refl (rw (g.lengths, g.sound, opened, unspoiled) (passes can []))

      pub delete_is : is_done (says w (delete n r)) ≡ (not (is_spoiled n w.desk) && may r)
      delete_is =
          unless_spoiled_lem (delete n r) (may r) (λ lost. delete_18 lost r)
          (λ unspoiled.
          same_truth (is_done (says w (delete n r))) (may r)
          (λ e. allowed (deletes d u w.held.status w.desk n r (done_ok w (delete n r) e)).writable) (delete_done_lem unspoiled))

      module _ (b : List ℕ) (long : length b ≡ 32) (e : ℕ) (inside : e < entries u) (free : (entry_at e u).writer ≡ 0) where
        room : lowest_free u ≡ entries u → ⊥
        room q = lowest_free_below u e (omega (arith, q, inside)) free

        update_done_lem : is_spoiled n w.desk ≡ false → may r ≡ true → is_done (says w (update n r b)) ≡ true
        unfolding update_refusal
        update_done_lem unspoiled can =
            is_done_lem w (update n r b) refl
            (rw (g.lengths, g.sound, opened, unspoiled, eq-eqb (length b) 32 long, or-false (no_row d r))
            (passes can ((eqb (lowest_free u) (entries u), 11) ∷ []) ∙ rw (ne_eqb (lowest_free u) (entries u) room)))

        pub update_is : is_done (says w (update n r b)) ≡ (not (is_spoiled n w.desk) && may r)
        update_is =
            unless_spoiled_lem (update n r b) (may r) (λ lost. update_18 lost r b)
            (λ unspoiled.
            same_truth (is_done (says w (update n r b))) (may r)
            (λ f. allowed (updates d u w.held.status w.desk n r b (done_ok w (update n r b) f)).writable) (update_done_lem unspoiled))
