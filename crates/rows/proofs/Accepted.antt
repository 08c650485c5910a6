-- Accepted inserts, updates and deletes: what each stood on, and what it does to the chains of all rows ("01, Writes, withdrawal,
-- sweep"). That the lists are bytes holds of every lent area; only the laws of the row written ask for it. Assumes nothing.
use mathlib.Core.Path.{◌≡◌, refl, sym, ap, ◌∙◌}
use mathlib.Core.Bool.{Bool, true, false, ◌||◌}
use mathlib.Core.List.{List, [], ◌∷◌}
use Prim.Native.Nat.{ℕ, zero, suc, ◌<◌}
use native.Mathlib.Omega.{arith}
use lib.ListN.{length}
use lib.Dec.{eqb}
use borrow.Author.Tests.{eqb-true, eqb-false, leb-false, not-false}
use Rattle.ground.proofs.Ranges.{or_false_left, or_false_right}
use Rattle.ground.specs.Refuse.{first_of, settle}
use Rattle.ground.proofs.Refusals.{first_of_more, first_of_none}
use Rattle.little.specs.Little.{Bytes}
use Rattle.places.specs.Open.{place_in}
use Rattle.desk.specs.declared.Desk.{Desk}
use Rattle.desk.specs.Turns.{view_at}
use Rattle.kind.specs.Kind.{rows, entries}
use Rattle.kind.specs.Areas.{Areas, areas}
use Rattle.pointer.specs.Pointer.{pointer_to}
use Rattle.records.specs.Slot.{slot_at}
use Rattle.chain.specs.declared.Place.{Place}
use Rattle.chain.specs.declared.Place.TheVariants.{Nowhere, Data, Undo}
use Rattle.chain.specs.declared.Walk.{Walk}
use Rattle.chain.specs.declared.Walk.TheVariants.{Found, Absent, Broken}
use Rattle.chain.specs.Chain.{ended, onto, chain_of}
use Rattle.chain.specs.Walk.{walk_rule, body_of}
use Rattle.chain.proofs.Walks.{walk_body}
use Rattle.admit.proofs.Admissions.{Admits, accepts, accepts_unspoiled, admits_from, admits_session, admits_statement, admits_lent}
use Rattle.vacant.specs.Vacant.{lowest_empty, lowest_free}
use Rattle.vacant.proofs.Vacants.{lowest_empty_lt, lowest_free_lt, lowest_free_free}
use Rattle.doubt.specs.Doubt.{doubts}
use Rattle.seeking.specs.Seeking.{no_row, is_broken, breaks, is_absent, misses, write_refusal}
use Rattle.seeking.proofs.Seekings.{Writable, reading, writing, write_passed}
use Rattle.writing.specs.Writing.{made, expired, inserted, updated_data, updated_undo, deleted}
use Rattle.versions.specs.Versions.{older, Fits, Takes}
use Rattle.versions.proofs.Versions.{chain_of_inserted_other, chain_of_inserted_own, chain_of_deleted_other, chain_of_deleted_own, chain_of_updated_other, chain_of_updated_own}
use Rattle.rows.specs.Rows.{view_in, bad_body, refused_desk, insert_refusal, insert_rule, update_refusal, updated, update_rule, delete_refusal, delete_rule, seen_by, read_refusal, read_rule}
use Rattle.rows.proofs.Calls.{small_number, update_room, update_rest}

-- what is done where nothing is refused
done_is : {A : Type 0} (n : ℕ) (done : A) (refused : ℕ → A) → n ≡ 0 → settle n done refused ≡ done
done_is n done refused e = ap (λ (m : ℕ). settle m done refused) e

module _ (d u s : List ℕ) (desk : Desk) (x : ℕ) where
  -- the session's statement, and the session admitted
  abbrev statement : ℕ
  statement = (view_in desk x).statement

  abbrev pub Session : Type 0
  Session = Admits d u s desk x (place_in x desk.numbers)

  -- what it writes fits its fields
  pub fits : Session → (r : ℕ) → r < rows d → Bytes d → Fits x statement r d
  unfolding view_at
  fits a r inside bytes =
      record {
        some = omega (arith, admits_from d u s desk x (place_in x desk.numbers) a);
        number = omega (arith, admits_session d u s desk x (place_in x desk.numbers) a);
        statement = omega (arith, admits_statement d u s desk x (place_in x desk.numbers) a);
        row = inside;
        bytes = bytes;
      }

  -- ---- insert

  module _ (body : List ℕ) (ok : insert_refusal (areas d u s) desk x body ≡ 0) where
    -- what an accepted insert stood on
    pub record Inserts : Type 0 where
      pub session : Session
      pub long : length body ≡ 32
      pub room : lowest_empty d < rows d

    pub inserts : Inserts
    unfolding insert_refusal
    inserts =
        let a = accepts_unspoiled d u s desk x ((bad_body body, 5) ∷ (eqb (lowest_empty d) (rows d), 11) ∷ []) ok in
        let b = first_of_none (bad_body body) 5 _ (λ z. omega arith) a.1 in
        let r = first_of_none (eqb (lowest_empty d) (rows d)) 11 _ (λ z. omega arith) b.1 in
        record {
          session = a.0.admitted;
          long = eqb-true (length body) 32 (not-false _ b.0);
          room = lowest_empty_lt d (eqb-false (lowest_empty d) (rows d) r.0);
        }

    pub insert_does : insert_rule (areas d u s) desk x body ≡ ((0, lowest_empty d), inserted x statement (lowest_empty d) body d)
    unfolding insert_rule
    insert_does = done_is (insert_refusal (areas d u s) desk x body) ((0, lowest_empty d), inserted x statement (lowest_empty d) body d) (λ (n : ℕ). ((n, 0), d)) ok

    -- the chains of all other rows are as they were
    pub insert_others : (t : ℕ) → (t ≡ lowest_empty d → ⊥) → chain_of (insert_rule (areas d u s) desk x body).1 u t ≡ chain_of d u t
    insert_others t ne =
        ap (λ (y : (ℕ × ℕ) × List ℕ). chain_of y.1 u t) insert_does
        ∙ chain_of_inserted_other x statement (lowest_empty d) body d u inserts.long t ne

    -- the row's is the one new version
    pub insert_own : Bytes d
        → chain_of (insert_rule (areas d u s) desk x body).1 u (lowest_empty d) ≡ onto (record { place = Data (lowest_empty d); slot = made x statement 0 }) (ended true)
    insert_own bytes =
        ap (λ (y : (ℕ × ℕ) × List ℕ). chain_of y.1 u (lowest_empty d)) insert_does
        ∙ chain_of_inserted_own x statement (lowest_empty d) body d u inserts.long (fits inserts.session (lowest_empty d) inserts.room bytes)

  -- ---- delete

  module _ (r : ℕ) (ok : delete_refusal (areas d u s) desk x r ≡ 0) where
    pub record Deletes : Type 0 where
      pub session : Session
      pub writable : Writable d u s (view_in desk x) r

    pub deletes : Deletes
    unfolding delete_refusal write_refusal
    deletes =
        let a = accepts_unspoiled d u s desk x (writing d u s (view_in desk x) r []) ok in
        record { session = a.0.admitted; writable = write_passed d u s (view_in desk x) r a.1 }

    pub delete_does : delete_rule (areas d u s) desk x r ≡ ((0, desk), deleted x statement r d)
    unfolding delete_rule
    delete_does = done_is (delete_refusal (areas d u s) desk x r) ((0, desk), deleted x statement r d) (λ (n : ℕ). ((n, refused_desk n x desk), d)) ok

    pub delete_others : (t : ℕ) → (t ≡ r → ⊥) → chain_of (delete_rule (areas d u s) desk x r).1 u t ≡ chain_of d u t
    delete_others t ne = ap (λ (y : (ℕ × Desk) × List ℕ). chain_of y.1 u t) delete_does ∙ chain_of_deleted_other x statement r d u t ne

    -- the row's is the old one with the expirer set
    pub delete_own : Bytes d
        → chain_of (delete_rule (areas d u s) desk x r).1 u r ≡ onto (record { place = Data r; slot = expired x statement (slot_at r d) }) (older (chain_of d u r))
    delete_own bytes =
        ap (λ (y : (ℕ × Desk) × List ℕ). chain_of y.1 u r) delete_does
        ∙ chain_of_deleted_own x statement r d u (fits deletes.session r deletes.writable.inside bytes) deletes.writable.occupied

  -- ---- update

  module _ (r : ℕ) (body : List ℕ) (ok : update_refusal (areas d u s) desk x r body ≡ 0) where
    pub record Updates : Type 0 where
      pub session : Session
      pub long : length body ≡ 32
      pub writable : Writable d u s (view_in desk x) r
      pub room : lowest_free u < entries u

    abbrev full : List (Bool × ℕ)
    full = update_room d u s desk x r body

    abbrev rest : Bool → List (Bool × ℕ)
    rest = update_rest d u s desk x r body

    -- what is asked of the row is not refused, where nothing is with the room behind it
    asked : (n : ℕ) → write_refusal d u s (view_in desk x) r ≡ n → first_of (writing d u s (view_in desk x) r full) ≡ 0 → n ≡ 0
    unfolding write_refusal
    asked zero e h = refl
    asked (suc n) e h = absurd (omega (arith, h, first_of_more (writing d u s (view_in desk x) r []) full n e))

    pub updates : Updates
    unfolding update_refusal
    updates =
        let a = accepts_unspoiled d u s desk x (rest (no_row d r || bad_body body)) ok in
        let b = first_of_none (no_row d r || bad_body body) 5 _ (λ z. omega arith) a.1 in
        let row : no_row d r ≡ false = or_false_left (no_row d r) (bad_body body) b.0 in
        let all : first_of (writing d u s (view_in desk x) r full) ≡ 0 = ap (λ (t : Bool). first_of (rest t)) (row ∙ sym b.0) ∙ a.1 in
        let w = write_passed d u s (view_in desk x) r (asked (write_refusal d u s (view_in desk x) r) refl all) in
        let f = first_of_none (eqb (lowest_free u) (entries u)) 11 _ (λ z. omega arith) (sym (w.passed full) ∙ all) in
        record {
          session = a.0.admitted;
          long = eqb-true (length body) 32 (not-false _ (or_false_right (no_row d r) (bad_body body) b.0));
          writable = w;
          room = lowest_free_lt u (eqb-false (lowest_free u) (entries u) f.0);
        }

    pub update_does : update_rule (areas d u s) desk x r body ≡ ((0, desk), updated (areas d u s) desk x r body)
    unfolding update_rule
    update_does = done_is (update_refusal (areas d u s) desk x r body) ((0, desk), updated (areas d u s) desk x r body) (λ (n : ℕ). ((n, refused_desk n x desk), areas d u s)) ok

    -- the entry taken is free, and all numbers are small
    pub takes : Takes r (lowest_free u) u
    takes =
        let up = updates in
        let lent = admits_lent d u s desk x (place_in x desk.numbers) up.session in
        record {
          row = small_number lent.in_data.few (omega arith) up.writable.inside;
          entry = small_number lent.in_undo.few (omega arith) up.room;
          few = omega (arith, lent.in_undo.few);
          here = up.room;
          free = lowest_free_free u up.room;
        }

    module _ (bytes : Bytes d) where
      abbrev after : Areas
      after = (update_rule (areas d u s) desk x r body).1

      abbrev e : ℕ
      e = lowest_free u

      became : (t : ℕ) → chain_of after.«data» after.undo t ≡ chain_of (updated_data x statement r e body d) (updated_undo x statement r e d u) t
      unfolding updated
      became t = ap (λ (y : (ℕ × Desk) × Areas). chain_of y.1.«data» y.1.undo t) update_does

      pub update_others : (t : ℕ) → (t ≡ r → ⊥) → chain_of after.«data» after.undo t ≡ chain_of d u t
      update_others t ne =
          became t
          ∙ chain_of_updated_other x statement r e body d u (fits updates.session r updates.writable.inside bytes) takes updates.long t ne

      -- the row's is the old one with the new version in front, and the version before it ended
      pub update_own : (chain_of d u r).whole ≡ true
          → chain_of after.«data» after.undo r
          ≡ onto (record { place = Data r; slot = made x statement (pointer_to e) })
          (onto (record { place = Undo e; slot = expired x statement (slot_at r d) }) (older (chain_of d u r)))
      update_own whole =
          became r
          ∙ chain_of_updated_own x statement r e body d u (fits updates.session r updates.writable.inside bytes) takes updates.long updates.writable.occupied whole

  -- ---- read

  module _ (r : ℕ) (ok : read_refusal (areas d u s) desk x r ≡ 0) where
    pub record Reads : Type 0 where
      pub session : Session
      pub inside : r < rows d
      pub place : Place
      pub looked : ℕ
      pub found : walk_rule d u s (view_in desk x) r ≡ Found place looked

    pub reads : Reads
    unfolding read_refusal no_row breaks misses
    reads =
        let w : Walk = walk_rule d u s (view_in desk x) r in
        let a = accepts d u s desk x (reading d u s (view_in desk x) r []) ok in
        let n = first_of_none (no_row d r) 5 _ (λ z. omega arith) a.1 in
        let b = first_of_none (is_broken w) 6 _ (λ z. omega arith) n.1 in
        let t = first_of_none (doubts d u s (view_in desk x) r) 17 _ (λ z. omega arith) b.1 in
        let m = first_of_none (is_absent w) 7 _ (λ z. omega arith) t.1 in
        by a.0 (leb-false (rows d) r n.0) w refl b.0 m.0
      where
        by : Session → r < rows d → (w : Walk) → walk_rule d u s (view_in desk x) r ≡ w → is_broken w ≡ false → is_absent w ≡ false → Reads
        by session inside (Found place n) is b m = record { session = session; inside = inside; place = place; looked = n; found = is }
        by session inside Absent is b m = let z : ◌≡◌ {A = ℕ} 0 1 = cc in absurd (omega arith)
        by session inside Broken is b m = let z : ◌≡◌ {A = ℕ} 0 1 = cc in absurd (omega arith)

    -- it answers the first version there: what that means is said of the walk (chain/proofs/Walks)
    pub read_does : read_rule (areas d u s) desk x r ≡ (0, reads.place, reads.looked)
    unfolding read_rule
    read_does =
        done_is (read_refusal (areas d u s) desk x r) (seen_by (walk_rule d u s (view_in desk x) r)) (λ (n : ℕ). (n, Nowhere, 0)) ok
        ∙ ap seen_by reads.found

    -- and its body is 32 bytes long
    pub read_body : length (body_of (read_rule (areas d u s) desk x r).1 d u) ≡ 32
    read_body =
        ap (λ (y : ℕ × Place × ℕ). length (body_of y.1 d u)) read_does
        ∙ walk_body d u s (view_in desk x) r reads.place reads.looked reads.inside reads.found
