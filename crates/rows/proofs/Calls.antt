-- The rules of insert, update, delete and read, case by case. Assumes nothing.
use mathlib.Core.Path.{◌≡◌, refl, sym, ap, ◌∙◌}
use mathlib.Core.Bool.{Bool, true, false, ◌||◌, or-true, or-false, cond}
use mathlib.Core.List.{List, [], ◌∷◌}
use Prim.Native.Nat.{ℕ, zero, suc, ◌*◌, ◌<◌, ◌≤◌, ◌^◌}
use native.Mathlib.Nat.{mul-le-mul}
use native.Mathlib.Omega.{arith}
use lib.ListN.{length, get_or}
use lib.Dec.{eqb, leb}
use borrow.Author.Tests.{eq-eqb, ne_eqb, leb-true, leb-false}
use Rattle.std.specs.Prelude.{Result, Ok, Err, Option, Some, None, ok_or}
use Rattle.ground.specs.Range.{found_below}
use Rattle.ground.specs.Refuse.{first_of, settle}
use Rattle.answer.specs.declared.Refusal.{Refusal}
use Rattle.answer.specs.declared.Refusal.TheVariants.{NoRoom}
use Rattle.answer.specs.Code.{code_of}
use Rattle.answer.proofs.Codes.{code_of_positive}
use Rattle.desk.specs.declared.Desk.{Desk}
use Rattle.desk.specs.View.{View}
use Rattle.places.specs.Open.{place_in}
use Rattle.desk.specs.Turns.{view_at, spoiled}
use Rattle.columns.specs.Columns.{used_of}
use Rattle.sessions.proofs.Lists.{list_unused}
use Rattle.sight.specs.Sight.{view_of}
use Rattle.sight.proofs.Fronts.{FrontOf, used_front}
use Rattle.kind.specs.Kind.{rows, entries}
use Rattle.kind.specs.Areas.{Areas, areas}
use Rattle.chain.specs.declared.Found.{Found}
use Rattle.chain.specs.declared.Place.{Place}
use Rattle.chain.specs.declared.Place.TheVariants.{Nowhere}
use Rattle.chain.specs.Walk.{walk_rule}
use Rattle.admit.proofs.Admissions.{Admits, admission, refuses, goes_on, admits_at, admits_place, admits_number, admits_sound}
use Rattle.admit.proofs.Admissions.{Unspoiled, unspoiled_admission, refuses_unspoiled, refuses_calm, goes_past}
use Rattle.vacant.specs.Vacant.{lowest_empty, lowest_free}
use Rattle.vacant.proofs.Vacants.{lowest_empty_le, lowest_free_le}
use Rattle.doubt.specs.Doubt.{doubts}
use Rattle.seeking.specs.Seeking.{no_row, breaks, misses, says, seek_rule, write_refusal}
use Rattle.seeking.proofs.Seekings.{reading, writing, seek_refused, seek_passed, seek_walk, write_refused, write_passed, front_seek, front_write}
use Rattle.writing.specs.Writing.{inserted, updated_data, updated_undo, deleted}
use Rattle.rows.specs.Rows.{said_seen, view_in, view_lent, bad_body, refused_desk, insert_refusal, insert_rule, update_refusal, updated, update_rule, delete_refusal, delete_rule, seen_by, read_refusal, read_rule}

-- ---- what the session admitted at place k sees by, as the words lend it

module _ (d u s : List ℕ) (desk : Desk) (x k : ℕ) (a : Admits d u s desk x k) where
  -- with its whole list that is its view
  view_in_lem : view_of x (get_or desk.statements k 0) (view_at k desk).list ≡ view_in desk x
  unfolding view_at
  view_in_lem =
      ap (λ (n : ℕ). view_of n (get_or desk.statements k 0) (view_at k desk).list) (sym (admits_number d u s desk x k a))
      ∙ ap (λ (i : ℕ). view_at i desk) (admits_at d u s desk x k a)

  -- behind the used places of a sound desk's list there are none
  front_in : FrontOf (used_of (view_at k desk).list) (view_at k desk).list
  front_in = used_front (view_at k desk).list (list_unused desk (admits_sound d u s desk x k a) k (admits_place d u s desk x k a))

  statement_in_lem : {t : ℕ} → t ≡ get_or desk.statements k 0 → (view_in desk x).statement ≡ t
  statement_in_lem at = ap (λ (v : View). v.statement) (sym view_in_lem) ∙ sym at

  module _ {v : View} (lent : v ≡ view_lent desk x k) (r : ℕ) where
    -- what was sought, and what was asked of a row, with the used places alone
    sought_in : (q : Result Found Refusal) → q ≡ seek_rule d u s v r → seek_rule d u s (view_in desk x) r ≡ q
    sought_in q e =
        sym
        (e
        ∙ ap (λ (w : View). seek_rule d u s w r) lent
        ∙ front_seek (used_of (view_at k desk).list) (view_at k desk).list front_in x (get_or desk.statements k 0) d u s r
        ∙ ap (λ (w : View). seek_rule d u s w r) view_in_lem)

    asked_in : {m : ℕ} → m ≡ write_refusal d u s v r → write_refusal d u s (view_in desk x) r ≡ m
    asked_in e =
        sym
        (e
        ∙ ap (λ (w : View). write_refusal d u s w r) lent
        ∙ front_write (used_of (view_at k desk).list) (view_at k desk).list front_in x (get_or desk.statements k 0) d u s r
        ∙ ap (λ (w : View). write_refusal d u s w r) view_in_lem)

-- ---- what is vacant

-- a search that found none, and one that found a place: of n places the lowest is i, and o is what the search answered
pub none_vacant : {n i : ℕ} {o : Option ℕ} {e : Refusal} → o ≡ found_below n i → Err e ≡ ok_or o NoRoom → (e ≡ NoRoom) × (n ≤ i)
unfolding found_below
none_vacant {n} {i} {o} {e} is refused = by (leb n i) refl (refused ∙ ap (λ (p : Option ℕ). ok_or p NoRoom) is)
  where
    by : (t : Bool) → leb n i ≡ t → Err e ≡ ok_or (cond t None (Some i)) NoRoom → (e ≡ NoRoom) × (n ≤ i)
    by true h q = (cc, leb-true n i h)
    by false h q = let z : ◌≡◌ {A = ℕ} 0 1 = cc in absurd (omega arith)

pub some_vacant : {n i k : ℕ} {o : Option ℕ} → o ≡ found_below n i → Ok k ≡ ok_or o NoRoom → (k ≡ i) × (i < n)
unfolding found_below
some_vacant {n} {i} {k} {o} is found = by (leb n i) refl (found ∙ ap (λ (p : Option ℕ). ok_or p NoRoom) is)
  where
    by : (t : Bool) → leb n i ≡ t → Ok k ≡ ok_or (cond t None (Some i)) NoRoom → (k ≡ i) × (i < n)
    by true h q = let z : ◌≡◌ {A = ℕ} 0 1 = cc in absurd (omega arith)
    by false h q = (cc, leb-false n i h)

-- ---- insert

module _ (d u s : List ℕ) (desk : Desk) (x : ℕ) (body : List ℕ) where
  abbrev insert_rest : List (Bool × ℕ)
  insert_rest = (bad_body body, 5) ∷ (eqb (lowest_empty d) (rows d), 11) ∷ []

  abbrev insert_done : ℕ → (ℕ × ℕ) × List ℕ
  insert_done t = ((0, lowest_empty d), inserted x t (lowest_empty d) body d)

  abbrev insert_no : ℕ → (ℕ × ℕ) × List ℕ
  insert_no n = ((n, 0), d)

  pub insert_refused : (n : Refusal) → unspoiled_admission d u s desk x ≡ Err n → insert_rule (areas d u s) desk x body ≡ insert_no (code_of n)
  unfolding insert_rule insert_refusal
  insert_refused n e = refuses_unspoiled d u s desk x n insert_rest (insert_done (view_in desk x).statement) insert_no e

  module _ (k : ℕ) (a : Unspoiled d u s desk x k) where
    insert_on : insert_rule (areas d u s) desk x body ≡ settle (first_of insert_rest) (insert_done (view_in desk x).statement) insert_no
    unfolding insert_rule insert_refusal
    insert_on = goes_past d u s desk x k a insert_rest (insert_done (view_in desk x).statement) insert_no

    pub insert_5 : (length body ≡ 32 → ⊥) → insert_rule (areas d u s) desk x body ≡ insert_no 5
    insert_5 h = insert_on ∙ rw (ne_eqb (length body) 32 h)

    module _ (long : length body ≡ 32) where
      pub insert_11 : rows d ≤ lowest_empty d → insert_rule (areas d u s) desk x body ≡ insert_no 11
      insert_11 full =
          let all : lowest_empty d ≡ rows d = omega (arith, full, lowest_empty_le d) in insert_on ∙ rw (eq-eqb (length body) 32 long, eq-eqb (lowest_empty d) (rows d) all)

      pub insert_0 : {r t : ℕ} {y : List ℕ} → r ≡ lowest_empty d → lowest_empty d < rows d → t ≡ get_or desk.statements k 0 → y ≡ inserted x t r body d
          → insert_rule (areas d u s) desk x body ≡ ((0, r), y)
      insert_0 {r} {t} {y} is some at put =
          insert_on
          ∙ rw (eq-eqb (length body) 32 long, ne_eqb (lowest_empty d) (rows d) (λ (e : lowest_empty d ≡ rows d). omega arith))
          (ap insert_done (statement_in_lem d u s desk x k a.admitted at)
          ∙ ap (λ (i : ℕ). ((0, i), inserted x t i body d)) (sym is)
          ∙ ap (λ (l : List ℕ). ((0, r), l)) (sym put))

-- ---- what a refused write leaves of the desk

-- nothing is marked but by a 10
pub desk_calm : (n x : ℕ) (desk : Desk) → eqb n 10 ≡ false → refused_desk n x desk ≡ desk
unfolding refused_desk
desk_calm n x desk e = rw e refl

-- a 10 marks the session at its place: r is the refusal handed on, and y the desk left
pub desk_told : (d u s : List ℕ) (desk : Desk) (x k : ℕ) → Unspoiled d u s desk x k → {r n : Refusal} {y : Desk} → r ≡ n
    → y ≡ cond (eqb (code_of n) 10) (spoiled k desk) desk
    → ◌≡◌ {A = ℕ × Desk} (code_of r, y) (code_of n, refused_desk (code_of n) x desk)
unfolding refused_desk
desk_told d u s desk x k a {r} {n} {y} e f =
    let there : y ≡ cond (eqb (code_of n) 10) (spoiled (place_in x desk.numbers) desk) desk =
    f ∙ ap (λ (i : ℕ). cond (eqb (code_of n) 10) (spoiled i desk) desk) (admits_at d u s desk x k a.admitted)
    in
    λ i. (code_of (e i), there i)

-- ---- a write to a row: m is what was asked of it and answered

module _ (d u s : List ℕ) (v : View) (r : ℕ) {A : Type 0} (rest : List (Bool × ℕ)) (done : A) (refused : ℕ → A) where
  write_no : (m : ℕ) → write_refusal d u s v r ≡ m → (m ≡ 0 → ⊥) → settle (first_of (writing d u s v r rest)) done refused ≡ refused m
  write_no zero e some = absurd (some refl)
  write_no (suc m) e some = write_refused d u s v r m rest done refused e

  write_on : write_refusal d u s v r ≡ 0 → settle (first_of (writing d u s v r rest)) done refused ≡ settle (first_of rest) done refused
  write_on e = ap (λ (m : ℕ). settle m done refused) ((write_passed d u s v r e).passed rest)

-- nothing was refused: the row lies in the area
pub write_inside : (d u s : List ℕ) (v : View) (r : ℕ) → 0 ≡ write_refusal d u s v r → r < rows d
write_inside d u s v r asked = (write_passed d u s v r (sym asked)).inside

-- ---- delete

module _ (d u s : List ℕ) (desk : Desk) (x r : ℕ) where
  abbrev delete_rest : List (Bool × ℕ)
  delete_rest = writing d u s (view_in desk x) r []

  abbrev delete_done : ℕ → (ℕ × Desk) × List ℕ
  delete_done t = ((0, desk), deleted x t r d)

  abbrev delete_no : ℕ → (ℕ × Desk) × List ℕ
  delete_no n = ((n, refused_desk n x desk), d)

  pub delete_refused : (n : Refusal) → unspoiled_admission d u s desk x ≡ Err n → delete_rule (areas d u s) desk x r ≡ ((code_of n, desk), d)
  unfolding delete_rule delete_refusal
  delete_refused n e =
      refuses_unspoiled d u s desk x n delete_rest (delete_done (view_in desk x).statement) delete_no e
      ∙ ap (λ (k : Desk). ((code_of n, k), d)) (desk_calm (code_of n) x desk (refuses_calm d u s desk x n e))

  module _ (k : ℕ) (a : Unspoiled d u s desk x k) where
    delete_on : delete_rule (areas d u s) desk x r ≡ settle (first_of delete_rest) (delete_done (view_in desk x).statement) delete_no
    unfolding delete_rule delete_refusal
    delete_on = goes_past d u s desk x k a delete_rest (delete_done (view_in desk x).statement) delete_no

    module _ {v : View} (lent : v ≡ view_lent desk x k) where
      pub delete_no_lem : (n : Refusal) → code_of n ≡ write_refusal d u s v r → delete_rule (areas d u s) desk x r ≡ delete_no (code_of n)
      delete_no_lem n asked =
          delete_on
          ∙ write_no d u s (view_in desk x) r [] (delete_done (view_in desk x).statement) delete_no (code_of n) (asked_in d u s desk x k a.admitted lent r asked) (code_of_positive n)

      pub delete_0 : {t : ℕ} → t ≡ get_or desk.statements k 0 → 0 ≡ write_refusal d u s v r → delete_rule (areas d u s) desk x r ≡ delete_done t
      delete_0 at asked =
          delete_on
          ∙ write_on d u s (view_in desk x) r [] (delete_done (view_in desk x).statement) delete_no (asked_in d u s desk x k a.admitted lent r asked)
          ∙ ap delete_done (statement_in_lem d u s desk x k a.admitted at)

-- ---- update

-- the number of a record of the pages that may be lent is small
pub small_number : {r n count : ℕ} → n ≤ 64 → count ≤ 127 → r < n * count → r < 2 ^ 32
small_number {r} {n} {count} few most h = let m : n * count ≤ 64 * 127 = mul-le-mul few most in omega arith

module _ (d u s : List ℕ) (desk : Desk) (x r : ℕ) (body : List ℕ) where
  abbrev pub update_room : List (Bool × ℕ)
  update_room = (eqb (lowest_free u) (entries u), 11) ∷ []

  -- behind 4, with what 5 asks as b
  abbrev pub update_rest : Bool → List (Bool × ℕ)
  update_rest b =
      (b, 5)
      ∷ (breaks d u s (view_in desk x) r, 6)
      ∷ (doubts d u s (view_in desk x) r, 17)
      ∷ (misses d u s (view_in desk x) r, 7)
      ∷ (says d s (view_in desk x) r 8, 8)
      ∷ (says d s (view_in desk x) r 9, 9)
      ∷ (says d s (view_in desk x) r 10, 10)
      ∷ update_room

  abbrev update_done : ℕ → ℕ → (ℕ × Desk) × Areas
  update_done t e = ((0, desk), areas (updated_data x t r e body d) (updated_undo x t r e d u) s)

  abbrev update_no : ℕ → (ℕ × Desk) × Areas
  update_no n = ((n, refused_desk n x desk), areas d u s)

  abbrev update_end : Bool → (ℕ × Desk) × Areas
  update_end b = settle (first_of (update_rest b)) (update_done (view_in desk x).statement (lowest_free u)) update_no

  pub update_refused : (n : Refusal) → unspoiled_admission d u s desk x ≡ Err n → update_rule (areas d u s) desk x r body ≡ ((code_of n, desk), areas d u s)
  unfolding update_rule update_refusal updated
  update_refused n e =
      refuses_unspoiled d u s desk x n (update_rest (no_row d r || bad_body body)) (update_done (view_in desk x).statement (lowest_free u)) update_no e
      ∙ ap (λ (k : Desk). ((code_of n, k), areas d u s)) (desk_calm (code_of n) x desk (refuses_calm d u s desk x n e))

  module _ (k : ℕ) (a : Unspoiled d u s desk x k) where
    update_on : update_rule (areas d u s) desk x r body ≡ update_end (no_row d r || bad_body body)
    unfolding update_rule update_refusal updated
    update_on =
        goes_past d u s desk x k a (update_rest (no_row d r || bad_body body)) (update_done (view_in desk x).statement (lowest_free u)) update_no

    pub update_5 : (length body ≡ 32 → ⊥) → update_rule (areas d u s) desk x r body ≡ ((5, desk), areas d u s)
    unfolding refused_desk
    update_5 h = update_on ∙ rw (ne_eqb (length body) 32 h, or-true (no_row d r))

    module _ (long : length body ≡ 32) {v : View} (lent : v ≡ view_lent desk x k) where
      update_asked : update_rule (areas d u s) desk x r body ≡ update_end (no_row d r)
      update_asked = update_on ∙ rw (eq-eqb (length body) 32 long, or-false (no_row d r))

      pub update_no_lem : (n : Refusal) → code_of n ≡ write_refusal d u s v r → update_rule (areas d u s) desk x r body ≡ update_no (code_of n)
      update_no_lem n asked =
          update_asked
          ∙ write_no d u s (view_in desk x) r update_room (update_done (view_in desk x).statement (lowest_free u)) update_no (code_of n) (asked_in d u s desk x k a.admitted lent r asked) (code_of_positive n)

      module _ (asked : 0 ≡ write_refusal d u s v r) where
        update_room_lem : update_rule (areas d u s) desk x r body ≡ settle (first_of update_room) (update_done (view_in desk x).statement (lowest_free u)) update_no
        update_room_lem =
            update_asked
            ∙ write_on d u s (view_in desk x) r update_room (update_done (view_in desk x).statement (lowest_free u)) update_no (asked_in d u s desk x k a.admitted lent r asked)

        pub update_11 : entries u ≤ lowest_free u → update_rule (areas d u s) desk x r body ≡ ((11, desk), areas d u s)
        unfolding refused_desk
        update_11 full =
            let all : lowest_free u ≡ entries u = omega (arith, full, lowest_free_le u) in update_room_lem ∙ rw (eq-eqb (lowest_free u) (entries u) all)

        pub update_0 : {e t : ℕ} → e ≡ lowest_free u → lowest_free u < entries u → t ≡ get_or desk.statements k 0 → update_rule (areas d u s) desk x r body ≡ update_done t e
        update_0 {e} is some at =
            update_room_lem
            ∙ rw (ne_eqb (lowest_free u) (entries u) (λ (q : lowest_free u ≡ entries u). omega arith))
            (ap (λ (i : ℕ). update_done (view_in desk x).statement i) (sym is) ∙ ap (λ (n : ℕ). update_done n e) (statement_in_lem d u s desk x k a.admitted at))

-- ---- read

module _ (d u s : List ℕ) (desk : Desk) (x r : ℕ) where
  abbrev read_rest : List (Bool × ℕ)
  read_rest = reading d u s (view_in desk x) r []

  abbrev read_done : ℕ × Place × ℕ
  read_done = seen_by (walk_rule d u s (view_in desk x) r)

  abbrev read_no : ℕ → ℕ × Place × ℕ
  read_no n = (n, Nowhere, 0)

  pub read_refused : (n : Refusal) → admission d u s desk x ≡ Err n → read_rule (areas d u s) desk x r ≡ read_no (code_of n)
  unfolding read_rule read_refusal
  read_refused n e = refuses d u s desk x n read_rest read_done read_no e

  module _ (k : ℕ) (a : Admits d u s desk x k) {v : View} (lent : v ≡ view_lent desk x k) where
    read_on : read_rule (areas d u s) desk x r ≡ settle (first_of read_rest) read_done read_no
    unfolding read_rule read_refusal
    read_on = goes_on d u s desk x k a read_rest read_done read_no

    -- what the seek's rule finds is what is read
    read_by : (q : Result Found Refusal) → q ≡ seek_rule d u s v r → said_seen q ≡ read_rule (areas d u s) desk x r
    read_by (Err n) e = sym (read_on ∙ seek_refused d u s (view_in desk x) r n [] read_done read_no (sought_in d u s desk x k a lent r (Err n) e))
    read_by (Ok f) e =
        let found : seek_rule d u s (view_in desk x) r ≡ Ok f = sought_in d u s desk x k a lent r (Ok f) e in
        sym
        (read_on
        ∙ ap (λ (m : ℕ). settle m read_done read_no) (seek_passed d u s (view_in desk x) r f found [])
        ∙ ap seen_by (seek_walk d u s (view_in desk x) r f found))

    -- and so is what was sought
    pub read_sought : (p q : Result Found Refusal) → p ≡ seek_rule d u s v r → q ≡ p → said_seen q ≡ read_rule (areas d u s) desk x r
    read_sought p q sought is = ap said_seen is ∙ read_by p sought
