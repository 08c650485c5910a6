-- The promises of insert, update, delete and read: no second result meets their contracts, a refused call leaves the areas as they were
-- and reports no numbers, whatever update and delete answer they leave the desk but for the mark that a 10 sets, and 9 comes of no
-- reserved number. Assumes nothing.
use mathlib.Core.Path.{◌≡◌, refl, sym, ap, subst, ◌∙◌}
use mathlib.Core.List.{List, []}
use mathlib.Core.Bool.{Bool, true, false, ◌||◌}
use Prim.Native.Nat.{ℕ}
use native.Mathlib.Omega.{arith}
use lib.ListN.{length}
use Rattle.std.specs.Prelude.{Result, Ok}
use Rattle.ground.specs.Refuse.{first_of}
use Rattle.ground.specs.Does.{Does}
use Rattle.ground.proofs.Once.{once}
use Rattle.ground.proofs.Refusals.{settled, settle_number}
use Rattle.answer.specs.declared.Refusal.{Refusal}
use Rattle.answer.proofs.Codes.{answered_once, reported_once}
use Rattle.desk.specs.declared.Desk.{Desk}
use Rattle.desk.specs.Sound.{sound}
use Rattle.desk.specs.Turns.{view_at}
use Rattle.words.specs.Words.{all_words}
use Rattle.places.specs.Open.{is_open}
use Rattle.sessions.proofs.Changes.{is_open_open}
use Rattle.admit.specs.Admit.{said}
use Rattle.admit.proofs.Admissions.{asks_unspoiled, told_past, said_once}
use Rattle.kind.specs.Areas.{Areas}
use Rattle.records.specs.Slot.{slot_at}
use Rattle.chain.specs.declared.Found.{Found}
use Rattle.chain.specs.declared.Place.{Place}
use Rattle.chain.specs.declared.Place.TheVariants.{Nowhere}
use Rattle.chain.specs.declared.Walk.{Walk}
use Rattle.chain.specs.declared.Walk.TheVariants.{Found as At, Absent, Broken}
use Rattle.chain.specs.Walk.{walk_rule, body_of}
use Rattle.doubt.specs.Doubt.{doubt_in}
use Rattle.seeking.specs.Seeking.{no_row}
use Rattle.seeking.proofs.Seekings.{slot_says, writing, nine_clear}
use Rattle.vacant.specs.Vacant.{lowest_empty}
use Rattle.writing.specs.Writing.{inserted, deleted}
use Rattle.rows.specs.Rows.{said_inserted, said_seen, view_in, bad_body, refused_desk, insert_refusal, insert_rule, update_refusal, updated, update_rule, delete_refusal, delete_rule, seen_by, read_refusal, read_rule}
use Rattle.rows.proofs.Calls.{update_room, update_rest}

-- ---- no second result

module _ (a : Areas) (d : Desk) (x : ℕ) where
  pub insert_once : (body : List ℕ) (r r' : Result ℕ Refusal) (y y' : List ℕ)
      → Does (insert_rule a d x body) (said_inserted r) y
      → Does (insert_rule a d x body) (said_inserted r') y'
      → (r ≡ r') × (y ≡ y')
  insert_once body r r' y y' p q = let o = once p q in (same o.0, o.1)
    where
      same : said_inserted r ≡ said_inserted r' → r ≡ r'
      same e = reported_once r r' (ap (λ (n : ℕ × ℕ). n.0) e) (ap (λ (n : ℕ × ℕ). n.1) e)

  module _ (r : ℕ) where
    module _ (w w' : List ℕ) (long : length w ≡ all_words) (long' : length w' ≡ all_words) where
      -- answer, words and areas
      pub update_once : (body : List ℕ) (n n' : Result (Unit {0}) Refusal) (y y' : Areas)
          → Does (update_rule a d x r body) (said n w) y
          → Does (update_rule a d x r body) (said n' w') y'
          → ((n ≡ n') × (w ≡ w')) × (y ≡ y')
      update_once body n n' y y' p q = let o = once p q in (said_once w w' long long' n n' o.0, o.1)

      pub delete_once : (n n' : Result (Unit {0}) Refusal) (y y' : List ℕ)
          → Does (delete_rule a d x r) (said n w) y
          → Does (delete_rule a d x r) (said n' w') y'
          → ((n ≡ n') × (w ≡ w')) × (y ≡ y')
      delete_once n n' y y' p q = let o = once p q in (said_once w w' long long' n n' o.0, o.1)

    pub read_once : (s s' : Result Found Refusal) → said_seen s ≡ read_rule a d x r → said_seen s' ≡ read_rule a d x r → s ≡ s'
    read_once s s' p q = answered_once s s' (ap (λ (n : ℕ × Place × ℕ). n.0) e) same
      where
        e : said_seen s ≡ said_seen s'
        e = p ∙ sym q

        same : (f f' : Found) → s ≡ Ok f → s' ≡ Ok f' → f ≡ f'
        same f f' is is' =
            let found : said_seen (Ok f) ≡ said_seen (Ok f') = ap said_seen (sym is) ∙ e ∙ ap said_seen is' in
            let at : f.place ≡ f'.place = ap (λ (n : ℕ × Place × ℕ). n.1) found in
            let n : f.looked ≡ f'.looked = ap (λ (n : ℕ × Place × ℕ). n.2) found in
            λ i. record { place = at i; looked = n i }

-- ---- a refused call leaves the areas, and reports 0; the desk stays but for the mark of a 10

module _ (a : Areas) (d : Desk) (x : ℕ) where
  pub insert_refused_leaves : (body : List ℕ) → ((insert_rule a d x body).0.0 ≡ 0 → ⊥)
      → ((insert_rule a d x body).0.1 ≡ 0) × ((insert_rule a d x body).1 ≡ a.«data»)
  unfolding insert_rule
  insert_refused_leaves body =
      settled
      ((0, lowest_empty a.«data»), inserted x (view_in d x).statement (lowest_empty a.«data») body a.«data»)
      (λ (n : ℕ). ((n, 0), a.«data»))
      (insert_refusal a d x body)
      (λ (y : (ℕ × ℕ) × List ℕ). (y.0.0 ≡ 0 → ⊥) → (y.0.1 ≡ 0) × (y.1 ≡ a.«data»))
      (λ e h. absurd (h refl))
      (λ m h. (refl, refl))

  module _ (r : ℕ) where
    pub update_refused_leaves : (body : List ℕ) → ((update_rule a d x r body).0.0 ≡ 0 → ⊥) → (update_rule a d x r body).1 ≡ a
    unfolding update_rule
    update_refused_leaves body =
        settled ((0, d), updated a d x r body) (λ (n : ℕ). ((n, refused_desk n x d), a)) (update_refusal a d x r body)
        (λ (y : (ℕ × Desk) × Areas). (y.0.0 ≡ 0 → ⊥) → y.1 ≡ a)
        (λ e h. absurd (h refl))
        (λ m h. refl)

    pub delete_refused_leaves : ((delete_rule a d x r).0.0 ≡ 0 → ⊥) → (delete_rule a d x r).1 ≡ a.«data»
    unfolding delete_rule
    delete_refused_leaves =
        settled ((0, d), deleted x (view_in d x).statement r a.«data») (λ (n : ℕ). ((n, refused_desk n x d), a.«data»)) (delete_refusal a d x r)
        (λ (y : (ℕ × Desk) × List ℕ). (y.0.0 ≡ 0 → ⊥) → y.1 ≡ a.«data»)
        (λ e h. absurd (h refl))
        (λ m h. refl)

    -- "After an answer 10, the desk marks that session spoiled, the one change that refusal makes" ("02, T-07"): whatever is answered, the
    -- desk is the one that came in but for the mark of a 10
    pub update_desk : (body : List ℕ) → (update_rule a d x r body).0.1 ≡ refused_desk (update_rule a d x r body).0.0 x d
    unfolding update_rule refused_desk
    update_desk body =
        settled ((0, d), updated a d x r body) (λ (n : ℕ). ((n, refused_desk n x d), a)) (update_refusal a d x r body)
        (λ (y : (ℕ × Desk) × Areas). y.0.1 ≡ refused_desk y.0.0 x d)
        (λ e. refl)
        (λ m. refl)

    pub delete_desk : (delete_rule a d x r).0.1 ≡ refused_desk (delete_rule a d x r).0.0 x d
    unfolding delete_rule refused_desk
    delete_desk =
        settled ((0, d), deleted x (view_in d x).statement r a.«data») (λ (n : ℕ). ((n, refused_desk n x d), a.«data»)) (delete_refusal a d x r)
        (λ (y : (ℕ × Desk) × List ℕ). y.0.1 ≡ refused_desk y.0.0 x d)
        (λ e. refl)
        (λ m. refl)

    -- "a refused read hands back an empty part", and counts nothing
    pub read_refused_empty : ((read_rule a d x r).0 ≡ 0 → ⊥) → (body_of (read_rule a d x r).1 a.«data» a.undo ≡ []) × ((read_rule a d x r).2 ≡ 0)
    unfolding read_rule body_of
    read_refused_empty =
        settled (seen_by walk) (λ (n : ℕ). (n, Nowhere, 0)) (read_refusal a d x r)
        (λ (y : ℕ × Place × ℕ). (y.0 ≡ 0 → ⊥) → (body_of y.1 a.«data» a.undo ≡ []) × (y.2 ≡ 0))
        (λ e h. absurd (h (done walk)))
        (λ m h. (refl, refl))
      where
        walk : Walk
        walk = walk_rule a.«data» a.undo a.status (view_in d x) r

        done : (w : Walk) → (seen_by w).0 ≡ 0
        done (At place n) = refl
        done Absent = refl
        done Broken = refl

-- ---- 9 comes of no reserved number ("02, T-05"): where it is answered, no number that the slot names is in doubt

module _ (a : Areas) (d : Desk) (x r : ℕ) where
  -- the slot names no number in doubt
  abbrev Clear : Type 0
  Clear = doubt_in x a.status (slot_at r a.«data») ≡ false

  -- an open session sees by its own number
  clear_for : sound d ≡ true → is_open x d.numbers ≡ true → doubt_in (view_in d x).number a.status (slot_at r a.«data») ≡ false → Clear
  unfolding view_at
  clear_for ok opened = subst (λ (n : ℕ). doubt_in n a.status (slot_at r a.«data») ≡ false) (is_open_open d x ok opened).here

  -- 9 is told behind admission
  nine_behind : (rest : List (Bool × ℕ)) → first_of (asks_unspoiled a.«data» a.undo a.status d x rest) ≡ 9
      → (sound d ≡ true) × (is_open x d.numbers ≡ true) × (first_of rest ≡ 9)
  nine_behind rest = told_past a.«data» a.undo a.status d x 9 rest (λ z. omega arith) (λ z. omega arith) (λ z. omega arith) (λ z. omega arith)

  pub update_nine : (body : List ℕ) → (update_rule a d x r body).0.0 ≡ 9 → Clear
  unfolding update_rule update_refusal
  update_nine body h =
      let rest : List (Bool × ℕ) = slot_says a.«data» a.undo a.status (view_in d x) r (update_room a.«data» a.undo a.status d x r body) in
      let told = settle_number ((0, d), updated a d x r body) (λ (n : ℕ). ((n, refused_desk n x d), a)) (λ (y : (ℕ × Desk) × Areas). y.0.0) refl (λ n. refl) (update_refusal a d x r body) in
      let asked = nine_behind (update_rest a.«data» a.undo a.status d x r body (no_row a.«data» r || bad_body body)) (sym told ∙ h) in
      clear_for asked.0 asked.1 (nine_clear a.«data» a.undo a.status (view_in d x) r (no_row a.«data» r || bad_body body) rest asked.2)

  pub delete_nine : (delete_rule a d x r).0.0 ≡ 9 → Clear
  unfolding delete_rule delete_refusal
  delete_nine h =
      let rest : List (Bool × ℕ) = slot_says a.«data» a.undo a.status (view_in d x) r [] in
      let done : (ℕ × Desk) × List ℕ = ((0, d), deleted x (view_in d x).statement r a.«data») in
      let told = settle_number done (λ (n : ℕ). ((n, refused_desk n x d), a.«data»)) (λ (y : (ℕ × Desk) × List ℕ). y.0.0) refl (λ n. refl) (delete_refusal a d x r) in
      let asked = nine_behind (writing a.«data» a.undo a.status (view_in d x) r []) (sym told ∙ h) in
      clear_for asked.0 asked.1 (nine_clear a.«data» a.undo a.status (view_in d x) r (no_row a.«data» r) rest asked.2)
