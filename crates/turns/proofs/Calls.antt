-- The rules of begin, next statement and commit, case by case; and what an admitted session is. Assumes nothing.
use mathlib.Core.Path.{◌≡◌, sym, ap, ◌∙◌}
use mathlib.Core.Bool.{Bool, true, false}
use mathlib.Core.List.{List, [], ◌∷◌}
use Prim.Native.Nat.{ℕ, ◌≤◌, ◌<◌}
use lib.ListN.{length, get_or}
use lib.Dec.{eqb}
use borrow.Author.Tests.{eq-eqb, ne_eqb}
use Rattle.std.specs.Prelude.{Ok, Err}
use Rattle.ground.specs.Refuse.{first_of, settle}
use Rattle.answer.specs.declared.Refusal.{Refusal}
use Rattle.answer.specs.Code.{code_of}
use Rattle.columns.specs.Limits.{last_statement}
use Rattle.places.specs.Open.{open_count, place_in}
use Rattle.desk.specs.declared.Desk.{Desk}
use Rattle.desk.specs.Sound.{sound}
use Rattle.desk.specs.Turns.{begun, moved, closed}
use Rattle.sessions.proofs.Changes.{sound_parts}
use Rattle.kind.specs.Kind.{lengths_ok}
use Rattle.kind.specs.Areas.{areas}
use Rattle.page.specs.Header.{txn_id, put_field}
use Rattle.status.specs.declared.Status.TheVariants.{InWork, Committed}
use Rattle.status.specs.Status.{put_status}
use Rattle.admit.proofs.Admissions.{Unspoiled, unspoiled_admission, refuses_unspoiled, goes_past, admits_at, admits_unspoiled, admits_place, admits_session, admits_statement, admits_status}
use Rattle.turns.specs.Turns.{begin_refusal, begin_rule, next_refusal, next_rule, commit_refusal, commit_rule}

-- the next number of a sound desk
pub next_last : (desk : Desk) → sound desk ≡ true → desk.next ≤ 32576
next_last desk b = (sound_parts desk b).last

-- what is known where a session is admitted that is not spoiled: its place, its number, its statement, and the status page
pub record Bounds (s : List ℕ) (desk : Desk) (x k : ℕ) : Type 0 where
  pub place : k < 16
  pub number : x < 32576
  pub statement : get_or desk.statements k 0 ≤ 65535
  pub page : length s ≡ 8192

pub bounds : (d u s : List ℕ) (desk : Desk) (x k : ℕ) → unspoiled_admission d u s desk x ≡ Ok k → Bounds s desk x k
bounds d u s desk x k e =
    let a = (admits_unspoiled d u s desk x k e).admitted in
    record {
      place = admits_place d u s desk x k a;
      number = admits_session d u s desk x k a;
      statement = admits_statement d u s desk x k a;
      page = admits_status d u s desk x k a;
    }

module _ (d u s : List ℕ) (desk : Desk) where
  -- ---- begin

  pub begin_1 : lengths_ok (length d) (length u) (length s) ≡ false → begin_rule (areas d u s) desk ≡ ((1, 0, desk), s)
  unfolding begin_rule begin_refusal
  begin_1 l = rw l

  module _ (l : lengths_ok (length d) (length u) (length s) ≡ true) where
    pub begin_2 : sound desk ≡ false → begin_rule (areas d u s) desk ≡ ((2, 0, desk), s)
    unfolding begin_rule begin_refusal
    begin_2 b = rw (l, b)

    module _ (b : sound desk ≡ true) where
      pub begin_12 : open_count desk.numbers ≡ 16 → begin_rule (areas d u s) desk ≡ ((12, 0, desk), s)
      unfolding begin_rule begin_refusal
      begin_12 e = rw (l, b, eq-eqb (open_count desk.numbers) 16 e)

      module _ (few : open_count desk.numbers ≡ 16 → ⊥) where
        pub begin_13 : desk.next ≡ 32576 → begin_rule (areas d u s) desk ≡ ((13, 0, desk), s)
        unfolding begin_rule begin_refusal
        begin_13 e = rw (l, b, ne_eqb (open_count desk.numbers) 16 few, eq-eqb desk.next 32576 e)

        -- n is the number handed out, y and z the status page with its status, and with its txn_id besides
        pub begin_0 : {n : ℕ} {new : Desk} {y z : List ℕ}
            → n ≡ desk.next
            → (n ≡ 32576 → ⊥)
            → new ≡ begun desk
            → y ≡ put_status n InWork s
            → z ≡ put_field txn_id 0 n y
            → begin_rule (areas d u s) desk ≡ ((0, n, new), z)
        unfolding begin_rule begin_refusal
        begin_0 {n} e ne is put top =
            let number = sym e in
            let desk-now = sym is in
            let page = sym (top ∙ ap (put_field txn_id 0 n) put ∙ ap (λ (m : ℕ). put_field txn_id 0 m (put_status m InWork s)) e) in
            rw (l, b, ne_eqb (open_count desk.numbers) 16 few, ne_eqb desk.next 32576 (λ q. ne (e ∙ q)))
            (λ i. ((0, number i, desk-now i), page i))

  -- ---- next statement and commit, by what admission says of session x

  module _ (x : ℕ) where
    abbrev next_rest : List (Bool × ℕ)
    next_rest = (eqb (get_or desk.statements (place_in x desk.numbers) 0) last_statement, 14) ∷ []

    abbrev next_done : ℕ → ℕ × Desk
    next_done k = (0, moved k desk)

    abbrev next_no : ℕ → ℕ × Desk
    next_no n = (n, desk)

    abbrev commit_done : ℕ → (ℕ × Desk) × List ℕ
    commit_done k = ((0, closed k desk), put_status x Committed s)

    abbrev commit_no : ℕ → (ℕ × Desk) × List ℕ
    commit_no n = ((n, desk), s)

    module _ (n : Refusal) (e : unspoiled_admission d u s desk x ≡ Err n) where
      pub next_refused : next_rule (areas d u s) desk x ≡ next_no (code_of n)
      unfolding next_rule next_refusal
      next_refused = refuses_unspoiled d u s desk x n next_rest (next_done (place_in x desk.numbers)) next_no e

      pub commit_refused : commit_rule (areas d u s) desk x ≡ commit_no (code_of n)
      unfolding commit_rule commit_refusal
      commit_refused = refuses_unspoiled d u s desk x n [] (commit_done (place_in x desk.numbers)) commit_no e

    module _ (k : ℕ) (a : Unspoiled d u s desk x k) where
      place : k ≡ place_in x desk.numbers
      place = admits_at d u s desk x k a.admitted

      next_on : next_rule (areas d u s) desk x ≡ settle (first_of ((eqb (get_or desk.statements k 0) last_statement, 14) ∷ [])) (next_done k) next_no
      unfolding next_rule next_refusal
      next_on =
          goes_past d u s desk x k a next_rest (next_done (place_in x desk.numbers)) next_no
          ∙ ap (λ (i : ℕ). settle (first_of ((eqb (get_or desk.statements i 0) last_statement, 14) ∷ [])) (next_done i) next_no) (sym place)

      pub next_14 : get_or desk.statements k 0 ≡ 65535 → next_rule (areas d u s) desk x ≡ next_no 14
      next_14 e = next_on ∙ rw (eq-eqb (get_or desk.statements k 0) 65535 e)

      pub next_0 : (get_or desk.statements k 0 ≡ 65535 → ⊥) → next_rule (areas d u s) desk x ≡ next_done k
      next_0 ne = next_on ∙ rw (ne_eqb (get_or desk.statements k 0) 65535 ne)

      pub commit_0 : commit_rule (areas d u s) desk x ≡ commit_done k
      unfolding commit_rule commit_refusal
      commit_0 = goes_past d u s desk x k a [] (commit_done (place_in x desk.numbers)) commit_no ∙ ap commit_done (sym place)
