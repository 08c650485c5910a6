-- What each call leaves, by its refusals: where none of them holds it is done, and else areas and desk are those of before, but for the mark
-- that a 10 of update or delete sets ("02, T-07"), and nothing is reported ("01, When the desk says no"). Assumes nothing.
use Prim.Native.Nat.{ℕ, zero, suc, ◌+◌, ◌-◌}
use native.Mathlib.Omega.{arith}
use mathlib.Core.Path.{◌≡◌, refl, sym, ap}
use mathlib.Core.List.{List}
use Rattle.ground.specs.Refuse.{settle, kept}
use Rattle.ground.proofs.Refusals.{kept_old}
use Rattle.places.specs.Open.{place_in}
use Rattle.desk.specs.declared.Desk.{Desk}
use Rattle.desk.specs.Desk.{first_number, fresh_desk, no_desk}
use Rattle.desk.specs.Turns.{begun, moved, closed}
use Rattle.kind.specs.Areas.{Areas, areas, both}
use Rattle.page.specs.Header.{txn_id, put_field}
use Rattle.status.specs.declared.Status.TheVariants.{InWork, Committed}
use Rattle.status.specs.Status.{put_status}
use Rattle.chain.specs.declared.Place.{Place}
use Rattle.chain.specs.declared.Place.TheVariants.{Nowhere}
use Rattle.chain.specs.declared.Walk.{Walk}
use Rattle.chain.specs.declared.Walk.TheVariants.{Found, Absent, Broken}
use Rattle.chain.specs.Walk.{walk_rule}
use Rattle.vacant.specs.Vacant.{lowest_empty}
use Rattle.writing.specs.Writing.{inserted, deleted}
use Rattle.keep.specs.Whole.{highest}
use Rattle.keep.specs.Keep.{format_refusal, formatted, format_rule, open_refusal, open_rule, seal_refusal, sealed, seal_rule}
use Rattle.turns.specs.Turns.{begin_refusal, begin_rule, next_refusal, next_rule, commit_refusal, commit_rule}
use Rattle.rows.specs.Rows.{view_in, refused_desk, insert_refusal, insert_rule, update_refusal, updated, update_rule, delete_refusal, delete_rule, read_refusal, read_rule, seen_by}
use Rattle.undoing.specs.Undoing.{withdraw_refusal, withdrawn, withdraw_rule}
use Rattle.sweeping.specs.Sweeping.{treated, held_from, sweep_refusal, swept, sweep_rule}
use Rattle.calls.specs.Calls.{Left, left, bare, format_leaves, open_leaves, seal_leaves, begin_leaves, next_leaves, insert_leaves, update_leaves, delete_leaves, read_leaves, commit_leaves, withdraw_leaves, sweep_leaves}

module _ (a : Areas) (d : Desk) where
  -- l is left where nothing is refused, and else the areas, and of the desk what the refusal leaves; "Each number reported by a refused call
  -- is 0"
  abbrev pub settles_with : (ℕ → Desk) → ℕ → Left → Left
  settles_with on n l = settle n l (λ (m : ℕ). bare m a (on m))

  settling : (on : ℕ → Desk) (n : ℕ) (l done : Left) → (n ≡ 0 → l ≡ done) → ((m : ℕ) → n ≡ suc m → l ≡ bare (suc m) a (on (suc m)))
      → l ≡ settles_with on n done
  settling on zero l done f g = f refl
  settling on (suc m) l done f g = g m refl

  -- "Every refusal leaves areas and desk unchanged", of all calls but update and delete
  abbrev pub stays : ℕ → Desk
  stays n = d

  abbrev pub settles : ℕ → Left → Left
  settles = settles_with stays

  -- "After an answer 10, the desk marks that session spoiled, the one change that refusal makes", of update and delete
  abbrev pub marks : ℕ → ℕ → Desk
  marks x n = refused_desk n x d

  -- the desk of before stays where format or open is refused
  desk_stays : (m : ℕ) → bare (suc m) a (kept (suc m) no_desk d) ≡ bare (suc m) a d
  desk_stays m = ap (bare (suc m) a) (sym (kept_old (suc m) no_desk d (λ e. omega (arith, e))))

  abbrev pub format_done : Left
  format_done = bare 0 (formatted a) (fresh_desk first_number)

  pub format_settles : format_leaves a d ≡ settles (format_refusal a) format_done
  unfolding format_rule
  format_settles = settling stays (format_refusal a) _ _ (λ e. rw e refl) (λ m e. rw e (desk_stays m))

  abbrev pub open_done : Left
  open_done = bare 0 a (fresh_desk (highest a.status + 1))

  pub open_settles : open_leaves a d ≡ settles (open_refusal a) open_done
  unfolding open_rule
  open_settles = settling stays (open_refusal a) _ _ (λ e. rw e refl) (λ m e. rw e (desk_stays m))

  abbrev pub seal_done : Left
  seal_done = bare 0 (sealed a) d

  pub seal_settles : seal_leaves a d ≡ settles (seal_refusal a d) seal_done
  unfolding seal_rule
  seal_settles = settling stays (seal_refusal a d) _ _ (λ e. rw e refl) (λ m e. rw e refl)

  abbrev pub begin_done : Left
  begin_done = left 0 d.next 0 Nowhere (areas a.«data» a.undo (put_field txn_id 0 d.next (put_status d.next InWork a.status))) (begun d)

  pub begin_settles : begin_leaves a d ≡ settles (begin_refusal a d) begin_done
  unfolding begin_rule
  begin_settles = settling stays (begin_refusal a d) _ _ (λ e. rw e refl) (λ m e. rw e refl)

  module _ (x : ℕ) where
    abbrev pub next_done : Left
    next_done = bare 0 a (moved (place_in x d.numbers) d)

    pub next_settles : next_leaves a d x ≡ settles (next_refusal a d x) next_done
    unfolding next_rule
    next_settles = settling stays (next_refusal a d x) _ _ (λ e. rw e refl) (λ m e. rw e refl)

    abbrev pub commit_done : Left
    commit_done = bare 0 (areas a.«data» a.undo (put_status x Committed a.status)) (closed (place_in x d.numbers) d)

    pub commit_settles : commit_leaves a d x ≡ settles (commit_refusal a d x) commit_done
    unfolding commit_rule
    commit_settles = settling stays (commit_refusal a d x) _ _ (λ e. rw e refl) (λ m e. rw e refl)

    abbrev pub withdraw_done : Left
    withdraw_done = bare 0 (withdrawn a x) (closed (place_in x d.numbers) d)

    pub withdraw_settles : withdraw_leaves a d x ≡ settles (withdraw_refusal a d x) withdraw_done
    unfolding withdraw_rule
    withdraw_settles = settling stays (withdraw_refusal a d x) _ _ (λ e. rw e refl) (λ m e. rw e refl)

    abbrev pub insert_done : List ℕ → Left
    insert_done body =
        let row = lowest_empty a.«data» in
        left 0 row 0 Nowhere (areas (inserted x (view_in d x).statement row body a.«data») a.undo a.status) d

    pub insert_settles : (body : List ℕ) → insert_leaves a d x body ≡ settles (insert_refusal a d x body) (insert_done body)
    unfolding insert_rule
    insert_settles body = settling stays (insert_refusal a d x body) _ _ (λ e. rw e refl) (λ m e. rw e refl)

    abbrev pub update_done : ℕ → List ℕ → Left
    update_done row body = bare 0 (updated a d x row body) d

    pub update_settles : (row : ℕ) (body : List ℕ) → update_leaves a d x row body ≡ settles_with (marks x) (update_refusal a d x row body) (update_done row body)
    unfolding update_rule
    update_settles row body = settling (marks x) (update_refusal a d x row body) _ _ (λ e. rw e refl) (λ m e. rw e refl)

    abbrev pub delete_done : ℕ → Left
    delete_done row = bare 0 (areas (deleted x (view_in d x).statement row a.«data») a.undo a.status) d

    pub delete_settles : (row : ℕ) → delete_leaves a d x row ≡ settles_with (marks x) (delete_refusal a d x row) (delete_done row)
    unfolding delete_rule
    delete_settles row = settling (marks x) (delete_refusal a d x row) _ _ (λ e. rw e refl) (λ m e. rw e refl)

    -- the version that the walk found, and how many it looked at
    abbrev met : ℕ → ℕ × Place × ℕ
    met row = seen_by (walk_rule a.«data» a.undo a.status (view_in d x) row)

    abbrev pub read_done : ℕ → Left
    read_done row = left 0 (met row).2 0 (met row).1 a d

    pub read_settles : (row : ℕ) → read_leaves a d x row ≡ settles (read_refusal a d x row) (read_done row)
    unfolding read_rule
    read_settles row = settling stays (read_refusal a d x row) _ _ (λ e. rw e (by (walk_rule a.«data» a.undo a.status (view_in d x) row))) (λ m e. rw e refl)
      where
        by : (z : Walk) → left (seen_by z).0 (seen_by z).2 0 (seen_by z).1 a d ≡ left 0 (seen_by z).2 0 (seen_by z).1 a d
        by (Found p n) = refl
        by Absent = refl
        by Broken = refl

  module _ (first quota : ℕ) where
    -- the rows that a sweep treats, and the versions that go from them
    abbrev few : ℕ
    few = treated a.«data» first quota

    abbrev fewer : ℕ
    fewer = held_from first few (both a.«data» a.undo) - held_from first few (swept a d first quota)

    abbrev pub sweep_done : Left
    sweep_done = left 0 (first + few) fewer Nowhere (areas (swept a d first quota).«data» (swept a d first quota).undo a.status) d

    pub sweep_settles : sweep_leaves a d first quota ≡ settles (sweep_refusal a d first quota) sweep_done
    unfolding sweep_rule
    sweep_settles = settling stays (sweep_refusal a d first quota) _ _ (λ e. rw e refl) (λ m e. rw e refl)
