-- A step by its list of refusals: where nothing is refused the call is done, and else the world stays, but for the mark of a 10. Every law of
-- all twelve calls goes through this one. Assumes nothing.
use Prim.Native.Nat.{ℕ, zero, suc}
use mathlib.Core.Path.{◌≡◌, refl, sym, ap, subst, ◌∙◌}
use Rattle.ground.specs.Refuse.{settle}
use Rattle.desk.specs.declared.Desk.{Desk}
use Rattle.kind.specs.Areas.{Areas, areas}
use Rattle.keep.specs.Keep.{format_refusal, open_refusal, seal_refusal}
use Rattle.turns.specs.Turns.{begin_refusal, next_refusal, commit_refusal}
use Rattle.rows.specs.Rows.{refused_desk, insert_refusal, update_refusal, delete_refusal, read_refusal}
use Rattle.undoing.specs.Undoing.{withdraw_refusal}
use Rattle.sweeping.specs.Sweeping.{sweep_refusal}
use Rattle.calls.specs.Calls.{Left, bare}
use Rattle.calls.proofs.Settled.{settles_with, format_done, format_settles, open_done, open_settles, seal_done, seal_settles, begin_done, begin_settles, next_done, next_settles, insert_done, insert_settles, update_done, update_settles, delete_done, delete_settles, read_done, read_settles, commit_done, commit_settles, withdraw_done, withdraw_settles, sweep_done, sweep_settles}
use Rattle.machine.specs.Lines.{Call, refused, format, opens, seal, begin, next, insert, update, delete, read, commit, withdraw, sweep}
use Rattle.history.specs.World.{World, world, Response, response, left_by, verdict_of, world_after, responds, step}

-- the number under which a call is refused, 0 where it is done
abbrev pub refusal_of : World → Call → ℕ
refusal_of w (format d u s) = format_refusal (areas d u s)
refusal_of w opens = open_refusal w.held
refusal_of w seal = seal_refusal w.held w.desk
refusal_of w begin = begin_refusal w.held w.desk
refusal_of w (next x) = next_refusal w.held w.desk x
refusal_of w (insert x y) = insert_refusal w.held w.desk x y
refusal_of w (update x q y) = update_refusal w.held w.desk x q y
refusal_of w (delete x q) = delete_refusal w.held w.desk x q
refusal_of w (read x q) = read_refusal w.held w.desk x q
refusal_of w (commit x) = commit_refusal w.held w.desk x
refusal_of w (withdraw x) = withdraw_refusal w.held w.desk x
refusal_of w (sweep first quota) = sweep_refusal w.held w.desk first quota

module _ (w : World) where
  abbrev a : Areas
  a = w.held

  -- what a call leaves that is not refused, and its answer and world
  abbrev left_done : Call → Left
  left_done (format d u s) = format_done (areas d u s) w.desk
  left_done opens = open_done a w.desk
  left_done seal = seal_done a w.desk
  left_done begin = begin_done a w.desk
  left_done (next x) = next_done a w.desk x
  left_done (insert x y) = insert_done a w.desk x y
  left_done (update x q y) = update_done a w.desk x q y
  left_done (delete x q) = delete_done a w.desk x q
  left_done (read x q) = read_done a w.desk x q
  left_done (commit x) = commit_done a w.desk x
  left_done (withdraw x) = withdraw_done a w.desk x
  left_done (sweep first quota) = sweep_done a w.desk first quota

  abbrev pub when_done : Call → Response
  when_done c = response (verdict_of (left_done c)) (world_after (left_done c))

  -- the desk that a refusal leaves: the one that was there, but for the mark that a 10 of update or delete sets
  abbrev desk_refused : Call → ℕ → Desk
  desk_refused (update x q y) n = refused_desk n x w.desk
  desk_refused (delete x q) n = refused_desk n x w.desk
  desk_refused (format d u s) n = w.desk
  desk_refused opens n = w.desk
  desk_refused seal n = w.desk
  desk_refused begin n = w.desk
  desk_refused (next x) n = w.desk
  desk_refused (insert x y) n = w.desk
  desk_refused (read x q) n = w.desk
  desk_refused (commit x) n = w.desk
  desk_refused (withdraw x) n = w.desk
  desk_refused (sweep first quota) n = w.desk

  abbrev pub when_refused : Call → ℕ → Response
  when_refused c n = response (refused n) (world a (desk_refused c n))

  -- a call settles on the areas that it is lent
  through : (c : Call) (lent : Areas) → left_by w c ≡ settles_with lent w.desk (desk_refused c) (refusal_of w c) (left_done c)
      → responds w c (left_done c) ≡ when_done c → ((m : ℕ) → responds w c (bare (suc m) lent (desk_refused c (suc m))) ≡ when_refused c (suc m))
      → step w c ≡ settle (refusal_of w c) (when_done c) (when_refused c)
  unfolding step
  through c lent e does stays = ap (responds w c) e ∙ by (refusal_of w c)
    where
      by : (n : ℕ) → responds w c (settles_with lent w.desk (desk_refused c) n (left_done c)) ≡ settle n (when_done c) (when_refused c)
      by zero = does
      by (suc m) = stays m

  pub step_is : (c : Call) → step w c ≡ settle (refusal_of w c) (when_done c) (when_refused c)
  step_is (format d u s) = through (format d u s) (areas d u s) (format_settles (areas d u s) w.desk) refl (λ m. refl)
  step_is opens = through opens a (open_settles a w.desk) refl (λ m. refl)
  step_is seal = through seal a (seal_settles a w.desk) refl (λ m. refl)
  step_is begin = through begin a (begin_settles a w.desk) refl (λ m. refl)
  step_is (next x) = through (next x) a (next_settles a w.desk x) refl (λ m. refl)
  step_is (insert x y) = through (insert x y) a (insert_settles a w.desk x y) refl (λ m. refl)
  step_is (update x q y) = through (update x q y) a (update_settles a w.desk x q y) refl (λ m. refl)
  step_is (delete x q) = through (delete x q) a (delete_settles a w.desk x q) refl (λ m. refl)
  step_is (read x q) = through (read x q) a (read_settles a w.desk x q) refl (λ m. refl)
  step_is (commit x) = through (commit x) a (commit_settles a w.desk x) refl (λ m. refl)
  step_is (withdraw x) = through (withdraw x) a (withdraw_settles a w.desk x) refl (λ m. refl)
  step_is (sweep first quota) = through (sweep first quota) a (sweep_settles a w.desk first quota) refl (λ m. refl)

  -- what holds of the call done, where nothing is refused, and of each refusal under its number holds of the step
  pub step_settled : (c : Call) (P : Response → Type 0) → (refusal_of w c ≡ 0 → P (when_done c)) → ((m : ℕ) → refusal_of w c ≡ suc m → P (when_refused c (suc m)))
      → P (step w c)
  step_settled c P a b = subst P (sym (step_is c)) (by (refusal_of w c) refl)
    where
      by : (n : ℕ) → refusal_of w c ≡ n → P (settle n (when_done c) (when_refused c))
      by zero e = a e
      by (suc m) e = b m e
