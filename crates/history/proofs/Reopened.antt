-- A store that was sealed opens: no session was open, so every number handed out has ended, and every header is right. Assumes nothing.
use Prim.Native.Nat.{ℕ, ◌+◌, ◌≤◌, ◌<◌}
use mathlib.Core.Path.{◌≡◌, refl, ap, ◌∙◌}
use mathlib.Core.Bool.{true, false, not}
use mathlib.Core.List.{List, []}
use native.Mathlib.Omega.{arith}
use lib.Dec.{ltb}
use borrow.Author.Tests.{ltb-false, le-leb}
use Rattle.ground.proofs.Ranges.{all_intro}
use Rattle.ground.proofs.Refusals.{first_of_none}
use Rattle.places.specs.Open.{open_count}
use Rattle.desk.specs.declared.Desk.{Desk}
use Rattle.desk.specs.Sound.{sound}
use Rattle.sessions.proofs.Changes.{sound_parts}
use Rattle.kind.specs.Areas.{bad_length}
use Rattle.status.specs.Status.{status_at}
use Rattle.keep.specs.Whole.{highest, ended, all_ended}
use Rattle.keep.specs.Keep.{seal_refusal, sealed}
use Rattle.keep.proofs.Promises.{open_seal}
use Rattle.chain.specs.Walk.{body_of}
use Rattle.machine.specs.Table.{History}
use Rattle.machine.specs.Lines.{done, is_done, seal, opens}
use Rattle.machine.specs.Machine.{InWork, Session, find, is_some}
use Rattle.machine.proofs.Basics.{true_false}
use Rattle.machine.proofs.Opens.{in_work_open}
use Rattle.seen.specs.Seen.{standings, sessions_from, open_sessions}
use Rattle.history.specs.World.{World, world, Response, answered, step, says, after}
use Rattle.history.proofs.Worlds.{Good}
use Rattle.history.proofs.Steps.{step_settled}
use Rattle.history.proofs.Keeping.{left_ended, standings_at}
use Rattle.history.proofs.Runs.{Stands}

module _ (w : World) (h : History) (s : Stands w h) where
  abbrev st : List ℕ
  st = w.held.status

  abbrev g : Good w
  g = s.good

  few : highest st ≤ 32575
  few = omega (arith, g.high, (sound_parts w.desk g.sound).last)

  -- with no session open, every number handed out has ended
  all_ended_lem : open_count w.desk.numbers ≡ 0 → all_ended (highest st) st ≡ true
  unfolding all_ended
  all_ended_lem none =
      all_intro (λ (i : ℕ). ended (status_at (i + 1) st)) (highest st)
      (λ i l. left_ended (status_at (i + 1) st) (λ e. nobody (i + 1) (omega arith) (omega (arith, l, g.high)) (standings_at (i + 1) st (omega arith) (omega (arith, l, few)) ∙ e)))
    where
      no_sessions : open_sessions w.desk ≡ []
      no_sessions = ap (sessions_from w.desk 0) none

      nobody : (n : ℕ) → 0 < n → n < w.desk.next → standings st n ≡ InWork → ⊥
      nobody n p l e =
          true_false (is_some (find n (open_sessions w.desk))) (in_work_open s.reach n p l e) (ap (λ (d : List Session). is_some (find n d)) no_sessions)

  again : open_count w.desk.numbers ≡ 0 → says (world (sealed w.held) w.desk) opens ≡ done 0 0 []
  unfolding step body_of
  again none =
      ap (λ (r : ℕ × Desk). answered r.0 0 0 [])
      (open_seal w.held (ap not g.lengths) g.«data» g.undo g.status (le-leb (highest st) 32575 few) (all_ended_lem none))

  pub opens_again : is_done (says w seal) ≡ true → says (after w seal) opens ≡ done 0 0 []
  unfolding seal_refusal
  opens_again =
      step_settled w seal (λ (t : Response). is_done t.answer ≡ true → says t.left opens ≡ done 0 0 [])
      (λ ok e. again (closed ok))
      (λ m e f. true_false false f refl)
    where
      closed : seal_refusal w.held w.desk ≡ 0 → open_count w.desk.numbers ≡ 0
      closed ok =
          let l = first_of_none (bad_length w.held) 1 _ (λ z. omega arith) ok in
          let b = first_of_none (not (sound w.desk)) 2 _ (λ z. omega arith) l.1 in
          let o = first_of_none (ltb 0 (open_count w.desk.numbers)) 15 0 (λ z. omega arith) b.1 in
          omega (arith, ltb-false 0 (open_count w.desk.numbers) o.0)
