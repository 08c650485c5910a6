-- Every call keeps a world good and does on the machine what its answer says; so any calls from an accepted format lead to a good world
-- that the history reaches on the machine. Assumes nothing.
use Prim.Native.Nat.{ℕ, suc}
use mathlib.Core.Path.{◌≡◌, refl, sym, subst, ◌∙◌}
use mathlib.Core.Bool.{Bool, true, false, not}
use mathlib.Core.List.{List, [], ◌∷◌}
use Rattle.ground.proofs.Ranges.{and_true_left, and_true_right}
use lib.Dec.{eqb}
use borrow.Author.Tests.{eqb-true, eqb-false, not-true}
use Rattle.kind.specs.Areas.{areas, bad_length}
use Rattle.chain.specs.Walk.{body_of}
use Rattle.machine.specs.Table.{History}
use Rattle.machine.specs.Lines.{Call, format, opens, seal, begin, next, insert, update, delete, read, commit, withdraw, sweep, refused, is_done, is_format, heard, history_from}
use Rattle.machine.specs.Machine.{Machine, empty}
use Rattle.machine.specs.Runs.{From, start as here, Reach}
use Rattle.machine.proofs.Basics.{true_false}
use Rattle.machine.proofs.Follows.{from_then, did_leads, did_reaches}
use Rattle.history.specs.World.{World, Response, response, step, says, after, after_all, lines_of}
use Rattle.history.specs.Asked.{Proper, AllProper, Run, start, end, history, no_format}
use Rattle.history.proofs.Worlds.{seen, Good, Goes, stays, marks}
use Rattle.history.proofs.Steps.{refusal_of, when_done, when_refused, step_settled}
use Rattle.history.proofs.Refused.{Kept, refused_kept, lost_open}
use Rattle.history.proofs.Sessions.{moves, commits, begins}
use Rattle.history.proofs.Writes.{inserting, deleting, updating}
use Rattle.history.proofs.Removals.{withdrawing, sweeping}
use Rattle.history.proofs.Keeping.{formatted_good, formatted_seen, format_lent, formatting, sealing, opening}

-- ---- one call

module _ (w : World) (g : Good w) where
  does : (c : Call) → Proper c → refusal_of w c ≡ 0 → Goes w c (when_done w c)
  unfolding body_of
  does (format d u s) p ok = formatting w d u s ok
  does opens p ok = opening w g ok
  does seal p ok = sealing w g
  does begin p ok = begins w g ok
  does (next x) p ok = moves w g x ok
  does (insert x y) p ok = inserting w g x y p ok
  does (update x q y) p ok = updating w g x q y p ok
  does (delete x q) p ok = deleting w g x q ok
  does (read x q) p ok = record { keeps = g; did = λ h z. refl }
  does (commit x) p ok = commits w g x ok
  does (withdraw x) p ok = withdrawing w g x ok
  does (sweep first quota) p ok = sweeping w g first quota ok

  -- a refusal leaves the world, or marks an open session
  refuses : (c : Call) (n : ℕ) → refusal_of w c ≡ n → Goes w c (when_refused w c n)
  refuses c n e = by (eqb n 10) refl
    where
      on : World
      on = (when_refused w c n).left

      kept : Kept w c n on
      kept = refused_kept w c n e

      by : (b : Bool) → eqb n 10 ≡ b → Goes w c (response (refused n) on)
      by true ten =
          let (s, mine, is) = kept.1 (eqb-true n 10 ten) in
          subst (λ (z : World). Goes w c (response (refused n) z)) (sym is) (marks w g s (lost_open w c s mine (e ∙ eqb-true n 10 ten)) c n)
      by false other = subst (λ (z : World). Goes w c (response (refused n) z)) (sym (kept.0 (eqb-false n 10 other))) (stays w g c n)

  pub goes : (c : Call) → Proper c → Goes w c (step w c)
  goes c p = step_settled w c (Goes w c) (does c p) (λ m e. refuses c (suc m) e)

-- ---- calls one after the other

-- a good world, and the history that reaches it on the machine
pub record Stands (w : World) (h : History) : Type 0 where
  pub good : Good w
  pub reach : Reach (seen w) h

pub stands_call : (w : World) (h : History) → Stands w h → (c : Call) → Proper c → Stands (after w c) (heard h c (says w c))
stands_call w h s c p =
    let t = goes w s.good c p in
    record { good = t.keeps; reach = did_reaches (seen w) c (says w c) (seen (after w c)) (t.did h s.reach) h s.reach }

pub stands_calls : (cs : List Call) (w : World) (h : History) → Stands w h → AllProper cs → Stands (after_all w cs) (history_from h (lines_of w cs))
stands_calls [] w h s p = s
stands_calls (c ∷ cs) w h s p = stands_calls cs (after w c) (heard h c (says w c)) (stands_call w h s c p.0) p.1

-- where none is a format, the machine is led on
pub leads_calls : (cs : List Call) (w : World) (h : History) → Stands w h → AllProper cs → no_format cs ≡ true
    → From (seen w) h (seen (after_all w cs)) (history_from h (lines_of w cs))
leads_calls [] w h s p n = here
leads_calls (c ∷ cs) w h s p n =
    let t = goes w s.good c p.0 in
    let f : is_format c ≡ false = not-true (is_format c) (and_true_left (not (is_format c)) (no_format cs) n) in
    from_then (did_leads (seen w) c (says w c) (seen (after w c)) f (t.did h s.reach) h)
    (leads_calls cs (after w c) (heard h c (says w c)) (stands_call w h s c p.0) p.1 (and_true_right (not (is_format c)) (no_format cs) n))

-- ---- from an accepted format

pub stands_start : (x : Run) → Stands (start x) [] × (seen (start x) ≡ empty)
stands_start x =
    step_settled x.before (format x.«data» x.undo x.status)
    (λ (t : Response). is_done t.answer ≡ true → Stands t.left [] × (seen t.left ≡ empty))
    (λ ok e. made (format_lent x.«data» x.undo x.status ok))
    (λ m e f. true_false false f refl)
    x.formatted
  where
    made : bad_length (areas x.«data» x.undo x.status) ≡ false
        → Stands (when_done x.before (format x.«data» x.undo x.status)).left []
        × (seen (when_done x.before (format x.«data» x.undo x.status)).left ≡ empty)
    made l =
        let e = formatted_seen x.«data» x.undo x.status l in
        (record { good = formatted_good x.«data» x.undo x.status l; reach = subst (λ (m : Machine). Reach m []) (sym e) here }, e)

pub stands_end : (x : Run) → Stands (end x) (history x)
stands_end x = stands_calls x.calls (start x) [] (stands_start x).0 x.proper
