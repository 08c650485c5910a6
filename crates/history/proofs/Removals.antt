-- Withdraw and sweep keep a world good and follow the machine. Assumes nothing.
use Prim.Native.Nat.{ℕ, ◌+◌, ◌-◌, ◌≤◌, ◌<◌}
use mathlib.Core.Path.{◌≡◌, refl, ap, sym, ◌∙◌}
use mathlib.Core.Bool.{not, ◌&&◌, cond}
use mathlib.Core.List.{List, [], ◌∷◌}
use native.Mathlib.Omega.{arith}
use lib.Dec.{leb, ltb}
use borrow.Author.Tests.{ltb-false}
use Rattle.ground.proofs.Refusals.{first_of_none}
use Rattle.places.specs.Open.{place_in}
use Rattle.desk.specs.Sound.{sound}
use Rattle.desk.specs.Turns.{closed, mark}
use Rattle.sessions.proofs.Changes.{is_open_open, closed_sound}
use Rattle.kind.specs.Kind.{rows}
use Rattle.kind.specs.Areas.{areas, bad_length, Both, both}
use Rattle.status.specs.declared.Status.TheVariants.{Withdrawn}
use Rattle.status.proofs.StatusLaws.{length_put_status}
use Rattle.admit.proofs.Admissions.{accepts, admits_status}
use Rattle.strands.specs.Strands.{RowsIn}
use Rattle.undoing.specs.Undoing.{some_broken, undone, withdraw_refusal, withdrawn}
use Rattle.sweeping.specs.Sweeping.{treated, held_from, sweep_refusal, swept}
use Rattle.sweeping.proofs.Calls.{treats_few}
use Rattle.machine.specs.Lines.{done, withdraw as Withdraw, sweep as Sweep}
use Rattle.machine.specs.Machine.{withdraw, effect, cut, dead}
use Rattle.machine.proofs.Follows.{machine_ext, sweeps, sweeps_rest, sweeps_rows}
use Rattle.seen.specs.Seen.{standings, row_of}
use Rattle.seen.proofs.Desks.{closed_sessions, closed_long}
use Rattle.seen.proofs.Marks.{mark_is}
use Rattle.seen.proofs.Standings.{standings_put}
use Rattle.upheld.proofs.Withdrawals.{withdraw_rows, withdraw_whole, withdraw_shaped}
use Rattle.upheld.proofs.Sweeps.{sweep_rows, sweep_whole, sweep_shaped}
use Rattle.upheld.proofs.Headers.{sealable_undone, sealable_swept}
use Rattle.upheld.proofs.Statuses.{sealable_status, highest_status, unreserved_status}
use Rattle.history.specs.World.{World, world, response}
use Rattle.history.proofs.Worlds.{seen, Good, Goes, stay_allowed}
use Rattle.history.proofs.Sessions.{found}

module _ (w : World) (g : Good w) where
  abbrev d : List ℕ
  d = w.held.«data»

  abbrev u : List ℕ
  u = w.held.undo

  abbrev s : List ℕ
  s = w.held.status

  -- some of the rows
  rows_in : (n : ℕ) → n ≤ rows d → RowsIn n (both d u)
  rows_in n few = record { few = few; «data» = g.«data».bytes; undo = g.undo.bytes }

  -- ---- withdraw

  module _ (x : ℕ) where
    abbrev k : ℕ
    k = place_in x w.desk.numbers

    abbrev gone : Both
    gone = undone x 0 d u

    pub withdrawing : withdraw_refusal w.held w.desk x ≡ 0 → Goes w (Withdraw x) (response (done 0 0 []) (world (withdrawn w.held x) (closed k w.desk)))
    unfolding withdraw_refusal withdrawn closed
    withdrawing ok =
        let a = accepts d u s w.desk x ((some_broken x 0 d u, 6) ∷ []) ok in
        let opened = a.0.passed.opened in
        let o = is_open_open w.desk x g.sound opened in
        let page = admits_status d u s w.desk x k a.0 in
        let positive : 0 < x = omega (arith, o.from) in
        let all = rows_in (rows d) (omega arith) in
        let shaped = withdraw_shaped x 0 positive d u all g.whole in
        let upright = sealable_undone x 0 d u g.«data» g.undo in
        record {
          keeps = record {
            lengths = stay_allowed shaped.0.long shaped.1.long (length_put_status x Withdrawn s) g.lengths;
            sound = closed_sound w.desk g.sound g.long k o.place;
            long = closed_long w.desk k o.place g.long;
            whole = withdraw_whole x 0 positive d u all g.whole;
            «data» = upright.0;
            undo = upright.1;
            status = sealable_status x Withdrawn s g.status;
            high = ap (λ (n : ℕ). n + 1) (highest_status x Withdrawn s) ∙ g.high;
            stated = unreserved_status x Withdrawn s o.from (omega (arith, o.last)) page refl g.stated;
          };
          did = λ h z. (
            found w g x opened,
            machine_ext (effect (seen w) (withdraw x)) (seen (world (withdrawn w.held x) (closed k w.desk))) refl
                (λ n. sym (standings_put x Withdrawn s o.from (omega (arith, o.last)) page n))
                (sym (closed_sessions w.desk g.sound g.long x opened))
                (λ q. sym (withdraw_rows x 0 positive d u all g.whole q)),
          );
        }

  -- ---- sweep

  module _ (first quota : ℕ) where
    abbrev n : ℕ
    n = treated d first quota

    abbrev left : World
    left = world (areas (swept w.held w.desk first quota).«data» (swept w.held w.desk first quota).undo s) w.desk

    abbrev fewer : ℕ
    fewer = held_from first n (both d u) - held_from first n (swept w.held w.desk first quota)

    pub sweeping : sweep_refusal w.held w.desk first quota ≡ 0 → Goes w (Sweep first quota) (response (done (first + n) fewer []) left)
    unfolding sweep_refusal swept
    sweeping ok =
        let l = first_of_none (bad_length w.held) 1 _ (λ z. omega arith) ok in
        let b = first_of_none (not (sound w.desk)) 2 _ (λ z. omega arith) l.1 in
        let f = first_of_none (ltb (rows d) first) 5 _ (λ z. omega arith) b.1 in
        let within = rows_in (first + n) (treats_few d first quota (ltb-false (rows d) first f.0)) in
        let shaped = sweep_shaped (mark w.desk) s first n d u within g.whole in
        let upright = sealable_swept (mark w.desk) s first n (both d u) g.«data» g.undo in
        let rest = sweeps_rest n first (seen w) in
        record {
          keeps = record {
            lengths = stay_allowed shaped.0.long shaped.1.long refl g.lengths;
            sound = g.sound;
            long = g.long;
            whole = sweep_whole (mark w.desk) s first n d u within g.whole;
            «data» = upright.0;
            undo = upright.1;
            status = g.status;
            high = g.high;
            stated = g.stated;
          };
          did = λ h z. (
            n,
            machine_ext (sweeps first n (seen w)) (seen left) rest.0 rest.1 rest.2
                (λ q. sweeps_rows n first (seen w) q
                ∙ ap (λ (z : ℕ). cond (leb first q && ltb q (first + n)) (cut (dead (standings s) z) (row_of d u q)) (row_of d u q)) (sym (mark_is w.desk g.sound g.long))
                ∙ sym (sweep_rows (mark w.desk) s first n d u within g.whole q)),
          );
        }
