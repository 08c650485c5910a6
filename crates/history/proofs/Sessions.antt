-- Begin, next statement and commit keep a world good and follow the machine. Assumes nothing.
use Prim.Native.Nat.{ℕ, ◌+◌, ◌<◌}
use mathlib.Core.Path.{◌≡◌, refl, ap, sym, ◌∙◌}
use mathlib.Core.Bool.{true, not}
use mathlib.Core.List.{List, [], ◌∷◌}
use native.Mathlib.Omega.{arith}
use lib.Dec.{eqb}
use lib.ListN.{length, get_or}
use borrow.Author.Tests.{eqb-false}
use Rattle.ground.proofs.Refusals.{first_of_none}
use Rattle.columns.specs.Limits.{sessions, last_statement}
use Rattle.places.specs.Open.{open_count, place_in, is_open}
use Rattle.desk.specs.Desk.{last_next}
use Rattle.desk.specs.Sound.{sound}
use Rattle.desk.specs.Turns.{begun, moved, closed}
use Rattle.sessions.proofs.Changes.{sound_parts, is_open_open, moved_sound, begun_sound, closed_sound}
use Rattle.kind.proofs.Lengths.{status_length}
use Rattle.kind.specs.Areas.{areas, bad_length}
use Rattle.page.specs.Header.{txn_id, put_field}
use Rattle.page.proofs.Headers.{length_put_field}
use Rattle.status.specs.declared.Status.TheVariants.{InWork, Committed}
use Rattle.status.specs.Status.{put_status}
use Rattle.status.proofs.StatusLaws.{length_put_status}
use Rattle.admit.proofs.Admissions.{accepts_unspoiled, admits_status}
use Rattle.turns.specs.Turns.{begin_refusal, next_refusal, commit_refusal}
use Rattle.machine.specs.Lines.{done, next as Next, commit as Commit, begin as Begin}
use Rattle.machine.specs.Machine.{find, is_some, effect, next, begin, commit}
use Rattle.machine.proofs.Follows.{machine_ext}
use Rattle.seen.specs.Seen.{open_sessions}
use Rattle.history.specs.World.{World, world, response}
use Rattle.seen.proofs.Desks.{find_open, moved_sessions, moved_long, closed_sessions, closed_long, begun_sessions, begun_long}
use Rattle.seen.proofs.Counts.{open_at_most}
use Rattle.seen.proofs.Standings.{standings_put, standings_field}
use Rattle.upheld.proofs.Statuses.{sealable_status, sealable_begun, highest_status, highest_begun, unreserved_status, unreserved_begun}
use Rattle.history.proofs.Worlds.{seen, Good, Goes, stay_allowed}

module _ (w : World) (g : Good w) where
  -- an open session is found on the machine's desk
  pub found : (x : ℕ) → is_open x w.desk.numbers ≡ true → is_some (find x (open_sessions w.desk)) ≡ true
  found x o = ap is_some (find_open w.desk g.sound g.long x o)

  -- ---- next statement

  module _ (x : ℕ) where
    abbrev k : ℕ
    k = place_in x w.desk.numbers

    pub moves : next_refusal w.held w.desk x ≡ 0 → Goes w (Next x) (response (done 0 0 []) (world w.held (moved k w.desk)))
    unfolding next_refusal moved
    moves ok =
        let a = accepts_unspoiled w.held.«data» w.held.undo w.held.status w.desk x ((eqb (get_or w.desk.statements k 0) last_statement, 14) ∷ []) ok in
        let b = first_of_none (eqb (get_or w.desk.statements k 0) last_statement) 14 0 (λ z. omega arith) a.1 in
        let o = is_open_open w.desk x g.sound a.0.admitted.passed.opened in
        let less : get_or w.desk.statements k 0 < 65535 = omega (arith, o.statement, eqb-false (get_or w.desk.statements k 0) last_statement b.0) in
        record {
          keeps = record {
            lengths = g.lengths;
            sound = moved_sound w.desk k g.sound g.long.statements o.place (λ z. omega (arith, o.from, o.here, z)) less;
            long = moved_long w.desk k g.long;
            whole = g.whole;
            «data» = g.«data»;
            undo = g.undo;
            status = g.status;
            high = g.high;
            stated = g.stated;
          };
          did = λ h y. (
            found x a.0.admitted.passed.opened,
            machine_ext (effect (seen w) (next x)) (seen (world w.held (moved k w.desk))) refl (λ n. refl)
                (sym (moved_sessions w.desk g.sound g.long x a.0.admitted.passed.opened)) (λ r. refl),
          );
        }

    -- ---- commit

    pub commits : commit_refusal w.held w.desk x ≡ 0
        → Goes w (Commit x) (response (done 0 0 []) (world (areas w.held.«data» w.held.undo (put_status x Committed w.held.status)) (closed k w.desk)))
    unfolding commit_refusal closed
    commits ok =
        let a = accepts_unspoiled w.held.«data» w.held.undo w.held.status w.desk x [] ok in
        let o = is_open_open w.desk x g.sound a.0.admitted.passed.opened in
        let page = admits_status w.held.«data» w.held.undo w.held.status w.desk x k a.0.admitted in
        record {
          keeps = record {
            lengths = stay_allowed refl refl (length_put_status x Committed w.held.status) g.lengths;
            sound = closed_sound w.desk g.sound g.long k o.place;
            long = closed_long w.desk k o.place g.long;
            whole = g.whole;
            «data» = g.«data»;
            undo = g.undo;
            status = sealable_status x Committed w.held.status g.status;
            high = ap (λ (n : ℕ). n + 1) (highest_status x Committed w.held.status) ∙ g.high;
            stated = unreserved_status x Committed w.held.status o.from (omega (arith, o.last)) page refl g.stated;
          };
          did = λ h y. (
            found x a.0.admitted.passed.opened,
            machine_ext (effect (seen w) (commit x)) (seen (world (areas w.held.«data» w.held.undo (put_status x Committed w.held.status)) (closed k w.desk))) refl
                (λ n. sym (standings_put x Committed w.held.status o.from (omega (arith, o.last)) page n))
                (sym (closed_sessions w.desk g.sound g.long x a.0.admitted.passed.opened)) (λ r. refl),
          );
        }

  -- ---- begin

  abbrev number : ℕ
  number = w.desk.next

  abbrev noted : List ℕ
  noted = put_field txn_id 0 number (put_status number InWork w.held.status)

  pub begins : begin_refusal w.held w.desk ≡ 0
      → Goes w Begin (response (done number 0 []) (world (areas w.held.«data» w.held.undo noted) (begun w.desk)))
  unfolding begin_refusal begun
  begins ok =
      let l = first_of_none (bad_length w.held) 1 _ (λ z. omega arith) ok in
      let b = first_of_none (not (sound w.desk)) 2 _ (λ z. omega arith) l.1 in
      let c = first_of_none (eqb (open_count w.desk.numbers) sessions) 12 _ (λ z. omega arith) b.1 in
      let n = first_of_none (eqb w.desk.next last_next) 13 _ (λ z. omega arith) c.1 in
      let parts = sound_parts w.desk g.sound in
      let few : number < 32576 = omega (arith, parts.last, eqb-false w.desk.next last_next n.0) in
      let room : open_count w.desk.numbers < 16 =
      omega (arith, open_at_most w.desk.numbers, eqb-false (open_count w.desk.numbers) sessions c.0) in
      let page : length w.held.status ≡ 8192 = status_length (length w.held.«data») (length w.held.undo) (length w.held.status) g.lengths in
      let longer : length (put_status number InWork w.held.status) ≡ length w.held.status = length_put_status number InWork w.held.status in
      record {
        keeps = record {
          lengths = stay_allowed refl refl (length_put_field txn_id 0 number (put_status number InWork w.held.status) ∙ longer) g.lengths;
          sound = begun_sound w.desk g.sound g.long room few;
          long = begun_long w.desk g.long;
          whole = g.whole;
          «data» = g.«data»;
          undo = g.undo;
          status = sealable_begun number InWork number w.held.status g.status;
          high = ap (λ (n : ℕ). n + 1) (highest_begun number (put_status number InWork w.held.status) (omega (arith, few)) (longer ∙ page));
          stated = unreserved_begun number InWork w.held.status parts.first (omega (arith, few)) page refl g.stated number;
        };
        did = λ h y. (
          refl,
          machine_ext (effect (seen w) begin) (seen (world (areas w.held.«data» w.held.undo noted) (begun w.desk))) (omega arith)
              (λ n. sym (standings_field txn_id number (put_status number InWork w.held.status) (omega arith) n
              ∙ standings_put number InWork w.held.status parts.first (omega (arith, few)) page n))
              (sym (begun_sessions w.desk g.sound g.long room)) (λ r. refl),
        );
      }
