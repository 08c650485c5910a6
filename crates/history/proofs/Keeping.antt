-- Format, seal and open: an accepted format leaves a good world that is seen as the empty machine; seal and open keep a world good and
-- leave what is seen of it. Assumes nothing.
use Prim.Native.Nat.{ℕ, ◌+◌, ◌-◌, ◌≤◌, ◌<◌}
use mathlib.Core.Path.{◌≡◌, refl, ap, sym, subst, ◌∙◌}
use mathlib.Core.Bool.{true, false, not, ◌&&◌}
use mathlib.Core.List.{List, []}
use native.Mathlib.Omega.{arith}
use lib.Dec.{leb}
use lib.ListN.{length}
use borrow.Author.Tests.{le-leb, not-false}
use Rattle.ground.proofs.Refusals.{first_of_none}
use Rattle.ground.proofs.Ranges.{all_at, and_true_right}
use Rattle.desk.specs.Desk.{first_number, fresh_desk}
use Rattle.desk.proofs.Sounds.{fresh_sound}
use Rattle.kind.specs.Kind.{lengths_ok, pages, data_kind, undo_kind, status_kind}
use Rattle.kind.specs.Areas.{Areas, areas, bad_length}
use Rattle.kind.proofs.Lengths.{all_lent}
use Rattle.whole.proofs.Rights.{fitting_data, fitting_undo, fitting_status}
use Rattle.status.specs.declared.Status.{Status}
use Rattle.status.specs.declared.Status.TheVariants.{InWork, Committed, Withdrawn, Reserved}
use Rattle.status.specs.Status.{last_number, status_at}
use Rattle.sight.specs.Sight.{standing}
use Rattle.doubt.specs.Doubt.{NoneReserved}
use Rattle.keep.specs.Whole.{fresh_area, area_right, highest, ended, all_ended, store_right}
use Rattle.keep.specs.Keep.{format_refusal, formatted, sealed, open_refusal}
use Rattle.keep.proofs.Pages.{highest_store_right}
use Rattle.keep.proofs.Promises.{length_refreshed, highest_fresh_area, length_sealed_area, highest_sealed_area}
use Rattle.machine.specs.Lines.{format, opens, seal, done}
use Rattle.machine.specs.Machine.{InWork as Working, empty}
use Rattle.machine.proofs.Follows.{machine_ext, no_work_no_session}
use Rattle.seen.specs.Seen.{as_standing, standings}
use Rattle.seen.proofs.Desks.{fresh_sessions, fresh_long}
use Rattle.upheld.proofs.Kept.{sealed_rows, sealed_whole, sealed_standing, fresh_rows, fresh_whole, fresh_standing}
use Rattle.upheld.proofs.Statuses.{sealable_sealed, sealable_fresh, unreserved_sealed, unreserved_fresh}
use Rattle.history.specs.World.{World, world, response}
use Rattle.history.proofs.Worlds.{seen, Good, Goes, stay_allowed}

-- ---- who has ended is not in work

ended_left : (v : Status) → ended v ≡ true → as_standing v ≡ Working → ⊥
ended_left InWork e f = let z : ◌≡◌ {A = ℕ} 0 1 = cc in absurd (omega arith)
ended_left Committed e f = let z : ◌≡◌ {A = ℕ} 0 1 = cc in absurd (omega arith)
ended_left Withdrawn e f = let z : ◌≡◌ {A = ℕ} 0 1 = cc in absurd (omega arith)
ended_left Reserved e f = let z : ◌≡◌ {A = ℕ} 0 1 = cc in absurd (omega arith)

pub left_ended : (v : Status) → (as_standing v ≡ Working → ⊥) → ended v ≡ true
left_ended InWork f = absurd (f refl)
left_ended Committed f = refl
left_ended Withdrawn f = refl
left_ended Reserved f = absurd (f refl)

pub standings_at : (n : ℕ) (s : List ℕ) → 0 < n → n ≤ 32575 → standings s n ≡ as_standing (status_at n s)
unfolding standing
standings_at n s p l = rw (le-leb 1 n (omega (arith, p)), le-leb n 32575 l)

-- "a number from 1 to it is neither 01 nor 10" is not so of a store that opens
store_ended : (a : Areas) → store_right a ≡ true → (n : ℕ) → 0 < n → n ≤ highest a.status → ended (status_at n a.status) ≡ true
unfolding store_right all_ended
store_ended a right n p l =
    let e = and_true_right
    (area_right data_kind a.«data» && area_right undo_kind a.undo && area_right status_kind a.status && leb (highest a.status) last_number)
    (all_ended (highest a.status) a.status) right in
    ap (λ (i : ℕ). ended (status_at i a.status)) (omega (arith, p))
    ∙ all_at (λ (i : ℕ). ended (status_at (i + 1) a.status)) (highest a.status) e (n - 1) (omega (arith, p, l))

-- ---- format

module _ (d u s : List ℕ) (lent : bad_length (areas d u s) ≡ false) where
  abbrev made : World
  made = world (formatted (areas d u s)) (fresh_desk first_number)

  allowed : lengths_ok (length d) (length u) (length s) ≡ true
  allowed = not-false (lengths_ok (length d) (length u) (length s)) lent

  one_page : pages s ≡ 1
  one_page = let l = (all_lent (length d) (length u) (length s) allowed).in_status in omega (arith, l.some, l.few)

  pub formatted_good : Good made
  unfolding formatted fresh_desk
  formatted_good =
      let l = all_lent (length d) (length u) (length s) allowed in
      record {
        lengths = stay_allowed (length_refreshed data_kind 64 d l.in_data) (length_refreshed undo_kind 64 u l.in_undo) (length_refreshed status_kind 1 s l.in_status) allowed;
        sound = fresh_sound 1 (omega arith) (omega arith);
        long = fresh_long 1;
        whole = fresh_whole (pages d) (pages u);
        «data» = sealable_fresh data_kind (pages d) fitting_data (omega (arith, l.in_data.few));
        undo = sealable_fresh undo_kind (pages u) fitting_undo (omega (arith, l.in_undo.few));
        status = sealable_fresh status_kind (pages s) fitting_status (omega (arith, l.in_status.few));
        high = ap (λ (n : ℕ). n + 1) (highest_fresh_area status_kind (pages s) l.in_status.some);
        stated = subst (λ (n : ℕ). NoneReserved (fresh_area status_kind n)) (sym one_page) unreserved_fresh;
      }

  pub formatted_seen : seen made ≡ empty
  unfolding formatted fresh_desk
  formatted_seen =
      machine_ext (seen made) empty refl
      (λ x. ap (λ (n : ℕ). standings (fresh_area status_kind n) x) one_page ∙ ap as_standing (fresh_standing x))
      (fresh_sessions 1)
      (λ q. fresh_rows (pages d) (pages u) q)

pub format_lent : (d u s : List ℕ) → format_refusal (areas d u s) ≡ 0 → bad_length (areas d u s) ≡ false
unfolding format_refusal
format_lent d u s ok = (first_of_none (bad_length (areas d u s)) 1 0 (λ z. omega arith) ok).0

-- whatever was there before
pub formatting : (w : World) (d u s : List ℕ) → format_refusal (areas d u s) ≡ 0
    → Goes w (format d u s) (response (done 0 0 []) (world (formatted (areas d u s)) (fresh_desk first_number)))
formatting w d u s ok = record { keeps = formatted_good d u s (format_lent d u s ok); did = λ h x. sym (formatted_seen d u s (format_lent d u s ok)) }

-- ---- seal

module _ (w : World) (g : Good w) where
  abbrev da : List ℕ
  da = w.held.«data»

  abbrev un : List ℕ
  un = w.held.undo

  abbrev st : List ℕ
  st = w.held.status

  pub sealed_good : Good (world (sealed w.held) w.desk)
  unfolding sealed
  sealed_good =
      record {
        lengths = stay_allowed (length_sealed_area (pages da) da) (length_sealed_area (pages un) un) (length_sealed_area (pages st) st) g.lengths;
        sound = g.sound;
        long = g.long;
        whole = sealed_whole da un g.whole;
        «data» = sealable_sealed data_kind da g.«data»;
        undo = sealable_sealed undo_kind un g.undo;
        status = sealable_sealed status_kind st g.status;
        high = ap (λ (n : ℕ). n + 1) (highest_sealed_area (pages st) st) ∙ g.high;
        stated = unreserved_sealed st g.stated;
      }

  pub sealed_seen : seen w ≡ seen (world (sealed w.held) w.desk)
  unfolding sealed
  sealed_seen =
      machine_ext (seen w) (seen (world (sealed w.held) w.desk)) refl (λ x. ap as_standing (sym (sealed_standing st x))) refl (λ q. sym (sealed_rows da un q))

  pub sealing : Goes w seal (response (done 0 0 []) (world (sealed w.held) w.desk))
  sealing = record { keeps = sealed_good; did = λ h x. sealed_seen }

  -- ---- open

  pub opening : open_refusal w.held ≡ 0 → Goes w opens (response (done 0 0 []) (world w.held (fresh_desk (highest st + 1))))
  unfolding open_refusal fresh_desk
  opening ok =
      let l = first_of_none (bad_length w.held) 1 _ (λ z. omega arith) ok in
      let r = first_of_none (not (store_right w.held)) 3 _ (λ z. omega arith) l.1 in
      let right : store_right w.held ≡ true = not-false (store_right w.held) r.0 in
      let few : highest st ≤ 32575 = highest_store_right da un st right in
      record {
        keeps = record {
          lengths = g.lengths;
          sound = fresh_sound (highest st + 1) (omega arith) (omega (arith, few));
          long = fresh_long (highest st + 1);
          whole = g.whole;
          «data» = g.«data»;
          undo = g.undo;
          status = g.status;
          high = refl;
          stated = g.stated;
        };
        did = λ h x.
            machine_ext (seen w) (seen (world w.held (fresh_desk (highest st + 1)))) (sym g.high) (λ n. refl)
            (no_work_no_session x (λ n p l e. nobody right few n p l e) ∙ sym (fresh_sessions (highest st + 1))) (λ q. refl);
      }
    where
      nobody : store_right w.held ≡ true → highest st ≤ 32575 → (n : ℕ) → 0 < n → n < w.desk.next → standings st n ≡ Working → ⊥
      nobody right few n p l e =
          let top : n ≤ highest st = omega (arith, l, g.high) in
          ended_left (status_at n st) (store_ended w.held right n p top) (sym (standings_at n st p (omega (arith, top, few))) ∙ e)
