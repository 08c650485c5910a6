-- Insert, update and delete keep a world good and follow the machine. Assumes nothing.
use Prim.Native.Nat.{ℕ, ◌*◌, ◌≤◌}
use native.Mathlib.Nat.{min-le_left}
use mathlib.Core.Path.{◌≡◌, refl, ap, sym, ◌∙◌}
use mathlib.Core.Bool.{true}
use mathlib.Core.Option.{Option}
use mathlib.Core.List.{List, [], ◌∷◌}
use native.Mathlib.Omega.{arith}
use lib.ListN.{length, drop, length-take}
use Rattle.little.specs.Little.{Bytes}
use Rattle.places.specs.Open.{place_in, is_open}
use Rattle.desk.specs.declared.Desk.{Desk}
use Rattle.desk.specs.Turns.{view_at}
use Rattle.kind.specs.Areas.{areas}
use Rattle.vacant.specs.Vacant.{lowest_empty, lowest_free}
use Rattle.vacant.proofs.Vacants.{lowest_empty_empty}
use Rattle.seeking.proofs.Seekings.{Writable}
use Rattle.writing.specs.Writing.{inserted, deleted}
use Rattle.versions.proofs.Versions.{whole_inserted, whole_updated, whole_deleted}
use Rattle.rows.specs.Rows.{view_in, insert_refusal, update_refusal, updated, delete_refusal}
use Rattle.rows.proofs.Accepted.{fits, takes, inserts, deletes, updates}
use Rattle.machine.specs.Table.{Body, put}
use Rattle.machine.specs.Lines.{done, insert as Insert, update as Update, delete as Delete}
use Rattle.machine.specs.Machine.{Session, find, is_nil, presently, statement_in, fresh, expire_first, effect, insert, update, delete, writable}
use Rattle.machine.proofs.Follows.{machine_ext}
use Rattle.seen.specs.Seen.{open_sessions, standings, row_of}
use Rattle.seen.proofs.Desks.{find_open}
use Rattle.upheld.proofs.Written.{insert_rows, delete_rows, update_rows, length_inserted, length_deleted, length_updated_data, length_updated_undo}
use Rattle.upheld.proofs.Headers.{sealable_inserted, sealable_deleted, sealable_updated_data, sealable_updated_undo}
use Rattle.history.specs.World.{World, world, response}
use Rattle.history.proofs.Worlds.{seen, Good, Goes, stay_allowed}
use Rattle.seen.proofs.Rows.{row_empty}
use Rattle.history.proofs.Accepts.{writable_is}
use Rattle.history.proofs.Sessions.{found}

-- the list of a view has 15 places
pub view_few : (k : Desk) (x : ℕ) → length (view_in k x).list ≤ 15
unfolding view_at
view_few k x = omega (arith, length-take 15 (drop (place_in x k.numbers * 15) k.lists), min-le_left 15 (length (drop (place_in x k.numbers * 15) k.lists)))

module _ (w : World) (g : Good w) (x : ℕ) where
  abbrev d : List ℕ
  d = w.held.«data»

  abbrev u : List ℕ
  u = w.held.undo

  abbrev s : List ℕ
  s = w.held.status

  abbrev c : ℕ
  c = (view_in w.desk x).statement

  -- the statement that the machine has for the session
  now : is_open x w.desk.numbers ≡ true → presently (seen w) x ≡ c
  now o = ap statement_in (find_open w.desk g.sound g.long x o)

  -- ---- insert

  module _ (y : Body) (bytes : Bytes y) where
    abbrev r : ℕ
    r = lowest_empty d

    pub inserting : insert_refusal w.held w.desk x y ≡ 0 → Goes w (Insert x y) (response (done r 0 []) (world (areas (inserted x c r y d) u s) w.desk))
    inserting ok =
        let a = inserts d u s w.desk x y ok in
        let o = a.session.passed.opened in
        let f = fits d u s w.desk x a.session r a.room g.«data».bytes in
        record {
          keeps = record {
            lengths = stay_allowed (length_inserted x c r y d) refl refl g.lengths;
            sound = g.sound;
            long = g.long;
            whole = whole_inserted x c r y d u a.long f g.whole;
            «data» = sealable_inserted x c r y d a.long bytes g.«data»;
            undo = g.undo;
            status = g.status;
            high = g.high;
            stated = g.stated;
          };
          did = λ h z. (
            rw (found w g x o) (ap is_nil (row_empty d u r (lowest_empty_empty d a.room))),
            machine_ext (effect (seen w) (insert x r y)) (seen (world (areas (inserted x c r y d) u s) w.desk)) refl (λ n. refl) refl
                (λ q. ap (λ (k : ℕ). put (row_of d u) r (fresh x k y ∷ []) q) (now o) ∙ sym (insert_rows x c r y d u a.long f q)),
          );
        }

  -- ---- delete

  module _ (r : ℕ) where
    -- what nothing is said against the machine accepts
    may : is_open x w.desk.numbers ≡ true → Writable d u s (view_in w.desk x) r → writable (standings s) (find x (open_sessions w.desk)) (row_of d u r) ≡ true
    may o can =
        ap (λ (z : Option Session). writable (standings s) z (row_of d u r)) (find_open w.desk g.sound g.long x o)
        ∙ writable_is d u s w.desk (view_in w.desk x) r (view_few w.desk x) (g.whole r can.inside) can

    pub deleting : delete_refusal w.held w.desk x r ≡ 0 → Goes w (Delete x r) (response (done 0 0 []) (world (areas (deleted x c r d) u s) w.desk))
    deleting ok =
        let a = deletes d u s w.desk x r ok in
        let o = a.session.passed.opened in
        let can = a.writable in
        let f = fits d u s w.desk x a.session r can.inside g.«data».bytes in
        record {
          keeps = record {
            lengths = stay_allowed (length_deleted x c r d) refl refl g.lengths;
            sound = g.sound;
            long = g.long;
            whole = whole_deleted x c r d u f can.occupied g.whole;
            «data» = sealable_deleted x c r d g.«data»;
            undo = g.undo;
            status = g.status;
            high = g.high;
            stated = g.stated;
          };
          did = λ h z. (
            may o can,
            machine_ext (effect (seen w) (delete x r)) (seen (world (areas (deleted x c r d) u s) w.desk)) refl (λ n. refl) refl
                (λ q. ap (λ (k : ℕ). put (row_of d u) r (expire_first x k (row_of d u r)) q) (now o) ∙ sym (delete_rows x c r d u f can.occupied q)),
          );
        }

    -- ---- update

    module _ (y : Body) (bytes : Bytes y) where
      abbrev e : ℕ
      e = lowest_free u

      pub updating : update_refusal w.held w.desk x r y ≡ 0 → Goes w (Update x r y) (response (done 0 0 []) (world (updated w.held w.desk x r y) w.desk))
      unfolding updated
      updating ok =
          let a = updates d u s w.desk x r y ok in
          let o = a.session.passed.opened in
          let can = a.writable in
          let f = fits d u s w.desk x a.session r can.inside g.«data».bytes in
          let t = takes d u s w.desk x r y ok in
          record {
            keeps = record {
              lengths = stay_allowed (length_updated_data x c r e y d) (length_updated_undo x c r e d u) refl g.lengths;
              sound = g.sound;
              long = g.long;
              whole = whole_updated x c r e y d u f t a.long can.occupied g.whole;
              «data» = sealable_updated_data x c r e y d a.long bytes g.«data»;
              undo = sealable_updated_undo x c r e d u g.«data».bytes g.undo;
              status = g.status;
              high = g.high;
              stated = g.stated;
            };
            did = λ h z. (
              may o can,
              machine_ext (effect (seen w) (update x r y)) (seen (world (updated w.held w.desk x r y) w.desk)) refl (λ n. refl) refl
                  (λ q. ap (λ (k : ℕ). put (row_of d u) r (fresh x k y ∷ expire_first x k (row_of d u r)) q) (now o)
                  ∙ sym (update_rows x c r e y d u f t a.long can.occupied (g.whole r can.inside) q)),
            );
          }
