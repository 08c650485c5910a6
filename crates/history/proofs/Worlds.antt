-- What holds of every world that calls lead to from a format, and how such a world is seen as the machine. Assumes nothing.
use Prim.Native.Nat.{ℕ, ◌+◌}
use mathlib.Core.Path.{◌≡◌, refl, sym}
use mathlib.Core.Bool.{true}
use native.Mathlib.Omega.{arith}
use lib.ListN.{length}
use Rattle.desk.specs.Sound.{sound}
use Rattle.places.specs.Open.{place_in, is_open}
use Rattle.desk.specs.Turns.{spoiled}
use Rattle.sessions.proofs.Changes.{Long, is_open_open}
use Rattle.sessions.proofs.Marks.{spoiled_sound, spoiled_long}
use Rattle.kind.specs.Kind.{lengths_ok, data_kind, undo_kind, status_kind}
use Rattle.versions.specs.Versions.{AllWhole}
use Rattle.doubt.specs.Doubt.{NoneReserved}
use Rattle.keep.specs.Whole.{highest}
use Rattle.keep.proofs.Promises.{Sealable}
use Rattle.machine.specs.Lines.{Call, refused}
use Rattle.machine.specs.Machine.{Machine}
use Rattle.machine.specs.Table.{History}
use Rattle.machine.specs.Runs.{Reach}
use Rattle.machine.proofs.Follows.{Did}
use Rattle.seen.specs.Seen.{seen_as}
use Rattle.seen.proofs.Desks.{spoiled_seen}
use Rattle.history.specs.World.{World, Response, response, marking}

-- the world seen as the machine
abbrev pub seen : World → Machine
seen w = seen_as w.held.«data» w.held.undo w.held.status w.desk

-- lengths are allowed, the desk is sound, every chain is whole, every header is right but for its checksum, and the status page has the
-- highest number handed out and no number of status 11
pub record Good (w : World) : Type 0 where
  pub lengths : lengths_ok (length w.held.«data») (length w.held.undo) (length w.held.status) ≡ true
  pub sound : sound w.desk ≡ true
  pub long : Long w.desk
  pub whole : AllWhole w.held.«data» w.held.undo
  pub «data» : Sealable data_kind w.held.«data»
  pub undo : Sealable undo_kind w.held.undo
  pub status : Sealable status_kind w.held.status
  pub high : highest w.held.status + 1 ≡ w.desk.next
  pub stated : NoneReserved w.held.status

-- the call leaves such a world, and did on the machine what its answer says
pub record Goes (w : World) (c : Call) (t : Response) : Type 0 where
  pub keeps : Good t.left
  pub did : (h : History) → Reach (seen w) h → Did (seen w) c t.answer (seen t.left)

-- a refused call that leaves the world
pub stays : (w : World) → Good w → (c : Call) (n : ℕ) → Goes w c (response (refused n) w)
stays w g c n = record { keeps = g; did = λ h x. refl }

-- a world keeps good in which an open session is marked, and on the machine nothing is done
module _ (w : World) (g : Good w) (x : ℕ) (o : is_open x w.desk.numbers ≡ true) where
  pub marked_good : Good (marking x w)
  unfolding spoiled
  marked_good =
      let s = is_open_open w.desk x g.sound o in
      record {
        lengths = g.lengths;
        sound = spoiled_sound w.desk g.sound g.long (place_in x w.desk.numbers) s.place (λ z. omega (arith, s.from, s.here, z));
        long = spoiled_long w.desk (place_in x w.desk.numbers) g.long;
        whole = g.whole;
        «data» = g.«data»;
        undo = g.undo;
        status = g.status;
        high = g.high;
        stated = g.stated;
      }

  pub marks : (c : Call) (n : ℕ) → Goes w c (response (refused n) (marking x w))
  marks c n =
      record {
        keeps = marked_good;
        did = λ h y. sym (spoiled_seen w.held.«data» w.held.undo w.held.status w.desk (place_in x w.desk.numbers));
      }

-- three lengths that stayed are still allowed
pub stay_allowed : {d d' u u' s s' : ℕ} → d' ≡ d → u' ≡ u → s' ≡ s → lengths_ok d u s ≡ true → lengths_ok d' u' s' ≡ true
stay_allowed a b c h = rw (a, b, c) h
