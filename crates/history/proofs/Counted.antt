-- How many versions a row has, and so how many a read looks at, by the calls that were made; and what a read that looked at one alone
-- answers. Assumes nothing.
use Prim.Native.Nat.{ℕ, suc, ◌≤◌}
use mathlib.Core.Path.{◌≡◌, refl, ap, sym, ◌∙◌}
use mathlib.Core.Bool.{Bool, true, false, not, ◌&&◌, ◌||◌, cond}
use mathlib.Core.Option.{Option, none, some}
use mathlib.Core.List.{List, [], ◌∷◌}
use native.Mathlib.Omega.{arith}
use lib.Dec.{eqb}
use lib.ListN.{length}
use borrow.Author.Tests.{eqb-true}
use Rattle.ground.proofs.Ranges.{and_true_left}
use Rattle.places.specs.Open.{is_open}
use Rattle.records.specs.Slot.{slot_at}
use Rattle.rows.specs.Rows.{view_in}
use Rattle.rows.proofs.Accepted.{reads as reads_of}
use Rattle.machine.specs.Table.{Body, History}
use Rattle.machine.specs.Lines.{Call, done, is_done, is_update, read, heard}
use Rattle.machine.specs.Machine.{Version, knows, looked_at, reads}
use Rattle.machine.specs.Runs.{first_of}
use Rattle.machine.proofs.Counts.{looked_at_length, looked_one}
use Rattle.machine.proofs.Dids.{did_length}
use Rattle.seen.specs.Seen.{row_of}
use Rattle.seen.proofs.Knowing.{session_of}
use Rattle.history.specs.World.{World, says, after, after_all}
use Rattle.history.specs.Asked.{Proper, AllProper, Standing, is_empty, standing_in, updates_from}
use Rattle.history.proofs.Worlds.{seen, Good}
use Rattle.seen.proofs.Rows.{row_empty}
use Rattle.history.proofs.Answered.{Reads, read_answers}
use Rattle.history.proofs.Refused.{done_refused, done_ok}
use Rattle.history.proofs.Restored.{as_standing, standing_is}
use Rattle.history.proofs.Runs.{goes, Stands, stands_call}

abbrev row : World → ℕ → List Version
row w r = row_of w.held.«data» w.held.undo r

-- ---- how long a row is

module _ (r : ℕ) where
  -- after one call; where the row is empty then, it has no version
  one_call : (w : World) (h : History) → Stands w h → (c : Call) → Proper c → (k : ℕ) → length (row w r) ≤ suc k
      → length (row (after w c) r) ≤ suc (cond (is_empty (after w c) r) 0 (cond (is_done (says w c) && is_update r c) (suc k) k))
  one_call w h s c p k l = go (is_empty (after w c) r) refl
    where
      go : (b : Bool) → is_empty (after w c) r ≡ b → length (row (after w c) r) ≤ suc (cond b 0 (cond (is_done (says w c) && is_update r c) (suc k) k))
      go true e =
          let z : length (row (after w c) r) ≡ 0 =
          ap length (row_empty (after w c).held.«data» (after w c).held.undo r (eqb-true (slot_at r (after w c).held.«data»).create 0 e)) in
          omega (arith, z)
      go false e = did_length r k (seen w) c (says w c) (seen (after w c)) ((goes w s.good c p).did h s.reach) l

  pub all_calls : (cs : List Call) (w : World) (h : History) → Stands w h → AllProper cs → (k : ℕ) → length (row w r) ≤ suc k
      → length (row (after_all w cs) r) ≤ suc (updates_from w r k cs)
  all_calls [] w h s p k l = l
  all_calls (c ∷ cs) w h s p k l =
      all_calls cs (after w c) (heard h c (says w c)) (stands_call w h s c p.0) p.1
      (cond (is_empty (after w c) r) 0 (cond (is_done (says w c) && is_update r c) (suc k) k)) (one_call w h s c p.0 k l)

-- ---- what a read looks at

pub looked_few : (w : World) → Good w → (n r k j : ℕ) (b : Body) → says w (read n r) ≡ done k j b → k ≤ length (row w r)
looked_few w g n r k j b e =
    let a = reads_of w.held.«data» w.held.undo w.held.status w.desk n r (done_ok w (read n r) (ap is_done e)) in
    go (reads (seen w) (session_of (view_in w.desk n)) r) (read_answers w g n r a.session.passed.opened a.inside)
  where
    looked : ℕ
    looked = looked_at (knows (seen w) (session_of (view_in w.desk n))) (row w r)

    go : (o : Option Body) → Reads o looked (says w (read n r)) → k ≤ length (row w r)
    go none f = absurd (done_refused k j 7 b (sym e ∙ f))
    go (some y) f =
        let q : done k j b ≡ done looked 0 y = sym e ∙ f in
        let z : k ≡ looked = cc in
        omega (arith, z, looked_at_length (knows (seen w) (session_of (view_in w.desk n))) (row w r))

-- a body that was read by looking at one version alone stands in the slot, and its creator counts for the session
pub read_stands : (w : World) → Good w → (n r j : ℕ) (b : Body) → says w (read n r) ≡ done 1 j b
    → (is_open n w.desk.numbers ≡ true)
    × ((s : Standing) × (standing_in w r ≡ some s) × (s.body ≡ b) × (knows (seen w) (session_of (view_in w.desk n)) s.creator s.creating ≡ true))
read_stands w g n r j b e =
    let a = reads_of w.held.«data» w.held.undo w.held.status w.desk n r (done_ok w (read n r) (ap is_done e)) in
    (a.session.passed.opened, go (reads (seen w) (session_of (view_in w.desk n)) r) refl (read_answers w g n r a.session.passed.opened a.inside))
  where
    p : ℕ → ℕ → Bool
    p = knows (seen w) (session_of (view_in w.desk n))

    go : (o : Option Body) → reads (seen w) (session_of (view_in w.desk n)) r ≡ o → Reads o (looked_at p (row w r)) (says w (read n r))
        → (s : Standing) × (standing_in w r ≡ some s) × (s.body ≡ b) × (p s.creator s.creating ≡ true)
    go none q f = absurd (done_refused 1 j 7 b (sym e ∙ f))
    go (some y) q f =
        let z : done 1 j b ≡ done (looked_at p (row w r)) 0 y = sym e ∙ f in
        let one : looked_at p (row w r) ≡ 1 = cc in
        let same : y ≡ b = cc in
        let (v, vs, is, body, here) = looked_one p (row w r) y one q in (
          record { body = v.body; creator = v.create; creating = v.cmd; expirer = v.expire },
          standing_is w r ∙ ap (λ (l : List Version). as_standing (first_of l)) is,
          body ∙ same,
          and_true_left (p v.create v.cmd) (eqb v.expire 0 || not (p v.expire v.expire_cmd)) here,
        )
