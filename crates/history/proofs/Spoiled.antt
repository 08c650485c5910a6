-- The mark on the desk is what a history's lines say of the session, and no session that was ever answered 10 is committed ("02, T-07").
-- Assumes nothing.
use Prim.Native.Nat.{ℕ, suc, ◌+◌, ◌≤◌, ◌<◌}
use mathlib.Core.Path.{◌≡◌, refl, sym, ap, ◌∙◌}
use mathlib.Core.Logic.{inl, inr}
use mathlib.Core.Bool.{Bool, true, false, not, ◌&&◌, ◌||◌, cond, and-false, or-true}
use mathlib.Core.List.{List, [], ◌∷◌}
use native.Mathlib.Omega.{arith}
use lib.Dec.{eqb}
use borrow.Author.Tests.{eqb-true, eqb-false, eq-eqb, ne_eqb}
use Rattle.ground.proofs.Ranges.{or_false_left, or_false_right}
use Rattle.ground.proofs.Refusals.{first_of_none}
use Rattle.columns.specs.Limits.{sessions}
use Rattle.places.specs.Open.{open_count, place_in, is_open}
use Rattle.desk.specs.declared.Desk.{Desk}
use Rattle.desk.specs.Desk.{first_number, fresh_desk}
use Rattle.desk.specs.Sound.{sound}
use Rattle.desk.specs.Turns.{begun, moved, closed, spoiled, is_spoiled}
use Rattle.sessions.proofs.Changes.{is_open_open, is_open_place}
use Rattle.sessions.proofs.Marks.{spoiled_marked, spoiled_others, begun_unmarked, begun_mark, begun_open, moved_mark, closed_open, closed_mark, fresh_none}
use Rattle.kind.specs.Areas.{bad_length}
use Rattle.admit.proofs.Admissions.{accepts, accepts_unspoiled}
use Rattle.turns.specs.Turns.{begin_refusal, next_refusal, commit_refusal}
use Rattle.rows.specs.Rows.{refused_desk}
use Rattle.undoing.specs.Undoing.{some_broken, withdraw_refusal}
use Rattle.keep.specs.Whole.{highest}
use Rattle.machine.specs.Lines.{Call, format, opens, seal, begin, next, insert, update, delete, read, commit, withdraw, sweep, Verdict, refused, is_done, is_format, Line}
use Rattle.machine.proofs.Basics.{true_false}
use Rattle.seen.proofs.Counts.{open_at_most}
use Rattle.history.specs.World.{World, Response, says, after, after_all, lines_of}
use Rattle.history.specs.Spoiled.{replaces, is_ten, loses, begins, spoiled_from}
use Rattle.history.specs.Asked.{Proper, AllProper}
use Rattle.history.specs.Since.{accepted, formats}
use Rattle.history.specs.Observers.{Replaces}
use Rattle.history.proofs.Told.{every_replaces}
use Rattle.history.proofs.Worlds.{Good}
use Rattle.history.proofs.Steps.{refusal_of, when_done, when_refused, step_settled}
use Rattle.history.proofs.Refused.{lost_open, refused_as, done_ok}
use Rattle.history.proofs.Runs.{goes}

-- a line of a call and its answer
abbrev line : Call → Verdict → Line
line c a = record { call = c; answer = a }

-- ---- one line

-- whether session n is spoiled behind a line, where b tells whether it was before it
abbrev told : ℕ → Call → Verdict → Bool → Bool
told n c a b = not (begins n (line c a)) && (loses n (line c a) || b)

-- of an open session, the mark is b
abbrev Marks : ℕ → Bool → Desk → Type 0
Marks n b d = is_open n d.numbers ≡ true → is_spoiled n d ≡ b

-- where nobody is open
none_marked : (n k : ℕ) (b : Bool) → Marks n b (fresh_desk k)
none_marked n k b o = true_false (is_open n (fresh_desk k).numbers) o (fresh_none k n)

module _ (w : World) (g : Good w) (n : ℕ) (b : Bool) (before : Marks n b w.desk) where
  -- begin hands a number out, and does not mark it
  begun_told : begin_refusal w.held w.desk ≡ 0 → Marks n (not (eqb n w.desk.next) && b) (begun w.desk)
  unfolding begin_refusal
  begun_told ok o =
      let l = first_of_none (bad_length w.held) 1 _ (λ z. omega arith) ok in
      let s = first_of_none (not (sound w.desk)) 2 _ (λ z. omega arith) l.1 in
      let c = first_of_none (eqb (open_count w.desk.numbers) sessions) 12 _ (λ z. omega arith) s.1 in
      by (omega (arith, open_at_most w.desk.numbers, eqb-false (open_count w.desk.numbers) sessions c.0)) (eqb n w.desk.next) refl
    where
      by : open_count w.desk.numbers < 16 → (t : Bool) → eqb n w.desk.next ≡ t → is_spoiled n (begun w.desk) ≡ (not t && b)
      by few true e = ap (λ (x : ℕ). is_spoiled x (begun w.desk)) (eqb-true n w.desk.next e) ∙ begun_unmarked w.desk g.sound g.long few
      by few false e =
          let old = begun_open w.desk g.sound g.long few n o (eqb-false n w.desk.next e) in
          begun_mark w.desk g.sound g.long few n old ∙ before old

  moved_told : (k : ℕ) → Marks n b (moved k w.desk)
  unfolding moved
  moved_told k o = moved_mark w.desk k n ∙ before o

  -- a session that closes takes its mark along, and no other's
  closed_told : (x : ℕ) → is_open x w.desk.numbers ≡ true → Marks n b (closed (place_in x w.desk.numbers) w.desk)
  closed_told x opened o =
      let place = is_open_place x w.desk.numbers opened in
      closed_mark w.desk g.sound g.long (place_in x w.desk.numbers) place n o
      ∙ before (closed_open w.desk g.sound g.long (place_in x w.desk.numbers) place n o)

  done_told : (c : Call) → refusal_of w c ≡ 0 → Marks n (told n c (when_done w c).answer b) (when_done w c).left.desk
  unfolding next_refusal commit_refusal withdraw_refusal
  done_told (format d u s) ok = none_marked n first_number _
  done_told opens ok = none_marked n (highest w.held.status + 1) _
  done_told seal ok = before
  done_told begin ok = begun_told ok
  done_told (next x) ok = moved_told (place_in x w.desk.numbers)
  done_told (insert x y) ok = before
  done_told (update x q y) ok = before
  done_told (delete x q) ok = before
  done_told (read x q) ok = before
  done_told (commit x) ok =
      closed_told x (accepts_unspoiled w.held.«data» w.held.undo w.held.status w.desk x [] ok).0.admitted.passed.opened
  done_told (withdraw x) ok =
      closed_told x
      (accepts w.held.«data» w.held.undo w.held.status w.desk x ((some_broken x 0 w.held.«data» w.held.undo, 6) ∷ []) ok).0.passed.opened
  done_told (sweep first quota) ok = before

  -- a 10 marks the session that it is answered to, and no other refusal marks anybody
  marked_told : (x k : ℕ) → (eqb k 10 ≡ true → is_open x w.desk.numbers ≡ true)
      → Marks n ((eqb k 10 && eqb n x) || b) (refused_desk k x w.desk)
  unfolding refused_desk spoiled
  marked_told x k opened = by (eqb k 10) refl
    where
      mine : (t : Bool) → eqb n x ≡ t → is_open x w.desk.numbers ≡ true → Marks n (t || b) (spoiled (place_in x w.desk.numbers) w.desk)
      mine true e is o =
          ap (λ (y : ℕ). is_spoiled y (spoiled (place_in x w.desk.numbers) w.desk)) (eqb-true n x e)
          ∙ spoiled_marked w.desk g.long (place_in x w.desk.numbers) (is_open_place x w.desk.numbers is)
      mine false e is o = spoiled_others w.desk x n o (eqb-false n x e) ∙ before o

      by : (t : Bool) → eqb k 10 ≡ t → Marks n ((t && eqb n x) || b) (cond t (spoiled (place_in x w.desk.numbers) w.desk) w.desk)
      by true e = mine (eqb n x) refl (opened e)
      by false e = before

  -- any other call that is refused
  calm_told : (k : ℕ) → Marks n ((eqb k 10 && false) || b) w.desk
  calm_told k o = before o ∙ ap (λ (t : Bool). t || b) (sym (and-false (eqb k 10)))

  refused_told : (c : Call) (k : ℕ) → refusal_of w c ≡ suc k → Marks n (told n c (refused (suc k)) b) (when_refused w c (suc k)).left.desk
  refused_told (update x q y) k e =
      marked_told x (suc k) (λ ten. lost_open w (update x q y) x (eq-eqb x x refl) (e ∙ eqb-true (suc k) 10 ten))
  refused_told (delete x q) k e = marked_told x (suc k) (λ ten. lost_open w (delete x q) x (eq-eqb x x refl) (e ∙ eqb-true (suc k) 10 ten))
  refused_told (format d u s) k e = calm_told (suc k)
  refused_told opens k e = calm_told (suc k)
  refused_told seal k e = calm_told (suc k)
  refused_told begin k e = calm_told (suc k)
  refused_told (next x) k e = calm_told (suc k)
  refused_told (insert x y) k e = calm_told (suc k)
  refused_told (read x q) k e = calm_told (suc k)
  refused_told (commit x) k e = calm_told (suc k)
  refused_told (withdraw x) k e = calm_told (suc k)
  refused_told (sweep first quota) k e = calm_told (suc k)

  pub line_told : (c : Call) → Marks n (told n c (says w c) b) (after w c).desk
  line_told c = step_settled w c (λ (t : Response). Marks n (told n c t.answer b) t.left.desk) (done_told c) (refused_told c)

-- ---- lines one after the other

pub lines_told : (cs : List Call) (w : World) → Good w → AllProper cs → (n : ℕ) (b : Bool) → Marks n b w.desk
    → Marks n (spoiled_from b n (lines_of w cs)) (after_all w cs).desk
lines_told [] w g p n b before = before
lines_told (c ∷ cs) w g p n b before =
    lines_told cs (after w c) (goes w g c p.0).keeps p.1 n (told n c (says w c) b) (line_told w g n b before c)

-- ---- no session that was ever answered 10 is committed

-- the next number never falls, but by an accepted format
module _ (w : World) (g : Good w) where
  done_grows : (c : Call) → (is_format c && is_done (when_done w c).answer) ≡ false → w.desk.next ≤ (when_done w c).left.desk.next
  unfolding fresh_desk begun moved closed
  done_grows (format d u s) f = true_false true refl f
  done_grows opens f = omega (arith, g.high)
  done_grows seal f = omega arith
  done_grows begin f = omega arith
  done_grows (next x) f = omega arith
  done_grows (insert x y) f = omega arith
  done_grows (update x q y) f = omega arith
  done_grows (delete x q) f = omega arith
  done_grows (read x q) f = omega arith
  done_grows (commit x) f = omega arith
  done_grows (withdraw x) f = omega arith
  done_grows (sweep first quota) f = omega arith

  marked_next : (x k : ℕ) → w.desk.next ≤ (refused_desk k x w.desk).next
  unfolding refused_desk spoiled
  marked_next x k = by (eqb k 10)
    where
      by : (t : Bool) → w.desk.next ≤ (cond t (spoiled (place_in x w.desk.numbers) w.desk) w.desk).next
      by true = omega arith
      by false = omega arith

  -- a refusal leaves it
  refused_grows : (c : Call) (k : ℕ) → w.desk.next ≤ (when_refused w c k).left.desk.next
  refused_grows (update x q y) k = marked_next x k
  refused_grows (delete x q) k = marked_next x k
  refused_grows (format d u s) k = omega arith
  refused_grows opens k = omega arith
  refused_grows seal k = omega arith
  refused_grows begin k = omega arith
  refused_grows (next x) k = omega arith
  refused_grows (insert x y) k = omega arith
  refused_grows (read x q) k = omega arith
  refused_grows (commit x) k = omega arith
  refused_grows (withdraw x) k = omega arith
  refused_grows (sweep first quota) k = omega arith

  next_grows : (c : Call) → accepted w c ≡ false → w.desk.next ≤ (after w c).desk.next
  next_grows c =
      step_settled w c (λ (t : Response). (is_format c && is_done t.answer) ≡ false → w.desk.next ≤ t.left.desk.next)
      (λ ok f. done_grows c f) (λ k e f. refused_grows c (suc k))

-- session n has lost: its number was handed out, and where it is open it is marked
pub record Lost (n : ℕ) (d : Desk) : Type 0 where
  pub out : n < d.next
  pub marked : Marks n true d

-- a number that was handed out does not begin
no_begin : (w : World) (c : Call) (n : ℕ) → n < w.desk.next → begins n (line c (says w c)) ≡ false
no_begin w c n low = by c
  where
    by : (c : Call) → begins n (line c (says w c)) ≡ false
    by begin =
        step_settled w begin (λ (t : Response). begins n (line begin t.answer) ≡ false) (λ ok. ne_eqb n w.desk.next (λ e. omega (arith, low, e))) (λ k e. refl)
    by (format d u s) = refl
    by opens = refl
    by seal = refl
    by (next x) = refl
    by (insert x y) = refl
    by (update x q y) = refl
    by (delete x q) = refl
    by (read x q) = refl
    by (commit x) = refl
    by (withdraw x) = refl
    by (sweep first quota) = refl

lost_call : (w : World) → Good w → (n : ℕ) → Lost n w.desk → (c : Call) → accepted w c ≡ false → Lost n (after w c).desk
lost_call w g n l c f =
    record {
      out = omega (arith, l.out, next_grows w g c f);
      marked = λ o.
          line_told w g n true l.marked c o
          ∙ ap (λ (t : Bool). not t && (loses n (line c (says w c)) || true)) (no_begin w c n l.out)
          ∙ or-true (loses n (line c (says w c)));
    }

lost_calls : (cs : List Call) (w : World) → Good w → AllProper cs → formats w cs ≡ false → (n : ℕ) → Lost n w.desk → Lost n (after_all w cs).desk
lost_calls [] w g p f n l = l
lost_calls (c ∷ cs) w g p f n l =
    let first = or_false_left (accepted w c) (formats (after w c) cs) f in
    lost_calls cs (after w c) (goes w g c p.0).keeps p.1 (or_false_right (accepted w c) (formats (after w c) cs) f) n (lost_call w g n l c first)

-- where a line answers 10 to a session, it has lost
answered_lost : (w : World) → Good w → (c : Call) (n : ℕ) → replaces n c ≡ true → says w c ≡ refused 10 → Lost n (after w c).desk
answered_lost w g c n mine e =
    let opened = lost_open w c n mine (refused_as w c 10 e) in
    record {
      out = omega (arith, (is_open_open w.desk n g.sound opened).below, next_grows w g c (ap (λ (t : Bool). t && is_done (says w c)) (no_format ((every_replaces n c).0 mine))));
      marked = λ o.
          line_told w g n (is_spoiled n w.desk) (λ z. refl) c o
          ∙ ap (λ (t : Bool). not t && (loses n (line c (says w c)) || is_spoiled n w.desk)) (no_begin w c n (is_open_open w.desk n g.sound opened).below)
          ∙ ap (λ (a : Verdict). (is_ten a && replaces n c) || is_spoiled n w.desk) e
          ∙ ap (λ (t : Bool). t || is_spoiled n w.desk) mine;
    }
  where
    no_format : Replaces n c → is_format c ≡ false
    no_format (inl (r, b, is)) = ap is_format is
    no_format (inr (r, is)) = ap is_format is

-- and its commit is not done
lost_uncommitted : (w : World) (n : ℕ) → Lost n w.desk → is_done (says w (commit n)) ≡ false
unfolding commit_refusal
lost_uncommitted w n l = by (is_done (says w (commit n))) refl
  where
    by : (t : Bool) → is_done (says w (commit n)) ≡ t → t ≡ false
    by true e =
        let a = (accepts_unspoiled w.held.«data» w.held.undo w.held.status w.desk n [] (done_ok w (commit n) e)).0 in
        true_false (is_spoiled n w.desk) (l.marked a.admitted.passed.opened) a.unspoiled
    by false e = refl

pub never : (w : World) → Good w → (n : ℕ) (c : Call) → Proper c → replaces n c ≡ true → says w c ≡ refused 10
    → (cs : List Call) → AllProper cs → formats (after w c) cs ≡ false → is_done (says (after_all (after w c) cs) (commit n)) ≡ false
never w g n c p mine e cs ps f =
    lost_uncommitted (after_all (after w c) cs) n (lost_calls cs (after w c) (goes w g c p).keeps ps f n (answered_lost w g c n mine e))
