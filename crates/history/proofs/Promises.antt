-- The six theorems of demand 3 and the law under them, as specs/Theorems.antt states them, and those of specs/Observers.antt that go by
-- them. Assumes nothing.
use Prim.Native.Nat.{ℕ, ◌≤◌, ◌<◌}
use mathlib.Core.Path.{◌≡◌, refl, ap, sym, subst, ◌∙◌}
use mathlib.Core.Logic.{◌⊎◌, inl, inr, ⊎_elim}
use mathlib.Core.Bool.{Bool, true, false, not, ◌&&◌, ◌||◌, cond, and-true}
use mathlib.Core.Option.{Option, none, some}
use mathlib.Core.List.{List, [], ◌∷◌}
use native.Mathlib.Omega.{arith}
use lib.Dec.{eqb, ltb}
use lib.ListN.{length, get_or}
use borrow.Author.Tests.{eqb-true, ne_eqb, le-ltb}
use Rattle.ground.proofs.Ranges.{lt_or_le, and_true_left, and_true_right}
use Rattle.places.specs.Open.{open_count, place_in, is_open}
use Rattle.desk.specs.Turns.{spoiled, is_spoiled}
use Rattle.sessions.proofs.Changes.{is_open_place, get_d_is_open, open_used}
use Rattle.sessions.proofs.Marks.{spoiled_marked, spoiled_others}
use Rattle.kind.specs.Kind.{rows}
use Rattle.chain.specs.Chain.{chain_of}
use Rattle.rows.specs.Rows.{view_in}
use Rattle.machine.specs.Table.{Body, History, plain_table, open_in, statement_of, committed_before, may_write}
use Rattle.machine.specs.Lines.{Call, opens, seal, begin, next, insert, update, delete, read, commit, withdraw, sweep, is_done, given, is_write, spares, heard, history_from}
use Rattle.machine.specs.Machine.{Machine, Session, find, is_some, reads, first_there, knows, looked_at, writable}
use Rattle.machine.proofs.Basics.{true_false}
use Rattle.machine.proofs.Readings.{reach_both, reading as reading-machine, sees_committed_before}
use Rattle.machine.proofs.Lasts.{counts_is, may_write_lem}
use Rattle.machine.proofs.Numbers.{plain_by_number}
use Rattle.machine.proofs.Opens.{open_is}
use Rattle.machine.proofs.Elsewhere.{plain_spared, open_spared}
use Rattle.seen.specs.Seen.{standings, all_held, row_of, open_sessions}
use Rattle.seen.proofs.Knowing.{session_of, sees_is}
use Rattle.seen.proofs.Desks.{find_open, find_closed}
use Rattle.history.specs.World.{World, says, after, after_all, lines_of}
use Rattle.history.specs.Spoiled.{spoiled_in}
use Rattle.history.specs.Asked.{Proper, AllProper, Run, start, end, lines, history, all_spare, body_read, Matches, standing_in}
use Rattle.history.specs.Theorems.{NeverCommitted, SpoiledOnDesk, SpoiledRefused, Reading, ReadingOutside, NothingElse, Unaltered, SweepAltersNone, KeepingAltersNone, BeginAltersNone, RowCallsAlterNone, OthersAlterNone, Restores, Empties, Spares, NoSix, NoSeventeen, NoneReservedEver, SealedOpens, Count, RefusedLeaves, SeesExactlyWhenCommittedBefore, ByNumber, Formats, Begins, Nexts, Seals, Inserts, Deletes, Updates, Ends, Sweeps}
use Rattle.history.specs.Observers.{OpenOnDesk, StatementOnDesk, BodyOfTable, StandingOfRead, MarksAlone}
use Rattle.history.proofs.Worlds.{seen}
use Rattle.history.proofs.Writes.{view_few}
use Rattle.history.proofs.Answered.{Reads, read_answers, read_outside}
use Rattle.history.proofs.Refused.{leaves, never_6, never_17}
use Rattle.history.proofs.Restored.{restored, inserted_empty, spared_rows}
use Rattle.history.proofs.Counted.{all_calls, looked_few, read_stands}
use Rattle.history.proofs.Reopened.{opens_again}
use Rattle.history.proofs.Progress.{format_done_lem, begin_done_lem, next_is, seal_done_lem, insert_is, delete_is, update_is, commit_is, withdraw_done_lem, sweep_done_lem, insert_18, update_18, delete_18, next_18, commit_18}
use Rattle.history.proofs.Spoiled.{lines_told, never}
use Rattle.history.proofs.Runs.{goes, Stands, stands_call, stands_calls, stands_start, stands_end}

-- ---- open sessions

-- who is open by the history alone is open on the desk
module _ (w : World) (h : History) (s : Stands w h) (n : ℕ) where
  pub opened_is : is_open n w.desk.numbers ≡ open_in h n
  opened_is = go (is_open n w.desk.numbers) refl
    where
      go : (b : Bool) → is_open n w.desk.numbers ≡ b → is_open n w.desk.numbers ≡ open_in h n
      go true e = e ∙ sym (ap is_some (find_open w.desk s.good.sound s.good.long n e)) ∙ open_is s.reach n
      go false e = e ∙ sym (ap is_some (find_closed w.desk s.good.sound s.good.long n e)) ∙ open_is s.reach n

  module _ (o : open_in h n ≡ true) where
    on_desk_lem : is_open n w.desk.numbers ≡ true
    on_desk_lem = opened_is ∙ o

    -- its session on the machine
    session : Session
    session = session_of (view_in w.desk n)

    session_is : find n (open_sessions w.desk) ≡ some session
    unfolding session
    session_is = find_open w.desk s.good.sound s.good.long n on_desk_lem

    -- its statement by the history
    pub statement_is : (view_in w.desk n).statement ≡ statement_of h n
    unfolding session
    statement_is = ((reach_both s.reach).0.opened n session session_is).in_step

    -- what it may write there is what the history says
    may_is : (r : ℕ) → writable (standings w.held.status) (some (session_of (view_in w.desk n))) (row_of w.held.«data» w.held.undo r) ≡ may_write h n r
    unfolding session
    may_is r = may_write_lem s.reach r n session session_is

    -- what it reads there is the plain table
    plain_is : (r : ℕ) → reads (seen w) session r ≡ plain_table h n r
    plain_is r = reading-machine s.reach n r session session_is

    -- ---- 1: reading

    row_read : (r : ℕ) → r < rows w.held.«data» → Matches (plain_table h n r) (says w (read n r))
    unfolding session
    row_read r inside = go (reads (seen w) session r) (plain_table h n r) (plain_is r) (read_answers w s.good n r on_desk_lem inside)
      where
        k : ℕ
        k = looked_at (knows (seen w) session) (row_of w.held.«data» w.held.undo r)

        go : (a b : Option Body) → a ≡ b → Reads a k (says w (read n r)) → Matches b (says w (read n r))
        go a b e z = subst (λ (o : Option Body). Matches o (says w (read n r))) e (by a z)
          where
            by : (a : Option Body) → Reads a k (says w (read n r)) → Matches a (says w (read n r))
            by none z = z
            by (some y) z = (k, z)

    -- and so of any number: a row that the area has not holds nothing, and is refused under 5
    outside_plain : (r : ℕ) → rows w.held.«data» ≤ r → plain_table h n r ≡ none
    outside_plain r out =
        sym (plain_is r)
        ∙ ap (λ (b : Bool). first_there (knows (seen w) session) (cond b (all_held w.held.«data» w.held.undo (chain_of w.held.«data» w.held.undo r).versions) []))
        (le-ltb r (rows w.held.«data») out)

    body_is : (r : ℕ) → body_read (says w (read n r)) ≡ plain_table h n r
    body_is r = ⊎_elim (λ (i : r < rows w.held.«data»). inner (plain_table h n r) (row_read r i)) (λ (o : rows w.held.«data» ≤ r). outer o) (lt_or_le r (rows w.held.«data»))
      where
        inner : (a : Option Body) → Matches a (says w (read n r)) → body_read (says w (read n r)) ≡ a
        inner none e = ap body_read e
        inner (some y) e = ap body_read e.1

        outer : rows w.held.«data» ≤ r → body_read (says w (read n r)) ≡ plain_table h n r
        outer out = ap body_read (read_outside w s.good n r on_desk_lem out) ∙ sym (outside_plain r out)

pub reading : Reading
reading x n o r inside = row_read (end x) (history x) (stands_end x) n o r inside

pub reading_outside : ReadingOutside
reading_outside x n o r out = (
  outside_plain (end x) (history x) (stands_end x) n o r out,
  read_outside (end x) (stands_end x).good n r (on_desk_lem (end x) (history x) (stands_end x) n o) out,
)

pub sees_exactly_when_committed_before : SeesExactlyWhenCommittedBefore
unfolding session
sees_exactly_when_committed_before x n o y =
    sym (sees_is (view_in (end x).desk n) (end x).held.status y (view_few (end x).desk n))
    ∙ sees_committed_before (stands_end x).reach n (session (end x) (history x) (stands_end x) n o) (session_is (end x) (history x) (stands_end x) n o) y

pub by_number : ByNumber
by_number x n r = plain_by_number (stands_end x).reach n r

-- where nobody is open by the history, no place of the desk is used
closed : (w : World) (h : History) → Stands w h → ((n : ℕ) → open_in h n ≡ false) → open_count w.desk.numbers ≡ 0
closed w h s nobody = ⊎_elim (λ (l : 0 < open_count w.desk.numbers). absurd (first l)) (λ (l : open_count w.desk.numbers ≤ 0). omega arith) (lt_or_le 0 (open_count w.desk.numbers))
  where
    first : 0 < open_count w.desk.numbers → ⊥
    first l =
        let n : ℕ = get_or w.desk.numbers 0 0 in
        true_false (open_in h n)
        (sym (opened_is w h s n) ∙ get_d_is_open w.desk.numbers 0 (omega arith) (open_used w.desk s.good.sound 0 l)) (nobody n)

-- ---- 2: what does not alter a reading

spared : (cs : List Call) (w : World) (h : History) → Stands w h → AllProper cs → (n : ℕ) → open_in h n ≡ true → all_spare n cs ≡ true
    → (open_in (history_from h (lines_of w cs)) n ≡ true) × ((r : ℕ) → plain_table (history_from h (lines_of w cs)) n r ≡ plain_table h n r)
spared [] w h s p n o a = (o, λ r. refl)
spared (c ∷ cs) w h s p n o a =
    let first : spares n c ≡ true = and_true_left (spares n c) (all_spare n cs) a in
    let later = spared cs (after w c) (heard h c (says w c)) (stands_call w h s c p.0) p.1 n (open_spared h n c (says w c) first o)
    (and_true_right (spares n c) (all_spare n cs) a) in
    (later.0, λ r. later.1 r ∙ plain_spared s.reach n o c (says w c) (seen (after w c)) ((goes w s.good c p.0).did h s.reach) first r)

pub nothing_else : NothingElse
nothing_else x n o cs p a r =
    let s = stands_end x in
    let t = spared cs (end x) (history x) s p n o a in
    body_is (after_all (end x) cs) (history_from (history x) (lines_of (end x) cs)) (stands_calls cs (end x) (history x) s p) n t.0 r
    ∙ t.1 r
    ∙ sym (body_is (end x) (history x) s n o r)

-- one call that leaves S where it is
one_call : (x : Run) (n : ℕ) → open_in (history x) n ≡ true → (c : Call) → Proper c → spares n c ≡ true → Unaltered x n c
one_call x n o c p e r = nothing_else x n o (c ∷ []) (p, tt) (rw e) r

pub sweep_alters_none : SweepAltersNone
sweep_alters_none x n o first quota = one_call x n o (sweep first quota) tt refl

pub keeping_alters_none : KeepingAltersNone
keeping_alters_none x n o = (one_call x n o seal tt refl, one_call x n o opens tt refl)

pub begin_alters_none : BeginAltersNone
begin_alters_none x n o = one_call x n o begin tt refl

pub row_calls_alter_none : RowCallsAlterNone
row_calls_alter_none x n o m q b y =
    (one_call x n o (insert m b) y refl, one_call x n o (update m q b) y refl, one_call x n o (delete m q) tt refl, one_call x n o (read m q) tt refl)

pub others_alter_none : OthersAlterNone
others_alter_none x n o m other =
    let e : not (eqb n m) ≡ true = rw (ne_eqb n m (λ z. other (sym z))) in
    (one_call x n o (next m) tt e, one_call x n o (commit m) tt e, one_call x n o (withdraw m) tt e)

-- ---- 3: withdrawal

pub restores : Restores
restores x n r y =
    restored (end x) (history x) (stands_end x) n r y.first y.write y.proper y.calls y.all_proper y.unformatted y.accepted y.writes y.withdrawn

pub empties : Empties
empties x n r y b e = restores x n r y ∙ before y.write e y.proper y.accepted y.writes
  where
    before : (c : Call) → c ≡ insert n b → Proper c → is_done (says (end x) c) ≡ true → is_write n r c (given (says (end x) c)) ≡ true
        → standing_in (end x) r ≡ none
    before c e =
        subst (λ (c : Call). Proper c → is_done (says (end x) c) ≡ true → is_write n r c (given (says (end x) c)) ≡ true → standing_in (end x) r ≡ none) (sym e)
        (inserted_empty (end x) (history x) (stands_end x) n r b)

pub spares_others : Spares
spares_others x n r before t = spared_rows (end x) (history x) (stands_end x) n r before t

-- ---- 4: no 6, and no 3 behind a seal

pub no_six : NoSix
no_six x c e = never_6 (end x) (stands_end x).good c e

pub no_seventeen : NoSeventeen
no_seventeen x c e = never_17 (end x) (stands_end x).good c e

pub none_reserved : NoneReservedEver
none_reserved x = (stands_end x).good.stated

pub sealed_opens : SealedOpens
sealed_opens x e = opens_again (end x) (history x) (stands_end x) e

-- ---- 5: the count

pub count : Count
count x n r k j b e =
    let s = stands_start x in
    let none : length (row_of (start x).held.«data» (start x).held.undo r) ≡ 0 = ap (λ (m : Machine). length (m.rows r)) s.1 in
    omega (
      arith,
      looked_few (end x) (stands_end x).good n r k j b e,
      all_calls r x.calls (start x) [] s.0 x.proper 0 (omega (arith, none)),
    )

-- ---- 6: refused calls

pub refused_leaves : RefusedLeaves
refused_leaves w c n e = leaves w c n e

-- ---- sessions that lost a conflict

pub never_committed : NeverCommitted
never_committed x n c p mine e cs ps f = never (end x) (stands_end x).good n c p mine e cs ps f

-- nobody is open where the lines begin
pub spoiled_on_desk : SpoiledOnDesk
spoiled_on_desk x n o =
    let s = (stands_start x).0 in
    sym (lines_told x.calls (start x) s.good x.proper n false
    (λ z. true_false (is_open n (start x).desk.numbers) z (opened_is (start x) [] s n)) (on_desk_lem (end x) (history x) (stands_end x) n o))

pub spoiled_refused : SpoiledRefused
spoiled_refused x n o lost r b =
    let g = (stands_end x).good in
    let opened = on_desk_lem (end x) (history x) (stands_end x) n o in
    let marked : is_spoiled n (end x).desk ≡ true = sym (spoiled_on_desk x n o) ∙ lost in
    (insert_18 (end x) g n opened marked b, update_18 (end x) g n opened marked r b, delete_18 (end x) g n opened marked r, next_18 (end x) g n opened marked, commit_18 (end x) g n opened marked)

-- ---- no needless refusal

pub formats : Formats
formats w d u s l = format_done_lem w d u s l

pub begins : Begins
begins x few left = begin_done_lem (end x) (stands_end x).good few left

-- what is done unless the mark is set is done unless the lines say so
unless : (x : Run) (n : ℕ) → open_in (history x) n ≡ true → (done b : Bool) → done ≡ (not (is_spoiled n (end x).desk) && b)
    → done ≡ (not (spoiled_in (lines x) n) && b)
unless x n o done b e = e ∙ ap (λ (t : Bool). not t && b) (sym (spoiled_on_desk x n o))

pub nexts : Nexts
nexts x n o few =
    let s = stands_end x in
    unless x n o (is_done (says (end x) (next n))) true
    (next_is (end x) s.good n (on_desk_lem (end x) (history x) s n o) (omega (arith, few, statement_is (end x) (history x) s n o)))
    ∙ and-true (not (spoiled_in (lines x) n))

pub seals : Seals
seals x nobody = seal_done_lem (end x) (stands_end x).good (closed (end x) (history x) (stands_end x) nobody)

pub inserts : Inserts
inserts x n o b long r inside free =
    let s = stands_end x in
    unless x n o (is_done (says (end x) (insert n b))) true (insert_is (end x) s.good n (on_desk_lem (end x) (history x) s n o) b long r inside free)
    ∙ and-true (not (spoiled_in (lines x) n))

pub deletes : Deletes
deletes x n o r =
    let s = stands_end x in
    unless x n o (is_done (says (end x) (delete n r))) (may_write (history x) n r)
    (delete_is (end x) s.good n (on_desk_lem (end x) (history x) s n o) r
    ∙ ap (λ (t : Bool). not (is_spoiled n (end x).desk) && t) (may_is (end x) (history x) s n o r))

pub updates : Updates
updates x n o b long e inside free r =
    let s = stands_end x in
    unless x n o (is_done (says (end x) (update n r b))) (may_write (history x) n r)
    (update_is (end x) s.good n (on_desk_lem (end x) (history x) s n o) r b long e inside free
    ∙ ap (λ (t : Bool). not (is_spoiled n (end x).desk) && t) (may_is (end x) (history x) s n o r))

pub ends : Ends
ends x n o =
    let s = stands_end x in (
      unless x n o (is_done (says (end x) (commit n))) true (commit_is (end x) s.good n (on_desk_lem (end x) (history x) s n o)) ∙ and-true (not (spoiled_in (lines x) n)),
      withdraw_done_lem (end x) s.good n (on_desk_lem (end x) (history x) s n o),
    )

pub sweeps : Sweeps
sweeps x first quota few = sweep_done_lem (end x) (stands_end x).good first quota few

-- ---- what the words mean

pub open_on_desk : OpenOnDesk
open_on_desk x n = sym (opened_is (end x) (history x) (stands_end x) n)

pub statement_on_desk : StatementOnDesk
statement_on_desk x n o = sym (statement_is (end x) (history x) (stands_end x) n o)

pub body_of_table : BodyOfTable
body_of_table x n o r = body_is (end x) (history x) (stands_end x) n o r

pub standing_of_read : StandingOfRead
unfolding session
standing_of_read x n r j b e =
    let s = stands_end x in
    let (opened, (z, is, body, counted)) = read_stands (end x) s.good n r j b e in
    let o : open_in (history x) n ≡ true = sym (opened_is (end x) (history x) s n) ∙ opened in
    let seen_by = counts_is s.reach n (session (end x) (history x) s n o) (session_is (end x) (history x) s n o) z.creator z.creating in
    (z, is, body, who z.creator (committed_before (history x) z.creator n) (ltb z.creating (statement_of (history x) n)) (sym seen_by ∙ counted))
  where
    who : (y : ℕ) (a c : Bool) → (a || (eqb y n && c)) ≡ true → (y ≡ n) ⊎ (a ≡ true)
    who y true c e = inr refl
    who y false c e = inl (eqb-true y n (and_true_left (eqb y n) c e))

pub marks_alone : MarksAlone
unfolding spoiled
marks_alone x n o =
    let s = stands_end x in
    let opened = on_desk_lem (end x) (history x) s n o in (
      refl,
      refl,
      refl,
      refl,
      refl,
      spoiled_marked (end x).desk s.good.long (place_in n (end x).desk.numbers) (is_open_place n (end x).desk.numbers opened),
      λ m p other. spoiled_others (end x).desk n m (on_desk_lem (end x) (history x) s m p) other,
    )
