-- What withdrawal gives back, seen in the slots: the machine's law of withdrawal, and what stands first in a row. Assumes nothing.
use Prim.Native.Nat.{ℕ}
use mathlib.Core.Path.{◌≡◌, refl, ap, sym, subst, ◌∙◌}
use mathlib.Core.Bool.{Bool, true, false}
use mathlib.Core.Option.{Option, none, some}
use mathlib.Core.List.{List, [], ◌∷◌}
use lib.Dec.{eqb, ltb}
use borrow.Author.Tests.{eqb-true, eqb-false, ltb-true}
use Rattle.ground.proofs.Ranges.{and_true_right}
use Rattle.kind.specs.Kind.{rows}
use Rattle.records.specs.Slot.{slot_at, body_at}
use Rattle.chain.proofs.Bodies.{slot_body}
use Rattle.machine.specs.Table.{Body, History, has_written}
use Rattle.machine.specs.Lines.{Call, Verdict, refused, done, is_done, given, is_write, heard, history_from, insert, withdraw}
use Rattle.machine.specs.Machine.{Machine, Version, find, is_some, is_nil, withdraw as Withdraw}
use Rattle.machine.specs.Runs.{From, First, first_of, add}
use Rattle.machine.proofs.Basics.{true_false}
use Rattle.machine.proofs.Desks.{found_of}
use Rattle.machine.proofs.Backs.{withdrawn_back, withdrawn_else}
use Rattle.machine.proofs.Follows.{Did, Took}
use Rattle.machine.proofs.Dids.{Wrote, did_write}
use Rattle.seen.specs.Seen.{row_of}
use Rattle.history.specs.World.{World, says, after, after_all, lines_of}
use Rattle.history.specs.Asked.{Proper, AllProper, no_format, Standing, is_empty, standing_in}
use Rattle.history.proofs.Worlds.{seen}
use Rattle.seen.proofs.Rows.{row_empty, row_used}
use Rattle.history.proofs.Runs.{goes, Stands, stands_call, stands_calls, leads_calls}

-- ---- what stands in a row is its first version

abbrev pub as_standing : Option First → Option Standing
as_standing none = none
as_standing (some f) = some (record { body = f.body; creator = f.creator; creating = f.creating; expirer = f.expirer })

pub standing_is : (w : World) (r : ℕ) → standing_in w r ≡ as_standing (first_of (row_of w.held.«data» w.held.undo r))
standing_is w r = go (ltb r (rows d)) refl (is_empty w r) refl
  where
    d : List ℕ
    d = w.held.«data»

    u : List ℕ
    u = w.held.undo

    -- the slot with a body
    slot : Body → Option Standing
    slot y = some (record { body = y; creator = (slot_at r d).create; creating = (slot_at r d).cmd; expirer = (slot_at r d).expire })

    go : (b : Bool) → ltb r (rows d) ≡ b → (e : Bool) → is_empty w r ≡ e → standing_in w r ≡ as_standing (first_of (row_of d u r))
    go false i e f = rw i
    go true i true f =
        let lhs : standing_in w r ≡ none = rw (i, f) in
        lhs ∙ ap (λ (vs : List Version). as_standing (first_of vs)) (sym (row_empty d u r (eqb-true (slot_at r d).create 0 f)))
    go true i false f =
        let lhs : standing_in w r ≡ slot (body_at r d) = rw (i, f) in
        lhs
        ∙ ap slot (sym (slot_body d u r (ltb-true r (rows d) i)))
        ∙ ap (λ (vs : List Version). as_standing (first_of vs)) (sym (row_used d u r (ltb-true r (rows d) i) (eqb-false (slot_at r d).create 0 f)))

-- ---- withdrawal

took : (w w' : World) (n : ℕ) (a : Verdict) → is_done a ≡ true → Did (seen w) (withdraw n) a (seen w') → Took (seen w) (Withdraw n) (seen w')
took w w' n (refused k) e d = true_false false e refl
took w w' n (done a b y) e d = d

module _ (w : World) (h : History) (s : Stands w h) (n r : ℕ) (before : has_written h n r ≡ false) (c : Call) (p : Proper c) where
  -- the world after the write, after the other calls, and after the withdrawal
  module _ (cs : List Call) (ps : AllProper cs) (f : no_format cs ≡ true) where
    abbrev wrote : World
    wrote = after w c

    abbrev later : World
    later = after_all wrote cs

    first_back : (a : Verdict) → is_done a ≡ true → says w c ≡ a → is_write n r c (given a) ≡ true → Did (seen w) c a (seen wrote)
        → is_done (says later (withdraw n)) ≡ true
        → first_of ((seen (after later (withdraw n))).rows r) ≡ first_of ((seen w).rows r)
    first_back (refused k) e q wr d t = true_false false e refl
    first_back (done a b z) e q wr d t =
        let st : Stands wrote (heard h c (says w c)) = stands_call w h s c p in
        let step : Wrote n r (seen w) c a (seen wrote) = did_write n r (seen w) c a (seen wrote) wr d in
        let on : From (seen wrote) (heard h c (says w c)) (seen later) (history_from (heard h c (says w c)) (lines_of wrote cs)) = leads_calls cs wrote (heard h c (says w c)) st ps f in
        let st₂ = stands_calls cs wrote (heard h c (says w c)) st ps in
        let y = took later (after later (withdraw n)) n (says later (withdraw n)) t ((goes later st₂.good (withdraw n) tt).did _ st₂.reach) in
        let (o, found) = found_of n (seen later).desk (find n (seen later).desk) refl y.0 in
        ap (λ (m : Machine). first_of (m.rows r)) (sym y.1)
        ∙ withdrawn_back s.reach n r before step.step step.writes step.accepts
        (subst (λ (m : Machine). From m (add (seen w) step.step h) (seen later) (history_from (heard h c (says w c)) (lines_of wrote cs))) (sym step.leaves)
        (subst (λ (k : History). From (seen wrote) k (seen later) (history_from (heard h c (says w c)) (lines_of wrote cs))) (ap (heard h c) q ∙ sym (step.tells h)) on))
        o
        found

    pub restored : is_done (says w c) ≡ true → is_write n r c (given (says w c)) ≡ true → is_done (says later (withdraw n)) ≡ true
        → standing_in (after later (withdraw n)) r ≡ standing_in w r
    restored e wr t =
        standing_is (after later (withdraw n)) r
        ∙ ap as_standing (first_back (says w c) e refl wr ((goes w s.good c p).did h s.reach) t)
        ∙ sym (standing_is w r)

-- ---- a row that S did not write

pub spared_rows : (w : World) (h : History) → Stands w h → (n r : ℕ) → has_written h n r ≡ false → is_done (says w (withdraw n)) ≡ true
    → standing_in (after w (withdraw n)) r ≡ standing_in w r
spared_rows w h s n r before t =
    let y = took w (after w (withdraw n)) n (says w (withdraw n)) t ((goes w s.good (withdraw n) tt).did h s.reach) in
    let (o, found) = found_of n (seen w).desk (find n (seen w).desk) refl y.0 in
    standing_is (after w (withdraw n)) r
    ∙ ap (λ (vs : List Version). as_standing (first_of vs)) (ap (λ (m : Machine). m.rows r) (sym y.1) ∙ withdrawn_else s.reach n r before o found)
    ∙ sym (standing_is w r)

-- ---- a row that an insert took was empty

nil_is : (vs : List Version) → is_nil vs ≡ true → vs ≡ []
nil_is [] e = refl
nil_is (v ∷ vs) e = true_false false e refl

pub inserted_empty : (w : World) (h : History) → Stands w h → (n r : ℕ) (b : Body) → Proper (insert n b) → is_done (says w (insert n b)) ≡ true
    → is_write n r (insert n b) (given (says w (insert n b))) ≡ true
    → standing_in w r ≡ none
inserted_empty w h s n r b p e wr = standing_is w r ∙ ap (λ (vs : List Version). as_standing (first_of vs)) (go (says w (insert n b)) e wr ((goes w s.good (insert n b) p).did h s.reach))
  where
    m : Machine
    m = seen w

    go : (a : Verdict) → is_done a ≡ true → is_write n r (insert n b) (given a) ≡ true → Did (seen w) (insert n b) a (seen (after w (insert n b))) → m.rows r ≡ []
    go (refused k) e wr d = true_false false e refl
    go (done a j y) e wr d =
        let at : a ≡ r = eqb-true a r (and_true_right (eqb n n) (eqb a r) wr) in
        subst (λ (q : ℕ). m.rows q ≡ []) at (nil_is (m.rows a) (and_true_right (is_some (find n m.desk)) (is_nil (m.rows a)) d.0))
