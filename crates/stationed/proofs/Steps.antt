-- Each call of the station's library is a step of the world behind what is held: it leaves what its call leaves there, tells what that answers,
-- and keeps as many words. Assumes nothing.
use Prim.Native.Nat.{ℕ, zero, suc, ◌+◌}
use native.Mathlib.Omega.{arith}
use mathlib.Core.Path.{◌≡◌, refl, sym, ap, subst, ◌∙◌}
use mathlib.Core.Bool.{Bool, true, false, cond}
use mathlib.Core.List.{List, [], ◌∷◌}
use lib.ListN.{length, drop, length-drop}
use lib.Seq.{length-take-le}
use lib.Dec.{eqb, ltb}
use Rattle.ground.specs.Refuse.{first_of, settle, kept}
use Rattle.ground.proofs.Refusals.{kept_new, kept_old}
use Rattle.places.specs.Open.{place_in}
use Rattle.desk.specs.declared.Desk.{Desk}
use Rattle.desk.specs.Desk.{first_number, first_statement}
use Rattle.desk.specs.Turns.{closed, spoiled, is_spoiled}
use Rattle.sessions.proofs.Changes.{Long, is_open_open}
use Rattle.sessions.proofs.Marks.{spoiled_long}
use Rattle.seen.proofs.Desks.{begun_long, moved_long, closed_long, fresh_long}
use Rattle.columns.specs.Limits.{sessions, places}
use Rattle.words.specs.Words.{numbers_at, statements_at, marks_at, lists_at, all_words, desk_in, words_of}
use Rattle.words.proofs.Laws.{words_long, desk_back}
use Rattle.kind.specs.Kind.{rows, entries}
use Rattle.kind.specs.Areas.{Areas, areas}
use Rattle.records.specs.Slot.{slot_place, body_at}
use Rattle.records.specs.Entry.{entry_place, copy_body_at}
use Rattle.chain.specs.declared.Place.{Place}
use Rattle.chain.specs.declared.Place.TheVariants.{Nowhere, Data, Undo}
use Rattle.chain.specs.Walk.{body_of}
use Rattle.admit.proofs.Admissions.{asks, accepts}
use Rattle.keep.specs.Whole.{highest}
use Rattle.keep.specs.Keep.{format_refusal, open_refusal}
use Rattle.turns.specs.Turns.{begin_refusal, next_refusal, commit_refusal}
use Rattle.rows.specs.Rows.{refused_desk}
use Rattle.rows.proofs.Promises.{update_desk, delete_desk}
use Rattle.undoing.specs.Undoing.{some_broken, withdraw_refusal}
use Rattle.calls.specs.Calls.{Left, format_leaves, open_leaves, begin_leaves, next_leaves, update_leaves, delete_leaves, read_leaves, commit_leaves, withdraw_leaves}
use Rattle.calls.proofs.Settled.{settles, format_settles, open_settles, begin_settles, next_settles, commit_settles, withdraw_settles}
use Rattle.machine.specs.Lines.{Call, format, opens, seal, begin, next, insert, update, delete, read, commit, withdraw, sweep}
use Rattle.history.specs.World.{world, answered, world_after, step, says, after}
use Rattle.station.specs.Station.{lies_of, format_call, open_call, seal_call, begin_call, next_call, insert_call, update_call, delete_call, read_call, commit_call, withdraw_call, sweep_call}
use Rattle.station.proofs.Laws.{lies_body}
use Rattle.stationed.specs.Stationed.{Held, onward, bytes_at, told, world_of, Worded}

-- ---- where a body lies

-- the 32 bytes at the place that is reported are the body, and none where there is no place
pub lies_bytes : (place : Place) (a : Areas)
    → bytes_at (lies_of place a.«data» a.undo).0 (lies_of place a.«data» a.undo).1 a ≡ body_of place a.«data» a.undo
unfolding lies_of body_of
lies_bytes Nowhere a = refl
lies_bytes (Data r) a = by (ltb r (rows a.«data»)) refl
  where
    by : (t : Bool) → ltb r (rows a.«data») ≡ t
        → bytes_at (cond {A = ℕ × ℕ} t (1, slot_place r + 32) (0, 0)).0 (cond {A = ℕ × ℕ} t (1, slot_place r + 32) (0, 0)).1 a
        ≡ cond t (body_at r a.«data») []
    by true e =
        ((lies_body (Data r) a.«data» a.undo (slot_place r + 32)).0 (ap (λ (t : Bool). cond {A = ℕ × ℕ} t (1, slot_place r + 32) (0, 0)) e)).0
        ∙ ap (λ (t : Bool). cond t (body_at r a.«data») []) e
    by false e = refl
lies_bytes (Undo r) a = by (ltb r (entries a.undo)) refl
  where
    by : (t : Bool) → ltb r (entries a.undo) ≡ t
        → bytes_at (cond {A = ℕ × ℕ} t (2, entry_place r + 48) (0, 0)).0 (cond {A = ℕ × ℕ} t (2, entry_place r + 48) (0, 0)).1 a
        ≡ cond t (copy_body_at r a.undo) []
    by true e =
        ((lies_body (Undo r) a.«data» a.undo (entry_place r + 48)).1 (ap (λ (t : Bool). cond {A = ℕ × ℕ} t (2, entry_place r + 48) (0, 0)) e)).0
        ∙ ap (λ (t : Bool). cond t (copy_body_at r a.undo) []) e
    by false e = refl

-- ---- the desk's words

-- as many words say columns of their lengths
said_long : (w : List ℕ) → length w ≡ all_words → Long (desk_in w)
unfolding desk_in
said_long w long =
    record {
      numbers = length-take-le sessions (drop numbers_at w) (omega (arith, long, length-drop numbers_at w));
      statements = length-take-le sessions (drop statements_at w) (omega (arith, long, length-drop statements_at w));
      marks = length-take-le sessions (drop marks_at w) (omega (arith, long, length-drop marks_at w));
      lists = length-take-le places (drop lists_at w) (omega (arith, long, length-drop lists_at w));
    }

module _ (new : Desk) (w : List ℕ) (l : Long new) where
  -- what the words say where the new desk is written if t, and how many they are
  desk_put : (t : Bool) → desk_in (cond t (words_of new) w) ≡ cond t new (desk_in w)
  desk_put true = desk_back new l.numbers l.statements l.marks l.lists
  desk_put false = refl

  words_put : (t : Bool) → length w ≡ all_words → length (cond t (words_of new) w) ≡ all_words
  words_put true long = words_long new l.numbers l.statements l.marks l.lists
  words_put false long = long

kept_same : {A : Type 0} (n : ℕ) (a : A) → kept n a a ≡ a
kept_same n a = by (eqb n 0)
  where
    by : (t : Bool) → cond t a a ≡ a
    by true = refl
    by false = refl

settle_kept : {A : Type 0} (n : ℕ) (a b : A) → settle n a (λ (m : ℕ). b) ≡ kept n a b
settle_kept zero a b = refl
settle_kept (suc n) a b = kept_old (suc n) a b (λ e. omega (arith, e))

-- ---- the desks that the calls leave: of their lengths, and the old one where the words are not written

-- they are written if t
record Hands (t : Bool) (l : Left) (old : Desk) : Type 0 where
  pub long : Long l.desk
  pub same : cond t l.desk old ≡ l.desk

-- the words are written where the call is done
abbrev Keeps : Left → Desk → Type 0
Keeps l old = Hands (eqb l.code 0) l old

-- and of update and delete where it is refused by 10 ("02, T-07")
abbrev Marks : Left → Desk → Type 0
Marks l old = Hands (eqb l.code 10) l old

module _ (a : Areas) (d : Desk) (l : Long d) where
  -- of a call that settles
  hands : (n : ℕ) (done : Left) (left : Left) → left ≡ settles a d n done → done.code ≡ 0 → (n ≡ 0 → Long done.desk) → Keeps left d
  hands n done left e z long = subst (λ (k : Left). Keeps k d) (sym e) (by n refl)
    where
      by : (m : ℕ) → n ≡ m → Keeps (settles a d m done) d
      by zero q = record { long = long q; same = sym (kept_new done.code done.desk d z) }
      by (suc m) q = record { long = l; same = kept_same (suc m) d }

  hands_format : Keeps (format_leaves a d) d
  hands_format = hands (format_refusal a) _ _ (format_settles a d) refl (λ e. fresh_long first_number)

  hands_open : Keeps (open_leaves a d) d
  hands_open = hands (open_refusal a) _ _ (open_settles a d) refl (λ e. fresh_long (highest a.status + 1))

  hands_begin : Keeps (begin_leaves a d) d
  hands_begin = hands (begin_refusal a d) _ _ (begin_settles a d) refl (λ e. begun_long d l)

  hands_next : (x : ℕ) → Keeps (next_leaves a d x) d
  hands_next x = hands (next_refusal a d x) _ _ (next_settles a d x) refl (λ e. moved_long d (place_in x d.numbers) l)

  closes : (x : ℕ) (rest : List (Bool × ℕ)) → first_of (asks a.«data» a.undo a.status d x rest) ≡ 0 → Long (closed (place_in x d.numbers) d)
  closes x rest e =
      let p = (accepts a.«data» a.undo a.status d x rest e).0.passed in
      closed_long d (place_in x d.numbers) (is_open_open d x p.sound p.opened).place l

  hands_commit : (x : ℕ) → Keeps (commit_leaves a d x) d
  unfolding commit_refusal
  hands_commit x = hands (commit_refusal a d x) _ _ (commit_settles a d x) refl (closes x ((is_spoiled x d, 18) ∷ []))

  hands_withdraw : (x : ℕ) → Keeps (withdraw_leaves a d x) d
  unfolding withdraw_refusal
  hands_withdraw x =
      hands (withdraw_refusal a d x) _ _ (withdraw_settles a d x) refl (closes x ((some_broken x first_statement a.«data» a.undo, 6) ∷ []))

  -- of a call that marks session x
  marks : (left : Left) (x : ℕ) → left.desk ≡ refused_desk left.code x d → Marks left d
  unfolding refused_desk
  marks left x e = by (eqb left.code 10) e
    where
      by : (t : Bool) → left.desk ≡ cond t (spoiled (place_in x d.numbers) d) d → Hands t left d
      by true e = record { long = subst Long (sym e) (spoiled_long d (place_in x d.numbers) l); same = refl }
      by false e = record { long = subst Long (sym e) l; same = sym e }

  hands_update : (x q : ℕ) (y : List ℕ) → Marks (update_leaves a d x q y) d
  hands_update x q y = marks (update_leaves a d x q y) x (update_desk a d x q y)

  hands_delete : (x q : ℕ) → Marks (delete_leaves a d x q) d
  hands_delete x q = marks (delete_leaves a d x q) x (delete_desk a d x q)

-- ---- one call

-- a call leaves the world that its call leaves, tells what that answers, and keeps as many words
pub record Steps (h : Held) (c : Call) : Type 0 where
  pub leaves : world_of (onward h c) ≡ after (world_of h) c
  pub tells : told h c ≡ says (world_of h) c
  pub worded : Worded (onward h c)

-- a call that is lent the words to write, and writes them if t
module _ (w : List ℕ) (long : length w ≡ all_words) (l : Left) {t : Bool} (hands : Hands t l (desk_in w)) where
  desk_on : world l.lent (desk_in (cond t (words_of l.desk) w)) ≡ world_after l
  desk_on = ap (world l.lent) (desk_put l.desk w hands.long t ∙ hands.same)

  words_on : length (cond t (words_of l.desk) w) ≡ all_words
  words_on = words_put l.desk w hands.long t long

-- and is a format
module _ (w : List ℕ) (l : Left) (hands : Keeps l (desk_in w)) where
  format_on : (b : Areas)
      → world (kept l.code l.lent b) (desk_in (kept l.code (words_of l.desk) w)) ≡ settle l.code (world_after l) (λ (n : ℕ). world b (desk_in w))
  format_on b =
      ap (world (kept l.code l.lent b)) (desk_put l.desk w hands.long (eqb l.code 0))
      ∙ two (eqb l.code 0)
      ∙ sym (settle_kept l.code (world_after l) (world b (desk_in w)))
    where
      two : (t : Bool) → world (cond t l.lent b) (cond t l.desk (desk_in w)) ≡ cond t (world_after l) (world b (desk_in w))
      two true = refl
      two false = refl

module _ (h : Held) (long : Worded h) where
  abbrev d : Desk
  d = desk_in h.words

  l : Long d
  l = said_long h.words long

  pub call_step : (c : Call) → Steps h c
  unfolding step body_of format_call open_call seal_call begin_call next_call insert_call update_call delete_call read_call commit_call withdraw_call sweep_call
  call_step (format da un st) =
      let hands = hands_format (areas da un st) d l in
      record { leaves = format_on h.words _ hands h.lent; tells = refl; worded = words_on h.words long _ hands }
  call_step opens =
      let hands = hands_open h.lent d l in
      record { leaves = desk_on h.words long _ hands; tells = refl; worded = words_on h.words long _ hands }
  call_step seal = record { leaves = refl; tells = refl; worded = long }
  call_step begin =
      let hands = hands_begin h.lent d l in
      record { leaves = desk_on h.words long _ hands; tells = refl; worded = words_on h.words long _ hands }
  call_step (next x) =
      let hands = hands_next h.lent d l x in
      record { leaves = desk_on h.words long _ hands; tells = refl; worded = words_on h.words long _ hands }
  call_step (insert x y) = record { leaves = refl; tells = refl; worded = long }
  call_step (update x q y) =
      let hands = hands_update h.lent d l x q y in
      record { leaves = desk_on h.words long _ hands; tells = refl; worded = words_on h.words long _ hands }
  call_step (delete x q) =
      let hands = hands_delete h.lent d l x q in
      record { leaves = desk_on h.words long _ hands; tells = refl; worded = words_on h.words long _ hands }
  call_step (read x q) =
      let r = read_leaves h.lent d x q in
      record { leaves = refl; tells = ap (answered r.code r.first 0) (lies_bytes r.place h.lent); worded = long }
  call_step (commit x) =
      let hands = hands_commit h.lent d l x in
      record { leaves = desk_on h.words long _ hands; tells = refl; worded = words_on h.words long _ hands }
  call_step (withdraw x) =
      let hands = hands_withdraw h.lent d l x in
      record { leaves = desk_on h.words long _ hands; tells = refl; worded = words_on h.words long _ hands }
  call_step (sweep first quota) = record { leaves = refl; tells = refl; worded = long }
