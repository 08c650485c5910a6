-- Refused calls leave the world as it was, of any world, but for the mark of a 10; and no call of a good world is refused under 6, because
-- every chain is whole, or under 17, because no number is reserved. Assumes nothing.
use Prim.Native.Nat.{ℕ, suc, ◌+◌, ◌<◌}
use mathlib.Core.Path.{◌≡◌, refl, ap, ap₂, sym, subst, ◌∙◌}
use mathlib.Core.Logic.{inl, inr}
use mathlib.Core.Bool.{Bool, true, false, not, ◌&&◌, ◌||◌, cond}
use mathlib.Core.List.{List, [], ◌∷◌}
use native.Mathlib.Omega.{arith}
use lib.Dec.{eqb, ltb}
use borrow.Author.Tests.{eq-eqb, ne_eqb, leb-false, ltb-false}
use Rattle.ground.specs.Refuse.{first_of}
use Rattle.ground.proofs.Ranges.{all_intro, or_false_left}
use Rattle.ground.proofs.Refusals.{lacks, first_of_lacks}
use lib.ListN.{get_or}
use Rattle.columns.specs.Limits.{sessions, last_statement}
use Rattle.places.specs.Open.{open_count, place_in, is_open}
use Rattle.desk.specs.Desk.{last_next}
use Rattle.desk.specs.Sound.{sound}
use Rattle.desk.specs.Turns.{spoiled, is_spoiled}
use Rattle.admit.proofs.Admissions.{asks, asks_unspoiled, told_past}
use Rattle.kind.specs.Kind.{rows, entries}
use Rattle.kind.specs.Areas.{areas, bad_length}
use Rattle.vacant.specs.Vacant.{lowest_empty, lowest_free}
use Rattle.keep.specs.Whole.{store_right}
use Rattle.records.specs.declared.slot.Slot.{Slot}
use Rattle.records.specs.Slot.{slot_at}
use Rattle.desk.specs.View.{View}
use Rattle.chain.specs.declared.Walk.TheVariants.{Found}
use Rattle.chain.specs.Chain.{Version, chain_of}
use Rattle.chain.specs.Walk.{first_in, walk_rule, there_in}
use Rattle.keep.specs.Keep.{format_refusal, open_refusal, seal_refusal}
use Rattle.turns.specs.Turns.{begin_refusal, next_refusal, commit_refusal}
use Rattle.doubt.specs.Doubt.{doubts}
use Rattle.doubt.proofs.Doubts.{doubts_none}
use Rattle.seeking.specs.Seeking.{no_row, is_broken, breaks, misses, says}
use Rattle.seeking.proofs.Seekings.{reading, writing}
use Rattle.rows.specs.Rows.{view_in, bad_body, refused_desk, insert_refusal, update_refusal, delete_refusal, read_refusal}
use Rattle.rows.proofs.Calls.{update_rest}
use Rattle.putback.specs.PutBack.{own_made}
use Rattle.undoing.specs.Undoing.{broken_row, some_broken, withdraw_refusal}
use Rattle.sweeping.specs.Sweeping.{treated, all_whole, sweep_refusal}
use Rattle.sweeping.proofs.Calls.{treats_few}
use Rattle.machine.specs.Lines.{Call, refused, done, is_done, format, opens, seal, begin, next, insert, update, delete, read, commit, withdraw, sweep}
use Rattle.machine.proofs.Basics.{true_false}
use Rattle.history.specs.World.{World, world, Response, says as answer_of, after, marking}
use Rattle.history.specs.Spoiled.{replaces}
use Rattle.history.specs.Observers.{Replaces}
use Rattle.history.proofs.Told.{every_replaces}
use Rattle.history.proofs.Steps.{refusal_of, when_done, when_refused, step_settled}
use Rattle.history.proofs.Worlds.{Good}

-- ---- what a refused call leaves

pub done_refused : (a b n : ℕ) (y : List ℕ) → done a b y ≡ refused n → ⊥
done_refused a b n y e = let z : ◌≡◌ {A = ℕ} 0 1 = cc in absurd (omega arith)

-- what is done is not refused
not_refused : (w : World) (c : Call) (n : ℕ) → (when_done w c).answer ≡ refused n → ⊥
not_refused w (format d u s) n e = done_refused _ _ n _ e
not_refused w opens n e = done_refused _ _ n _ e
not_refused w seal n e = done_refused _ _ n _ e
not_refused w begin n e = done_refused _ _ n _ e
not_refused w (next x) n e = done_refused _ _ n _ e
not_refused w (insert x y) n e = done_refused _ _ n _ e
not_refused w (update x q y) n e = done_refused _ _ n _ e
not_refused w (delete x q) n e = done_refused _ _ n _ e
not_refused w (read x q) n e = done_refused _ _ n _ e
not_refused w (commit x) n e = done_refused _ _ n _ e
not_refused w (withdraw x) n e = done_refused _ _ n _ e
not_refused w (sweep first quota) n e = done_refused _ _ n _ e

-- what refusal n leaves: the world, or the one with the session marked whose update or delete it is
abbrev pub Kept : World → Call → ℕ → World → Type 0
Kept w c n on = ((n ≡ 10 → ⊥) → on ≡ w) × (n ≡ 10 → (s : ℕ) × (replaces s c ≡ true) × (on ≡ marking s w))

-- of an update or a delete of session x
marked_kept : (w : World) (x n : ℕ) (c : Call) → replaces x c ≡ true → Kept w c n (world w.held (refused_desk n x w.desk))
unfolding refused_desk
marked_kept w x n c mine = (λ other. ap left (ne_eqb n 10 other), λ ten. (x, mine, ap left (eq-eqb n 10 ten)))
  where
    left : Bool → World
    left b = world w.held (cond b (spoiled (place_in x w.desk.numbers) w.desk) w.desk)

-- of any other call, in whose list there is no 10
calm_kept : (w : World) (c : Call) (n : ℕ) (ls : List (Bool × ℕ)) → lacks 10 ls ≡ true → first_of ls ≡ n → Kept w c n w
calm_kept w c n ls none e = (λ z. refl, λ ten. absurd (first_of_lacks 10 ls none (λ z. omega arith) (e ∙ ten)))

module _ (w : World) where
  -- the lists that ask for the desk alone, for the session, and for one that is not spoiled
  abbrev desk_first : List (Bool × ℕ) → List (Bool × ℕ)
  desk_first rest = (bad_length w.held, 1) ∷ (not (sound w.desk), 2) ∷ rest

  abbrev session_first : ℕ → List (Bool × ℕ) → List (Bool × ℕ)
  session_first x = asks w.held.«data» w.held.undo w.held.status w.desk x

  abbrev unspoiled_first : ℕ → List (Bool × ℕ) → List (Bool × ℕ)
  unspoiled_first x = asks_unspoiled w.held.«data» w.held.undo w.held.status w.desk x

  pub refused_kept : (c : Call) (n : ℕ) → refusal_of w c ≡ n → Kept w c n (when_refused w c n).left
  unfolding format_refusal open_refusal seal_refusal begin_refusal next_refusal insert_refusal read_refusal commit_refusal withdraw_refusal sweep_refusal
  refused_kept (update x q y) n e = marked_kept w x n (update x q y) (eq-eqb x x refl)
  refused_kept (delete x q) n e = marked_kept w x n (delete x q) (eq-eqb x x refl)
  refused_kept (format f g h) n e = calm_kept w (format f g h) n ((bad_length (areas f g h), 1) ∷ []) refl e
  refused_kept opens n e = calm_kept w opens n ((bad_length w.held, 1) ∷ (not (store_right w.held), 3) ∷ []) refl e
  refused_kept seal n e = calm_kept w seal n (desk_first ((ltb 0 (open_count w.desk.numbers), 15) ∷ [])) refl e
  refused_kept begin n e =
      calm_kept w begin n (desk_first ((eqb (open_count w.desk.numbers) sessions, 12) ∷ (eqb w.desk.next last_next, 13) ∷ [])) refl e
  refused_kept (next x) n e =
      calm_kept w (next x) n (unspoiled_first x ((eqb (get_or w.desk.statements (place_in x w.desk.numbers) 0) last_statement, 14) ∷ [])) refl e
  refused_kept (insert x y) n e =
      calm_kept w (insert x y) n (unspoiled_first x ((bad_body y, 5) ∷ (eqb (lowest_empty w.held.«data») (rows w.held.«data»), 11) ∷ [])) refl e
  refused_kept (read x q) n e = calm_kept w (read x q) n (session_first x (reading w.held.«data» w.held.undo w.held.status (view_in w.desk x) q [])) refl e
  refused_kept (commit x) n e = calm_kept w (commit x) n (unspoiled_first x []) refl e
  refused_kept (withdraw x) n e = calm_kept w (withdraw x) n (session_first x ((some_broken x 0 w.held.«data» w.held.undo, 6) ∷ [])) refl e
  refused_kept (sweep first quota) n e =
      calm_kept w (sweep first quota) n
      (desk_first ((ltb (rows w.held.«data») first, 5) ∷ (not (all_whole w.held.«data» w.held.undo first (treated w.held.«data» first quota)), 6) ∷ [])) refl e

pub leaves : (w : World) (c : Call) (n : ℕ) → answer_of w c ≡ refused n → Kept w c n (after w c)
leaves w c n =
    step_settled w c (λ (t : Response). t.answer ≡ refused n → Kept w c n t.left) (λ e f. absurd (not_refused w c n f))
    (λ m e f. let z : suc m ≡ n = cc in subst (λ (i : ℕ). Kept w c i (when_refused w c (suc m)).left) z (refused_kept w c (suc m) e))

-- a 10 is answered to a session that is open
pub lost_open : (w : World) (c : Call) (n : ℕ) → replaces n c ≡ true → refusal_of w c ≡ 10 → is_open n w.desk.numbers ≡ true
unfolding update_refusal delete_refusal
lost_open w c n mine e = by ((every_replaces n c).0 mine)
  where
    behind : (rest : List (Bool × ℕ)) → first_of (asks_unspoiled w.held.«data» w.held.undo w.held.status w.desk n rest) ≡ 10
        → is_open n w.desk.numbers ≡ true
    behind rest f =
        (told_past w.held.«data» w.held.undo w.held.status w.desk n 10 rest
        (λ z. omega arith) (λ z. omega arith) (λ z. omega arith) (λ z. omega arith) f).1

    by : Replaces n c → is_open n w.desk.numbers ≡ true
    by (inl (q, y, is)) =
        behind (update_rest w.held.«data» w.held.undo w.held.status w.desk n q y (no_row w.held.«data» q || bad_body y))
        (ap (refusal_of w) (sym is) ∙ e)
    by (inr (q, is)) =
        behind (writing w.held.«data» w.held.undo w.held.status (view_in w.desk n) q []) (ap (refusal_of w) (sym is) ∙ e)

-- the number answered is the one that the list of refusals gives
pub refused_as : (w : World) (c : Call) (n : ℕ) → answer_of w c ≡ refused n → refusal_of w c ≡ n
refused_as w c n =
    step_settled w c (λ (t : Response). t.answer ≡ refused n → refusal_of w c ≡ n) (λ e f. absurd (not_refused w c n f))
    (λ m e f. e ∙ (let z : suc m ≡ n = cc in z))

-- and a call that was done was refused under none
pub done_ok : (w : World) (c : Call) → is_done (answer_of w c) ≡ true → refusal_of w c ≡ 0
done_ok w c = step_settled w c (λ (t : Response). is_done t.answer ≡ true → refusal_of w c ≡ 0) (λ ok e. ok) (λ m e f. true_false false f refl)

-- ---- no 6 and no 17

-- the refusals that tell of a damaged store
abbrev damage : ℕ → Bool
damage n = eqb n 6 || eqb n 17

-- a line that does not hold, or has another number, is not the one that tells of it
past : (b : Bool) (n m : ℕ) → damage n ≡ false → damage (cond b n m) ≡ true → (b ≡ false) × (damage m ≡ true)
past true n m ne e = true_false (damage n) e ne
past false n m ne e = (refl, e)

unharmed : damage 0 ≡ true → ⊥
unharmed e = true_false false e refl

-- 7 to 10 and what stands behind them are asked after 6 and 17; 1, 2, 4 and 18 before them
module _ (d s : List ℕ) (v : View) (r : ℕ) where
  tail : (miss : Bool) (rest : ℕ) → damage (cond miss 7 (cond (says d s v r 8) 8 (cond (says d s v r 9) 9 (cond (says d s v r 10) 10 rest)))) ≡ true → damage rest ≡ true
  tail miss rest e =
      let a = past miss 7 (cond (says d s v r 8) 8 (cond (says d s v r 9) 9 (cond (says d s v r 10) 10 rest))) refl e in
      let b = past (says d s v r 8) 8 (cond (says d s v r 9) 9 (cond (says d s v r 10) 10 rest)) refl a.1 in
      let c = past (says d s v r 9) 9 (cond (says d s v r 10) 10 rest) refl b.1 in
      (past (says d s v r 10) 10 rest refl c.1).1

module _ (w : World) where
  desk_asked : (rest : ℕ) → damage (cond (bad_length w.held) 1 (cond (not (sound w.desk)) 2 rest)) ≡ true → damage rest ≡ true
  desk_asked rest e = (past (not (sound w.desk)) 2 rest refl (past (bad_length w.held) 1 (cond (not (sound w.desk)) 2 rest) refl e).1).1

  front : (x rest : ℕ) → damage (cond (bad_length w.held) 1 (cond (not (sound w.desk)) 2 (cond (not (is_open x w.desk.numbers)) 4 rest))) ≡ true
      → damage rest ≡ true
  front x rest e = (past (not (is_open x w.desk.numbers)) 4 rest refl (desk_asked (cond (not (is_open x w.desk.numbers)) 4 rest) e)).1

  front_unspoiled : (x rest : ℕ)
      → damage (cond (bad_length w.held) 1 (cond (not (sound w.desk)) 2 (cond (not (is_open x w.desk.numbers)) 4 (cond (is_spoiled x w.desk) 18 rest)))) ≡ true
      → damage rest ≡ true
  front_unspoiled x rest e = (past (is_spoiled x w.desk) 18 rest refl (front x (cond (is_spoiled x w.desk) 18 rest) e)).1

-- along a whole chain no break is met
unbroken : (p : Slot → Bool) (n : ℕ) (xs : List Version) → is_broken (first_in p n xs true) ≡ false
unfolding first_in
unbroken p n [] = refl
unbroken p n (x ∷ xs) = go (p x.slot) (unbroken p (n + 1) xs)
  where
    go : (b : Bool) → is_broken (first_in p (n + 1) xs true) ≡ false → is_broken (cond b (Found x.place (n + 1)) (first_in p (n + 1) xs true)) ≡ false
    go true ih = refl
    go false ih = ih

module _ (w : World) (g : Good w) where
  abbrev d : List ℕ
  d = w.held.«data»

  abbrev u : List ℕ
  u = w.held.undo

  walks : (v : View) (r : ℕ) → r < rows d → breaks d u w.held.status v r ≡ false
  unfolding breaks walk_rule
  walks v r inside =
      ap (λ (b : Bool). is_broken (first_in (there_in v w.held.status) 0 (chain_of d u r).versions b)) (g.whole r inside)
      ∙ unbroken (there_in v w.held.status) 0 (chain_of d u r).versions

  pub withdraws : (x : ℕ) → some_broken x 0 d u ≡ false
  unfolding some_broken broken_row
  withdraws x =
      ap not (all_intro (λ (r : ℕ). not (own_made x 0 (slot_at r d) && is_broken (first_in other_made 0 (chain_of d u r).versions (chain_of d u r).whole))) (rows d)
      (λ r inside. row r inside (own_made x 0 (slot_at r d))))
    where
      other_made : Slot → Bool
      other_made m = not (own_made x 0 m)

      row : (r : ℕ) → r < rows d → (b : Bool) → not (b && is_broken (first_in other_made 0 (chain_of d u r).versions (chain_of d u r).whole)) ≡ true
      row r inside true =
          ap not (ap (λ (b : Bool). is_broken (first_in other_made 0 (chain_of d u r).versions b)) (g.whole r inside) ∙ unbroken other_made 0 (chain_of d u r).versions)
      row r inside false = refl

  pub sweeps : (first quota : ℕ) → ltb (rows d) first ≡ false → not (all_whole d u first (treated d first quota)) ≡ false
  unfolding all_whole
  sweeps first quota e =
      let n : ℕ = treated d first quota in
      let within = treats_few d first quota (ltb-false (rows d) first e) in
      ap not (all_intro (λ (i : ℕ). (chain_of d u (first + i)).whole) (treated d first quota) (λ i l. g.whole (first + i) (omega (arith, l, within))))

  abbrev s : List ℕ
  s = w.held.status

  -- a row call of a row of the area
  row_call : (five : Bool) (v : View) (r : ℕ) (rest : ℕ) → (five ≡ false → r < rows d)
      → damage (cond five 5 (cond (breaks d u s v r) 6 (cond (doubts d u s v r) 17 rest))) ≡ true
      → damage rest ≡ true
  row_call five v r rest inside e =
      let f = past five 5 (cond (breaks d u s v r) 6 (cond (doubts d u s v r) 17 rest)) refl e in
      sym (ap₂ (λ (b t : Bool). damage (cond b 6 (cond t 17 rest))) (walks v r (inside f.0)) (doubts_none d u s v r g.stated)) ∙ f.1

  in_area : (r : ℕ) → no_row d r ≡ false → r < rows d
  unfolding no_row
  in_area r e = leb-false (rows d) r e

  not_damaged : (c : Call) → damage (refusal_of w c) ≡ true → ⊥
  unfolding format_refusal open_refusal seal_refusal begin_refusal next_refusal insert_refusal update_refusal delete_refusal read_refusal commit_refusal withdraw_refusal sweep_refusal
  not_damaged (format a b c) e = unharmed (past (bad_length (areas a b c)) 1 0 refl e).1
  not_damaged opens e = unharmed (past (not (store_right w.held)) 3 0 refl (past (bad_length w.held) 1 (cond (not (store_right w.held)) 3 0) refl e).1).1
  not_damaged seal e = unharmed (past (ltb 0 (open_count w.desk.numbers)) 15 0 refl (desk_asked w _ e)).1
  not_damaged begin e =
      let c = past (eqb (open_count w.desk.numbers) sessions) 12 (cond (eqb w.desk.next last_next) 13 0) refl (desk_asked w _ e) in
      unharmed (past (eqb w.desk.next last_next) 13 0 refl c.1).1
  not_damaged (next x) e = unharmed (past (eqb (get_or w.desk.statements (place_in x w.desk.numbers) 0) last_statement) 14 0 refl (front_unspoiled w x _ e)).1
  not_damaged (insert x y) e =
      unharmed (past (eqb (lowest_empty d) (rows d)) 11 0 refl (past (bad_body y) 5 (cond (eqb (lowest_empty d) (rows d)) 11 0) refl (front_unspoiled w x _ e)).1).1
  not_damaged (update x q y) e =
      let r = row_call (no_row d q || bad_body y) (view_in w.desk x) q _ (λ f. in_area q (or_false_left (no_row d q) (bad_body y) f)) (front_unspoiled w x _ e) in
      unharmed (past (eqb (lowest_free u) (entries u)) 11 0 refl (tail d s (view_in w.desk x) q (misses d u s (view_in w.desk x) q) _ r)).1
  not_damaged (delete x q) e =
      let r = row_call (no_row d q) (view_in w.desk x) q _ (in_area q) (front_unspoiled w x _ e) in
      unharmed (tail d s (view_in w.desk x) q (misses d u s (view_in w.desk x) q) _ r)
  not_damaged (read x q) e =
      let r = row_call (no_row d q) (view_in w.desk x) q _ (in_area q) (front w x _ e) in
      unharmed (past (misses d u s (view_in w.desk x) q) 7 0 refl r).1
  not_damaged (commit x) e = unharmed (front_unspoiled w x 0 e)
  not_damaged (withdraw x) e = unharmed (sym (ap (λ (b : Bool). damage (cond b 6 0)) (withdraws x)) ∙ front w x (cond (some_broken x 0 d u) 6 0) e)
  not_damaged (sweep first quota) e =
      let f = past (ltb (rows d) first) 5 (cond (not (all_whole d u first (treated d first quota))) 6 0) refl (desk_asked w _ e) in
      unharmed (sym (ap (λ (b : Bool). damage (cond b 6 0)) (sweeps first quota f.0)) ∙ f.1)

  pub never_6 : (c : Call) → answer_of w c ≡ refused 6 → ⊥
  never_6 c e = not_damaged c (ap damage (refused_as w c 6 e))

  pub never_17 : (c : Call) → answer_of w c ≡ refused 17 → ⊥
  never_17 c e = not_damaged c (ap damage (refused_as w c 17 e))
