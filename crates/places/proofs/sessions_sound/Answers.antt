-- `places::sessions_sound` meets its contract. The loop's invariant: the numbers ascend, and the places passed are sound. Assumes
-- nothing.
use mathlib.Core.Path.{◌≡◌, refl, sym, ap, ap₂, ◌∙◌}
use mathlib.Core.Bool.{Bool, ◌&&◌}
use mathlib.Core.List.{List}
use Prim.Native.Nat.{ℕ, ◌*◌, ◌<◌}
use native.Mathlib.Omega.{arith}
use lib.ListN.{length, get_or, take, drop}
use lib.Dec.{leb}
use borrow.Author.Rules.{rules}
use Rattle.ground.specs.Range.{all_below}
use Rattle.ground.proofs.Ranges.{all_more, all_fails}
use Rattle.columns.specs.Limits.{sessions, members, places, last_statement, spoiled_mark}
use Rattle.places.specs.Places.{ascending, session_sound}
use Rattle.places.proofs.Runs.{part_ascending}
use Rattle.places.proofs.Sounds.{session_open, sessions_rest}
use Rattle.places.proofs.sessions_sound.Goals as goal
use Rattle.places.proofs.sessions_sound.Goals.{Else-not-fits-ascends, Then-not-fits-ascends}

pub loop-k-init : goal.loop-k-init
unfolding all_below
loop-k-init c =
    let long : length c.args.desk.numbers.now ≡ sessions = search rules in
    (ap (ascending _ _ 0) (sym long) ∙ sym c.ascends.ensures ∙ c.if-not-ascends.false, refl)

pub returns-then-number-eq0 : goal.returns-then-number-eq0
returns-then-number-eq0 c =
    let s16 : length c.args.desk.statements.now ≡ sessions = search rules in
    let m16 : length c.args.desk.marks.now ≡ sessions = search rules in
    let l240 : length c.args.desk.lists.now ≡ places = search rules in
    rw c.loop-k.invariant.0
    (ap₂ ◌&&◌
    (ap₂ ◌&&◌
    (c.unused.ensures ∙ part_ascending _ _ _ _ _ refl (omega arith))
    (c.unused-then-number-eq0.ensures ∙ part_ascending _ _ _ _ _ refl (omega arith)))
    (c.unused-then-number-eq0-2.ensures ∙ part_ascending _ _ _ _ _ refl (omega arith))
    ∙ sym (sessions_rest _ _ _ _ _ _ c.loop-k.invariant.0 c.loop-k.invariant.1 (omega arith) c.if-number-eq0.true))

-- what the test of an open place says of it
sound_at : (numbers statements marks lists : List ℕ) (k : ℕ)
    → length lists ≡ places
    → k < sessions
    → (get_or numbers k 0 ≡ 0 → ⊥)
    → (r : Bool) (at m : ℕ)
    → at ≡ k * members
    → m ≡ members
    → r ≡ ascending (get_or numbers k 0) (take m (drop at lists)) 0 (length (take m (drop at lists)))
    → session_sound numbers statements marks lists k ≡ (leb (get_or statements k 0) last_statement && leb (get_or marks k 0) spoiled_mark && r)
sound_at numbers statements marks lists k l240 h used r at m here fifteen is =
    session_open _ _ _ _ _ used
    ∙ ap (λ (b : Bool). leb (get_or statements k 0) last_statement && leb (get_or marks k 0) spoiled_mark && b)
    (sym (is ∙ ap (λ (n : ℕ). ascending (get_or numbers k 0) (take m (drop n lists)) 0 (length (take m (drop n lists)))) here ∙ part_ascending _ _ _ _ _ fifteen (omega arith)))

pub returns-then-not-fits-ascends : goal.returns-then-not-fits-ascends
returns-then-not-fits-ascends c =
    let l240 : length c.args.desk.lists.now ≡ places = search rules in
    rw c.loop-k.invariant.0
    (sym (all_fails _ _ c.loop-k.k (omega arith) (sound_at _ _ _ _ _ l240 (omega arith) c.if-number-eq0.false _ _ _ (omega arith) (omega arith) c.ascends-in-loop-k.ensures ∙ c.if-not-fits-ascends.true)))

pub loop-k-preserved : goal.loop-k-preserved
loop-k-preserved c =
    let l240 : length c.args.desk.lists.now ≡ places = search rules in
    (c.loop-k.invariant.0, all_more _ _ c.loop-k.invariant.1 (sound_at _ _ _ _ _ l240 (omega arith) c.if-number-eq0.false _ _ _ (omega arith) (omega arith) c.ascends-in-loop-k.ensures ∙ c.if-not-fits-ascends.false))

pub returns : goal.returns
returns c =
    let all : c.loop-k.k ≡ sessions = omega arith in
    rw c.loop-k.invariant.0 (sym (rw (← all) c.loop-k.invariant.1))
