-- `places::unused` meets its contract: the eights from the front, and the last eight. Assumes nothing.
use mathlib.Core.Path.{◌≡◌, refl, sym, ap, ap₂, ◌∙◌}
use mathlib.Core.Bool.{◌&&◌}
use mathlib.Core.List.{List}
use Prim.Native.Nat.{ℕ, ◌+◌, ◌-◌, ◌≤◌}
use native.Mathlib.Omega.{arith}
use lib.Bits.{bit_or}
use lib.Dec.{eqb}
use lib.ListN.{length, take, drop, length-drop}
use lib.Seq.{take_all}
use Rattle.places.specs.Places.{ascending}
use Rattle.places.proofs.Runs.{or_none, part_ascending, front_and_last}
use Rattle.places.proofs.unused.Goals as goal

-- by the bits of a front and of the last eight
taken : (l last : List ℕ) (m front back : ℕ)
    → m ≤ length l
    → 8 ≤ length l
    → length l ≤ m + 8
    → last ≡ drop (length l - 8) l
    → eqb front 0 ≡ ascending 0 (take m l) 0 (length (take m l))
    → eqb back 0 ≡ ascending 0 last 0 (length last)
    → eqb (bit_or front back) 0 ≡ ascending 0 l 0 (length l)
taken l last m front back inside many near is fronts backs =
    let eight : List ℕ = drop (length l - 8) l in
    let whole : eight ≡ take 8 eight = sym (take_all 8 eight (omega (arith, length-drop (length l - 8) l))) in
    or_none front back
    ∙ ap₂ ◌&&◌
    (fronts ∙ part_ascending 0 l 0 m _ refl (omega arith))
    (backs ∙ ap (λ (k : List ℕ). ascending 0 k 0 (length k)) (is ∙ whole) ∙ part_ascending 0 l (length l - 8) 8 _ refl (omega arith))
    ∙ front_and_last l m (length l) inside many near

pub returns-in-Some : goal.returns-in-Some
returns-in-Some c =
    let chunk = c.in-Some.ensures.cases in
    let many : 8 ≤ length c.args.places.now = chunk.0 in
    taken c.args.places.now c.in-Some.last.now _ _ _ (omega arith) many (omega arith) chunk.1.same c.bits.ensures c.bits-in-Some.ensures
