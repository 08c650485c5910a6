-- `places::open_count` meets its contract. The loop's invariant: `n` is the count of the places passed. Assumes nothing.
use mathlib.Core.Path.{◌≡◌, ap, ◌∙◌}
use mathlib.Core.Bool.{not}
use Prim.Native.Nat.{ℕ}
use native.Mathlib.Omega.{arith}
use lib.Dec.{eqb}
use lib.ListN.{length}
use lib.Seq.{take_all}
use borrow.Author.Rules.{rules}
use Rattle.std.specs.List.{count_by}
use Rattle.std.proofs.lemmas.List.Sums.{count_by-le-length}
use Rattle.columns.specs.Limits.{sessions}
use Rattle.places.specs.Open.{open_count}
use Rattle.places.proofs.Found.{counted}
use Rattle.places.proofs.open_count.Goals as goal

pub returns : goal.returns
unfolding open_count
returns c =
    let long : length c.args.numbers.now ≡ sessions = search rules in
    let all : c.loop-number.n ≡ count_by (λ (x : ℕ). not (eqb x 0)) c.args.numbers.now
    = c.loop-number.invariant ∙ ap (count_by (λ (x : ℕ). not (eqb x 0))) (take_all c.loop-number.number-index c.args.numbers.now (omega arith)) in
    (all ∙ counted (λ (x : ℕ). not (eqb x 0)) _ _ long, omega (arith, count_by-le-length (λ (x : ℕ). not (eqb x 0)) c.args.numbers.now))
