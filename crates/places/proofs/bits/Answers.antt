-- `places::bits` meets its contract: the bits of all places together. Assumes nothing.
use mathlib.Core.Path.{◌≡◌, ap, ◌∙◌}
use Prim.Native.Nat.{ℕ}
use lib.Bits.{bit_or}
use lib.Dec.{eqb}
use borrow.Author.Rules.{rules}
use Rattle.std.specs.List.{fold}
use Rattle.places.proofs.Runs.{unused_bits}
use Rattle.places.proofs.bits.Goals as goal

-- what the chain gives
chain : (c : goal.After-fold) → c.fold.result ≡ fold (λ (bits x : ℕ). bit_or bits x) 0 c.args.places.now
chain c = search rules

pub returns : goal.returns
returns c = ap (λ (n : ℕ). eqb n 0) (chain c) ∙ unused_bits c.args.places.now
