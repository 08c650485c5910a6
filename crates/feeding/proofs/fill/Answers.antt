-- `feeding::fill` meets its contract: by what the reading gave, and the text in front of the room is as it was. Assumes nothing.
use Prim.Native.Nat.{◌≤◌}
use native.Mathlib.Omega.{arith}
use lib.ListN.{length}
use borrow.Author.Rules.{rules}
use Rattle.feeding.proofs.Readings.{fills}
use Rattle.feeding.proofs.fill.Goals as goal

pub returns : goal.returns
returns g c =
    let inside : c.args.kept ≤ length c.args.text.now = omega (arith, c.requires) in
    fills c.args.kept _ c.args.text.now c.read-read.new.buf _ inside (search rules) c.gave.ensures
