-- The loop of `script::run`: the reader stands in the lent text, and what holds at its place holds there (`Goings.antt`); each line that is taken
-- leaves less of it. Assumes nothing.
use mathlib.Core.Path.{◌≡◌}
use Prim.Native.Nat.{suc, ◌-◌}
use lib.ListN.{length}
use Rattle.kind.specs.Areas.{areas}
use Rattle.script.specs.Script.{carried}
use Rattle.script.proofs.Goings.{Holds}
use Rattle.script.proofs.run.Given as goal

abbrev pub invariant-loop-reader : goal.invariant-loop-reader
invariant-loop-reader l = record {
  lent : l.reader.text.now ≡ l.fn.text;
  holds : Holds l.fn.text l.fn.last (carried l.fn.footing (areas l.fn.«data» l.fn.undo l.fn.status)) l.fn.out (areas l.«data» l.undo l.status) l.out l.reader.at l.ran;
}

abbrev pub decreases-loop-reader : goal.decreases-loop-reader
decreases-loop-reader l = suc (length l.fn.text) - l.reader.at
