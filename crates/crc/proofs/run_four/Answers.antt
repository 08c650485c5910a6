-- `crc::run_four` meets its contract. The loop's invariant: over what is left of its run each register comes to what it comes to
-- over the whole run. Assumes nothing.
use mathlib.Core.Path.{refl}
use native.Mathlib.Omega.{arith}
use Rattle.crc.proofs.CrcLaws.{run_next, in_each, run_end_at, four_eq}
use Rattle.crc.proofs.run_four.Goals as goal

pub loop-k-preserved : goal.loop-k-preserved
loop-k-preserved c =
    let going = c.loop-k.invariant in
    let inside = in_each c.args.runs c.requires c.loop-k-test.true in
    record {
      first = run_next _ _ _ _ (omega arith) going.first c.loop-k-test.true c.byte-a.ensures;
      second = run_next _ _ _ _ (omega arith) going.second inside.0 c.byte-b.ensures;
      third = run_next _ _ _ _ (omega arith) going.third inside.1 c.byte-c.ensures;
      fourth = run_next _ _ _ _ (omega arith) going.fourth inside.2 c.byte-d.ensures;
    }

pub returns : goal.returns
returns c =
    let going = c.loop-k.invariant in
    let over = c.loop-k-test.false in
    four_eq
    (run_end_at _ _ c.args.runs 0 _ refl over going.first)
    (run_end_at _ _ c.args.runs 1 _ c.requires.0 over going.second)
    (run_end_at _ _ c.args.runs 2 _ c.requires.1 over going.third)
    (run_end_at _ _ c.args.runs 3 _ c.requires.2 over going.fourth)
