-- `whole::seal_four` meets its contract. The loop's invariant: so many pages from p on are sealed. Assumes nothing.
use native.Mathlib.Omega.{arith}
use Rattle.whole.proofs.Abreast.{checksum_at, sealed_on_more}
use Rattle.whole.proofs.seal_four.Goals as goal

pub loop-i-preserved : goal.loop-i-preserved
loop-i-preserved c =
    sealed_on_more _ _ _ _ _ _ (omega (arith, c.loop-i-test.true)) c.loop-i.invariant (checksum_at _ _ _ c.checksums.ensures c.loop-i-test.true) c.put_checksum.ensures
