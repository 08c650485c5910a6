-- `crc::run_four` meets its contract. The loop's invariant: over what is left of its run each register comes to what it comes to
-- over the whole run. Assumes nothing.
use mathlib.Core.Path.{◌≡◌}
use lib.ListN.{drop}
use Rattle.crc.specs.Crc.{run}
use Rattle.crc.proofs.run_four.Given as goal

abbrev pub invariant-loop-k : goal.invariant-loop-k
invariant-loop-k l = record {
  first : run l.a (drop l.k l.one) ≡ run l.initial.a l.one;
  second : run l.b (drop l.k l.two) ≡ run l.initial.b l.two;
  third : run l.c (drop l.k l.three) ≡ run l.initial.c l.three;
  fourth : run l.d (drop l.k l.four) ≡ run l.initial.d l.four;
}
