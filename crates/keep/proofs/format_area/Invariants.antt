-- `keep::format_area` meets its contract. The invariant: the first p pages are blank. Assumes nothing.
use Rattle.keep.proofs.Fresh.{Blank}
use Rattle.keep.proofs.format_area.Given as goal

abbrev pub invariant-loop-p : goal.invariant-loop-p
invariant-loop-p l = Blank l.k l.p l.s
