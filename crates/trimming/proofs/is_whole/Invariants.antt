-- `trimming::is_whole` meets its contract. The loop's invariant: from here on the walk that counts, for a test that no version passes,
-- answers what it does from the slot's pointer on. Assumes nothing.
use mathlib.Core.Path.{◌≡◌}
use Prim.Native.Nat.{suc, ◌+◌, ◌-◌}
use Rattle.kind.specs.Kind.{entries}
use Rattle.chain.specs.Chain.{link_of}
use Rattle.chain.proofs.Chains.{run}
use Rattle.trimming.proofs.Wholes.{never}
use Rattle.trimming.proofs.is_whole.Given as goal

abbrev pub invariant-loop : goal.invariant-loop
invariant-loop l =
    run l.undo l.r never (suc (entries l.undo) - (l.counter + 1)) (l.counter + 1) (link_of l.undo l.r l.ptr)
    ≡ run l.undo l.r never (entries l.undo) 1 (link_of l.undo l.r l.initial.ptr)
