-- `putback::take_back` meets its contract. The loop's invariant: the rule from here on, in the areas as they are, is the rule from the
-- start; an entry that was freed need not be remembered as passed. Assumes nothing.
use mathlib.Core.Path.{◌≡◌}
use mathlib.Core.List.{[]}
use Prim.Native.Nat.{◌-◌}
use Rattle.kind.specs.Kind.{entries}
use Rattle.kind.specs.Areas.{both}
use Rattle.chain.specs.Chain.{chain_from}
use Rattle.putback.specs.PutBack.{taken_back}
use Rattle.putback.proofs.take_back.Given as goal

abbrev pub invariant-loop : goal.invariant-loop
invariant-loop l =
    taken_back l.since.number l.since.statement l.r (chain_from l.undo l.r (l.end - l.counter) [] l.ptr).versions (both l.data l.undo)
    ≡ taken_back l.since.number l.since.statement l.r (chain_from l.initial.undo l.r (entries l.initial.undo) [] l.first).versions (both l.initial.data l.initial.undo)
