-- `reply::body_field` meets its contract: a tab, and the body behind it. Assumes nothing.
use mathlib.Core.Path.{sym, ap}
use Prim.Native.Nat.{ℕ, ◌+◌}
use native.Mathlib.Omega.{arith}
use lib.ListN.{length-set}
use Rattle.numeral.specs.Numeral.{hex_of}
use Rattle.numeral.proofs.Laws.{hex_length}
use Rattle.reply.proofs.Sayings.{says_append, says_byte, says_as, tabbed_one}
use Rattle.reply.proofs.body_field.Goals as goal

pub returns : goal.returns
returns c =
    let call = c.put_body in
    says_as (sym (tabbed_one (hex_of c.args.body.now)))
    (says_append (says_byte 9 c.args.at c.args.out.now (omega (arith, c.requires)))
    (record { ends = ap (λ (n : ℕ). c.args.at + 1 + n) (sym (hex_length c.args.body.now)); leaves = call.ensures; within = simp length-set (omega (arith, c.requires)) }))
