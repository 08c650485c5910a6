-- `crc::crc32c_more` meets its contract: the bytes are folded into the register, one after the other. Assumes nothing.
use mathlib.Core.Path.{◌≡◌, ap, ◌∙◌}
use Prim.Native.Nat.{ℕ}
use borrow.Author.Rules.{rules}
use lib.Bits.{bit_xor}
use Rattle.std.specs.List.{fold}
use Rattle.std.proofs.lemmas.Iterator.{YieldsList-from_slice}
use Rattle.std.proofs.lemmas.Iterator.Consumers.{fold_from_yields_List, YieldsList-at}
use Rattle.ground.proofs.Strides.{steps_of, start_of, YieldsList-from_each}
use Rattle.crc.specs.Crc.{filled, byte_step, crc_more}
use Rattle.crc.proofs.CrcLaws.{run_fold}
use Rattle.crc.proofs.crc32c_more.Goals as goal

pub returns : goal.returns
unfolding crc_more
returns c =
    let s = c.args.s.now in
    let folded : c.fold.result ≡ fold byte_step (bit_xor c.args.crc filled) s =
    fold_from_yields_List {steps = steps_of c.fold.ensures.runs.0} {v = λ b. b.now} {s = start_of c.fold.ensures.runs.1} {all = s}
    _ byte_step _ c.fold.result c.fold.ensures.ran
    (search (rules, YieldsList-from_slice, YieldsList-from_each, YieldsList-at))
    (λ a x b q k. search rules) in
    ap (λ (x : ℕ). bit_xor x filled) (folded ∙ run_fold _ s)
