-- `crc::crc32c_four_more` meets its contract: each of the four as one is. Assumes nothing.
use mathlib.Core.Path.{ap, ◌∙◌}
use native.Mathlib.Omega.{arith}
use borrow.Author.Rules.{rules}
use lib.Bits.{bit_xor}
use lib.ListN.{length}
use Rattle.std.specs.Prelude.{map, ◌≡◌}
use Rattle.crc.specs.Crc.{filled}
use Rattle.crc.proofs.CrcLaws.{crc_at, four_eq}
use Rattle.crc.proofs.crc32c_four_more.Goals as goal

pub returns : goal.returns
returns c =
    let four : length c.args.crcs ≡ 4 = search rules in
    c.turned-2.ensures
    ∙ ap (map (λ x. bit_xor x filled)) c.run_four.ensures
    ∙ four_eq
    (crc_at c.args.crcs _ 0 c.turned.ensures (omega arith))
    (crc_at c.args.crcs _ 1 c.turned.ensures (omega arith))
    (crc_at c.args.crcs _ 2 c.turned.ensures (omega arith))
    (crc_at c.args.crcs _ 3 c.turned.ensures (omega arith))
