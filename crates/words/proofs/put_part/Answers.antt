-- `words::put_part` meets its contract. The loop's invariant: the first i places are copied. Assumes nothing.
use mathlib.Core.Path.{◌≡◌, refl}
use native.Mathlib.Omega.{arith}
use lib.ListN.{length}
use lib.Seq.{paste-zero}
use borrow.Author.Rules.{rules}
use Rattle.columns.proofs.Columns.{paste_next}
use Rattle.words.specs.Words.{all_words}
use Rattle.words.proofs.Copies.{pasted}
use Rattle.words.proofs.put_part.Goals as goal

pub loop-i-init : goal.loop-i-init
loop-i-init c = paste-zero c.args.words.now c.args.at c.args.part.now

pub loop-i-preserved : goal.loop-i-preserved
loop-i-preserved c = paste_next c.args.words.now c.args.at c.args.part.now c.loop-i.i _ c.loop-i.invariant (omega arith) (omega arith)

pub returns : goal.returns
returns c =
    let long : length c.args.words.now ≡ all_words = search rules in
    pasted (length c.args.part.now) _ c.args.at c.args.part.now _ _ refl (omega (arith, long, c.requires)) (omega arith) (omega arith) c.loop-i.invariant
