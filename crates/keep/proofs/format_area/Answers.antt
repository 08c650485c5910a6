-- `keep::format_area` meets its contract: all pages are blank, and then sealed. Assumes nothing.
use native.Mathlib.Omega.{arith}
use Rattle.keep.proofs.Fresh.{blank_more, fresh_area_all}
use Rattle.keep.proofs.format_area.Goals as goal

pub loop-p-preserved : goal.loop-p-preserved
loop-p-preserved c =
    blank_more c.args.k c.loop-p.p c.loop-p.s (omega arith) c.loop-p.invariant c.blank_page.ensures

pub returns : goal.returns
returns c =
    fresh_area_all c.args.k _ c.loop-p.p c.loop-p.s (omega arith) (omega arith) c.loop-p.invariant c.seal_area.ensures
