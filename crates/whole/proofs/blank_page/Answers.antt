-- `whole::blank_page` meets its contract: its stores make a blank page. Assumes nothing.
use Rattle.whole.proofs.Wholes.{blank_stores}
use Prim.Native.Nat.{◌+◌, ◌*◌}
use Rattle.whole.proofs.blank_page.Goals as goal

pub returns : goal.returns
returns c =
    blank_stores c.args.s.now (c.args.p * 8192) c.args.k (c.args.p + 1)
    c.put_zeros.ensures c.put.ensures c.put-2.ensures c.put-3.ensures c.put-4.ensures c.put-5.ensures
