-- `whole::right_with` meets its contract: it makes the tests of the header. Assumes nothing.
use native.Mathlib.Omega.{arith}
use Rattle.whole.proofs.Wholes.{page_right_read}
use Rattle.whole.proofs.right_with.Goals as goal

pub get-requires-13 : goal.get-requires-13
get-requires-13 c = omega (arith, c.requires.0)

pub get-requires-14 : goal.get-requires-14
get-requires-14 c = omega (arith, c.requires.0)

pub returns : goal.returns
returns c =
    page_right_read c.args.k c.args.id c.args.page.now
    c.requires.2
    c.items-items.ensures
    c.get.ensures
    c.get-2.ensures
    c.get-3.ensures
    c.get-4.ensures
    c.get-5.ensures
    c.get-6.ensures
    c.get-7.ensures
    c.get-8.ensures
    c.get-9.ensures
    c.get-10.ensures
    c.get-11.ensures
    c.get-12.ensures
    c.get-13.ensures
    c.get-14.ensures
