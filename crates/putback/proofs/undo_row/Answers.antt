-- `putback::undo_row` meets its contract, by who made the version in the slot and who ended it. Assumes nothing.
use Rattle.putback.proofs.PutBacks.{undo_made, undo_ended, undo_left}
use Rattle.putback.proofs.undo_row.Goals as goal

pub returns-then-is : goal.returns-then-is
returns-then-is c =
    undo_made _ _ _ _ _ c.read_slot-m.ensures c.is.ensures c.if-is.true c.requires.1 c.take_back.ensures

pub returns-then-m-is : goal.returns-then-m-is
returns-then-m-is c =
    undo_ended _ _ _ _ _ c.read_slot-m.ensures c.is.ensures c.if-is.false c.is-else-is.ensures c.if-m-is.true c.unexpire.ensures c.write_meta.ensures

pub returns-else-m-is : goal.returns-else-m-is
returns-else-m-is c =
    undo_left _ _ _ _ _ c.read_slot-m.ensures c.is.ensures c.if-is.false c.is-else-is.ensures c.if-m-is.false
