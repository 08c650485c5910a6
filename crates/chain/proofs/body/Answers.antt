-- `chain::body` meets its contract: what is handed back and where it begins, by the cases of the place. Assumes nothing.
use Rattle.chain.proofs.Bodies.{hand_slot, hand_copy, hand_none, hand_no_slot, hand_no_copy}
use Rattle.chain.proofs.body.Goals as goal
use Rattle.chain.proofs.body.Goals.{in_default-via-in-Data+else-r-rows, in_default-via-in-Undo+else-e-entries, in_default-via-in_default}

pub returns-in-Data : goal.returns-in-Data
returns-in-Data c =
    hand_slot _ _ _ _ _ c.in-Data.is c.rows.ensures c.if-r-rows.true c.place-at.ensures

pub returns-in-Undo : goal.returns-in-Undo
returns-in-Undo c =
    hand_copy _ _ _ _ _ c.in-Undo.is c.entries.ensures c.if-e-entries.true c.place-at-in-Undo.ensures

pub returns-in_default : goal.returns-in_default
returns-in_default c =
    elim c.in_default.branch [
      | in_default-via-in-Data+else-r-rows w ↦ hand_no_slot _ _ _ _ _ w.in-Data.is w.rows.ensures w.if-r-rows.false
      | in_default-via-in-Undo+else-e-entries w ↦ hand_no_copy _ _ _ _ _ w.in-Undo.is w.entries.ensures w.if-e-entries.false
      | in_default-via-in_default w ↦ hand_none _ _ _ _ w.in_default.is
    ]
