use Rattle.sequence_table.proofs.Ways.{no-room, room-there, loss-absent, loss-done}
use Rattle.sequence_table.proofs.table.loss.Goals as goal

pub returns-in_err-ok_or : goal.returns-in_err-ok_or
returns-in_err-ok_or c =
    let none = no-room _ _ c.find.ensures.place _ _ c.ok_or.ensures.value _ c.in_err-ok_or.was _ c.from_residual.ensures.1 in
    rw none.1 (loss-absent _ _ none.0)

pub returns : goal.returns
returns c =
    let there = room-there _ _ c.find.ensures.place c.find.ensures.within _ _ c.ok_or.ensures.value _ c.in_ok-ok_or.was in
    loss-done _ _ _ there.0 there.1 _ c.entry_at-entry.ensures _ c.loss_line.ensures
