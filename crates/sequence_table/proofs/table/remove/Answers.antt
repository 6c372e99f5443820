use Rattle.sequence_table.proofs.Ways.{no-room, room-there, remove_absent, remove_done}
use Rattle.sequence_table.proofs.table.remove.Goals as goal

pub returns-in_err-room : goal.returns-in_err-room
returns-in_err-room c =
    let none = no-room _ _ c.find.ensures.place _ _ c.ok_or.ensures.value _ c.in_err-room.was _ c.from_residual.ensures.1 in
    rw none.1 (remove_absent _ _ none.0)

pub returns : goal.returns
returns c =
    let there = room-there _ _ c.find.ensures.place c.find.ensures.within _ _ c.ok_or.ensures.value _ c.in_ok-room.was in
    remove_done _ _ _ there.0 there.1
