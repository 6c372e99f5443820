use Rattle.sequence_table.proofs.Ways.{no-room, room-there, send_absent, send_end, send_done}
use Rattle.sequence_table.proofs.table.send.Goals as goal

pub returns-in_err-room : goal.returns-in_err-room
returns-in_err-room c =
    let none = no-room _ _ c.find.ensures.place _ _ c.ok_or.ensures.value _ c.in_err-room.was _ c.from_residual.ensures.1 in
    rw none.1 (send_absent _ _ none.0)

pub returns-then-last-ge4294967295 : goal.returns-then-last-ge4294967295
returns-then-last-ge4294967295 c =
    let there = room-there _ _ c.find.ensures.place c.find.ensures.within _ _ c.ok_or.ensures.value _ c.in_ok-room.was in
    let found = there.0 in
    let within = there.1 in
    search send_end

pub returns : goal.returns
returns c =
    let there = room-there _ _ c.find.ensures.place c.find.ensures.within _ _ c.ok_or.ensures.value _ c.in_ok-room.was in
    let found = there.0 in
    let within = there.1 in
    search send_done
