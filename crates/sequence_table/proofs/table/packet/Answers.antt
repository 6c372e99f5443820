use Rattle.sequence_record.proofs.Told.{handed_on}
use Rattle.sequence_table.proofs.Ways.{no-room, room-there, packet-unread, packet-absent, packet-judged}
use Rattle.sequence_table.proofs.table.packet.Goals as goal

pub returns-in_err-spi : goal.returns-in_err-spi
returns-in_err-spi c =
    rw (handed_on _ _ c.from_residual.ensures.1) (packet-unread _ _ _ _ _ _ c.in_err-spi.ensures)

pub returns-in_err-room : goal.returns-in_err-room
returns-in_err-room c =
    let none = no-room _ _ c.find.ensures.place _ _ c.ok_or.ensures.value _ c.in_err-room.was _ c.from_residual-in_err-room.ensures.1 in
    rw none.1 (packet-absent _ _ _ _ _ _ _ c.in_ok-spi.ensures none.0)

pub returns : goal.returns
returns c =
    let there = room-there _ _ c.find.ensures.place c.find.ensures.within _ _ c.ok_or.ensures.value _ c.in_ok-room.was in
    packet-judged _ _ _ _ _ _ _ c.in_ok-spi.ensures _ there.0 there.1 _ c.entry_at-entry.ensures _ c.step-verdict.ensures _ c.put_entry.ensures
