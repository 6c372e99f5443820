use Rattle.std.proofs.Common.{sym}
use Rattle.sequence_table.proofs.Ways.{none_there, some_there, no-room, room-there, add_unknown, add_low, add_present, add_full, add_done}
use Rattle.sequence_table.proofs.table.add.Goals as goal

pub returns-then-not-known : goal.returns-then-not-known
returns-then-not-known c = search add_unknown

pub returns-then-key-lt256 : goal.returns-then-key-lt256
returns-then-key-lt256 c = search add_low

pub returns-then-is_some : goal.returns-then-is_some
returns-then-is_some c =
    let present = some_there _ _ c.find.ensures.place c.find.ensures.within (sym c.if-is_some.ensures) in
    search add_present

pub returns-in_err-room : goal.returns-in_err-room
returns-in_err-room c =
    let absent = none_there _ _ c.find.ensures.place (sym c.if-is_some.ensures) in
    let none = no-room _ _ c.free.ensures.place _ _ c.ok_or.ensures.value _ c.in_err-room.was _ c.from_residual.ensures.1 in
    let full = none.0 in
    rw none.1 (search add_full)

pub returns : goal.returns
returns c =
    let absent = none_there _ _ c.find.ensures.place (sym c.if-is_some.ensures) in
    let there = room-there _ _ c.free.ensures.place c.free.ensures.within _ _ c.ok_or.ensures.value _ c.in_ok-room.was in
    let found = there.0 in
    let within = there.1 in
    search add_done
