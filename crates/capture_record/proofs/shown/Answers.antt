use Rattle.sequence_record.proofs.Told.{handed_on}
use Rattle.capture_record.proofs.Ways.{known-shown, adding_refused, adding_done}
use Rattle.capture_record.proofs.shown.Goals as goal

pub returns-then-not-is_eleven : goal.returns-then-not-is_eleven
returns-then-not-is_eleven c = search known-shown

pub returns-in_err-add : goal.returns-in_err-add
returns-in_err-add c =
    rw (handed_on _ _ c.from_residual.ensures.1)
    (adding_refused _ _ _ _ _ _ c.packet-verdict.ensures _ c.is_eleven.ensures c.if-not-is_eleven.false _ c.spi_of-spi.ensures _ _ c.in_err-add.ensures)

pub returns : goal.returns
returns c =
    adding_done _ _ _ _ _ _ c.packet-verdict.ensures _ c.is_eleven.ensures c.if-not-is_eleven.false _ c.spi_of-spi.ensures _ c.in_ok-add.ensures _ _
    c.packet.ensures
