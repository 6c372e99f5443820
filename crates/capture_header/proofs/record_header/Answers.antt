use Rattle.capture_header.proofs.Ways.{record_cut_short, record_refused, record_read}
use Rattle.capture_header.proofs.record_header.Goals as goal

pub returns-then-s-lt16 : goal.returns-then-s-lt16
returns-then-s-lt16 c = search record_cut_short

pub returns-then-captured-gt65535 : goal.returns-then-captured-gt65535
returns-then-captured-gt65535 c = search record_refused

pub returns : goal.returns
returns c = search record_read
