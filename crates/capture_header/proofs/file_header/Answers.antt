use Rattle.capture_header.proofs.Ways.{file_short, file_big, file_little, file_other}
use Rattle.capture_header.proofs.file_header.Goals as goal

pub returns-then-s-lt24 : goal.returns-then-s-lt24
returns-then-s-lt24 c = search file_short

pub returns-then-number32 : goal.returns-then-number32
returns-then-number32 c = search file_big

pub returns-then-number32-2 : goal.returns-then-number32-2
returns-then-number32-2 c = search file_little

pub returns : goal.returns
returns c = search file_other
