use Rattle.sa_coding.proofs.Ways.{stands_duration, stands_other}
use Rattle.sa_coding.proofs.stands_wrong.Goals as goal

pub returns-then-is_duration : goal.returns-then-is_duration
returns-then-is_duration c = search stands_duration

pub returns : goal.returns
returns c = search stands_other
