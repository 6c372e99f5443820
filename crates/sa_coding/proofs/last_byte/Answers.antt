use Rattle.sa_coding.proofs.Ways.{byte-none, byte_last}
use Rattle.sa_coding.proofs.last_byte.Goals as goal

pub returns-then-n-eq0 : goal.returns-then-n-eq0
returns-then-n-eq0 c = search byte-none

pub returns-else-n-eq0 : goal.returns-else-n-eq0
returns-else-n-eq0 c = search byte_last
