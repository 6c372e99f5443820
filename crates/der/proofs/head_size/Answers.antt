use Rattle.der.proofs.Ways.{head-short, head_middle, head-long, head-none}
use Rattle.der.proofs.head_size.Goals as goal

pub returns-then-first-lt128 : goal.returns-then-first-lt128
returns-then-first-lt128 c = search head-short

pub returns-then-first-byte : goal.returns-then-first-byte
returns-then-first-byte c = search head_middle

pub returns-then-first-be16 : goal.returns-then-first-be16
returns-then-first-be16 c = search head-long

pub returns-else-first-be16 : goal.returns-else-first-be16
returns-else-first-be16 c = search head-none
