use Rattle.der.proofs.Ways.{body-short, body_middle, body-long}
use Rattle.der.proofs.body_size.Goals as goal

pub returns-then-first-lt128 : goal.returns-then-first-lt128
returns-then-first-lt128 c = search body-short

pub returns-then-first : goal.returns-then-first
returns-then-first c = search body_middle

pub returns-else-first : goal.returns-else-first
returns-else-first c = search body-long
