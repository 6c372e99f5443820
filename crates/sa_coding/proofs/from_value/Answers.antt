use Rattle.sa_coding.proofs.Ways.{from_fixed, from_variable}
use Rattle.sa_coding.proofs.from_value.Goals as goal

pub returns-then-sent_fixed : goal.returns-then-sent_fixed
returns-then-sent_fixed c = search from_fixed

pub returns-else-sent_fixed : goal.returns-else-sent_fixed
returns-else-sent_fixed c = search from_variable
