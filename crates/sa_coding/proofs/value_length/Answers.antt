use Rattle.sa_coding.proofs.Ways.{length_fixed, length_variable}
use Rattle.sa_coding.proofs.value_length.Goals as goal

pub returns-then-sent_fixed : goal.returns-then-sent_fixed
returns-then-sent_fixed c = search length_fixed

pub returns-else-sent_fixed : goal.returns-else-sent_fixed
returns-else-sent_fixed c = search length_variable
