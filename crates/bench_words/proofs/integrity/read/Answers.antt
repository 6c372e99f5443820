use Rattle.wire_read.proofs.Tests.{told_then, told_else}
use Rattle.bench_words.proofs.integrity.read.Goals as goal

pub returns-then-equal : goal.returns-then-equal
returns-then-equal c = search told_then

pub returns-then-equal-2 : goal.returns-then-equal-2
returns-then-equal-2 c = search (told_then, told_else)

pub returns-else-equal-2 : goal.returns-else-equal-2
returns-else-equal-2 c = search told_else
