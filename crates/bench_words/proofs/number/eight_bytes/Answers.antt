use Rattle.bench_words.proofs.NumberLaws.{eight_wrong, eight_is, eight_other}
use Rattle.bench_words.proofs.number.eight_bytes.Goals as goal

pub returns-in_err-end : goal.returns-in_err-end
returns-in_err-end c = let none = c.in_err-end.was in search eight_wrong

pub returns-then-end-eq8 : goal.returns-then-end-eq8
returns-then-end-eq8 c = let told = c.in_ok-end.was in search eight_is

pub returns-else-end-eq8 : goal.returns-else-end-eq8
returns-else-end-eq8 c = let told = c.in_ok-end.was in search eight_other
