use Rattle.bench_words.proofs.NumberLaws.{four_wrong, four_is, four_other}
use Rattle.bench_words.proofs.number.four_bytes.Goals as goal

pub returns-in_err-end : goal.returns-in_err-end
returns-in_err-end c = let none = c.in_err-end.was in search four_wrong

pub returns-then-end-eq4 : goal.returns-then-end-eq4
returns-then-end-eq4 c = let told = c.in_ok-end.was in search four_is

pub returns-else-end-eq4 : goal.returns-else-end-eq4
returns-else-end-eq4 c = let told = c.in_ok-end.was in search four_other
