use Rattle.bench_words.proofs.SayLaws.{word_none, word_some}
use Rattle.bench_words.proofs.say.word.Goals as goal

pub returns-then-word-eq0 : goal.returns-then-word-eq0
returns-then-word-eq0 c = search word_none

pub returns-else-word-eq0 : goal.returns-else-word-eq0
returns-else-word-eq0 c = search word_some
