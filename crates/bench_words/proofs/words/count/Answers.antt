use Rattle.std.proofs.Common.{rules}
use Rattle.bench_words.proofs.WordLaws.{words_counted}
use Rattle.bench_words.proofs.words.count.Goals as goal

pub returns : goal.returns
returns c = words_counted _ _ (search rules)
