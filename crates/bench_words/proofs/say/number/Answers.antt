use Rattle.bench_words.proofs.SayLaws.{said-both}
use Rattle.bench_words.proofs.say.number.Goals as goal

pub returns : goal.returns
returns c = search said-both
