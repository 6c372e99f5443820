use Rattle.bench_words.proofs.SayLaws.{loss-said}
use Rattle.bench_words.proofs.say.loss_line.Goals as goal

pub returns : goal.returns
returns c = search loss-said
