use Rattle.bench_words.proofs.SayLaws.{said-both}
use Rattle.capture_words.proofs.addressed.Goals as goal

pub returns : goal.returns
returns c = search said-both
