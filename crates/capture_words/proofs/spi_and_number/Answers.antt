use Rattle.bench_words.proofs.SayLaws.{said-both}
use Rattle.capture_words.proofs.spi_and_number.Goals as goal

pub returns : goal.returns
returns c = search said-both
