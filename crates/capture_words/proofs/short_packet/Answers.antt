use Rattle.bench_words.proofs.SayLaws.{said-both}
use Rattle.capture_words.proofs.short_packet.Goals as goal

pub returns : goal.returns
returns g c = search said-both
