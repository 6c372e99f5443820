use Rattle.bench_words.proofs.SayLaws.{hex-byte}
use Rattle.bench_words.proofs.say.hex_byte.Goals as goal

pub returns : goal.returns
returns c = search hex-byte
