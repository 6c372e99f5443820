use Rattle.capture_words.proofs.Ways.{hex-said}
use Rattle.capture_words.proofs.number.hex_digits.Goals as goal

pub returns : goal.returns
returns c = search hex-said
