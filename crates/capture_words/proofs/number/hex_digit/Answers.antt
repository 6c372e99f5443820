use Rattle.capture_words.proofs.Ways.{hex_low, hex-high}
use Rattle.capture_words.proofs.number.hex_digit.Goals as goal

pub returns-then-digit-lt10 : goal.returns-then-digit-lt10
returns-then-digit-lt10 c = search hex_low

pub returns-else-digit-lt10 : goal.returns-else-digit-lt10
returns-else-digit-lt10 c = search hex-high
