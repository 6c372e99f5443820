use Rattle.capture_words.proofs.Ways.{decimal_glyph}
use Rattle.capture_words.proofs.number.decimal_digit.Goals as goal

pub returns : goal.returns
returns c = search decimal_glyph
