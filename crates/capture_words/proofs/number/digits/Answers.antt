use Rattle.capture_words.proofs.Decimal.{digits_said}
use Rattle.capture_words.proofs.number.digits.Goals as goal

pub returns : goal.returns
returns c = search digits_said
