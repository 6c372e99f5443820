use Rattle.capture_words.proofs.Decimal.{marked-said}
use Rattle.capture_words.proofs.number.marked.Goals as goal

pub returns : goal.returns
returns c = search marked-said
