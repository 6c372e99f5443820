use Rattle.capture_words.proofs.Ways.{six_said, more-said}
use Rattle.capture_words.proofs.number.six_digits.Goals as goal

pub returns-then-n-lt1000000 : goal.returns-then-n-lt1000000
returns-then-n-lt1000000 c = search six_said

pub returns-else-n-lt1000000 : goal.returns-else-n-lt1000000
returns-else-n-lt1000000 c = search more-said
