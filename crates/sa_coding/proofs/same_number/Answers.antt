use mathlib.Core.Path.{refl}
use Rattle.sa_coding.proofs.Ways.{numbers-end, numbers_differ, numbers_fall, numbers_on}
use Rattle.sa_coding.proofs.same_number.Goals as goal

pub loop-p-init : goal.loop-p-init
loop-p-init c = refl

pub returns-then-last_byte : goal.returns-then-last_byte
returns-then-last_byte c = search numbers_differ

pub loop-p-smaller : goal.loop-p-smaller
loop-p-smaller c = search numbers_fall

pub loop-p-preserved : goal.loop-p-preserved
loop-p-preserved c = search numbers_on

pub returns : goal.returns
returns c = search numbers-end
