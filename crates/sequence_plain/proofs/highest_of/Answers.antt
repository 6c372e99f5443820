use mathlib.Core.Path.{refl}
use Rattle.sequence_plain.specs.Plain.{first_numbers}
use Rattle.sequence_plain.proofs.Ways.{next_highest, all_seen}
use Rattle.sequence_plain.proofs.highest_of.Goals as goal

pub loop-number-init : goal.loop-number-init
unfolding first_numbers
loop-number-init c = refl

pub loop-number-preserved : goal.loop-number-preserved
loop-number-preserved c =
    next_highest _ _ c.numbers-number-items.ensures _ _ c.loop-number.invariant c.loop-number-test.true _ c.max-highest.ensures

pub returns : goal.returns
returns c = search all_seen
