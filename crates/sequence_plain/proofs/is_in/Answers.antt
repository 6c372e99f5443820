use mathlib.Core.Path.{refl}
use Rattle.sequence_plain.specs.Plain.{first_numbers}
use Rattle.sequence_plain.proofs.Ways.{next_found, all_searched}
use Rattle.sequence_plain.proofs.is_in.Goals as goal

pub loop-kept-init : goal.loop-kept-init
unfolding first_numbers
loop-kept-init c = refl

pub loop-kept-preserved : goal.loop-kept-preserved
loop-kept-preserved c =
    next_found _ _ c.numbers-kept-items.ensures _ _ _ c.loop-kept.invariant c.loop-kept-test.true _ refl

pub returns : goal.returns
returns c = search all_searched
