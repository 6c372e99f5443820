use Rattle.sequence_plain.proofs.Ways.{step-behind, step_again, step_damaged, step-full, step-done}
use Rattle.sequence_plain.proofs.step.Goals as goal

pub returns-then-old : goal.returns-then-old
returns-then-old c = search step-behind

pub returns-then-again : goal.returns-then-again
returns-then-again c = search step_again

pub returns-then-not-integrity : goal.returns-then-not-integrity
returns-then-not-integrity c = search step_damaged

pub returns-then-count-ge-MOST : goal.returns-then-count-ge-MOST
returns-then-count-ge-MOST c = search step-full

pub returns : goal.returns
returns c = search step-done
