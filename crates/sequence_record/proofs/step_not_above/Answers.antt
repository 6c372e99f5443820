use Rattle.sequence_record.proofs.Ways.{refused-behind, within, refused_again, refused_broken, late_fits, late_accepted}
use Rattle.sequence_record.proofs.step_not_above.Goals as goal

pub returns-then-behind : goal.returns-then-behind
returns-then-behind c = search refused-behind

pub overflow_shr-accepted_before : goal.overflow_shr-accepted_before
overflow_shr-accepted_before c = search within

pub returns-then-accepted_before : goal.returns-then-accepted_before
returns-then-accepted_before c = search refused_again

pub returns-then-not-integrity : goal.returns-then-not-integrity
returns-then-not-integrity c = search refused_broken

pub overflow_shl-result : goal.overflow_shl-result
overflow_shl-result c = search within

pub overflow_add-result : goal.overflow_add-result
overflow_add-result c = record { fits = search late_fits }

pub returns : goal.returns
returns c = search late_accepted
