use Rattle.std.proofs.Common.{sym, ◌∙◌}
use Rattle.refusal.proofs.Laws.{number-refuses, coded-handed_on}
use Rattle.sa_proposals.proofs.ProposalWays.{inner_refused, inner_next, inner_done}
use Rattle.sa_proposals.proofs.inner_code.Goals as goal

pub returns-in_err-transforms_code : goal.returns-in_err-transforms_code
returns-in_err-transforms_code c = let refusal = c.in_err-transforms_code.field-0.0 in let refuses = number-refuses refusal in
    let told = c.in_err-transforms_code.ensures in
    coded-handed_on c.from_residual.result refusal c.from_residual.ensures.1 ∙ search inner_refused

pub returns-then-exchange-byte : goal.returns-then-exchange-byte
returns-then-exchange-byte c = let fine = sym c.in_ok-transforms_code.ensures in search inner_next

pub returns-else-exchange-byte : goal.returns-else-exchange-byte
returns-else-exchange-byte c = let fine = sym c.in_ok-transforms_code.ensures in search inner_done
