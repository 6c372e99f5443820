use Rattle.std.proofs.Common.{sym, ◌∙◌}
use Rattle.refusal.proofs.Laws.{number-refuses, coded-handed_on}
use native.Mathlib.Omega.{arith}
use Rattle.sa_proposals.proofs.ProposalWays.{proposals-many, proposals-refused, proposals-end, proposals_over, proposals-on}
use Rattle.sa_proposals.proofs.+proposals_code.Goals as goal

pub returns-then-left-eq0 : goal.returns-then-left-eq0
returns-then-left-eq0 t c = search proposals-many

pub returns-in_err-proposal_code : goal.returns-in_err-proposal_code
returns-in_err-proposal_code t c = let refusal = c.in_err-proposal_code.field-0.0 in let refuses = number-refuses refusal in
    let told = c.in_err-proposal_code.ensures in
    coded-handed_on c.from_residual.result refusal c.from_residual.ensures.1 ∙ search proposals-refused

pub returns-then-rest-eq0 : goal.returns-then-rest-eq0
returns-then-rest-eq0 t c = let fine = sym c.in_ok-proposal_code.ensures in search proposals-end

pub returns-else-rest-eq0 : goal.returns-else-rest-eq0
returns-else-rest-eq0 t c = let fine = sym c.in_ok-proposal_code.ensures in search proposals_over

pub proposals_code-requires : goal.proposals_code-requires
proposals_code-requires t c = (omega arith, tt)

pub returns : goal.returns
returns t c = let fine = sym c.in_ok-proposal_code.ensures in search proposals-on fits 20000
