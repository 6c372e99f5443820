use Rattle.sa_fields.specs.Fields.{proposal_number}
use Rattle.sa_fields.proofs.proposal_number.Goals as goal

pub returns : goal.returns
unfolding proposal_number
returns c = cc
