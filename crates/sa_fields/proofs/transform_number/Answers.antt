use Rattle.sa_fields.specs.Fields.{transform_number}
use Rattle.sa_fields.proofs.transform_number.Goals as goal

pub returns : goal.returns
unfolding transform_number
returns c = cc
