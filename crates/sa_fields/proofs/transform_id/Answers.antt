use Rattle.sa_fields.specs.Fields.{transform_id}
use Rattle.sa_fields.proofs.transform_id.Goals as goal

pub returns : goal.returns
unfolding transform_id
returns c = cc
