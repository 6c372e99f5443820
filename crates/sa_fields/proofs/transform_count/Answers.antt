use Rattle.sa_fields.specs.Fields.{transform_count}
use Rattle.sa_fields.proofs.transform_count.Goals as goal

pub returns : goal.returns
unfolding transform_count
returns c = cc
