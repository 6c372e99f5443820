use Rattle.sa_transforms.specs.Transforms.{transform_wrong}
use Rattle.sa_transforms.proofs.transform_wrong.Goals as goal

pub returns : goal.returns
unfolding transform_wrong
returns c = cc
