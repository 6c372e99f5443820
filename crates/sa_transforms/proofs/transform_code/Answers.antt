use Rattle.sa_transforms.proofs.Ways.{transform_wrong_lem, transform_low, transform-attributes}
use Rattle.sa_transforms.proofs.transform_code.Goals as goal

pub returns-then-transform_wrong : goal.returns-then-transform_wrong
returns-then-transform_wrong c = search transform_wrong_lem

pub returns-then-byte-least : goal.returns-then-byte-least
returns-then-byte-least c = search transform_low

pub returns : goal.returns
returns c = search transform-attributes
