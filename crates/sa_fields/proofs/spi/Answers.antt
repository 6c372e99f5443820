use Rattle.sa_fields.specs.Fields.{spi}
use Rattle.sa_fields.proofs.spi.Goals as goal

pub returns : goal.returns
unfolding spi
returns c = cc
