use Rattle.policy_reply.proofs.ReplyWays.{spi-unwritten, spi-written}
use Rattle.policy_reply.proofs.put_spi.Goals as goal

pub returns-in_default : goal.returns-in_default
returns-in_default c = search spi-unwritten

pub returns : goal.returns
returns c = search spi-written
