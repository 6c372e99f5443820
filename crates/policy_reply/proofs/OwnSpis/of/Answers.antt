use Rattle.policy_reply.proofs.ReplyWays.{spi-ah, spi-esp, spi-none}
use Rattle.policy_reply.proofs.OwnSpis.of.Goals as goal

pub returns-in-2 : goal.returns-in-2
returns-in-2 c = search spi-ah

pub returns-in-3 : goal.returns-in-3
returns-in-3 c = search spi-esp

pub returns-in_default : goal.returns-in_default
returns-in_default c = search spi-none
