use Rattle.policy_reply.proofs.ReplyWays.{low-some, low-none}
use Rattle.policy_reply.proofs.spi_low.Goals as goal

pub returns-in-Some : goal.returns-in-Some
returns-in-Some c = search low-some

pub returns-in-None : goal.returns-in-None
returns-in-None c = search low-none
