use Rattle.policy_reply.proofs.ReplyWays.{low_one, low_two}
use Rattle.policy_reply.proofs.spis_low.Goals as goal

pub returns-in-One : goal.returns-in-One
returns-in-One c = search low_one

pub returns-in-Two : goal.returns-in-Two
returns-in-Two c = search low_two
