use Rattle.policy_reply.proofs.ReplyWays.{offered-written}
use Rattle.policy_reply.proofs.put_offered.Goals as goal

pub returns : goal.returns
returns c = search offered-written
