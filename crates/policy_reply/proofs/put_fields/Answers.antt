use Rattle.policy_reply.proofs.ReplyWays.{fields-written}
use Rattle.policy_reply.proofs.put_fields.Goals as goal

pub returns : goal.returns
returns c = search fields-written
