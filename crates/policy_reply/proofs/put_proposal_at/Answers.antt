use Rattle.policy_reply.proofs.ReplyWays.{proposal-written}
use Rattle.policy_reply.proofs.put_proposal_at.Goals as goal

pub returns : goal.returns
returns c = proposal-written _ _ _ _ _ _ _ _ _ _ _ _ _ c.after-rest.ensures c.put_spi-spi.ensures c.put_headed.ensures c.put_fields.ensures
