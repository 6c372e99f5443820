use Rattle.policy_lawful.proofs.LawfulWays.{protocol_asked}
use Rattle.policy_lawful.proofs.has_protocol.Goals as goal

pub returns : goal.returns
returns c = search protocol_asked
