use Rattle.policy_cause.proofs.CauseWays.{id-suits, id_other}
use Rattle.policy_cause.proofs.Wish.id_cause.Goals as goal

pub returns-then-found-self : goal.returns-then-found-self
returns-then-found-self c = search id-suits

pub returns-else-found-self : goal.returns-else-found-self
returns-else-found-self c = search id_other
