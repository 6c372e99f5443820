use Rattle.policy_why.proofs.WhyWays.{place_found}
use Rattle.policy_why.proofs.is_place.Goals as goal

pub returns : goal.returns
returns c = search place_found
