use Rattle.policy_suits.proofs.SuitWays.{quick-other, quick-life, quick_mode_lem, quick-kilobytes, quick-rest}
use Rattle.policy_suits.proofs.quick_suits.Goals as goal

pub returns-then-transform_id-quick_id : goal.returns-then-transform_id-quick_id
returns-then-transform_id-quick_id c = search quick-other

pub returns-then-not-seconds_within : goal.returns-then-not-seconds_within
returns-then-not-seconds_within c = search quick-life

pub returns-then-not-value_is : goal.returns-then-not-value_is
returns-then-not-value_is c = search quick_mode_lem

pub returns-then-not-kilobytes_some : goal.returns-then-not-kilobytes_some
returns-then-not-kilobytes_some c = search quick-kilobytes

pub returns : goal.returns
returns c = search quick-rest
