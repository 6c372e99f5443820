use Rattle.policy_why.proofs.WhyWays.{no_line, no_place, other-protocols, its_cause}
use Rattle.policy_why.proofs.cause_in.Goals as goal

pub returns-then-line_count-at : goal.returns-then-line_count-at
returns-then-line_count-at c = search no_line

pub returns-then-not-is_place : goal.returns-then-not-is_place
returns-then-not-is_place c = search no_place

pub returns-then-not-protocols_suit : goal.returns-then-not-protocols_suit
returns-then-not-protocols_suit c = search other-protocols

pub returns : goal.returns
returns c = search its_cause
