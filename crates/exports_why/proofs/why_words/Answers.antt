use Rattle.exports_words.specs.Given.{words}
use Rattle.policy_why.specs.Why.{why_answer}
use Rattle.exports_why.proofs.why_words.Goals as goal

pub returns-in-NoSuchPlace : goal.returns-in-NoSuchPlace
unfolding words why_answer
returns-in-NoSuchPlace c = rw c.in-NoSuchPlace.is

pub returns-in-Protocols : goal.returns-in-Protocols
unfolding words why_answer
returns-in-Protocols c = rw c.in-Protocols.is

pub returns-in-Transform : goal.returns-in-Transform
unfolding why_answer
returns-in-Transform c = rw c.in-Transform.is c.cause_words.ensures
