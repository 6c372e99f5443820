use Rattle.policy_lawful.specs.Lawful.{lawful_by, reply_lawful}
use Rattle.policy_lawful.proofs.reply_lawful.Goals as goal

pub returns-in-None : goal.returns-in-None
unfolding reply_lawful lawful_by
returns-in-None c = rw (← c.in-None.ensures)

pub returns-in-Some : goal.returns-in-Some
unfolding reply_lawful
returns-in-Some c = rw (← c.in-Some.ensures) c.refusal.ensures
