use Rattle.identity.proofs.Ways.{lawful-main, lawful-quick, lawful-none}
use Rattle.identity.proofs.lawful.Goals as goal

pub returns-in-2 : goal.returns-in-2
returns-in-2 c = search lawful-main

pub returns-in-32 : goal.returns-in-32
returns-in-32 c = search lawful-quick

pub returns-in_default : goal.returns-in_default
returns-in_default c = search lawful-none
