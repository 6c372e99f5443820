use Rattle.exports_quick.proofs.Ways.{finish_refused, finish_nothing, finish_send}
use Rattle.exports_quick.proofs.finish.Goals as goal

pub returns-in-Refused : goal.returns-in-Refused
returns-in-Refused c = search finish_refused

pub returns-in-Nothing : goal.returns-in-Nothing
returns-in-Nothing c = search finish_nothing

pub returns-in-Send : goal.returns-in-Send
returns-in-Send c = search finish_send
