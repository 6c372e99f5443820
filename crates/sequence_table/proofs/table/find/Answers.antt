use Rattle.sequence_table.proofs.Ways.{first-end, first-here, first_on}
use Rattle.sequence_table.specs.Table.{find}
use borrow.Author.Rules.{rules}
use Rattle.sequence_table.proofs.table.find.Goals as goal

pub loop-room-init : goal.loop-room-init
unfolding find
loop-room-init c = search rules

pub returns-then-holds-clause-place : goal.returns-then-holds-clause-place
unfolding find
returns-then-holds-clause-place c = search first-here

pub loop-room-preserved : goal.loop-room-preserved
unfolding find
loop-room-preserved c = search first_on

pub returns-clause-place : goal.returns-clause-place
unfolding find
returns-clause-place c = search first-end
