use Rattle.sequence_table.proofs.Ways.{first-end, free-here, free_on}
use Rattle.sequence_table.specs.Table.{free}
use borrow.Author.Rules.{rules}
use Rattle.sequence_table.proofs.table.free.Goals as goal

pub loop-room-init : goal.loop-room-init
unfolding free
loop-room-init c = search rules

pub returns-then-t-room-eq0-clause-place : goal.returns-then-t-room-eq0-clause-place
unfolding free
returns-then-t-room-eq0-clause-place c = search free-here

pub loop-room-preserved : goal.loop-room-preserved
unfolding free
loop-room-preserved c = search free_on

pub returns-clause-place : goal.returns-clause-place
unfolding free
returns-clause-place c = search first-end
