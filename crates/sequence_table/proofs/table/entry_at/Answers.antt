use Rattle.sequence_table.specs.Table.{entry_at}
use borrow.Author.Rules.{rules}
use Rattle.sequence_table.proofs.table.entry_at.Goals as goal

pub returns : goal.returns
unfolding entry_at
returns c = search rules
