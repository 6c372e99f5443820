use Rattle.sequence_table.specs.Table.{put_entry}
use borrow.Author.Rules.{rules}
use Rattle.sequence_table.proofs.table.put_entry.Goals as goal

pub returns : goal.returns
unfolding put_entry
returns c = search rules
