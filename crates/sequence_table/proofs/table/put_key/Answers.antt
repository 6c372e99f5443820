use Rattle.sequence_table.specs.Table.{put_key}
use borrow.Author.Rules.{rules}
use Rattle.sequence_table.proofs.table.put_key.Goals as goal

pub returns : goal.returns
unfolding put_key
returns c = search rules
