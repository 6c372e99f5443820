use Rattle.quick_deliver.proofs.Ways.{halfway-two, set-fits}
use borrow.Author.Rules.{rules}
use Rattle.quick_deliver.proofs.be_half.Goals as goal

pub put_two-requires : goal.put_two-requires
put_two-requires c = (search set-fits, search rules, search rules)

pub put_two-size-requires : goal.put_two-size-requires
put_two-size-requires c = (search set-fits, search rules, search rules)

pub returns : goal.returns
returns c = search halfway-two
