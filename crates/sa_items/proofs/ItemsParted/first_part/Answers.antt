use Rattle.sa_items.proofs.Ways.{item-first}
use Rattle.sa_items.proofs.ItemsParted.first_part.Goals as goal

pub returns : goal.returns
returns c = search item-first
