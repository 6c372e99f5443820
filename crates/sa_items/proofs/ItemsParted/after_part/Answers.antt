use Rattle.sa_items.proofs.Ways.{item-after}
use Rattle.sa_items.proofs.ItemsParted.after_part.Goals as goal

pub returns : goal.returns
returns c = search item-after
