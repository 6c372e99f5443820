use Rattle.wire_write.proofs.Laws.{put-head-first, put-headed_past}
use Rattle.wire_write.proofs.put_headed.Goals as goal

pub returns-then-buffer-at : goal.returns-then-buffer-at
returns-then-buffer-at c = search put-headed_past

pub returns : goal.returns
returns c = search put-head-first
