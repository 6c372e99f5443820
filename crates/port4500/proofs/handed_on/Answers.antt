use Rattle.port4500.proofs.Ways.{rest-handed, whole-handed, keepalive-handed, refused-handed}
use Rattle.port4500.proofs.handed_on.Goals as goal

pub returns-in-Ok-KeyExchange : goal.returns-in-Ok-KeyExchange
returns-in-Ok-KeyExchange c = search rest-handed

pub returns-in-Ok-Esp : goal.returns-in-Ok-Esp
returns-in-Ok-Esp c = search whole-handed

pub returns-in-Ok-Keepalive : goal.returns-in-Ok-Keepalive
returns-in-Ok-Keepalive c = search keepalive-handed

pub returns-in-Err : goal.returns-in-Err
returns-in-Err c = search refused-handed
