use Rattle.capture_record.proofs.Ways.{keepalive-listed, exchange-listed, esp-listed, datagram-refused}
use Rattle.capture_record.proofs.datagram_listed.Goals as goal

pub returns-in-Ok-Keepalive : goal.returns-in-Ok-Keepalive
returns-in-Ok-Keepalive c = search keepalive-listed

pub returns-in-Ok-KeyExchange : goal.returns-in-Ok-KeyExchange
returns-in-Ok-KeyExchange c = search exchange-listed

pub returns-in-Ok-Esp : goal.returns-in-Ok-Esp
returns-in-Ok-Esp c = search esp-listed

pub returns-in-Err : goal.returns-in-Err
returns-in-Err c = search datagram-refused
