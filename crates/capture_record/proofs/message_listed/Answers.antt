use Rattle.capture_record.proofs.Ways.{enciphered_listed, message-listed}
use Rattle.capture_record.proofs.message_listed.Goals as goal

pub returns-then-m-byte : goal.returns-then-m-byte
returns-then-m-byte c = search enciphered_listed

pub returns : goal.returns
returns c = search message-listed
