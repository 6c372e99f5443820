-- What is promised of every message that an end writes: it is readable, has at most 2,048 bytes, and is padded with fewer than 16 zero bytes.
use Rattle.std.specs.Prelude.{ℕ, ◌+◌, ◌%◌, ◌<◌, ◌≤◌, ◌≡◌, List, [], ◌∷◌, ◌++◌, length, drop, replicate}
use Rattle.wire_read.specs.Wire.{Bytes}
use Rattle.message_chain.specs.Message.{message}
use Rattle.message_chain.specs.Message.{Read}
use Rattle.quick_write.specs.Messages.{padding}

-- behind its header a message has these payloads, and then fewer than 16 zero bytes, to a multiple of 16
pub record Padded (payloads m : Bytes) : Type 0 where
  pub few : padding (length payloads) < 16
  pub ends : drop 28 m ≡ payloads ++ replicate (padding (length payloads)) 0
  pub long : length m ≡ 28 + length payloads + padding (length payloads)
  pub even : (length payloads + padding (length payloads)) % 16 ≡ 0

pub record Readable (m : Bytes) : Type 0 where
  pub count : ℕ
  pub reads : message m ≡ Read 32 count
  pub short : length m ≤ 2048
  pub payloads : Bytes
  pub padded : Padded payloads m

-- all of these messages are readable
pub data AllReadable : List Bytes → Type 0 where
  none : AllReadable []
  also : {m : Bytes} {log : List Bytes} → Readable m → AllReadable log → AllReadable (m ∷ log)
