-- What arrives at port 4500, document 01, "Port 4500".
use Rattle.std.specs.Prelude.{ℕ, ◌-◌, [], ◌∷◌, Result, Ok, Err, length, take, drop, ltb}
use Rattle.wire_read.specs.Wire.{Bytes, equal}
use Rattle.wire_read.specs.Tests.{if◌then◌otherwise◌}
use Rattle.wire_read.specs.Answer.{Answer, done, refused}
use Rattle.refusal.specs.Numbers.{number}
use Rattle.refusal.specs.declared.Refusal.{Refusal}
use Rattle.port4500.specs.declared.Datagram.{Datagram as Lawful}
use Rattle.port4500.specs.declared.Datagram.TheVariants as Codes

-- what a datagram is
pub data Datagram : Type 0 where
  Keepalive : Datagram
  KeyExchange : (start length : ℕ) → Datagram
  Esp : (length : ℕ) → Datagram
  Refused : (number : ℕ) → Datagram

-- "four zero bytes"
abbrev pub marker : Bytes
marker = 0 ∷ 0 ∷ 0 ∷ 0 ∷ []

-- "A single byte 255 is a keepalive. Otherwise fewer than 4 bytes: 16. A message behind four zero bytes is a key exchange; the rest is
-- handed on. Anything else is an ESP packet, whole."
unfoldable pub datagram : (s : Bytes) → Datagram
datagram s =
    if equal s (255 ∷ []) then Keepalive
    otherwise if ltb (length s) 4 then Refused 16
    otherwise if equal (take 4 s) marker then KeyExchange 4 (length s - 4)
    otherwise Esp (length s)

-- an answer of the code, in these words
abbrev pub datagram_told : (answer : Result Lawful Refusal) → Datagram
datagram_told (Ok Codes.Keepalive) = Keepalive
datagram_told (Ok (Codes.KeyExchange start length)) = KeyExchange start length
datagram_told (Ok (Codes.Esp length)) = Esp length
datagram_told (Err refusal) = Refused (number refusal)

-- the part that is handed on: the rest of a key exchange, an ESP packet whole, nothing else
unfoldable pub handed_on : (datagram : Datagram) (s : Bytes) → Bytes
handed_on Keepalive s = []
handed_on (KeyExchange start length) s = drop start s
handed_on (Esp length) s = s
handed_on (Refused number) s = []

-- the paper's number and values for each case
unfoldable pub datagram_answer : (datagram : Datagram) → Answer
datagram_answer Keepalive = done (1 ∷ [])
datagram_answer (KeyExchange start length) = done (2 ∷ start ∷ length ∷ [])
datagram_answer (Esp length) = done (3 ∷ length ∷ [])
datagram_answer (Refused number) = refused number
