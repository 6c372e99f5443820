-- The reading of a message, document 01: "The reading gives exchange, count, and type, start and length of each payload."
use Rattle.std.specs.Prelude.{ℕ, zero, suc, Result, Ok, Err, ◌+◌, List, [], ◌∷◌, Bool, false, not, ◌||◌, length, get_or, drop, eqb}
use Rattle.wire_read.specs.Wire.{Bytes, next_field, length_field, next_at, length_at}
use Rattle.wire_read.specs.Tests.{if◌then◌otherwise◌}
use Rattle.wire_read.specs.Answer.{Answer, done}
use Rattle.wire_read.specs.Answer as Answers
use Rattle.message_header.specs.Header.{exchange_of, flags_of, first_payload, header_code}
use Rattle.message_payload.specs.Payloads.{payload_code, rest_code}
use Rattle.message_chain.specs.declared.Payload.{Payload}
use Rattle.message_chain.specs.declared.Message.{Message as Found}
use Rattle.refusal.specs.declared.Refusal.{Refusal}
use Rattle.refusal.specs.Numbers.{number}

-- what a message is read as, and what the code says so by
pub data Message : Type 0 where
  Refused : (number : ℕ) → Message
  Read : (exchange count : ℕ) → Message

abbrev pub message_by : {R : Type 0} (numbered : R → ℕ) (answer : Result Found R) → Message
message_by numbered (Ok found) = Read found.exchange found.count
message_by numbered (Err refused) = Refused (numbered refused)

abbrev pub message_told : (answer : Result Found Refusal) → Message
message_told answer = message_by number answer

-- a message is refused, or its payloads are found
pub data Reading : Type 0 where
  refused : (number : ℕ) → Reading
  payloads : (ps : List Payload) → Reading

-- payload j of those that were found, counted from 0
abbrev nowhere : Payload
nowhere = record { payloadtype = 0; start = 0; length = 0 }

abbrev pub nth : (ps : List Payload) (j : ℕ) → Payload
nth ps j = get_or ps j nowhere

-- a payload, and then what is found behind it
unfoldable pub in_front : (p : Payload) (reading : Reading) → Reading
in_front p (refused number) = refused number
in_front p (payloads ps) = payloads (p ∷ ps)

-- each payload in its turn, "a 33rd: 16": left may come, this one is of that type, offered is whether an SA payload came before, and s is
-- what follows from start on
unfoldable pub chain : (left exchange flags : ℕ) (offered : Bool) (payloadtype start : ℕ) (s : Bytes) → Reading
chain zero exchange flags offered payloadtype start s = refused 16
chain (suc left) exchange flags offered payloadtype start s =
    if not (eqb (payload_code exchange offered payloadtype s) 0) then refused (payload_code exchange offered payloadtype s)
    otherwise in_front (record { payloadtype = payloadtype; start = start; length = length_field s })
    (if not (eqb (next_field s) 0) then chain left exchange flags (offered || eqb payloadtype 1) (next_field s) (start + length_field s) (drop (length_field s) s)
    otherwise if not (eqb (rest_code flags (drop (length_field s) s)) 0) then refused (rest_code flags (drop (length_field s) s))
    otherwise payloads [])

unfoldable pub reading : (m : Bytes) → Reading
reading m =
    if not (eqb (header_code m) 0) then refused (header_code m)
    otherwise chain 32 (exchange_of m) (flags_of m) false (first_payload m) 28 (drop 28 m)

-- what is answered: exchange, and how many payloads; so many were found before this part of the chain, none before the whole
unfoldable pub exchange_and_count : (exchange before : ℕ) (reading : Reading) → Message
exchange_and_count exchange before (refused number) = Refused number
exchange_and_count exchange before (payloads ps) = Read exchange (before + length ps)

unfoldable pub message : (m : Bytes) → Message
message m = exchange_and_count (exchange_of m) 0 (reading m)

-- payload k from the one of this type at start on: its type stands in the one before it, its length in its bytes 2 and 3
unfoldable pub walk : (k payloadtype start : ℕ) (m : Bytes) → Payload
walk zero payloadtype start m = record { payloadtype = payloadtype; start = start; length = length_at m start }
walk (suc k) payloadtype start m = walk k (next_at m start) (start + length_at m start) m

unfoldable pub payload_at : (k : ℕ) (m : Bytes) → Payload
payload_at k m = walk k (first_payload m) 28 m

-- the paper's number and values: of what `read` answers, and of the whole reading, with each payload's type, start and length
unfoldable pub message_answer : (read : Message) → Answer
message_answer (Refused number) = Answers.refused number
message_answer (Read exchange count) = done (exchange ∷ count ∷ [])

unfoldable pub shown_payloads : (ps : List Payload) → List ℕ
shown_payloads [] = []
shown_payloads (p ∷ ps) = p.payloadtype ∷ p.start ∷ p.length ∷ shown_payloads ps

unfoldable pub shown : (reading : Reading) (exchange : ℕ) → Answer
shown (refused number) exchange = Answers.refused number
shown (payloads ps) exchange = done (exchange ∷ length ps ∷ shown_payloads ps)
