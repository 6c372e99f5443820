-- Reading a message: the payloads that are handed out by number are those that the reading found, and they lie one behind the other
-- from byte 28 on.
use Rattle.std.specs.Prelude.{ℕ, suc, ◌+◌, ◌≤◌, ◌<◌, ◌≡◌, List, ◌∷◌, length}
use Rattle.wire_read.specs.Wire.{Bytes}
use Rattle.wire_read.specs.Answer.{done}
use Rattle.message_header.specs.Header.{exchange_of}
use Rattle.message_chain.specs.Message.{nth, reading, payload_at, message_answer, shown, shown_payloads}
use Rattle.message_chain.specs.declared.Payload.{Payload}
use Rattle.message_chain.specs.Message.{Message}
use Rattle.message_chain.specs.Message.{Refused, Read}
use Rattle.wire_read.proofs.Tests.{never}
use Rattle.promises.specs.SequenceAnswers.{parts}

-- what is promised of the payloads ps that were found in m
pub record InLine (m : Bytes) (ps : List Payload) : Type 0 where
  pub handed : (j : ℕ) → j < length ps → payload_at j m ≡ nth ps j
  pub begins : (nth ps 0).start ≡ 28
  pub follows : (j : ℕ) → suc j < length ps → (nth ps (suc j)).start ≡ (nth ps j).start + (nth ps j).length
  pub within : (j : ℕ) → j < length ps → (nth ps j).start + (nth ps j).length ≤ length m

-- what is promised where `read` answers an exchange and a count: the whole reading is these and the payloads that were found, and they lie so
pub record Found (m : Bytes) (exchange count : ℕ) : Type 0 where
  pub found : List Payload
  pub many : length found ≡ count
  pub whole : shown (reading m) (exchange_of m) ≡ done (exchange ∷ count ∷ shown_payloads found)
  pub lie : InLine m found

-- ---- by the paper's number and values: no two answers of `read` have the same

pub answer-own : (x y : Message) → message_answer x ≡ message_answer y → x ≡ y
unfolding message_answer
answer-own (Read exchange count) (Read exchange' count') h = let e = parts _ _ h in cc
answer-own (Read exchange count) (Refused m) h = let e = parts _ _ h in never (cc)
answer-own (Refused n) (Read exchange' count') h = let e = parts _ _ h in never (cc)
answer-own (Refused n) (Refused m) h = let e = parts _ _ h in cc
