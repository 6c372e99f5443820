-- A reply as it is given: its number, with the word that is lent for its size, and the buffer after it.
use Rattle.std.specs.Prelude.{ℕ, List}
use Rattle.wire_read.specs.Wire.{Bytes}
use Rattle.policy_reply.specs.Reply.{reply_answer}
use Rattle.policy_reply.specs.Reply.{Outcome}
use Rattle.exports_words.specs.Given.{given}

unfoldable pub reply_given : (replied : Outcome × Bytes) (out : List ℕ) → (ℕ × List ℕ) × Bytes
reply_given (outcome, after) out = (given 1 (reply_answer outcome) out, after)
