-- A receive record as two words that another language lends, and what the calls on a record, on a plain list and on the table give: a number, the
-- words of `out` where there are any, and what was lent as it is after the call.
use Rattle.std.specs.Prelude.{ℕ, List, [], ◌∷◌, get_or}
use Rattle.wire_read.specs.Answer.{Answer}
use Rattle.sequence_record.specs.declared.Receive.{Receive}
use Rattle.sequence_record.specs.Verdict.{Verdict, Judged}
use Rattle.sequence_record.specs.declared.LossLine.{LossLine}
use Rattle.sequence_record.specs.Receive.{verdict_answer}
use Rattle.sequence_table.specs.declared.table.Key.{Key}
use Rattle.sequence_table.specs.Outcome.{Outcome}
use Rattle.sequence_table.specs.Sending.{Sending}
use Rattle.sequence_table.specs.Table.{Table, outcome_answer, sending_answer}
use Rattle.sequence_plain.specs.Plain.{PlainList}
use Rattle.exports_words.specs.Given.{given}

-- ---- a record

-- the record in two words, highest and window, and its words
abbrev pub receive_of : (words : List ℕ) → Receive
receive_of words = record { highest = get_or words 0 0; window = get_or words 1 0 }

abbrev pub receive_words : (r : Receive) → List ℕ
receive_words r = r.highest ∷ r.window ∷ []

-- a step: its verdict's number and the word of `out`, the rise, and the words after it
unfoldable pub stepped : (j : Judged) (out : List ℕ) → (ℕ × List ℕ) × List ℕ
stepped j out = (given 1 (verdict_answer j.verdict) out, receive_words j.receive)

-- a loss line as the words of `out`
abbrev pub line_words : (line : LossLine) → List ℕ
line_words line = line.highest ∷ line.span ∷ line.count ∷ []

-- ---- a plain list

-- a step: its number and the word of `out`, the rise, and the list after it
unfoldable pub plain_given : (answered : Answer × PlainList) (out : List ℕ) → (ℕ × List ℕ) × PlainList
plain_given (answer, after) out = (given 1 answer out, after)

-- ---- the table

abbrev pub key_of : (destination protocol spi : ℕ) → Key
key_of destination protocol spi = record { destination = destination; protocol = protocol; spi = spi }

-- a call's number, and the table after it
unfoldable pub outcome_given : (answered : Outcome × Table) → ℕ × Table
outcome_given (outcome, after) = ((outcome_answer outcome).number, after)

-- its number and the word of `out`, the rise or the number for sending, and the table after it
unfoldable pub verdict_given : (answered : Verdict × Table) (out : List ℕ) → (ℕ × List ℕ) × Table
verdict_given (verdict, after) out = (given 1 (verdict_answer verdict) out, after)

unfoldable pub sending_given : (answered : Sending × Table) (out : List ℕ) → (ℕ × List ℕ) × Table
sending_given (sending, after) out = (given 1 (sending_answer sending) out, after)
