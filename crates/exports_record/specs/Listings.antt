-- What is listed of a record as it is given: its number and words, and the table after it.
use Rattle.std.specs.Prelude.{ℕ, List}
use Rattle.sequence_table.specs.Table.{Table}
use Rattle.capture_record.specs.Listed.{Listed}
use Rattle.capture_record.specs.Listing.{listed_answer}
use Rattle.exports_words.specs.Given.{given}

unfoldable pub listed_given : (answered : Listed × Table) (out : List ℕ) → (ℕ × List ℕ) × Table
listed_given (listed, after) out = (given 8 (listed_answer listed) out, after)
