-- The loss line of a life, or the refusal, as the definitions have it, and what the code's answer tells of it.
use Rattle.std.specs.Prelude.{ℕ, Result, Ok, Err}
use Rattle.refusal.specs.Numbers.{number}
use Rattle.refusal.specs.declared.Refusal.{Refusal}
use Rattle.sequence_record.specs.declared.LossLine.{LossLine}

pub data Counted : Type 0 where
  Line : (line : LossLine) → Counted
  Refused : (number : ℕ) → Counted

abbrev pub counted_told : (answer : Result LossLine Refusal) → Counted
counted_told (Ok line) = Line line
counted_told (Err refusal) = Refused (number refusal)
