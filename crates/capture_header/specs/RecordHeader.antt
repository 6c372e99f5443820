-- What a record's header answers.
use Rattle.std.specs.Prelude.{ℕ}

pub data RecordHeader : Type 0 where
  Read : (seconds microseconds captured original : ℕ) → RecordHeader
  -- the file ends inside it
  CutShort : RecordHeader
  Refused : (number : ℕ) → RecordHeader
