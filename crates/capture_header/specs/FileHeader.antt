-- What a file's header answers.
use Rattle.std.specs.Prelude.{ℕ}
use Rattle.capture_header.specs.declared.Order.{Order}

pub data FileHeader : Type 0 where
  Read : (order : Order) → FileHeader
  Refused : (number : ℕ) → FileHeader
