-- The number handed out for sending, or the refusal, as the definitions have it, and what the code's answer tells of it.
use Rattle.std.specs.Prelude.{ℕ, Result, Ok, Err}
use Rattle.refusal.specs.Numbers.{number}
use Rattle.refusal.specs.declared.Refusal.{Refusal}

pub data Sending : Type 0 where
  Number : (n : ℕ) → Sending
  Refused : (number : ℕ) → Sending

abbrev pub sending_told : (answer : Result ℕ Refusal) → Sending
sending_told (Ok n) = Number n
sending_told (Err refusal) = Refused (number refusal)
