-- What a call that changes the entries is answered, as the definitions have it, and what the code's answer tells of it.
use Rattle.std.specs.Prelude.{ℕ, Result, Ok, Err}
use Rattle.refusal.specs.Numbers.{number}
use Rattle.refusal.specs.declared.Refusal.{Refusal}

pub data Outcome : Type 0 where
  Done : Outcome
  Refused : (number : ℕ) → Outcome

abbrev pub outcome_told : (answer : Result Unit Refusal) → Outcome
outcome_told (Ok done) = Done
outcome_told (Err refusal) = Refused (number refusal)
