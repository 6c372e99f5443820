-- What an answer says, whatever type it has in the code: the paper's number, 0 for done, and the values that come with it.
-- A refusal "returns its number alone", so it has no values; what is done has at least one, so the two are never taken for each other.
use Rattle.std.specs.Prelude.{ℕ, List, [], ◌∷◌, Bool}
use Rattle.wire_read.specs.Tests.{if◌then◌otherwise◌}

pub record Answer : Type 0 where
  pub number : ℕ
  pub values : List ℕ

abbrev pub done : (values : List ℕ) → Answer
done values = record { number = 0; values = values }

abbrev pub refused : (number : ℕ) → Answer
refused number = record { number = number; values = [] }

-- an answer that is yes or no
abbrev pub told : (b : Bool) → Answer
told b = done ((if b then 1 otherwise 0) ∷ [])
