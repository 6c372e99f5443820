-- A verdict and a step's answer as the definitions have them, and what the code's answers tell of them.
use Rattle.std.specs.Prelude.{ℕ, Result, Ok, Err}
use Rattle.refusal.specs.Numbers.{number}
use Rattle.refusal.specs.declared.Refusal.{Refusal}
use Rattle.sequence_record.specs.declared.Receive.{Receive}
use Rattle.sequence_record.specs.declared.Judged.{Judged as CodeJudged}

-- by how much the highest number rose, 0 where it did not; or the number of the refusal
pub data Verdict : Type 0 where
  Accepted : (rise : ℕ) → Verdict
  Refused : (number : ℕ) → Verdict

-- a step's verdict, and the record after it
pub record Judged : Type 0 where
  pub receive : Receive
  pub verdict : Verdict

abbrev pub verdict_by : {R : Type 0} (numbered : R → ℕ) (answer : Result ℕ R) → Verdict
verdict_by numbered (Ok rise) = Accepted rise
verdict_by numbered (Err refused) = Refused (numbered refused)

abbrev pub verdict_told : (answer : Result ℕ Refusal) → Verdict
verdict_told answer = verdict_by number answer

abbrev pub judged_told : (j : CodeJudged) → Judged
judged_told j = record { receive = j.receive; verdict = verdict_told j.verdict }
