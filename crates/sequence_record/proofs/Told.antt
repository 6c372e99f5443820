-- What is told of a verdict, or of a step, is that of one answer only; and what a `?` hands on.
use Rattle.std.specs.Prelude.{ℕ, ◌≡◌, Result, Ok, Err}
use Rattle.std.specs.Result.{IsErrAnd}
use Rattle.std.proofs.Common.{ap, ap₂}
use Rattle.wire_read.proofs.Tests.{never}
use Rattle.refusal.specs.Numbers.{number}
use Rattle.refusal.specs.declared.Refusal.{Refusal}
use Rattle.refusal.proofs.Laws.{number-injective}
use Rattle.sequence_record.specs.declared.Receive.{Receive}
use Rattle.sequence_record.specs.declared.Judged.{Judged as CodeJudged}
use Rattle.sequence_record.specs.Verdict.{Judged, verdict_told, judged_told}

pub verdict_told-injective : (x y : Result ℕ Refusal) → verdict_told x ≡ verdict_told y → x ≡ y
verdict_told-injective (Ok m) (Ok n) same = let alike : m ≡ n = cc in ap Ok alike
verdict_told-injective (Ok m) (Err s) same = never (cc)
verdict_told-injective (Err r) (Ok n) same = never (cc)
verdict_told-injective (Err r) (Err s) same = let alike : number r ≡ number s = cc in ap Err (number-injective r s alike)

pub judged_told-injective : (x y : CodeJudged) → judged_told x ≡ judged_told y → x ≡ y
judged_told-injective x y same =
    ap₂ (λ (r : Receive) (v : Result ℕ Refusal). record { receive = r; verdict = v }) (ap (λ (j : Judged). j.receive) same)
    (verdict_told-injective x.verdict y.verdict (ap (λ (j : Judged). j.verdict) same))

-- what a `?` hands on is the refusal that it was given
pub handed_on : {A : Type 0} (answer : Result A Refusal) (given : Refusal) → IsErrAnd answer (λ refusal. refusal ≡ given) → answer ≡ Err given
handed_on (Ok passed) given same = absurd same
handed_on (Err refusal) given same = ap Err same
