-- What is told of an answer of the table is that of one answer only.
use Rattle.std.specs.Prelude.{ℕ, ◌≡◌, refl, Result, Ok, Err}
use Rattle.std.proofs.Common.{ap}
use Rattle.wire_read.proofs.Tests.{never}
use Rattle.refusal.specs.Numbers.{number}
use Rattle.refusal.specs.declared.Refusal.{Refusal}
use Rattle.refusal.proofs.Laws.{number-injective}
use Rattle.sequence_record.specs.declared.LossLine.{LossLine}
use Rattle.sequence_table.specs.Outcome.{outcome_told}
use Rattle.sequence_table.specs.Sending.{sending_told}
use Rattle.sequence_table.specs.Counted.{counted_told}

pub outcome_told-injective : (x y : Result Unit Refusal) → outcome_told x ≡ outcome_told y → x ≡ y
outcome_told-injective (Ok u) (Ok v) same = refl
outcome_told-injective (Ok u) (Err s) same = never (cc)
outcome_told-injective (Err r) (Ok v) same = never (cc)
outcome_told-injective (Err r) (Err s) same = let alike : number r ≡ number s = cc in ap Err (number-injective r s alike)

pub sending_told-injective : (x y : Result ℕ Refusal) → sending_told x ≡ sending_told y → x ≡ y
sending_told-injective (Ok m) (Ok n) same = let alike : m ≡ n = cc in ap Ok alike
sending_told-injective (Ok m) (Err s) same = never (cc)
sending_told-injective (Err r) (Ok n) same = never (cc)
sending_told-injective (Err r) (Err s) same = let alike : number r ≡ number s = cc in ap Err (number-injective r s alike)

pub counted_told-injective : (x y : Result LossLine Refusal) → counted_told x ≡ counted_told y → x ≡ y
counted_told-injective (Ok k) (Ok l) same = let alike : k ≡ l = cc in ap Ok alike
counted_told-injective (Ok k) (Err s) same = never (cc)
counted_told-injective (Err r) (Ok l) same = never (cc)
counted_told-injective (Err r) (Err s) same = let alike : number r ≡ number s = cc in ap Err (number-injective r s alike)
