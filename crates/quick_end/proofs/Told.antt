-- What is told of a fresh end is told of one answer only.
use Rattle.std.specs.Prelude.{◌≡◌, refl, Result, Ok, Err, eqb}
use Rattle.std.proofs.Common.{sym, ap, ◌∙◌}
use Rattle.wire_read.specs.Tests.{if◌then◌otherwise◌}
use Rattle.refusal.specs.declared.Refusal.{Refusal}
use Rattle.refusal.proofs.Laws.{number-not_zero, refusal_of, refusal_of-number}
use Rattle.quick_end.specs.declared.Role.{Role}
use Rattle.quick_end.specs.declared.End.{End}
use Rattle.quick_end.specs.Fresh.{Made, made_told}

-- the answer of which this is told
abbrev answer_of : (told : Made) → Result End Refusal
answer_of told = if eqb told.number 0 then Ok told.end otherwise Err (refusal_of told.number)

answer_of-told : (role : Role) (answer : Result End Refusal) → answer_of (made_told role answer) ≡ answer
answer_of-told role (Ok end) = refl
answer_of-told role (Err refusal) = rw (number-not_zero refusal, refusal_of-number refusal)

pub made_told-injective : (role : Role) (x y : Result End Refusal) → made_told role x ≡ made_told role y → x ≡ y
made_told-injective role x y same = sym (answer_of-told role x) ∙ ap answer_of same ∙ answer_of-told role y
