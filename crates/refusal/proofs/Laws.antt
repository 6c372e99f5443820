-- A refusal has its number for itself, and none has the number 0, so that an answer by number is that of one answer only.
use Rattle.std.specs.Result.{IsErrAnd}
use Rattle.std.specs.Prelude.{ℕ, ◌≡◌, refl, ◌≤◌, Result, Ok, Err, is_ok, false, eqb}
use Rattle.std.proofs.Common.{sym, ap, ◌∙◌, arith}
use Rattle.wire_read.specs.Tests.{if◌then◌otherwise◌}
use Rattle.wire_read.proofs.Tests.{clash}
use Rattle.refusal.specs.Numbers.{number, coded, coded_by}
use Rattle.refusal.specs.declared.Refusal.{Refusal}
use Rattle.refusal.specs.declared.Refusal.TheVariants.{InvalidPayloadType, DoiNotSupported, SituationNotSupported, InvalidCookie, InvalidMajorVersion, InvalidMinorVersion, InvalidExchangeType, InvalidFlags, InvalidMessageId, InvalidProtocolId, InvalidSpi, AttributesNotSupported, NoProposalChosen, BadProposalSyntax, PayloadMalformed, InvalidIdInformation, InvalidCertEncoding, InvalidHashInformation, AuthenticationFailed, UnsupportedExchangeType, UnequalPayloadLengths, BufferTooSmall, BookUnlawful, AcceptedBefore, CallUnexpected, GivenUp, BehindWindow, CounterAtEnd, TableFull, EntryPresent, NoCapture, ListFull}

pub number-not_zero : (refusal : Refusal) → eqb (number refusal) 0 ≡ false
number-not_zero InvalidPayloadType = refl
number-not_zero DoiNotSupported = refl
number-not_zero SituationNotSupported = refl
number-not_zero InvalidCookie = refl
number-not_zero InvalidMajorVersion = refl
number-not_zero InvalidMinorVersion = refl
number-not_zero InvalidExchangeType = refl
number-not_zero InvalidFlags = refl
number-not_zero InvalidMessageId = refl
number-not_zero InvalidProtocolId = refl
number-not_zero InvalidSpi = refl
number-not_zero AttributesNotSupported = refl
number-not_zero NoProposalChosen = refl
number-not_zero BadProposalSyntax = refl
number-not_zero PayloadMalformed = refl
number-not_zero InvalidIdInformation = refl
number-not_zero InvalidCertEncoding = refl
number-not_zero InvalidHashInformation = refl
number-not_zero AuthenticationFailed = refl
number-not_zero UnsupportedExchangeType = refl
number-not_zero UnequalPayloadLengths = refl
number-not_zero BufferTooSmall = refl
number-not_zero BookUnlawful = refl
number-not_zero AcceptedBefore = refl
number-not_zero CallUnexpected = refl
number-not_zero GivenUp = refl
number-not_zero BehindWindow = refl
number-not_zero CounterAtEnd = refl
number-not_zero TableFull = refl
number-not_zero EntryPresent = refl
number-not_zero NoCapture = refl
number-not_zero ListFull = refl

pub number-positive : (refusal : Refusal) → 1 ≤ number refusal
number-positive InvalidPayloadType = omega arith
number-positive DoiNotSupported = omega arith
number-positive SituationNotSupported = omega arith
number-positive InvalidCookie = omega arith
number-positive InvalidMajorVersion = omega arith
number-positive InvalidMinorVersion = omega arith
number-positive InvalidExchangeType = omega arith
number-positive InvalidFlags = omega arith
number-positive InvalidMessageId = omega arith
number-positive InvalidProtocolId = omega arith
number-positive InvalidSpi = omega arith
number-positive AttributesNotSupported = omega arith
number-positive NoProposalChosen = omega arith
number-positive BadProposalSyntax = omega arith
number-positive PayloadMalformed = omega arith
number-positive InvalidIdInformation = omega arith
number-positive InvalidCertEncoding = omega arith
number-positive InvalidHashInformation = omega arith
number-positive AuthenticationFailed = omega arith
number-positive UnsupportedExchangeType = omega arith
number-positive UnequalPayloadLengths = omega arith
number-positive BufferTooSmall = omega arith
number-positive BookUnlawful = omega arith
number-positive AcceptedBefore = omega arith
number-positive CallUnexpected = omega arith
number-positive GivenUp = omega arith
number-positive BehindWindow = omega arith
number-positive CounterAtEnd = omega arith
number-positive TableFull = omega arith
number-positive EntryPresent = omega arith
number-positive NoCapture = omega arith
number-positive ListFull = omega arith

pub number-refuses : (refusal : Refusal) → number refusal ≡ 0 → ⊥
number-refuses refusal none = let positive = number-positive refusal in absurd (omega (arith, positive, none))

-- what a `?` hands on refuses, and has the number of what it was given
module _ {A R : Type 0} (numbered : R → ℕ) where
  pub coded_by-handed_on : (answer : Result A R) (given : R) → IsErrAnd answer (λ refused. refused ≡ given) → coded_by numbered answer ≡ numbered given
  coded_by-handed_on (Ok passed) given same = absurd same
  coded_by-handed_on (Err refused) given same = ap numbered same

  pub handed_on-refused : (answer : Result A R) (given : R) → IsErrAnd answer (λ refused. refused ≡ given) → is_ok answer ≡ false
  handed_on-refused (Ok passed) given same = absurd same
  handed_on-refused (Err refused) given same = refl

pub coded-handed_on : {A : Type 0} (answer : Result A Refusal) (given : Refusal) → IsErrAnd answer (λ refusal. refusal ≡ given) → coded answer ≡ number given
coded-handed_on = coded_by-handed_on number

-- the refusal that has a number
abbrev pub refusal_of : (n : ℕ) → Refusal
refusal_of n =
    if eqb n 1 then InvalidPayloadType
    otherwise if eqb n 2 then DoiNotSupported
    otherwise if eqb n 3 then SituationNotSupported
    otherwise if eqb n 4 then InvalidCookie
    otherwise if eqb n 5 then InvalidMajorVersion
    otherwise if eqb n 6 then InvalidMinorVersion
    otherwise if eqb n 7 then InvalidExchangeType
    otherwise if eqb n 8 then InvalidFlags
    otherwise if eqb n 9 then InvalidMessageId
    otherwise if eqb n 10 then InvalidProtocolId
    otherwise if eqb n 11 then InvalidSpi
    otherwise if eqb n 13 then AttributesNotSupported
    otherwise if eqb n 14 then NoProposalChosen
    otherwise if eqb n 15 then BadProposalSyntax
    otherwise if eqb n 16 then PayloadMalformed
    otherwise if eqb n 18 then InvalidIdInformation
    otherwise if eqb n 19 then InvalidCertEncoding
    otherwise if eqb n 23 then InvalidHashInformation
    otherwise if eqb n 24 then AuthenticationFailed
    otherwise if eqb n 29 then UnsupportedExchangeType
    otherwise if eqb n 30 then UnequalPayloadLengths
    otherwise if eqb n 8192 then BufferTooSmall
    otherwise if eqb n 8193 then BookUnlawful
    otherwise if eqb n 8194 then AcceptedBefore
    otherwise if eqb n 8195 then CallUnexpected
    otherwise if eqb n 8196 then GivenUp
    otherwise if eqb n 8197 then BehindWindow
    otherwise if eqb n 8198 then CounterAtEnd
    otherwise if eqb n 8199 then TableFull
    otherwise if eqb n 8200 then EntryPresent
    otherwise if eqb n 8201 then NoCapture
    otherwise ListFull

pub refusal_of-number : (refusal : Refusal) → refusal_of (number refusal) ≡ refusal
refusal_of-number InvalidPayloadType = refl
refusal_of-number DoiNotSupported = refl
refusal_of-number SituationNotSupported = refl
refusal_of-number InvalidCookie = refl
refusal_of-number InvalidMajorVersion = refl
refusal_of-number InvalidMinorVersion = refl
refusal_of-number InvalidExchangeType = refl
refusal_of-number InvalidFlags = refl
refusal_of-number InvalidMessageId = refl
refusal_of-number InvalidProtocolId = refl
refusal_of-number InvalidSpi = refl
refusal_of-number AttributesNotSupported = refl
refusal_of-number NoProposalChosen = refl
refusal_of-number BadProposalSyntax = refl
refusal_of-number PayloadMalformed = refl
refusal_of-number InvalidIdInformation = refl
refusal_of-number InvalidCertEncoding = refl
refusal_of-number InvalidHashInformation = refl
refusal_of-number AuthenticationFailed = refl
refusal_of-number UnsupportedExchangeType = refl
refusal_of-number UnequalPayloadLengths = refl
refusal_of-number BufferTooSmall = refl
refusal_of-number BookUnlawful = refl
refusal_of-number AcceptedBefore = refl
refusal_of-number CallUnexpected = refl
refusal_of-number GivenUp = refl
refusal_of-number BehindWindow = refl
refusal_of-number CounterAtEnd = refl
refusal_of-number TableFull = refl
refusal_of-number EntryPresent = refl
refusal_of-number NoCapture = refl
refusal_of-number ListFull = refl

pub number-injective : (r s : Refusal) → number r ≡ number s → r ≡ s
number-injective r s same = sym (refusal_of-number r) ∙ ap refusal_of same ∙ refusal_of-number s

-- a check that answers nothing but that it lets pass has one answer by its number
pub coded-injective : (x y : Result Unit Refusal) → coded x ≡ coded y → x ≡ y
coded-injective (Ok u) (Ok v) same = refl
coded-injective (Ok u) (Err s) same = let positive = number-positive s in absurd (omega (arith, same, positive))
coded-injective (Err r) (Ok v) same = let positive = number-positive r in absurd (omega (arith, same, positive))
coded-injective (Err r) (Err s) same = ap Err (number-injective r s same)

-- and so it has by any numbers of which each is that of one refusal, where it is known whether it lets pass
pub coded_by-injective : {R : Type 0} (numbered : R → ℕ) → ((r s : R) → numbered r ≡ numbered s → r ≡ s) → (x y : Result Unit R) →
    coded_by numbered x ≡ coded_by numbered y → is_ok x ≡ is_ok y → x ≡ y
coded_by-injective numbered one (Ok u) (Ok v) same both = refl
coded_by-injective numbered one (Ok u) (Err s) same both = clash (sym both)
coded_by-injective numbered one (Err r) (Ok v) same both = clash both
coded_by-injective numbered one (Err r) (Err s) same both = ap Err (one r s same)
