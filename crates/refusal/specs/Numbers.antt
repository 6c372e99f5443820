-- The numbers of refusals, document 01, "Numbers an answer can carry": "0 is done. Every refusal returns its number alone".
use Rattle.std.specs.Prelude.{ℕ, Result, Ok, Err}
use Rattle.wire_read.specs.Wire.{Code}
use Rattle.refusal.specs.declared.Refusal.{Refusal}
use Rattle.refusal.specs.declared.Refusal.TheVariants.{InvalidPayloadType, DoiNotSupported, SituationNotSupported, InvalidCookie, InvalidMajorVersion, InvalidMinorVersion, InvalidExchangeType, InvalidFlags, InvalidMessageId, InvalidProtocolId, InvalidSpi, AttributesNotSupported, NoProposalChosen, BadProposalSyntax, PayloadMalformed, InvalidIdInformation, InvalidCertEncoding, InvalidHashInformation, AuthenticationFailed, UnsupportedExchangeType, UnequalPayloadLengths, BufferTooSmall, BookUnlawful, AcceptedBefore, CallUnexpected, GivenUp, BehindWindow, CounterAtEnd, TableFull, EntryPresent, NoCapture, ListFull}

abbrev pub number : (refusal : Refusal) → ℕ
number InvalidPayloadType = 1
number DoiNotSupported = 2
number SituationNotSupported = 3
number InvalidCookie = 4
number InvalidMajorVersion = 5
number InvalidMinorVersion = 6
number InvalidExchangeType = 7
number InvalidFlags = 8
number InvalidMessageId = 9
number InvalidProtocolId = 10
number InvalidSpi = 11
number AttributesNotSupported = 13
number NoProposalChosen = 14
number BadProposalSyntax = 15
number PayloadMalformed = 16
number InvalidIdInformation = 18
number InvalidCertEncoding = 19
number InvalidHashInformation = 23
number AuthenticationFailed = 24
number UnsupportedExchangeType = 29
number UnequalPayloadLengths = 30
number BufferTooSmall = 8192
number BookUnlawful = 8193
number AcceptedBefore = 8194
number CallUnexpected = 8195
number GivenUp = 8196
number BehindWindow = 8197
number CounterAtEnd = 8198
number TableFull = 8199
number EntryPresent = 8200
number NoCapture = 8201
number ListFull = 8202

-- the number of a check's answer: 0 where it lets pass, else that of what refuses
abbrev pub coded_by : {A R : Type 0} (numbered : R → ℕ) (checked : Result A R) → Code
coded_by numbered (Ok passed) = 0
coded_by numbered (Err refused) = numbered refused

abbrev pub coded : {A : Type 0} (checked : Result A Refusal) → Code
coded checked = coded_by number checked
