-- What is told of a listed record is that of one answer only.
use Rattle.std.specs.Prelude.{ℕ, ◌≡◌, refl, Result, Ok, Err}
use Rattle.std.proofs.Common.{sym, ap, ◌∙◌}
use Rattle.refusal.specs.declared.Refusal.{Refusal}
use Rattle.refusal.proofs.Laws.{refusal_of, refusal_of-number}
use Rattle.sequence_record.specs.Verdict.{Verdict, Accepted, Refused, verdict_told}
use Rattle.capture_record.specs.declared.Listed.{Listed as CodeListed}
use Rattle.capture_record.specs.declared.Listed.TheVariants as Code
use Rattle.capture_record.specs.Listed.{Listed, listed_told}
use Rattle.capture_record.specs.Listed as Listings

-- the verdict of which this is told, and the record
abbrev verdict_of : (told : Verdict) → Result ℕ Refusal
verdict_of (Accepted rise) = Ok rise
verdict_of (Refused n) = Err (refusal_of n)

verdict_of-told : (verdict : Result ℕ Refusal) → verdict_of (verdict_told verdict) ≡ verdict
verdict_of-told (Ok rise) = refl
verdict_of-told (Err refusal) = ap Err (refusal_of-number refusal)

abbrev listed_of : (told : Listed) → CodeListed Refusal
listed_of Listings.CutShort = Code.CutShort
listed_of Listings.NotIpv4 = Code.NotIpv4
listed_of (Listings.Fragment addresses) = Code.Fragment addresses
listed_of (Listings.OtherProtocol addresses protocol) = Code.OtherProtocol addresses protocol
listed_of (Listings.OtherPorts addresses ports) = Code.OtherPorts addresses ports
listed_of (Listings.Keepalive addresses) = Code.Keepalive addresses
listed_of (Listings.Enciphered addresses exchange id) = Code.Enciphered addresses exchange id
listed_of (Listings.Read addresses exchange count) = Code.Read addresses exchange count
listed_of (Listings.Refused addresses n) = Code.Refused addresses (refusal_of n)
listed_of (Listings.ShortPacket addresses protocol verdict) = Code.ShortPacket addresses protocol (verdict_of verdict)
listed_of (Listings.Packet addresses protocol spi number verdict) = Code.Packet addresses protocol spi number (verdict_of verdict)

listed_of-told : (listed : CodeListed Refusal) → listed_of (listed_told listed) ≡ listed
listed_of-told Code.CutShort = refl
listed_of-told Code.NotIpv4 = refl
listed_of-told (Code.Fragment addresses) = refl
listed_of-told (Code.OtherProtocol addresses protocol) = refl
listed_of-told (Code.OtherPorts addresses ports) = refl
listed_of-told (Code.Keepalive addresses) = refl
listed_of-told (Code.Enciphered addresses exchange id) = refl
listed_of-told (Code.Read addresses exchange count) = refl
listed_of-told (Code.Refused addresses refusal) = ap (Code.Refused addresses) (refusal_of-number refusal)
listed_of-told (Code.ShortPacket addresses protocol verdict) = ap (Code.ShortPacket addresses protocol) (verdict_of-told verdict)
listed_of-told (Code.Packet addresses protocol spi number verdict) = ap (Code.Packet addresses protocol spi number) (verdict_of-told verdict)

pub listed_told-injective : (x y : CodeListed Refusal) → listed_told x ≡ listed_told y → x ≡ y
listed_told-injective x y same = sym (listed_of-told x) ∙ ap listed_of same ∙ listed_of-told y
