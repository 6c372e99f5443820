-- What is told of a packet is that of one answer only.
use Rattle.std.specs.Prelude.{ℕ, ◌≡◌, Result, Ok, Err}
use Rattle.std.proofs.Common.{ap, ap₂}
use Rattle.wire_read.proofs.Tests.{never}
use Rattle.refusal.specs.Numbers.{number as number_of}
use Rattle.refusal.specs.declared.Refusal.{Refusal}
use Rattle.refusal.proofs.Laws.{number-injective}
use Rattle.sequence_packet.specs.declared.Packet.{Packet as CodePacket}
use Rattle.sequence_packet.specs.Packet.{packet_told}

pub packet_told-injective : (x y : Result CodePacket Refusal) → packet_told x ≡ packet_told y → x ≡ y
packet_told-injective (Ok p) (Ok q) same =
    let spi : p.spi ≡ q.spi = cc in
    let number : p.number ≡ q.number = cc in
    ap Ok (ap₂ (λ (a b : ℕ). record { spi = a; number = b }) spi number)
packet_told-injective (Ok p) (Err s) same = never (cc)
packet_told-injective (Err r) (Ok q) same = never (cc)
packet_told-injective (Err r) (Err s) same = let alike : number_of r ≡ number_of s = cc in ap Err (number-injective r s alike)
