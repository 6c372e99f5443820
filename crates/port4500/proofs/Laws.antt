-- An answer of the code is told apart by what it says.
use mathlib.Core.Path.{◌≡◌, refl, ap}
use Rattle.std.specs.Prelude.{Result, Ok, Err}
use Rattle.wire_read.proofs.Tests.{never}
use Rattle.refusal.specs.Numbers.{number}
use Rattle.refusal.specs.declared.Refusal.{Refusal}
use Rattle.refusal.proofs.Laws.{number-injective}
use Rattle.port4500.specs.declared.Datagram.{Datagram as Lawful}
use Rattle.port4500.specs.declared.Datagram.TheVariants as Codes
use Rattle.port4500.specs.Port.{datagram_told}

pub datagram_told-injective : (x y : Result Lawful Refusal) → datagram_told x ≡ datagram_told y → x ≡ y
datagram_told-injective (Ok Codes.Keepalive) (Ok Codes.Keepalive) same = refl
datagram_told-injective (Ok Codes.Keepalive) (Ok (Codes.KeyExchange start length)) same = never (cc)
datagram_told-injective (Ok Codes.Keepalive) (Ok (Codes.Esp length)) same = never (cc)
datagram_told-injective (Ok (Codes.KeyExchange start length)) (Ok Codes.Keepalive) same = never (cc)
datagram_told-injective (Ok (Codes.KeyExchange start length)) (Ok (Codes.KeyExchange from size)) same = cc
datagram_told-injective (Ok (Codes.KeyExchange start length)) (Ok (Codes.Esp size)) same = never (cc)
datagram_told-injective (Ok (Codes.Esp length)) (Ok Codes.Keepalive) same = never (cc)
datagram_told-injective (Ok (Codes.Esp length)) (Ok (Codes.KeyExchange from size)) same = never (cc)
datagram_told-injective (Ok (Codes.Esp length)) (Ok (Codes.Esp size)) same = cc
datagram_told-injective (Ok Codes.Keepalive) (Err refusal) same = never (cc)
datagram_told-injective (Ok (Codes.KeyExchange start length)) (Err refusal) same = never (cc)
datagram_told-injective (Ok (Codes.Esp length)) (Err refusal) same = never (cc)
datagram_told-injective (Err refusal) (Ok Codes.Keepalive) same = never (cc)
datagram_told-injective (Err refusal) (Ok (Codes.KeyExchange start length)) same = never (cc)
datagram_told-injective (Err refusal) (Ok (Codes.Esp length)) same = never (cc)
datagram_told-injective (Err one) (Err other) same =
    let numbers : number one ≡ number other = cc in
    ap Err (number-injective one other numbers)
