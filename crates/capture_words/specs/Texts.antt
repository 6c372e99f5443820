-- What is printed of a record of a capture, document 02, "One", as bytes. Behind each text that is spelled in bytes stand its letters.
use Rattle.std.specs.Prelude.{ℕ, zero, suc, ◌/◌, ◌%◌, [], ◌∷◌, ◌++◌, eqb, ltb}
use Rattle.wire_read.specs.Wire.{Bytes}
use Rattle.wire_read.specs.Tests.{if◌then◌otherwise◌}
use Rattle.message_chain.specs.declared.Payload.{Payload}
use Rattle.message_chain.specs.Message.{payload_at}
use Rattle.sa_fields.specs.declared.ProposalNumber.{ProposalNumber}
use Rattle.policy_lines.specs.declared.LineNumber.{LineNumber}
use Rattle.policy_choice.specs.declared.Transforms.{Transforms}
use Rattle.policy_choice.specs.Choice.{Choice}
use Rattle.policy_choice.specs.Choice as Choices
use Rattle.sequence_record.specs.Verdict.{Verdict}
use Rattle.capture_frame.specs.declared.Addresses.{Addresses}
use Rattle.capture_frame.specs.declared.Ports.{Ports}
use Rattle.capture_record.specs.Listed.{Listed}
use Rattle.capture_record.specs.Listed as Listings
use Rattle.capture_record.specs.Listing.{ah_protocol}
use Rattle.bench_words.specs.Say.{hex_digit_ascii, decimal_text, number_text, refused_text, verdict_text, transforms_text}

-- ---- numbers

-- a mark and a number in decimal
abbrev pub marked_text : (mark n : ℕ) → Bytes
marked_text mark n = (mark ∷ []) ++ decimal_text n

-- a text, a space and a number
abbrev pub counted_text : (text : Bytes) (n : ℕ) → Bytes
counted_text text n = text ++ number_text n

-- the last so many digits of a number in a base, the most significant first
abbrev pub last_digits : (base k n : ℕ) → Bytes
last_digits base zero n = []
last_digits base (suc k) n = last_digits base k (n / base) ++ (hex_digit_ascii (n % base) ∷ [])

-- "at least six digits behind the point (a field over 999999 as it is)"
unfoldable pub six_digits : (n : ℕ) → Bytes
six_digits n = if ltb n 1000000 then last_digits 10 6 n otherwise decimal_text n

-- "SPI and message ID eight hex digits"
abbrev pub hex_digits : (n : ℕ) → Bytes
hex_digits n = last_digits 16 8 n

-- ---- the line's beginning

-- `N at PLACE`
abbrev pub place_text : (number place : ℕ) → Bytes
place_text number place = decimal_text number ++ counted_text (32 ∷ 97 ∷ 116 ∷ []) place  -- ` at`

-- ` SECONDS.MICROSECONDS`
abbrev pub stamp_text : (seconds microseconds : ℕ) → Bytes
stamp_text seconds microseconds = number_text seconds ++ (46 ∷ []) ++ six_digits microseconds  -- `.`

-- ---- WHAT

-- "Addresses dotted"
abbrev pub address_text : (n : ℕ) → Bytes
address_text n = decimal_text (n / 16777216) ++ marked_text 46 (n / 65536 % 256) ++ marked_text 46 (n / 256 % 256) ++ marked_text 46 (n % 256)  -- `.`

-- `SRC > DST`, and a text behind it
abbrev pub addresses_text : (addresses : Addresses) → Bytes
addresses_text addresses = address_text addresses.source ++ (32 ∷ 62 ∷ 32 ∷ []) ++ address_text addresses.destination  -- ` > `

abbrev pub addressed_text : (addresses : Addresses) (text : Bytes) → Bytes
addressed_text addresses text = addresses_text addresses ++ text

-- `SRC > DST other protocol P`
abbrev pub protocol_text : (addresses : Addresses) (protocol : ℕ) → Bytes
protocol_text addresses protocol =
    addressed_text addresses (32 ∷ 111 ∷ 116 ∷ 104 ∷ 101 ∷ 114 ∷ 32 ∷ 112 ∷ 114 ∷ 111 ∷ 116 ∷ 111 ∷ 99 ∷ 111 ∷ 108 ∷ [])  -- ` other protocol`
    ++ number_text protocol

-- `SRC > DST other ports SPORT > DPORT`
abbrev pub ports_text : (addresses : Addresses) (ports : Ports) → Bytes
ports_text addresses ports =
    addressed_text addresses (32 ∷ 111 ∷ 116 ∷ 104 ∷ 101 ∷ 114 ∷ 32 ∷ 112 ∷ 111 ∷ 114 ∷ 116 ∷ 115 ∷ [])  -- ` other ports`
    ++ number_text ports.source
    ++ counted_text (32 ∷ 62 ∷ []) ports.destination  -- ` >`

-- `SRC > DST enciphered exchange E id HHHHHHHH`
abbrev pub enciphered_text : (addresses : Addresses) (exchange id : ℕ) → Bytes
enciphered_text addresses exchange id =
    -- ` enciphered exchange`
    addressed_text addresses (32 ∷ 101 ∷ 110 ∷ 99 ∷ 105 ∷ 112 ∷ 104 ∷ 101 ∷ 114 ∷ 101 ∷ 100 ∷ 32 ∷ 101 ∷ 120 ∷ 99 ∷ 104 ∷ 97 ∷ 110 ∷ 103 ∷ 101 ∷ [])
    ++ number_text exchange
    ++ (32 ∷ 105 ∷ 100 ∷ 32 ∷ [])  -- ` id `
    ++ hex_digits id

-- ` TYPE@START+LENGTH`, and this of the first payloads of a message
abbrev pub payload_text : (payload : Payload) → Bytes
payload_text payload = number_text payload.payloadtype ++ marked_text 64 payload.start ++ marked_text 43 payload.length  -- `@`, `+`

unfoldable pub payloads_text : (count : ℕ) (m : Bytes) → Bytes
payloads_text zero m = []
payloads_text (suc k) m = payloads_text k m ++ payload_text (payload_at k m)

-- `SRC > DST exchange E payloads N TYPE@START+LENGTH ..`
abbrev pub read_text : (addresses : Addresses) (exchange count : ℕ) (m : Bytes) → Bytes
read_text addresses exchange count m =
    addressed_text addresses (32 ∷ 101 ∷ 120 ∷ 99 ∷ 104 ∷ 97 ∷ 110 ∷ 103 ∷ 101 ∷ [])  -- ` exchange`
    ++ number_text exchange
    ++ counted_text (32 ∷ 112 ∷ 97 ∷ 121 ∷ 108 ∷ 111 ∷ 97 ∷ 100 ∷ 115 ∷ []) count  -- ` payloads`
    ++ payloads_text count m

-- `SRC > DST refused N`
abbrev pub message_refused_text : (addresses : Addresses) (number : ℕ) → Bytes
message_refused_text addresses number = addressed_text addresses (32 ∷ []) ++ refused_text number

-- `SRC > DST AH ` or `SRC > DST ESP `
unfoldable pub named_text : (addresses : Addresses) (protocol : ℕ) → Bytes
named_text addresses protocol =
    if eqb protocol ah_protocol then addressed_text addresses (32 ∷ 65 ∷ 72 ∷ 32 ∷ [])  -- ` AH `
    otherwise addressed_text addresses (32 ∷ 69 ∷ 83 ∷ 80 ∷ 32 ∷ [])  -- ` ESP `

-- `SRC > DST AH refused 16`
abbrev pub short_packet_text : (addresses : Addresses) (protocol : ℕ) (verdict : Verdict) → Bytes
short_packet_text addresses protocol verdict = named_text addresses protocol ++ verdict_text verdict

-- `HHHHHHHH number N`
abbrev pub spi_text : (spi number : ℕ) → Bytes
spi_text spi number = hex_digits spi ++ counted_text (32 ∷ 110 ∷ 117 ∷ 109 ∷ 98 ∷ 101 ∷ 114 ∷ []) number  -- ` number`

-- `SRC > DST AH HHHHHHHH number N accepted RISE`, or `refused N` in its place
abbrev pub packet_text : (addresses : Addresses) (protocol spi number : ℕ) (verdict : Verdict) → Bytes
packet_text addresses protocol spi number verdict = named_text addresses protocol ++ spi_text spi number ++ (32 ∷ []) ++ verdict_text verdict

-- what is said of a record; m is the message whose payloads are listed
unfoldable pub what_text : (listed : Listed) (m : Bytes) → Bytes
what_text Listings.CutShort m = 99 ∷ 117 ∷ 116 ∷ 32 ∷ 115 ∷ 104 ∷ 111 ∷ 114 ∷ 116 ∷ []  -- `cut short`
what_text Listings.NotIpv4 m = 110 ∷ 111 ∷ 116 ∷ 32 ∷ 73 ∷ 80 ∷ 118 ∷ 52 ∷ []  -- `not IPv4`
what_text (Listings.Fragment addresses) m = addressed_text addresses (32 ∷ 102 ∷ 114 ∷ 97 ∷ 103 ∷ 109 ∷ 101 ∷ 110 ∷ 116 ∷ [])  -- ` fragment`
what_text (Listings.OtherProtocol addresses protocol) m = protocol_text addresses protocol
what_text (Listings.OtherPorts addresses ports) m = ports_text addresses ports
what_text (Listings.Keepalive addresses) m = addressed_text addresses (32 ∷ 107 ∷ 101 ∷ 101 ∷ 112 ∷ 97 ∷ 108 ∷ 105 ∷ 118 ∷ 101 ∷ [])  -- ` keepalive`
what_text (Listings.Enciphered addresses exchange id) m = enciphered_text addresses exchange id
what_text (Listings.Read addresses exchange count) m = read_text addresses exchange count m
what_text (Listings.Refused addresses number) m = message_refused_text addresses number
what_text (Listings.ShortPacket addresses protocol verdict) m = short_packet_text addresses protocol verdict
what_text (Listings.Packet addresses protocol spi number verdict) m = packet_text addresses protocol spi number verdict

-- ---- the second line

-- `chosen set S line L`
abbrev pub set_text : (set : ProposalNumber) (line : LineNumber) → Bytes
set_text set line =
    counted_text (99 ∷ 104 ∷ 111 ∷ 115 ∷ 101 ∷ 110 ∷ 32 ∷ 115 ∷ 101 ∷ 116 ∷ []) set.0  -- `chosen set`
    ++ counted_text (32 ∷ 108 ∷ 105 ∷ 110 ∷ 101 ∷ []) line.0  -- ` line`

-- `chosen set S line L transforms T ..`
abbrev pub chosen_text : (set : ProposalNumber) (line : LineNumber) (transforms : Transforms) → Bytes
chosen_text set line transforms =
    set_text set line
    ++ (32 ∷ 116 ∷ 114 ∷ 97 ∷ 110 ∷ 115 ∷ 102 ∷ 111 ∷ 114 ∷ 109 ∷ 115 ∷ [])  -- ` transforms`
    ++ transforms_text transforms

-- that, or `refused N`
unfoldable pub choice_text : (choice : Choice) → Bytes
choice_text (Choices.Refused number) = refused_text number
choice_text (Choices.Chosen set line transforms) = chosen_text set line transforms
