-- What a record of a capture carries, document 02, "One": "find IPv4 packets carrying UDP 500 or 4500, AH or ESP". s is the record's bytes
-- from the Ethernet header on, and the checks stand in their order. Checksums are not looked at.
use Rattle.std.specs.Prelude.{ℕ, zero, suc, ◌+◌, ◌-◌, ◌*◌, ◌/◌, ◌%◌, List, [], ◌∷◌, Bool, not, ◌||◌, length, get_or, take, drop, ltb, eqb}
use Rattle.wire_read.specs.Wire.{Bytes, number_at}
use Rattle.wire_read.specs.Tests.{if◌then◌otherwise◌}
use Rattle.wire_read.specs.Answer.{Answer, done}
use Rattle.capture_frame.specs.declared.Addresses.{Addresses}
use Rattle.capture_frame.specs.declared.Ports.{Ports}
use Rattle.capture_frame.specs.declared.Part.{Part}
use Rattle.capture_frame.specs.declared.Frame.{Frame}
use Rattle.capture_frame.specs.declared.Frame.TheVariants.{CutShort, NotIpv4, Fragment, OtherProtocol, OtherPorts, Message, Datagram, Ah, Esp}

-- ---- IPv4, at the place where its header begins

abbrev pub version_at : (s : Bytes) (at : ℕ) → ℕ
version_at s at = get_or s at 0 / 16

abbrev pub header_length_at : (s : Bytes) (at : ℕ) → ℕ
header_length_at s at = get_or s at 0 % 16 * 4

abbrev pub total_length_at : (s : Bytes) (at : ℕ) → ℕ
total_length_at s at = number_at 2 s (at + 2)

-- two flags and then "more fragments", and 13 bits of the fragment offset
abbrev pub more_fragments_at : (s : Bytes) (at : ℕ) → Bool
more_fragments_at s at = eqb (number_at 2 s (at + 6) / 8192 % 2) 1

abbrev pub fragment_offset_at : (s : Bytes) (at : ℕ) → ℕ
fragment_offset_at s at = number_at 2 s (at + 6) % 8192

abbrev pub protocol_at : (s : Bytes) (at : ℕ) → ℕ
protocol_at s at = get_or s (at + 9) 0

abbrev pub addresses_at : (s : Bytes) (at : ℕ) → Addresses
addresses_at s at = record { source = number_at 4 s (at + 12); destination = number_at 4 s (at + 16) }

-- what stands behind the IP header, to the total length: "what stands behind the total length is Ethernet's padding and dropped"
abbrev pub packet_start : (s : Bytes) (at : ℕ) → ℕ
packet_start s at = at + header_length_at s at

abbrev pub packet_length : (s : Bytes) (at : ℕ) → ℕ
packet_length s at = total_length_at s at - header_length_at s at

-- ---- UDP, at the place where its header begins

abbrev pub ports_at : (s : Bytes) (at : ℕ) → Ports
ports_at s at = record { source = number_at 2 s at; destination = number_at 2 s (at + 2) }

abbrev pub udp_length_at : (s : Bytes) (at : ℕ) → ℕ
udp_length_at s at = number_at 2 s (at + 4)

-- "the destination port decides if it is 500 or 4500, else the source port"
unfoldable pub deciding_port : (ports : Ports) → ℕ
deciding_port ports = if eqb ports.destination 500 || eqb ports.destination 4500 then ports.destination otherwise ports.source

-- "500: the UDP data is a key exchange message; 4500: the UDP data goes to port4500"; "any other UDP ports"
unfoldable pub by_port : (addresses : Addresses) (ports : Ports) (part : Part) → Frame
by_port addresses ports part =
    if eqb (deciding_port ports) 500 then Message addresses part
    otherwise if eqb (deciding_port ports) 4500 then Datagram addresses part
    otherwise OtherPorts addresses ports

-- "protocol 17 with fewer than 8 bytes, or a UDP length below 8 or above what is left": cut short
unfoldable pub udp : (addresses : Addresses) (s : Bytes) (packet : Part) → Frame
udp addresses s packet =
    if ltb packet.length 8 || ltb (udp_length_at s packet.start) 8 || ltb packet.length (udp_length_at s packet.start) then CutShort
    otherwise by_port addresses (ports_at s packet.start) (record { start = packet.start + 8; length = udp_length_at s packet.start - 8 })

-- "protocol 51 is AH, 50 is ESP: the packet is what stands behind the IP header"; "any other protocol"
unfoldable pub by_protocol : (protocol : ℕ) (addresses : Addresses) (s : Bytes) (packet : Part) → Frame
by_protocol protocol addresses s packet =
    if eqb protocol 51 then Ah addresses packet
    otherwise if eqb protocol 50 then Esp addresses packet
    otherwise if eqb protocol 17 then udp addresses s packet
    otherwise OtherProtocol addresses protocol

-- "version not 4, header length below 20, total length below header length (0 too)"
unfoldable pub not_ipv4 : (s : Bytes) (at : ℕ) → Bool
not_ipv4 s at = not (eqb (version_at s at) 4) || ltb (header_length_at s at) 20 || ltb (total_length_at s at) (header_length_at s at)

-- "'more fragments' set, or a fragment offset other than 0"
unfoldable pub fragmented : (s : Bytes) (at : ℕ) → Bool
fragmented s at = more_fragments_at s at || not (eqb (fragment_offset_at s at) 0)

-- "fewer than 20 bytes behind it: cut short"; .. "total length above what is left: cut short"; ..
unfoldable pub ipv4 : (s : Bytes) (at : ℕ) → Frame
ipv4 s at =
    if ltb (length s) (at + 20) then CutShort
    otherwise if not_ipv4 s at then NotIpv4
    otherwise if ltb (length s) (at + total_length_at s at) then CutShort
    otherwise if fragmented s at then Fragment (addresses_at s at)
    otherwise by_protocol (protocol_at s at) (addresses_at s at) s (record { start = packet_start s at; length = packet_length s at })

-- ---- Ethernet: destination (6), source (6), EtherType (2), each VLAN tag 4 bytes between

-- "VLAN tags (8100, 88a8 ..)"
unfoldable pub is_tag : (ether_type : ℕ) → Bool
is_tag ether_type = eqb ether_type 0x8100 || eqb ether_type 0x88a8

-- "EtherType, behind at most two VLAN tags (.. a tag cut short: cut short), not 0800": tags may still come, and the EtherType is at this place
unfoldable pub ether_type : (tags : ℕ) (s : Bytes) (at : ℕ) → Frame
ether_type zero s at = if eqb (number_at 2 s at) 0x0800 then ipv4 s (at + 2) otherwise NotIpv4
ether_type (suc tags) s at =
    if is_tag (number_at 2 s at) then (if ltb (length s) (at + 6) then CutShort otherwise ether_type tags s (at + 4))
    otherwise if eqb (number_at 2 s at) 0x0800 then ipv4 s (at + 2)
    otherwise NotIpv4

-- "captured length below the original length (above it: the captured bytes count); fewer than 14 bytes": cut short
unfoldable pub carried : (original : ℕ) (s : Bytes) → Frame
carried original s =
    if ltb (length s) original || ltb (length s) 14 then CutShort
    otherwise ether_type 2 s 12

-- ---- what is handed on

-- the part of the record that a reader or the table takes; where nothing is handed on, no byte
unfoldable pub part_of : (frame : Frame) → Part
part_of CutShort = record { start = 0; length = 0 }
part_of NotIpv4 = record { start = 0; length = 0 }
part_of (Fragment addresses) = record { start = 0; length = 0 }
part_of (OtherProtocol addresses protocol) = record { start = 0; length = 0 }
part_of (OtherPorts addresses ports) = record { start = 0; length = 0 }
part_of (Message addresses part) = part
part_of (Datagram addresses part) = part
part_of (Ah addresses packet) = packet
part_of (Esp addresses packet) = packet

-- the bytes of a part of the record
abbrev pub bytes_of_part : (s : Bytes) (part : Part) → Bytes
bytes_of_part s part = take part.length (drop part.start s)

-- ---- the paper's number and values for each case

abbrev pub address_values : (addresses : Addresses) (values : List ℕ) → List ℕ
address_values addresses values = addresses.source ∷ addresses.destination ∷ values

abbrev pub part_values : (part : Part) → List ℕ
part_values part = part.start ∷ part.length ∷ []

unfoldable pub frame_answer : (frame : Frame) → Answer
frame_answer CutShort = done (1 ∷ [])
frame_answer NotIpv4 = done (2 ∷ [])
frame_answer (Fragment addresses) = done (3 ∷ address_values addresses [])
frame_answer (OtherProtocol addresses protocol) = done (4 ∷ address_values addresses (protocol ∷ []))
frame_answer (OtherPorts addresses ports) = done (5 ∷ address_values addresses (ports.source ∷ ports.destination ∷ []))
frame_answer (Message addresses part) = done (6 ∷ address_values addresses (part_values part))
frame_answer (Datagram addresses part) = done (7 ∷ address_values addresses (part_values part))
frame_answer (Ah addresses packet) = done (8 ∷ address_values addresses (part_values packet))
frame_answer (Esp addresses packet) = done (9 ∷ address_values addresses (part_values packet))
