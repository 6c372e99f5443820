-- Examples of document 02, "One", as one table: what the definitions answer beside what was worked out by hand, under one theorem.
use Rattle.std.specs.Prelude.{ℕ, ◌+◌, ◌≡◌, refl, true, List, [], ◌∷◌, ◌++◌, map, length}
use Rattle.wire_read.specs.Wire.{Bytes, number_at}
use Rattle.wire_read.specs.Answer.{Answer, done, refused}
use Rattle.sequence_record.specs.Receive as receive
use Rattle.sequence_packet.specs.Packets as packets
use Rattle.sequence_table.specs.Table as tables
use Rattle.capture_header.specs.declared.Order.TheVariants.{Little}
use Rattle.capture_header.specs.Headers as headers
use Rattle.capture_frame.specs.Frame as frames
use Rattle.capture_record.specs.Listing as listing
use Rattle.capture_history.specs.Capture as captures
use Rattle.promises.specs.Marked.{Example}

-- ---- headers

unfoldable pub file_in_big : Bytes
file_in_big =
    -- magic, version 2.4, time zone, accuracy, snap length 262,144
    0xa1 ∷ 0xb2 ∷ 0xc3 ∷ 0xd4 ∷ 0x00 ∷ 0x02 ∷ 0x00 ∷ 0x04 ∷ 0x00 ∷ 0x00 ∷ 0x00 ∷ 0x00 ∷ 0x00 ∷ 0x00 ∷ 0x00 ∷ 0x00 ∷ 0x00 ∷ 0x04 ∷ 0x00 ∷ 0x00
    -- link type 1
    ∷ 0x00 ∷ 0x00 ∷ 0x00 ∷ 0x01 ∷ []

-- the same fields, each with its lowest byte first
unfoldable pub file_in_little : (link_type : ℕ) → Bytes
file_in_little link_type =
    0xd4 ∷ 0xc3 ∷ 0xb2 ∷ 0xa1 ∷ 0x02 ∷ 0x00 ∷ 0x04 ∷ 0x00 ∷ 0x00 ∷ 0x00 ∷ 0x00 ∷ 0x00 ∷ 0x00 ∷ 0x00 ∷ 0x00 ∷ 0x00 ∷ 0x00 ∷ 0x00 ∷ 0x04 ∷ 0x00
    ∷ link_type ∷ 0x00 ∷ 0x00 ∷ 0x00 ∷ []

-- a record's header in that order: second 5, microsecond 7, so many bytes captured and as many before
unfoldable pub record_in_little : (low middle high : ℕ) → Bytes
record_in_little low middle high =
    0x05 ∷ 0x00 ∷ 0x00 ∷ 0x00 ∷ 0x07 ∷ 0x00 ∷ 0x00 ∷ 0x00 ∷ low ∷ middle ∷ high ∷ 0x00 ∷ low ∷ middle ∷ high ∷ 0x00 ∷ []

-- ---- frames

-- the Ethernet header: destination, source, VLAN tags, EtherType 0800
unfoldable pub frame : (tags packet : Bytes) → Bytes
frame tags packet =
    0x02 ∷ 0x00 ∷ 0x00 ∷ 0x00 ∷ 0x00 ∷ 0x02 ∷ 0x02 ∷ 0x00 ∷ 0x00 ∷ 0x00 ∷ 0x00 ∷ 0x01 ∷ (tags ++ (0x08 ∷ 0x00 ∷ packet))

-- an IPv4 packet from 10.0.0.1 to 10.0.0.2 with at most 235 bytes behind its header: the total length is below 256
unfoldable pub ipv4 : (flags protocol : ℕ) (sent : Bytes) → Bytes
ipv4 flags protocol sent =
    -- version and header length, service, total length, identification, flags and fragment offset
    0x45 ∷ 0x00 ∷ 0x00 ∷ (20 + length sent) ∷ 0x00 ∷ 0x01 ∷ flags ∷ 0x00
    -- time to live, protocol, checksum, source, destination
    ∷ 0x40 ∷ protocol ∷ 0x00 ∷ 0x00 ∷ 0x0a ∷ 0x00 ∷ 0x00 ∷ 0x01 ∷ 0x0a ∷ 0x00 ∷ 0x00 ∷ 0x02 ∷ sent

-- an ESP packet: SPI, number, four bytes enciphered
unfoldable pub esp : (spi_high spi_low number : ℕ) → Bytes
esp spi_high spi_low number =
    0x00 ∷ 0x00 ∷ spi_high ∷ spi_low ∷ 0x00 ∷ 0x00 ∷ 0x00 ∷ number ∷ 0xde ∷ 0xad ∷ 0xbe ∷ 0xef ∷ []

-- a quick mode message by UDP, port 500 to port 500
unfoldable pub quick_by_udp : Bytes
quick_by_udp =
    -- source port, destination port, UDP length, checksum
    0x01 ∷ 0xf4 ∷ 0x01 ∷ 0xf4 ∷ 0x00 ∷ 0x2c ∷ 0x00 ∷ 0x00
    -- cookies
    ∷ 0x01 ∷ 0x01 ∷ 0x01 ∷ 0x01 ∷ 0x01 ∷ 0x01 ∷ 0x01 ∷ 0x01 ∷ 0x02 ∷ 0x02 ∷ 0x02 ∷ 0x02 ∷ 0x02 ∷ 0x02 ∷ 0x02 ∷ 0x02
    -- first payload, version, exchange, flags, message ID, length
    ∷ 0x08 ∷ 0x10 ∷ 0x20 ∷ 0x01 ∷ 0x00 ∷ 0x00 ∷ 0x10 ∷ 0x07 ∷ 0x00 ∷ 0x00 ∷ 0x00 ∷ 0x24
    -- enciphered
    ∷ 0x5a ∷ 0x5a ∷ 0x5a ∷ 0x5a ∷ 0x5a ∷ 0x5a ∷ 0x5a ∷ 0x5a ∷ []

-- two VLAN tags: 88a8 and 100, 8100 and 7
unfoldable pub two_tags : Bytes
two_tags = 0x88 ∷ 0xa8 ∷ 0x00 ∷ 0x64 ∷ 0x81 ∷ 0x00 ∷ 0x00 ∷ 0x07 ∷ []

-- what is listed of records from the empty table, each with its original length and its bytes
abbrev pub listed : (records : List (ℕ × Bytes)) → List Answer
listed records = map listing.listed_answer (captures.lines tables.empty records)

-- 10.0.0.1 and 10.0.0.2
abbrev pub between : (values : List ℕ) → List ℕ
between values = 0x0a000001 ∷ 0x0a000002 ∷ values

unfoldable pub table : List Example
table =
    -- "magic a1b2c3d4 in either byte order, .. the whole 32-bit link type field 1. .. anything else: 8201": 113 is what `-i any` saves
    record {
      defined = map (λ (s : Bytes). headers.file_header_answer (headers.file_header s)) (file_in_big ∷ file_in_little 1 ∷ file_in_little 113 ∷ []);
      printed = done (1 ∷ []) ∷ done (2 ∷ []) ∷ refused 8201 ∷ [];
    }
    -- "A captured length over 65,535: 8201"
    ∷ record {
      defined =
          map (λ (s : Bytes). headers.record_header_answer (headers.record_header Little s)) (record_in_little 255 255 0 ∷ record_in_little 0 0 1 ∷ []);
      printed = done (1 ∷ 5 ∷ 7 ∷ 65535 ∷ 65535 ∷ []) ∷ refused 8201 ∷ [];
    }
    -- "Where 11 would stand .. the key is added first": the table by itself refuses a packet of an unknown key; listed it is accepted, and again 8194
    ∷ record {
      defined =
          receive.verdict_answer (tables.packet tables.empty 0x0a000002 3 true (esp 16 0 1)).0
          ∷ listed ((46, frame [] (ipv4 0 50 (esp 16 0 1))) ∷ (46, frame [] (ipv4 0 50 (esp 16 0 1))) ∷ []);
      printed =
          refused 11
          ∷ done (11 ∷ between (3 ∷ 4096 ∷ 1 ∷ 0 ∷ 1 ∷ []))
          ∷ done (11 ∷ between (3 ∷ 4096 ∷ 1 ∷ 8194 ∷ []))
          ∷ [];
    }
    -- "if adding is refused, that number is the verdict": an SPI of 255
    ∷ record {
      defined = listed ((46, frame [] (ipv4 0 50 (esp 0 255 1))) ∷ []);
      printed = done (11 ∷ between (3 ∷ 255 ∷ 1 ∷ 11 ∷ [])) ∷ [];
    }
    -- "A key exchange message of at least 28 bytes whose flags byte is 1 is listed as enciphered", behind two tags
    ∷ record {
      defined = listed ((86, frame two_tags (ipv4 0 17 quick_by_udp)) ∷ []);
      printed = done (7 ∷ between (32 ∷ 0x1007 ∷ [])) ∷ [];
    }
    -- "'more fragments' set"; "captured length below the original length": the same packet, and one byte of it missing
    ∷ record {
      defined = listed ((46, frame [] (ipv4 0x20 50 (esp 16 0 1))) ∷ (47, frame [] (ipv4 0 50 (esp 16 0 1))) ∷ []);
      printed = done (3 ∷ between []) ∷ done (1 ∷ []) ∷ [];
    }
    ∷ []

pub capture_examples : map (λ (e : Example). e.defined) table ≡ map (λ (e : Example). e.printed) table
unfolding table file_in_big file_in_little record_in_little frame ipv4 esp quick_by_udp two_tags number_at headers.lowest_first headers.number_in headers.in_order
    headers.file_header headers.record_header headers.file_header_answer headers.record_header_answer frames.deciding_port frames.by_port frames.udp
    frames.by_protocol frames.not_ipv4 frames.fragmented frames.ipv4 frames.is_tag frames.ether_type frames.carried listing.added_first listing.shown
    listing.listed_packet listing.packet_listed listing.message_listed listing.frame_listed listing.listed listing.listed_answer captures.lines
    receive.judged receive.verdict_answer packets.read packets.esp tables.holds tables.is_free tables.first_place tables.find tables.free
    tables.entry_at tables.put_entry tables.put_key tables.added tables.judged_at tables.packet_read tables.packet
capture_examples = refl
