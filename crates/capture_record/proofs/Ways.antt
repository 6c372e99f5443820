-- A law for each way out of this crate's functions: what the definitions say under the tests that the code makes.
use Prim.Native.Nat.{ℕ, ◌<◌, ◌≤◌}
use mathlib.Core.Path.{◌≡◌, ap, sym, ◌∙◌}
use mathlib.Core.List.{List, []}
use mathlib.Core.Bool.{Bool, true, false, ◌&&◌}
use Rattle.sequence_table.specs.declared.table.Key.{Key}
use lib.ListN.{length, take, drop}
use lib.Seq.{drop-length}
use lib.Dec.{leb, eqb}
use borrow.Author.Tests.{lt-ltb, le-ltb, eq-eqb, ne_eqb}
use Rattle.std.specs.Prelude.{Result, Ok, Err}
use Rattle.refusal.specs.Numbers.{number}
use Rattle.refusal.specs.declared.Refusal.{Refusal}
use Rattle.port4500.specs.declared.Datagram.{Datagram}
use Rattle.port4500.specs.declared.Datagram.TheVariants as Datagrams
use Rattle.port4500.specs.Port.{datagram, datagram_told, handed_on}
use Rattle.message_header.specs.Header.{exchange_of, flags_of, message_id_of}
use Rattle.message_chain.specs.Message.{Message}
use Rattle.message_chain.specs.Message as Messages
use Rattle.message_chain.specs.Message.{message}
use Rattle.sequence_record.specs.Verdict.{Verdict}
use Rattle.sequence_record.specs.Verdict as Verdicts
use Rattle.sequence_packet.specs.Packets.{ah_spi, ah_number, esp_spi, esp_number}
use Rattle.sequence_table.specs.Outcome.{Outcome}
use Rattle.sequence_table.specs.Outcome as Outcomes
use Rattle.sequence_table.specs.Table.{Table, added, packet}
use Rattle.capture_frame.specs.declared.Addresses.{Addresses}
use Rattle.capture_frame.specs.declared.Part.{Part}
use Rattle.capture_frame.specs.declared.Ports.{Ports}
use Rattle.capture_frame.specs.declared.Frame.{Frame}
use Rattle.capture_frame.specs.declared.Frame.TheVariants as Frames
use Rattle.capture_frame.specs.Frame.{carried, bytes_of_part}
use Rattle.capture_record.specs.Listed.{Listed, CutShort, NotIpv4, Fragment, OtherProtocol, OtherPorts, Keepalive, Enciphered, Read, Refused, ShortPacket, Packet}
use Rattle.capture_record.proofs.Laws.{unknown_keeps}
use Rattle.capture_record.specs.Listing.{ah_protocol, esp_protocol, least_bytes, spi_of, number_of, added_first, is_eleven, shown, listed_packet, packet_listed, read_listed, message_listed, datagram_listed, frame_listed, listed, handed_in}

-- ---- to the table

module _ (protocol : ℕ) where
  pub least_ah : protocol ≡ 2 → 12 ≡ least_bytes protocol
  least_ah e = rw (eq-eqb protocol 2 e)

  pub least_esp : (protocol ≡ 2 → ⊥) → 8 ≡ least_bytes protocol
  least_esp e = rw (ne_eqb protocol 2 e)

  module _ (s : List ℕ) (n : ℕ) where
    pub spi-ah : protocol ≡ 2 → n ≡ ah_spi s → n ≡ spi_of protocol s
    spi-ah e en = rw (eq-eqb protocol 2 e) en

    pub spi-esp : (protocol ≡ 2 → ⊥) → n ≡ esp_spi s → n ≡ spi_of protocol s
    spi-esp e en = rw (ne_eqb protocol 2 e) en

    pub number-ah : protocol ≡ 2 → n ≡ ah_number s → n ≡ number_of protocol s
    number-ah e en = rw (eq-eqb protocol 2 e) en

    pub number-esp : (protocol ≡ 2 → ⊥) → n ≡ esp_number s → n ≡ number_of protocol s
    number-esp e en = rw (ne_eqb protocol 2 e) en

module _ (t : Table) (destination protocol : ℕ) (s : List ℕ) (v : Verdict) (u : Table) (says : packet t destination protocol true s ≡ (v, u))
    (eleven : Bool) (is : eleven ≡ is_eleven v) where
  pub known-shown : eleven ≡ false → shown t destination protocol s ≡ (v, u)
  unfolding shown
  known-shown h = rw (says, ← is, h)

  module _ (h : eleven ≡ true) (spi : ℕ) (es : spi ≡ spi_of protocol s) where
    abbrev key : Key
    key = record { destination = destination; protocol = protocol; spi = spi }

    -- the key is added to the table as it was: a packet of an unknown key has changed nothing
    first_added : shown t destination protocol s ≡ added_first (added u key) destination protocol s
    unfolding shown
    first_added =
        let same : u ≡ t = sym (ap (λ x. x.1) says) ∙ unknown_keeps t destination protocol s (ap (λ x. is_eleven x.0) says ∙ sym is ∙ h) in
        rw (says, ← is, h, ← same, ← es)

    pub adding_refused : (number : ℕ) (w : Table) → added u key ≡ (Outcomes.Refused number, w) → shown t destination protocol s ≡ (Verdicts.Refused number, w)
    unfolding added_first
    adding_refused number w e = first_added ∙ rw e

    pub adding_done : (w : Table) → added u key ≡ (Outcomes.Done, w) → (r : Verdict) (x : Table) → packet w destination protocol true s ≡ (r, x) →
        shown t destination protocol s ≡ (r, x)
    unfolding added_first
    adding_done w e r x judged = first_added ∙ rw e judged

module _ (addresses : Addresses) (protocol : ℕ) (s : List ℕ) (verdict : Verdict) (least : ℕ) (el : least ≡ least_bytes protocol) where
  pub short-listed : length s < least → ShortPacket addresses protocol verdict ≡ listed_packet addresses protocol s verdict
  unfolding listed_packet
  short-listed h = rw (← el, lt-ltb (length s) least h)

  pub whole-listed : least ≤ length s → (spi number : ℕ) → spi ≡ spi_of protocol s → number ≡ number_of protocol s →
      Packet addresses protocol spi number verdict ≡ listed_packet addresses protocol s verdict
  unfolding listed_packet
  whole-listed h spi number es en = rw (← el, le-ltb (length s) least h, es, en)

pub packet-listed : (t : Table) (addresses : Addresses) (protocol : ℕ) (s : List ℕ) (v : Verdict) (u : Table) →
    shown t addresses.destination protocol s ≡ (v, u) → (r : Listed) → r ≡ listed_packet addresses protocol s v →
    packet_listed t addresses protocol s ≡ (r, u)
unfolding packet_listed
packet-listed t addresses protocol s v u judged r e = rw (judged, e)

-- ---- to the readers

module _ (addresses : Addresses) (m : Message) where
  pub refused-listed : (number : ℕ) → m ≡ Messages.Refused number → Refused addresses number ≡ read_listed addresses m
  unfolding read_listed
  refused-listed number e = rw e

  pub read-listed : (exchange count : ℕ) → m ≡ Messages.Read exchange count → Read addresses exchange count ≡ read_listed addresses m
  unfolding read_listed
  read-listed exchange count e = rw e

module _ (addresses : Addresses) (m : List ℕ) (flags : ℕ) (ef : flags ≡ flags_of m) where
  pub enciphered_listed : (leb 28 (length m) && eqb flags 1) ≡ true → (exchange id : ℕ) → exchange ≡ exchange_of m → id ≡ message_id_of m →
      Enciphered addresses exchange id ≡ message_listed addresses m
  unfolding message_listed
  enciphered_listed h exchange id ee ei = rw (← ef, h, ee, ei)

  pub message-listed : (leb 28 (length m) && eqb flags 1) ≡ false → (x : Message) → x ≡ message m → (r : Listed) → r ≡ read_listed addresses x →
      r ≡ message_listed addresses m
  unfolding message_listed
  message-listed h x ex r er = rw (← ef, h, ← ex) er

module _ (t : Table) (addresses : Addresses) (s : List ℕ) (answer : Result Datagram Refusal) (read : datagram_told answer ≡ datagram s) where
  module _ (d : Datagram) (is : answer ≡ Ok d) where
    pub keepalive-listed : d ≡ Datagrams.Keepalive → datagram_listed t addresses s (datagram s) ≡ (Keepalive addresses, t)
    unfolding datagram_listed
    keepalive-listed e = rw (← read, is, e)

    pub exchange-listed : (start n : ℕ) → d ≡ Datagrams.KeyExchange start n → (m : List ℕ) → m ≡ drop start s →
        (r : Listed) → r ≡ message_listed addresses m → datagram_listed t addresses s (datagram s) ≡ (r, t)
    unfolding datagram_listed handed_on
    exchange-listed start n e m em r er = rw (← read, is, e, ← em, er)

    pub esp-listed : (n : ℕ) → d ≡ Datagrams.Esp n → (r : Listed) (u : Table) → packet_listed t addresses esp_protocol s ≡ (r, u) →
        datagram_listed t addresses s (datagram s) ≡ (r, u)
    unfolding datagram_listed handed_on
    esp-listed n e r u er = rw (← read, is, e) er

  pub datagram-refused : (refusal : Refusal) → answer ≡ Err refusal → (n : ℕ) → n ≡ number refusal →
      datagram_listed t addresses s (datagram s) ≡ (Refused addresses n, t)
  unfolding datagram_listed
  datagram-refused refusal e n en = rw (← read, e, en)

-- ---- a record

pub part-is : (s : List ℕ) (part : Part) (rest bytes : List ℕ) → rest ≡ drop part.start s → bytes ≡ take part.length rest → bytes ≡ bytes_of_part s part
part-is s part rest bytes er eb = rw (← er) eb

module _ (t : Table) (original : ℕ) (s : List ℕ) (frame : Frame) (is : frame ≡ carried original s) where
  pub record_cut : frame ≡ Frames.CutShort → listed t original s ≡ (CutShort, t)
  unfolding listed frame_listed
  record_cut e = rw (← is, e)

  pub record_not-ipv4 : frame ≡ Frames.NotIpv4 → listed t original s ≡ (NotIpv4, t)
  unfolding listed frame_listed
  record_not-ipv4 e = rw (← is, e)

  module _ (addresses : Addresses) where
    pub record_fragment : frame ≡ Frames.Fragment addresses → listed t original s ≡ (Fragment addresses, t)
    unfolding listed frame_listed
    record_fragment e = rw (← is, e)

    pub record_protocol : (protocol : ℕ) → frame ≡ Frames.OtherProtocol addresses protocol → listed t original s ≡ (OtherProtocol addresses protocol, t)
    unfolding listed frame_listed
    record_protocol protocol e = rw (← is, e)

    pub record_ports : (ports : Ports) → frame ≡ Frames.OtherPorts addresses ports → listed t original s ≡ (OtherPorts addresses ports, t)
    unfolding listed frame_listed
    record_ports ports e = rw (← is, e)

    module _ (part : Part) (bytes : List ℕ) (eb : bytes ≡ bytes_of_part s part) (r : Listed) where
      pub record_message : frame ≡ Frames.Message addresses part → r ≡ message_listed addresses bytes → listed t original s ≡ (r, t)
      unfolding listed frame_listed
      record_message e er = rw (← is, e, ← eb, er)

      module _ (u : Table) where
        pub record_datagram : frame ≡ Frames.Datagram addresses part → datagram_listed t addresses bytes (datagram bytes) ≡ (r, u) → listed t original s ≡ (r, u)
        unfolding listed frame_listed
        record_datagram e er = rw (← is, e, ← eb) er

        pub record_ah : frame ≡ Frames.Ah addresses part → packet_listed t addresses ah_protocol bytes ≡ (r, u) → listed t original s ≡ (r, u)
        unfolding listed frame_listed
        record_ah e er = rw (← is, e, ← eb) er

        pub record_esp : frame ≡ Frames.Esp addresses part → packet_listed t addresses esp_protocol bytes ≡ (r, u) → listed t original s ≡ (r, u)
        unfolding listed frame_listed
        record_esp e er = rw (← is, e, ← eb) er

-- ---- what is handed on: bytes is the part that the code takes

module _ (original : ℕ) (s bytes : List ℕ) (frame : Frame) (is : frame ≡ carried original s) (addresses : Addresses) where
  module _ (part : Part) (eb : bytes ≡ bytes_of_part s part) where
    pub message-handed : frame ≡ Frames.Message addresses part → bytes ≡ handed_in s (carried original s)
    unfolding handed_in
    message-handed e = rw (← is, e) eb

    pub datagram-handed : frame ≡ Frames.Datagram addresses part → (rest : List ℕ) → rest ≡ handed_on (datagram bytes) bytes →
        rest ≡ handed_in s (carried original s)
    unfolding handed_in
    datagram-handed e rest er = rw (← is, e, ← eb) er

    pub ah-handed : frame ≡ Frames.Ah addresses part → bytes ≡ handed_in s (carried original s)
    unfolding handed_in
    ah-handed e = rw (← is, e) eb

    pub esp-handed : frame ≡ Frames.Esp addresses part → bytes ≡ handed_in s (carried original s)
    unfolding handed_in
    esp-handed e = rw (← is, e) eb

module _ (original : ℕ) (s none : List ℕ) (frame : Frame) (is : frame ≡ carried original s) (en : none ≡ drop (length s) s) where
  empty : none ≡ []
  empty = en ∙ drop-length s

  pub cut_handed : frame ≡ Frames.CutShort → none ≡ handed_in s (carried original s)
  unfolding handed_in
  cut_handed e = rw (← is, e) empty

  pub not-ipv4-handed : frame ≡ Frames.NotIpv4 → none ≡ handed_in s (carried original s)
  unfolding handed_in
  not-ipv4-handed e = rw (← is, e) empty

  module _ (addresses : Addresses) where
    pub fragment_handed : frame ≡ Frames.Fragment addresses → none ≡ handed_in s (carried original s)
    unfolding handed_in
    fragment_handed e = rw (← is, e) empty

    pub protocol-handed : (protocol : ℕ) → frame ≡ Frames.OtherProtocol addresses protocol → none ≡ handed_in s (carried original s)
    unfolding handed_in
    protocol-handed protocol e = rw (← is, e) empty

    pub ports_handed : (ports : Ports) → frame ≡ Frames.OtherPorts addresses ports → none ≡ handed_in s (carried original s)
    unfolding handed_in
    ports_handed ports e = rw (← is, e) empty
