-- Laws of the definitions in specs/Listing.antt that the promises rest on: which verdict is listed, and what leaves the table as it was.
use Prim.Native.Nat.{ℕ}
use mathlib.Core.Path.{◌≡◌, refl, ap, sym, ◌∙◌}
use mathlib.Core.List.{List}
use mathlib.Core.Bool.{Bool, true, false, ◌&&◌}
use lib.ListN.{length}
use lib.Dec.{ltb, leb, eqb}
use borrow.Author.Tests.{lt-leb, ltb-true}
use Rattle.wire_read.proofs.Tests.{never, clash, by_test}
use Rattle.port4500.specs.Port.{Datagram}
use Rattle.port4500.specs.Port as Datagrams
use Rattle.port4500.specs.Port.{datagram, handed_on}
use Rattle.sequence_record.specs.declared.Receive.{Receive}
use Rattle.sequence_record.specs.Verdict.{Verdict}
use Rattle.sequence_record.specs.Verdict as Verdicts
use Rattle.sequence_record.specs.Receive.{behind, accepted_before, judged}
use Rattle.sequence_packet.specs.Packet.{Packet}
use Rattle.sequence_packet.specs.Packet as Packets
use Rattle.sequence_packet.specs.Packets.{ah_reserved, ah_size, ah_spi, ah_number, esp_spi, esp_number, known, ah, esp, read}
use Rattle.sequence_table.specs.declared.table.Key.{Key}
use Rattle.sequence_table.specs.Outcome as Outcomes
use Rattle.sequence_table.specs.Table.{Table, rooms, find, free, entry_at, judged_at, added, packet_read, packet}
use Rattle.message_chain.specs.Message.{Message}
use Rattle.message_chain.specs.Message as Messages
use Rattle.message_chain.specs.Message.{message}
use Rattle.message_header.specs.Header.{flags_of}
use Rattle.capture_frame.specs.declared.Addresses.{Addresses}
use Rattle.capture_frame.specs.declared.Frame.{Frame}
use Rattle.capture_frame.specs.declared.Frame.TheVariants as Frames
use Rattle.capture_frame.specs.Frame.{carried, bytes_of_part}
use Rattle.capture_record.specs.Listed.{Listed}
use Rattle.capture_record.specs.Listed as Listings
use Rattle.capture_record.specs.Listing.{ah_protocol, esp_protocol, least_bytes, key_of, added_first, is_eleven, shown, listed_packet, packet_listed, read_listed, message_listed, datagram_listed, frame_listed, listed, is_packet}

-- ---- the table's own verdict

abbrev pub is_read : (p : Packet) → Bool
is_read (Packets.Read spi number) = true
is_read (Packets.Refused number) = false

-- the record of a life never answers 11
judged-known : (r : Receive) (n : ℕ) → is_eleven (judged r n true).verdict ≡ false
unfolding judged
judged-known r n = by_test (behind r.highest n) (λ e. rw e) (λ e. by_test (accepted_before r n) (λ f. rw (e, f)) (λ f. rw (e, f)))

-- a refusal to add leaves the table as it was
added-refused : (t : Table) (key : Key) (number : ℕ) → (added t key).0 ≡ Outcomes.Refused number → (added t key).1 ≡ t
unfolding added
added-refused t key number h =
    by_test (known key.protocol)
    (λ a.
    by_test (ltb key.spi 256)
    (λ b. rw (a, b))
    (λ b.
    by_test (ltb (find t key) rooms)
    (λ c. rw (a, b, c))
    (λ c.
    by_test (leb rooms (free t))
    (λ d. rw (a, b, c, d))
    (λ d. never (cc (rw (a, b, c, d) at h))))))
    (λ a. rw a)

module _ (t : Table) (destination protocol : ℕ) where
  module _ (spi number : ℕ) where
    abbrev room : ℕ
    room = find t (record { destination = destination; protocol = protocol; spi = spi })

    eleven_read : is_eleven (packet_read t destination protocol true (Packets.Read spi number)).0 ≡ leb rooms room
    unfolding packet_read judged_at
    eleven_read = by_test (leb rooms room) (λ e. rw e) (λ e. rw e (judged-known (entry_at t room).receive number))

  read_keeps : (p : Packet) → is_eleven (packet_read t destination protocol true p).0 ≡ true → (packet_read t destination protocol true p).1 ≡ t
  unfolding packet_read
  read_keeps (Packets.Refused number) h = refl
  read_keeps (Packets.Read spi number) h = rw (sym (eleven_read spi number) ∙ h)

  module _ (s : List ℕ) where
    -- 11 stands where the packet reads and its key has no entry: the key that is added then is the one that was looked for,
    pub eleven_stands : is_eleven (packet t destination protocol true s).0 ≡ (is_read (read protocol s) && leb rooms (find t (key_of destination protocol s)))
    unfolding packet packet_read read ah esp
    eleven_stands =
        by_test (known protocol)
        (λ k.
        by_test (eqb protocol ah_protocol)
        (λ a.
        by_test (leb 12 (length s) && eqb (ah_reserved s) 0 && leb 12 (ah_size s) && leb (ah_size s) (length s))
        (λ b. rw (k, a, b) (eleven_read (ah_spi s) (ah_number s)))
        (λ b. rw (k, a, b)))
        (λ a. by_test (leb 8 (length s)) (λ b. rw (k, a, b) (eleven_read (esp_spi s) (esp_number s))) (λ b. rw (k, a, b))))
        (λ k. rw k)

    -- and the table is as it was
    pub unknown_keeps : is_eleven (packet t destination protocol true s).0 ≡ true → (packet t destination protocol true s).1 ≡ t
    unfolding packet
    unknown_keeps = read_keeps (read protocol s)

    -- the verdict that is listed is the table's own,
    pub shown-known : is_eleven (packet t destination protocol true s).0 ≡ false → shown t destination protocol s ≡ packet t destination protocol true s
    unfolding shown
    shown-known h = rw h

    module _ (unknown : is_eleven (packet t destination protocol true s).0 ≡ true) where
      -- after adding where the key was absent,
      pub shown-added : (u : Table) → added t (key_of destination protocol s) ≡ (Outcomes.Done, u) →
          shown t destination protocol s ≡ packet u destination protocol true s
      unfolding shown added_first
      shown-added u done = rw (unknown, done)

      -- and the number of adding where that is refused
      pub shown-refused : (number : ℕ) (u : Table) → added t (key_of destination protocol s) ≡ (Outcomes.Refused number, u) →
          shown t destination protocol s ≡ (Verdicts.Refused number, t)
      unfolding shown added_first
      shown-refused number u refused =
          let e : u ≡ t = sym (ap (λ x. x.1) refused) ∙ added-refused t (key_of destination protocol s) number (ap (λ x. x.0) refused) in
          rw (unknown, refused, e)

-- ---- what leaves the table as it was

listed-packet : (addresses : Addresses) (protocol : ℕ) (s : List ℕ) (verdict : Verdict) → is_packet (listed_packet addresses protocol s verdict) ≡ true
unfolding is_packet listed_packet
listed-packet addresses protocol s verdict = by_test (ltb (length s) (least_bytes protocol)) (λ e. rw e) (λ e. rw e)

module _ (t : Table) where
  packet-other : (addresses : Addresses) (protocol : ℕ) (s : List ℕ) → is_packet (packet_listed t addresses protocol s).0 ≡ false →
      (packet_listed t addresses protocol s).1 ≡ t
  unfolding packet_listed
  packet-other addresses protocol s h = clash (sym h ∙ listed-packet addresses protocol s (shown t addresses.destination protocol s).0)

  datagram-other : (addresses : Addresses) (s : List ℕ) (d : Datagram) → is_packet (datagram_listed t addresses s d).0 ≡ false →
      (datagram_listed t addresses s d).1 ≡ t
  unfolding datagram_listed
  datagram-other addresses s Datagrams.Keepalive h = refl
  datagram-other addresses s (Datagrams.KeyExchange start n) h = refl
  datagram-other addresses s (Datagrams.Esp n) h = packet-other addresses esp_protocol (handed_on (Datagrams.Esp n) s) h
  datagram-other addresses s (Datagrams.Refused number) h = refl

  frame-other : (s : List ℕ) (frame : Frame) → is_packet (frame_listed t s frame).0 ≡ false → (frame_listed t s frame).1 ≡ t
  unfolding frame_listed
  frame-other s Frames.CutShort h = refl
  frame-other s Frames.NotIpv4 h = refl
  frame-other s (Frames.Fragment addresses) h = refl
  frame-other s (Frames.OtherProtocol addresses protocol) h = refl
  frame-other s (Frames.OtherPorts addresses ports) h = refl
  frame-other s (Frames.Message addresses part) h = refl
  frame-other s (Frames.Datagram addresses part) h = datagram-other addresses (bytes_of_part s part) (datagram (bytes_of_part s part)) h
  frame-other s (Frames.Ah addresses part) h = packet-other addresses ah_protocol (bytes_of_part s part) h
  frame-other s (Frames.Esp addresses part) h = packet-other addresses esp_protocol (bytes_of_part s part) h

  -- a record that is not AH or ESP
  pub other_keeps : (original : ℕ) (s : List ℕ) → is_packet (listed t original s).0 ≡ false → (listed t original s).1 ≡ t
  unfolding listed
  other_keeps original s = frame-other s (carried original s)

-- ---- a packet too short for an SPI and a number

ah-short : (s : List ℕ) → ltb (length s) (least_bytes ah_protocol) ≡ true → read ah_protocol s ≡ Packets.Refused 16
unfolding read ah
ah-short s h = rw (lt-leb 12 (length s) (ltb-true (length s) 12 h))

esp-short : (s : List ℕ) → ltb (length s) (least_bytes esp_protocol) ≡ true → read esp_protocol s ≡ Packets.Refused 16
unfolding read esp
esp-short s h = rw (lt-leb 8 (length s) (ltb-true (length s) 8 h))

read_short : {A : Type 0} (addresses a : Addresses) (protocol : ℕ) (verdict : Verdict) (read : Message) →
    read_listed addresses read ≡ Listings.ShortPacket a protocol verdict → A
unfolding read_listed
read_short addresses a protocol verdict (Messages.Refused number) h = never (cc)
read_short addresses a protocol verdict (Messages.Read exchange count) h = never (cc)

module _ (t : Table) where
  shown-short : (destination protocol : ℕ) (s : List ℕ) → read protocol s ≡ Packets.Refused 16 → shown t destination protocol s ≡ (Verdicts.Refused 16, t)
  unfolding shown packet packet_read
  shown-short destination protocol s e = rw e

  abbrev Sixteen : Listed × Table → Type 0
  Sixteen told = (addresses : Addresses) (protocol : ℕ) (verdict : Verdict) → told.0 ≡ Listings.ShortPacket addresses protocol verdict →
      (verdict ≡ Verdicts.Refused 16) × (told.1 ≡ t)

  packet-short : (addresses : Addresses) (protocol : ℕ) (s : List ℕ) →
      (ltb (length s) (least_bytes protocol) ≡ true → read protocol s ≡ Packets.Refused 16) → Sixteen (packet_listed t addresses protocol s)
  unfolding packet_listed listed_packet
  packet-short addresses protocol s unread a p verdict h =
      by_test (ltb (length s) (least_bytes protocol))
      (λ e.
      let same = shown-short addresses.destination protocol s (unread e) in
      let told : Listings.ShortPacket addresses protocol (Verdicts.Refused 16) ≡ Listings.ShortPacket a p verdict = rw (e, same) at h in
      (cc, rw same))
      (λ e. never (cc (rw e at h)))

  message-short : (addresses : Addresses) (m : List ℕ) → Sixteen (message_listed addresses m, t)
  unfolding message_listed
  message-short addresses m a p verdict h =
      by_test (leb 28 (length m) && eqb (flags_of m) 1)
      (λ e. never (cc (rw e at h)))
      (λ e. read_short addresses a p verdict (message m) (rw e at h))

  datagram-short : (addresses : Addresses) (s : List ℕ) (d : Datagram) → Sixteen (datagram_listed t addresses s d)
  unfolding datagram_listed
  datagram-short addresses s Datagrams.Keepalive a p v h = never (cc)
  datagram-short addresses s (Datagrams.KeyExchange start n) a p v h = message-short addresses (handed_on (Datagrams.KeyExchange start n) s) a p v h
  datagram-short addresses s (Datagrams.Esp n) a p v h =
      packet-short addresses esp_protocol (handed_on (Datagrams.Esp n) s) (esp-short (handed_on (Datagrams.Esp n) s)) a p v h
  datagram-short addresses s (Datagrams.Refused number) a p v h = never (cc)

  frame-short : (s : List ℕ) (frame : Frame) → Sixteen (frame_listed t s frame)
  unfolding frame_listed
  frame-short s Frames.CutShort a p v h = never (cc)
  frame-short s Frames.NotIpv4 a p v h = never (cc)
  frame-short s (Frames.Fragment addresses) a p v h = never (cc)
  frame-short s (Frames.OtherProtocol addresses protocol) a p v h = never (cc)
  frame-short s (Frames.OtherPorts addresses ports) a p v h = never (cc)
  frame-short s (Frames.Message addresses part) a p v h = message-short addresses (bytes_of_part s part) a p v h
  frame-short s (Frames.Datagram addresses part) a p v h = datagram-short addresses (bytes_of_part s part) (datagram (bytes_of_part s part)) a p v h
  frame-short s (Frames.Ah addresses part) a p v h = packet-short addresses ah_protocol (bytes_of_part s part) (ah-short (bytes_of_part s part)) a p v h
  frame-short s (Frames.Esp addresses part) a p v h = packet-short addresses esp_protocol (bytes_of_part s part) (esp-short (bytes_of_part s part)) a p v h

  -- its verdict is always 16, and the table stays
  pub short_sixteen : (original : ℕ) (s : List ℕ) (addresses : Addresses) (protocol : ℕ) (verdict : Verdict) →
      (listed t original s).0 ≡ Listings.ShortPacket addresses protocol verdict → (verdict ≡ Verdicts.Refused 16) × ((listed t original s).1 ≡ t)
  unfolding listed
  short_sixteen original s = frame-short s (carried original s)
