-- A law for each way out of this crate's functions: what the definitions say under the tests that the code makes.
use Prim.Native.Nat.{ℕ, zero, suc, ◌+◌, ◌-◌, ◌*◌, ◌/◌, ◌%◌, ◌≤◌, ◌<◌}
use mathlib.Core.Path.{◌≡◌}
use mathlib.Core.Bool.{Bool, true, false, not, ◌||◌, ◌&&◌}
use native.Mathlib.Omega.{arith}
use lib.ListN.{length, get_or}
use lib.Dec.{ltb, eqb}
use borrow.Author.Tests.{lt-ltb, le-ltb, eq-eqb, ne_eqb, ltb-true, ltb-false}
use Rattle.wire_read.specs.Wire.{Bytes, number_at}
use Rattle.wire_read.proofs.Tests.{clash, both, neither}
use Rattle.capture_frame.specs.Frame.{header_length_at, total_length_at, protocol_at, udp_length_at, deciding_port, by_port, udp, by_protocol, not_ipv4, fragmented, ipv4, is_tag, ether_type, carried}
use Rattle.capture_frame.specs.declared.Addresses.{Addresses}
use Rattle.capture_frame.specs.declared.Ports.{Ports}
use Rattle.capture_frame.specs.declared.Part.{Part}
use Rattle.capture_frame.specs.declared.Frame.{Frame}
use Rattle.capture_frame.specs.declared.Frame.TheVariants.{CutShort, NotIpv4, Fragment, OtherProtocol, OtherPorts, Message, Datagram, Ah, Esp}

-- ---- UDP

module _ (ports : Ports) where
  pub destination_decides : (eqb ports.destination 500 || eqb ports.destination 4500) ≡ true → ports.destination ≡ deciding_port ports
  unfolding deciding_port
  destination_decides h = rw h

  pub source_decides : (eqb ports.destination 500 || eqb ports.destination 4500) ≡ false → ports.source ≡ deciding_port ports
  unfolding deciding_port
  source_decides h = rw h

module _ (addresses : Addresses) (ports : Ports) (part : Part) (port : ℕ) (deciding : port ≡ deciding_port ports) where
  pub by-port-message : port ≡ 500 → Message addresses part ≡ by_port addresses ports part
  unfolding by_port
  by-port-message h = rw (← deciding, eq-eqb port 500 h)

  module _ (other : port ≡ 500 → ⊥) where
    pub by-port-datagram : port ≡ 4500 → Datagram addresses part ≡ by_port addresses ports part
    unfolding by_port
    by-port-datagram h = rw (← deciding, ne_eqb port 500 other, eq-eqb port 4500 h)

    pub by-port-other : (port ≡ 4500 → ⊥) → OtherPorts addresses ports ≡ by_port addresses ports part
    unfolding by_port
    by-port-other h = rw (← deciding, ne_eqb port 500 other, ne_eqb port 4500 h)

-- n is the length that the UDP header says
module _ (addresses : Addresses) (s : Bytes) (packet : Part) (n : ℕ) (en : n ≡ udp_length_at s packet.start) where
  abbrev short : Bool
  short = ltb packet.length 8 || ltb n 8 || ltb packet.length n

  pub udp-short : short ≡ true → CutShort ≡ udp addresses s packet
  unfolding udp
  udp-short h = rw (← en, h)

  module _ (long : short ≡ false) where
    pub udp-header : 8 ≤ n
    udp-header = ltb-false n 8 (neither (ltb packet.length 8) (ltb n 8) (neither (ltb packet.length 8 || ltb n 8) _ long).0).1

    pub udp_ports : (a b : ℕ) → a ≡ number_at 2 s packet.start → b ≡ number_at 2 s (packet.start + 2) → (r : Frame) →
        r ≡ by_port addresses (record { source = a; destination = b }) (record { start = packet.start + 8; length = n - 8 }) →
        r ≡ udp addresses s packet
    unfolding udp
    udp_ports a b ea eb r er = rw (← en, long, ← ea, ← eb) er

-- ---- IPv4

module _ (protocol : ℕ) (addresses : Addresses) (s : Bytes) (packet : Part) where
  pub by-protocol-ah : protocol ≡ 51 → Ah addresses packet ≡ by_protocol protocol addresses s packet
  unfolding by_protocol
  by-protocol-ah h = rw (eq-eqb protocol 51 h)

  module _ (not-ah : protocol ≡ 51 → ⊥) where
    pub by-protocol-esp : protocol ≡ 50 → Esp addresses packet ≡ by_protocol protocol addresses s packet
    unfolding by_protocol
    by-protocol-esp h = rw (ne_eqb protocol 51 not-ah, eq-eqb protocol 50 h)

    module _ (not-esp : protocol ≡ 50 → ⊥) where
      pub by-protocol-udp : protocol ≡ 17 → (r : Frame) → r ≡ udp addresses s packet → r ≡ by_protocol protocol addresses s packet
      unfolding by_protocol
      by-protocol-udp h r er = rw (ne_eqb protocol 51 not-ah, ne_eqb protocol 50 not-esp, eq-eqb protocol 17 h) er

      pub by-protocol-other : (protocol ≡ 17 → ⊥) → OtherProtocol addresses protocol ≡ by_protocol protocol addresses s packet
      unfolding by_protocol
      by-protocol-other h = rw (ne_eqb protocol 51 not-ah, ne_eqb protocol 50 not-esp, ne_eqb protocol 17 h)

module _ (s : Bytes) (at : ℕ) where
  pub ipv4_no_header : length s < at + 20 → CutShort ≡ ipv4 s at
  unfolding ipv4
  ipv4_no_header h = rw (lt-ltb (length s) (at + 20) h)

  module _ (long : at + 20 ≤ length s) (other : Bool) (eo : other ≡ not_ipv4 s at) where
    pub ipv4-other : other ≡ true → NotIpv4 ≡ ipv4 s at
    unfolding ipv4
    ipv4-other h = rw (le-ltb (length s) (at + 20) long, ← eo, h)

    -- first is the header's first byte, total the total length
    module _ (is : other ≡ false) (first total : ℕ) (ef : first ≡ get_or s at 0) (et : total ≡ total_length_at s at) where
      pub header_in_total : first % 16 * 4 ≤ total
      unfolding not_ipv4
      header_in_total =
          let wrong : not_ipv4 s at ≡ false = cc in
          let h = ltb-false (total_length_at s at) (header_length_at s at)
          (neither (not (eqb (get_or s at 0 / 16) 4) || ltb (header_length_at s at) 20) _ wrong).1 in
          rw (ef, et) h

      pub ipv4-short : length s < at + total → CutShort ≡ ipv4 s at
      unfolding ipv4
      ipv4-short h = rw (le-ltb (length s) (at + 20) long, ← eo, is, ← et, lt-ltb (length s) (at + total) h)

      module _ (whole : at + total ≤ length s) (a b : ℕ) (ea : a ≡ number_at 4 s (at + 12)) (eb : b ≡ number_at 4 s (at + 16))
          (part : Bool) (ep : part ≡ fragmented s at) where
        pub ipv4_fragment : part ≡ true → Fragment (record { source = a; destination = b }) ≡ ipv4 s at
        unfolding ipv4
        ipv4_fragment h =
            rw (le-ltb (length s) (at + 20) long, ← eo, is, ← et, le-ltb (length s) (at + total) whole, ← ep, h, ← ea, ← eb)

        pub ipv4-packet : part ≡ false → (protocol : ℕ) → protocol ≡ protocol_at s at → (r : Frame) →
            r ≡ by_protocol protocol (record { source = a; destination = b }) s (record { start = at + first % 16 * 4; length = total - first % 16 * 4 }) →
            r ≡ ipv4 s at
        unfolding ipv4
        ipv4-packet h protocol eq r er =
            rw (le-ltb (length s) (at + 20) long, ← eo, is, ← et, le-ltb (length s) (at + total) whole, ← ep, h, ← ea, ← eb, ← ef, ← eq) er

-- ---- Ethernet

-- a tag may come where at least one is left
tag-left : (tags : ℕ) (tag b : Bool) → (ltb 0 (suc tags) && tag) ≡ b → tag ≡ b
tag-left tags tag b h = rw (lt-ltb 0 (suc tags) (omega arith)) at h

module _ (tags : ℕ) (tag : Bool) (may : (ltb 0 tags && tag) ≡ true) where
  pub tag_counts : 1 ≤ tags
  tag_counts = ltb-true 0 tags (both (ltb 0 tags) tag may).0

  pub tag-falls : (t : ℕ) → tags ≡ t → tags - 1 < t
  tag-falls t h = omega (arith, tag_counts)

-- kind is the EtherType, and tag whether it is a VLAN tag's
module _ (s : Bytes) (at kind : ℕ) (ek : kind ≡ number_at 2 s at) (tag : Bool) (et : tag ≡ is_tag kind) where
  pub tag-short : (tags : ℕ) → (ltb 0 tags && tag) ≡ true → length s < at + 6 → CutShort ≡ ether_type tags s at
  unfolding ether_type
  tag-short zero h cut = clash h
  tag-short (suc tags) h cut = rw (← ek, ← et, tag-left tags tag true h, lt-ltb (length s) (at + 6) cut)

  pub tag-taken : (tags : ℕ) → (ltb 0 tags && tag) ≡ true → at + 6 ≤ length s → (r : Frame) →
      r ≡ ether_type (tags - 1) s (at + 4) → r ≡ ether_type tags s at
  unfolding ether_type
  tag-taken zero h long r er = clash h
  tag-taken (suc tags) h long r er =
      let less : suc tags - 1 ≡ tags = omega arith in
      rw (← ek, ← et, tag-left tags tag true h, le-ltb (length s) (at + 6) long) (rw less at er)

  pub type_ipv4 : (tags : ℕ) → (ltb 0 tags && tag) ≡ false → kind ≡ 0x0800 → (r : Frame) → r ≡ ipv4 s (at + 2) → r ≡ ether_type tags s at
  unfolding ether_type
  type_ipv4 zero h is r er = rw (← ek, eq-eqb kind 0x0800 is) er
  type_ipv4 (suc tags) h is r er = rw (← ek, ← et, tag-left tags tag false h, eq-eqb kind 0x0800 is) er

  pub type_other : (tags : ℕ) → (ltb 0 tags && tag) ≡ false → (kind ≡ 0x0800 → ⊥) → NotIpv4 ≡ ether_type tags s at
  unfolding ether_type
  type_other zero h is = rw (← ek, ne_eqb kind 0x0800 is)
  type_other (suc tags) h is = rw (← ek, ← et, tag-left tags tag false h, ne_eqb kind 0x0800 is)

module _ (original : ℕ) (s : Bytes) where
  pub carried-short : (ltb (length s) original || ltb (length s) 14) ≡ true → CutShort ≡ carried original s
  unfolding carried
  carried-short h = rw h

  pub carried_type : (ltb (length s) original || ltb (length s) 14) ≡ false → 14 ≤ length s
  carried_type h = ltb-false (length s) 14 (neither (ltb (length s) original) _ h).1

  pub carried-whole : (ltb (length s) original || ltb (length s) 14) ≡ false → (r : Frame) → r ≡ ether_type 2 s 12 → r ≡ carried original s
  unfolding carried
  carried-whole h r er = rw h er
