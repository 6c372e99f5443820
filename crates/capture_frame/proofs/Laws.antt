-- What holds of what a record carries: it is cut short where bytes are missing, and what is handed on lies inside it.
use Prim.Native.Nat.{ℕ, zero, suc, ◌+◌, ◌-◌, ◌≤◌, ◌<◌}
use mathlib.Core.Path.{◌≡◌, refl}
use mathlib.Core.Bool.{Bool, true, false, not, ◌||◌}
use mathlib.Core.Logic.{◌⊎◌, inl, inr}
use native.Mathlib.Omega.{arith}
use lib.ListN.{length}
use lib.Dec.{ltb, eqb}
use borrow.Author.Tests.{lt-ltb, ltb-false}
use Rattle.wire_read.specs.Wire.{Bytes, number_at}
use Rattle.wire_read.proofs.Tests.{neither, by_test}
use Rattle.capture_frame.specs.Frame.{version_at, header_length_at, total_length_at, protocol_at, addresses_at, packet_start, packet_length, ports_at, udp_length_at, deciding_port, by_port, udp, by_protocol, not_ipv4, fragmented, ipv4, is_tag, ether_type, carried, part_of}
use Rattle.capture_frame.specs.declared.Addresses.{Addresses}
use Rattle.capture_frame.specs.declared.Ports.{Ports}
use Rattle.capture_frame.specs.declared.Part.{Part}
use Rattle.capture_frame.specs.declared.Frame.TheVariants.{CutShort}

or_last : (a b : Bool) → b ≡ true → (a || b) ≡ true
or_last true b h = refl
or_last false b h = h

-- a record with fewer bytes than it had, or with fewer than an Ethernet header has
pub record_short : (original : ℕ) (s : Bytes) → (length s < original) ⊎ (length s < 14) → carried original s ≡ CutShort
unfolding carried
record_short original s (inl h) = rw (lt-ltb (length s) original h)
record_short original s (inr h) = rw (or_last (ltb (length s) original) (ltb (length s) 14) (lt-ltb (length s) 14 h))

module _ (s : Bytes) where
  abbrev inside : (part : Part) → Type 0
  inside part = part.start + part.length ≤ length s

  by-port_inside : (addresses : Addresses) (ports : Ports) (part : Part) → inside part → inside (part_of (by_port addresses ports part))
  unfolding by_port part_of
  by-port_inside addresses ports part h =
      by_test (eqb (deciding_port ports) 500) (λ e. rw e h) λ e.
      by_test (eqb (deciding_port ports) 4500) (λ f. rw (e, f) h) (λ f. rw (e, f) (omega arith))

  udp_inside : (addresses : Addresses) (packet : Part) → inside packet → inside (part_of (udp addresses s packet))
  unfolding udp part_of
  udp_inside addresses packet h =
      let n = udp_length_at s packet.start in
      by_test (ltb packet.length 8 || ltb n 8 || ltb packet.length n) (λ e. rw e (omega arith)) λ e.
      let short = neither (ltb packet.length 8 || ltb n 8) _ e in
      let header = ltb-false n 8 (neither (ltb packet.length 8) (ltb n 8) short.0).1 in
      let whole = ltb-false packet.length n short.1 in
      rw e (by-port_inside addresses (ports_at s packet.start) (record { start = packet.start + 8; length = n - 8 }) (omega (arith, header, whole, h)))

  by-protocol_inside : (protocol : ℕ) (addresses : Addresses) (packet : Part) → inside packet →
      inside (part_of (by_protocol protocol addresses s packet))
  unfolding by_protocol part_of
  by-protocol_inside protocol addresses packet h =
      by_test (eqb protocol 51) (λ e. rw e h) λ e.
      by_test (eqb protocol 50) (λ f. rw (e, f) h) λ f.
      by_test (eqb protocol 17) (λ g. rw (e, f, g) (udp_inside addresses packet h)) (λ g. rw (e, f, g) (omega arith))

  header_inside : (at : ℕ) → not_ipv4 s at ≡ false → header_length_at s at ≤ total_length_at s at
  unfolding not_ipv4
  header_inside at h =
      ltb-false (total_length_at s at) (header_length_at s at) (neither (not (eqb (version_at s at) 4) || ltb (header_length_at s at) 20) _ h).1

  ipv4_inside : (at : ℕ) → inside (part_of (ipv4 s at))
  unfolding ipv4 part_of
  ipv4_inside at =
      by_test (ltb (length s) (at + 20)) (λ e. rw e (omega arith)) λ e.
      by_test (not_ipv4 s at) (λ f. rw (e, f) (omega arith)) λ f.
      by_test (ltb (length s) (at + total_length_at s at)) (λ g. rw (e, f, g) (omega arith)) λ g.
      by_test (fragmented s at) (λ h. rw (e, f, g, h) (omega arith)) λ h.
      rw (e, f, g, h)
      (by-protocol_inside (protocol_at s at) (addresses_at s at) (record { start = packet_start s at; length = packet_length s at })
      (omega (arith, header_inside at f, ltb-false (length s) (at + total_length_at s at) g)))

  ether_type_inside : (tags at : ℕ) → inside (part_of (ether_type tags s at))
  unfolding ether_type part_of
  ether_type_inside zero at = by_test (eqb (number_at 2 s at) 0x0800) (λ e. rw e (ipv4_inside (at + 2))) (λ e. rw e (omega arith))
  ether_type_inside (suc tags) at =
      by_test (is_tag (number_at 2 s at))
      (λ e. by_test (ltb (length s) (at + 6)) (λ f. rw (e, f) (omega arith)) (λ f. rw (e, f) (ether_type_inside tags (at + 4))))
      (λ e. by_test (eqb (number_at 2 s at) 0x0800) (λ f. rw (e, f) (ipv4_inside (at + 2))) (λ f. rw (e, f) (omega arith)))

-- "the parts handed on lie inside the record"
pub part_inside : (original : ℕ) (s : Bytes) → (part_of (carried original s)).start + (part_of (carried original s)).length ≤ length s
unfolding carried part_of
part_inside original s =
    by_test (ltb (length s) original || ltb (length s) 14) (λ e. rw e (omega arith)) (λ e. rw e (ether_type_inside s 2 12))
