-- One record of a capture: it is an AH or ESP packet, and its line and the table after it are that packet's, or it leaves the table as it was
-- and its line has no verdict.
use Prim.Native.Nat.{ℕ}
use mathlib.Core.Path.{◌≡◌, refl}
use mathlib.Core.Bool.{◌&&◌}
use mathlib.Core.List.{List}
use lib.ListN.{length}
use lib.Dec.{leb, eqb}
use Rattle.wire_read.specs.Wire.{Bytes}
use Rattle.wire_read.specs.Answer.{Answer}
use Rattle.wire_read.proofs.Tests.{never, by_test}
use Rattle.port4500.specs.Port.{Datagram}
use Rattle.port4500.specs.Port as Datagrams
use Rattle.port4500.specs.Port.{datagram}
use Rattle.message_header.specs.Header.{flags_of}
use Rattle.message_chain.specs.Message.{Message}
use Rattle.message_chain.specs.Message as Messages
use Rattle.message_chain.specs.Message.{message}
use Rattle.sequence_table.specs.declared.table.Key.{Key}
use Rattle.sequence_table.specs.Table.{Table}
use Rattle.capture_frame.specs.declared.Addresses.{Addresses}
use Rattle.capture_frame.specs.declared.Frame.{Frame}
use Rattle.capture_frame.specs.declared.Frame.TheVariants as Frames
use Rattle.capture_frame.specs.Frame.{carried, bytes_of_part}
use Rattle.capture_record.specs.Listed.{Listed}
use Rattle.capture_record.specs.Listing.{shown, packet_listed, read_listed, message_listed, datagram_listed, frame_listed, listed}
use Rattle.capture_history.specs.Capture.{ToTable, nothing, ah_or_esp, datagram_to_table, frame_to_table, to_table, ListedBy, accepted_line, verdict_line}
use Rattle.capture_history.proofs.Packets.{tables-own}

-- a line with no verdict
pub record Bare (line : Listed) : Type 0 where
  pub no_number : (key : Key) (before : List ℕ) → accepted_line key line before ≡ before
  pub no_verdict : (later : List Answer) → verdict_line line later ≡ later

pub data Goes (t : Table) : ToTable → Listed × Table → Type 0 where
  to_none : {line : Listed} → Bare line → Goes t nothing (line, t)
  to_table_lem : {addresses : Addresses} {protocol : ℕ} {sent : Bytes} → Goes t (ah_or_esp addresses protocol sent) (packet_listed t addresses protocol sent)

message_bare : (addresses : Addresses) (m : Bytes) → Bare (message_listed addresses m)
unfolding message_listed
message_bare addresses m =
    by_test (leb 28 (length m) && eqb (flags_of m) 1)
    (λ e. rw e (record { no_number = λ key before. refl; no_verdict = λ later. refl }))
    (λ e. rw e (read_bare (message m)))
  where
    read_bare : (read : Message) → Bare (read_listed addresses read)
    read_bare (Messages.Refused number) = unfold read_listed in record { no_number = λ key before. refl; no_verdict = λ later. refl }
    read_bare (Messages.Read exchange count) = unfold read_listed in record { no_number = λ key before. refl; no_verdict = λ later. refl }

module _ (t : Table) where
  datagram-goes : (addresses : Addresses) (s : Bytes) (d : Datagram) → Goes t (datagram_to_table addresses s d) (datagram_listed t addresses s d)
  unfolding datagram_listed
  datagram-goes addresses s Datagrams.Keepalive = to_none (record { no_number = λ key before. refl; no_verdict = λ later. refl })
  datagram-goes addresses s (Datagrams.KeyExchange start n) = to_none (message_bare addresses _)
  datagram-goes addresses s (Datagrams.Esp n) = to_table_lem
  datagram-goes addresses s (Datagrams.Refused number) = to_none (record { no_number = λ key before. refl; no_verdict = λ later. refl })

  frame-goes : (s : Bytes) (frame : Frame) → Goes t (frame_to_table s frame) (frame_listed t s frame)
  unfolding frame_listed
  frame-goes s Frames.CutShort = to_none (record { no_number = λ key before. refl; no_verdict = λ later. refl })
  frame-goes s Frames.NotIpv4 = to_none (record { no_number = λ key before. refl; no_verdict = λ later. refl })
  frame-goes s (Frames.Fragment addresses) = to_none (record { no_number = λ key before. refl; no_verdict = λ later. refl })
  frame-goes s (Frames.OtherProtocol addresses protocol) = to_none (record { no_number = λ key before. refl; no_verdict = λ later. refl })
  frame-goes s (Frames.OtherPorts addresses ports) = to_none (record { no_number = λ key before. refl; no_verdict = λ later. refl })
  frame-goes s (Frames.Message addresses part) = to_none (message_bare addresses _)
  frame-goes s (Frames.Datagram addresses part) = datagram-goes addresses (bytes_of_part s part) (datagram (bytes_of_part s part))
  frame-goes s (Frames.Ah addresses part) = to_table_lem
  frame-goes s (Frames.Esp addresses part) = to_table_lem

  module _ (original : ℕ) (s : Bytes) where
    pub goes : Goes t (to_table original s) (listed t original s)
    unfolding to_table listed
    goes = frame-goes s (carried original s)

    others_by : {r : Listed × Table} {to : ToTable} → Goes t to r → to ≡ nothing → r.1 ≡ t
    others_by (to_none b) e = refl
    others_by to_table_lem e = never (cc)

    pub others_keep : to_table original s ≡ nothing → (listed t original s).1 ≡ t
    others_keep = others_by goes

    module _ (addresses : Addresses) (protocol : ℕ) (sent : Bytes) where
      packet-by : {r : Listed × Table} {to : ToTable} → Goes t to r → to ≡ ah_or_esp addresses protocol sent → r ≡ packet_listed t addresses protocol sent
      packet-by (to_none b) e = never (cc)
      packet-by (to_table_lem {addresses = a} {protocol = p} {sent = m}) e =
          let e1 : a ≡ addresses = cc in
          let e2 : p ≡ protocol = cc in
          let e3 : m ≡ sent = cc in
          rw (e1, e2, e3)

      pub listed-verdict : to_table original s ≡ ah_or_esp addresses protocol sent → ListedBy t original s addresses protocol sent
      listed-verdict e =
          record {
            verdict = (shown t addresses.destination protocol sent).0;
            after = (shown t addresses.destination protocol sent).1;
            is = unfold packet_listed in packet-by goes e;
            own = tables-own addresses.destination protocol sent t;
          }
