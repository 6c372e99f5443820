-- Captures: no two answers of one type have the same number and values.
use Rattle.std.specs.Prelude.{ℕ, ◌-◌, ◌≡◌, refl, Bool, Option, None, Some, length, get_or, eqb, leb}
use Rattle.std.proofs.Common.{sym, ap, ◌∙◌}
use Rattle.wire_read.specs.Tests.{if◌then◌otherwise◌}
use Rattle.wire_read.specs.Answer.{Answer}
use Rattle.sequence_record.specs.Verdict.{Verdict}
use Rattle.sequence_record.specs.Verdict as Verdicts
use Rattle.sequence_record.specs.Receive.{verdict_answer}
use Rattle.capture_header.specs.declared.Order.TheVariants.{Big, Little}
use Rattle.capture_header.specs.FileHeader.{FileHeader}
use Rattle.capture_header.specs.FileHeader as Files
use Rattle.capture_header.specs.RecordHeader.{RecordHeader}
use Rattle.capture_header.specs.RecordHeader as Records
use Rattle.capture_header.specs.declared.HeaderCause.{HeaderCause}
use Rattle.capture_header.specs.declared.HeaderCause.TheVariants as Causes
use Rattle.capture_header.specs.Headers.{file_header_answer, record_header_answer, header_cause_answer}
use Rattle.capture_frame.specs.declared.Addresses.{Addresses}
use Rattle.capture_frame.specs.declared.Ports.{Ports}
use Rattle.capture_frame.specs.declared.Part.{Part}
use Rattle.capture_frame.specs.declared.Frame.{Frame}
use Rattle.capture_frame.specs.declared.Frame.TheVariants as Frames
use Rattle.capture_frame.specs.Frame.{frame_answer}
use Rattle.capture_record.specs.Listed.{Listed}
use Rattle.capture_record.specs.Listed as Lines
use Rattle.capture_record.specs.Listing.{listed_answer}

-- The answer that a number and values stand for, of each type; it is the answer that they come from.

abbrev value : (a : Answer) (place : ℕ) → ℕ
value a place = get_or a.values place 0

abbrev is_kind : (a : Answer) (kind : ℕ) → Bool
is_kind a kind = eqb (value a 0) kind

-- ---- headers

abbrev file_header_meant : (a : Answer) → FileHeader
file_header_meant a =
    if eqb (length a.values) 0 then Files.Refused a.number
    otherwise if is_kind a 1 then Files.Read Big
    otherwise Files.Read Little

file_header-meant : (x : FileHeader) → file_header_meant (file_header_answer x) ≡ x
unfolding file_header_answer
file_header-meant (Files.Read Big) = refl
file_header-meant (Files.Read Little) = refl
file_header-meant (Files.Refused number) = refl

pub file_header-own : (x y : FileHeader) → file_header_answer x ≡ file_header_answer y → x ≡ y
file_header-own x y h = sym (file_header-meant x) ∙ ap file_header_meant h ∙ file_header-meant y

abbrev record_header_meant : (a : Answer) → RecordHeader
record_header_meant a =
    if eqb (length a.values) 0 then Records.Refused a.number
    otherwise if is_kind a 1 then Records.Read (value a 1) (value a 2) (value a 3) (value a 4)
    otherwise Records.CutShort

record_header-meant : (x : RecordHeader) → record_header_meant (record_header_answer x) ≡ x
unfolding record_header_answer
record_header-meant (Records.Read seconds microseconds captured original) = refl
record_header-meant Records.CutShort = refl
record_header-meant (Records.Refused number) = refl

pub record_header-own : (x y : RecordHeader) → record_header_answer x ≡ record_header_answer y → x ≡ y
record_header-own x y h = sym (record_header-meant x) ∙ ap record_header_meant h ∙ record_header-meant y

abbrev header_cause_meant : (a : Answer) → Option HeaderCause
header_cause_meant a =
    if is_kind a 1 then None
    otherwise if is_kind a 2 then Some Causes.Short
    otherwise if is_kind a 3 then Some Causes.Pcapng
    otherwise if is_kind a 4 then Some Causes.Nanoseconds
    otherwise if is_kind a 5 then Some (Causes.Version (value a 1) (value a 2))
    otherwise if is_kind a 6 then Some Causes.CheckSequences
    otherwise if is_kind a 7 then Some (Causes.LinkType (value a 1))
    otherwise Some Causes.NoCapture

header_cause_meant_lem : (x : Option HeaderCause) → header_cause_meant (header_cause_answer x) ≡ x
unfolding header_cause_answer
header_cause_meant_lem None = refl
header_cause_meant_lem (Some Causes.Short) = refl
header_cause_meant_lem (Some Causes.Pcapng) = refl
header_cause_meant_lem (Some Causes.Nanoseconds) = refl
header_cause_meant_lem (Some (Causes.Version major minor)) = refl
header_cause_meant_lem (Some Causes.CheckSequences) = refl
header_cause_meant_lem (Some (Causes.LinkType number)) = refl
header_cause_meant_lem (Some Causes.NoCapture) = refl

pub header_cause_own : (x y : Option HeaderCause) → header_cause_answer x ≡ header_cause_answer y → x ≡ y
header_cause_own x y h = sym (header_cause_meant_lem x) ∙ ap header_cause_meant h ∙ header_cause_meant_lem y

-- ---- what a record carries, and what is listed of it

abbrev addresses_meant : (a : Answer) → Addresses
addresses_meant a = record { source = value a 1; destination = value a 2 }

abbrev ports_meant : (a : Answer) → Ports
ports_meant a = record { source = value a 3; destination = value a 4 }

abbrev part_meant : (a : Answer) → Part
part_meant a = record { start = value a 3; length = value a 4 }

abbrev frame_meant : (a : Answer) → Frame
frame_meant a =
    if is_kind a 1 then Frames.CutShort
    otherwise if is_kind a 2 then Frames.NotIpv4
    otherwise if is_kind a 3 then Frames.Fragment (addresses_meant a)
    otherwise if is_kind a 4 then Frames.OtherProtocol (addresses_meant a) (value a 3)
    otherwise if is_kind a 5 then Frames.OtherPorts (addresses_meant a) (ports_meant a)
    otherwise if is_kind a 6 then Frames.Message (addresses_meant a) (part_meant a)
    otherwise if is_kind a 7 then Frames.Datagram (addresses_meant a) (part_meant a)
    otherwise if is_kind a 8 then Frames.Ah (addresses_meant a) (part_meant a)
    otherwise Frames.Esp (addresses_meant a) (part_meant a)

frame-meant : (x : Frame) → frame_meant (frame_answer x) ≡ x
unfolding frame_answer
frame-meant Frames.CutShort = refl
frame-meant Frames.NotIpv4 = refl
frame-meant (Frames.Fragment addresses) = refl
frame-meant (Frames.OtherProtocol addresses protocol) = refl
frame-meant (Frames.OtherPorts addresses ports) = refl
frame-meant (Frames.Message addresses part) = refl
frame-meant (Frames.Datagram addresses part) = refl
frame-meant (Frames.Ah addresses packet) = refl
frame-meant (Frames.Esp addresses packet) = refl

pub frame-own : (x y : Frame) → frame_answer x ≡ frame_answer y → x ≡ y
frame-own x y h = sym (frame-meant x) ∙ ap frame_meant h ∙ frame-meant y

-- a verdict's number stands before a place; what is accepted has its rise there
abbrev verdict_meant : (a : Answer) (place : ℕ) → Verdict
verdict_meant a place = if leb (length a.values) place then Verdicts.Refused (value a (place - 1)) otherwise Verdicts.Accepted (value a place)

abbrev listed_meant : (a : Answer) → Listed
listed_meant a =
    if is_kind a 1 then Lines.CutShort
    otherwise if is_kind a 2 then Lines.NotIpv4
    otherwise if is_kind a 3 then Lines.Fragment (addresses_meant a)
    otherwise if is_kind a 4 then Lines.OtherProtocol (addresses_meant a) (value a 3)
    otherwise if is_kind a 5 then Lines.OtherPorts (addresses_meant a) (ports_meant a)
    otherwise if is_kind a 6 then Lines.Keepalive (addresses_meant a)
    otherwise if is_kind a 7 then Lines.Enciphered (addresses_meant a) (value a 3) (value a 4)
    otherwise if is_kind a 8 then Lines.Read (addresses_meant a) (value a 3) (value a 4)
    otherwise if is_kind a 9 then Lines.Refused (addresses_meant a) (value a 3)
    otherwise if is_kind a 10 then Lines.ShortPacket (addresses_meant a) (value a 3) (verdict_meant a 5)
    otherwise Lines.Packet (addresses_meant a) (value a 3) (value a 4) (value a 5) (verdict_meant a 7)

listed-meant : (x : Listed) → listed_meant (listed_answer x) ≡ x
unfolding listed_answer verdict_answer
listed-meant Lines.CutShort = refl
listed-meant Lines.NotIpv4 = refl
listed-meant (Lines.Fragment addresses) = refl
listed-meant (Lines.OtherProtocol addresses protocol) = refl
listed-meant (Lines.OtherPorts addresses ports) = refl
listed-meant (Lines.Keepalive addresses) = refl
listed-meant (Lines.Enciphered addresses exchange id) = refl
listed-meant (Lines.Read addresses exchange count) = refl
listed-meant (Lines.Refused addresses number) = refl
listed-meant (Lines.ShortPacket addresses protocol (Verdicts.Accepted rise)) = refl
listed-meant (Lines.ShortPacket addresses protocol (Verdicts.Refused number)) = refl
listed-meant (Lines.Packet addresses protocol spi number (Verdicts.Accepted rise)) = refl
listed-meant (Lines.Packet addresses protocol spi number (Verdicts.Refused n)) = refl

pub listed-own : (x y : Listed) → listed_answer x ≡ listed_answer y → x ≡ y
listed-own x y h = sym (listed-meant x) ∙ ap listed_meant h ∙ listed-meant y
