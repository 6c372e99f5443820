-- A whole capture, record for record: its lines, the table after it, and the calls of the table that it is.
use Rattle.std.specs.Prelude.{ℕ, ◌≡◌, List, [], ◌∷◌, ◌++◌, true, false, eqb}
use Rattle.wire_read.specs.Wire.{Bytes}
use Rattle.wire_read.specs.Tests.{if◌then◌otherwise◌}
use Rattle.wire_read.specs.Answer.{Answer}
use Rattle.port4500.specs.Port.{Datagram}
use Rattle.port4500.specs.Port as Datagrams
use Rattle.port4500.specs.Port.{datagram, handed_on}
use Rattle.sequence_record.specs.Verdict.{Verdict}
use Rattle.sequence_record.specs.Verdict as Verdicts
use Rattle.sequence_record.specs.Receive.{verdict_answer}
use Rattle.sequence_table.specs.declared.table.Key.{Key}
use Rattle.sequence_table.specs.Outcome.{Outcome}
use Rattle.sequence_table.specs.Outcome as Outcomes
use Rattle.sequence_table.specs.Table.{Table, added, packet}
use Rattle.sequence_history.specs.History.{Call, adds, removes, shows, sends, asks, Event, is_done, same, answered}
use Rattle.capture_frame.specs.declared.Addresses.{Addresses}
use Rattle.capture_frame.specs.declared.Frame.{Frame}
use Rattle.capture_frame.specs.declared.Frame.TheVariants as Frames
use Rattle.capture_frame.specs.Frame.{carried, bytes_of_part}
use Rattle.capture_record.specs.Listed.{Listed, CutShort, NotIpv4, Fragment, OtherProtocol, OtherPorts, Keepalive, Enciphered, Read, Refused, ShortPacket, Packet}
use Rattle.capture_record.specs.Listing.{ah_protocol, esp_protocol, key_of, is_eleven, listed_packet, listed}

-- ---- what a record is to the table

-- an AH or ESP packet, protocol 2 or 3, or nothing
pub data ToTable : Type 0 where
  nothing : ToTable
  ah_or_esp : (addresses : Addresses) (protocol : ℕ) (s : Bytes) → ToTable

-- "From port 4500: keepalive, a key exchange (as above), or ESP"
abbrev pub datagram_to_table : (addresses : Addresses) (s : Bytes) (d : Datagram) → ToTable
datagram_to_table addresses s Datagrams.Keepalive = nothing
datagram_to_table addresses s (Datagrams.KeyExchange start n) = nothing
datagram_to_table addresses s (Datagrams.Esp n) = ah_or_esp addresses esp_protocol (handed_on (Datagrams.Esp n) s)
datagram_to_table addresses s (Datagrams.Refused number) = nothing

abbrev pub frame_to_table : (s : Bytes) (frame : Frame) → ToTable
frame_to_table s Frames.CutShort = nothing
frame_to_table s Frames.NotIpv4 = nothing
frame_to_table s (Frames.Fragment addresses) = nothing
frame_to_table s (Frames.OtherProtocol addresses protocol) = nothing
frame_to_table s (Frames.OtherPorts addresses ports) = nothing
frame_to_table s (Frames.Message addresses part) = nothing
frame_to_table s (Frames.Datagram addresses part) = datagram_to_table addresses (bytes_of_part s part) (datagram (bytes_of_part s part))
frame_to_table s (Frames.Ah addresses part) = ah_or_esp addresses ah_protocol (bytes_of_part s part)
frame_to_table s (Frames.Esp addresses part) = ah_or_esp addresses esp_protocol (bytes_of_part s part)

unfoldable pub to_table : (original : ℕ) (s : Bytes) → ToTable
to_table original s = frame_to_table s (carried original s)

-- "the verdict listed for AH and ESP is the table's own (after adding where it was absent)": verdict and table are those of the packet as the
-- table stands, unless that is 11; else of the packet after its key was added; else, where adding is refused, its number and the table as it was
pub data TablesOwn (t : Table) (destination protocol : ℕ) (s : Bytes) : Verdict × Table → Type 0 where
  known_key : is_eleven (packet t destination protocol true s).0 ≡ false → TablesOwn t destination protocol s (packet t destination protocol true s)
  added-first : {u : Table} → (packet t destination protocol true s).0 ≡ Verdicts.Refused 11 →
      added t (key_of destination protocol s) ≡ (Outcomes.Done, u) → TablesOwn t destination protocol s (packet u destination protocol true s)
  adding_refused : {number : ℕ} → (packet t destination protocol true s).0 ≡ Verdicts.Refused 11 →
      added t (key_of destination protocol s) ≡ (Outcomes.Refused number, t) → TablesOwn t destination protocol s (Verdicts.Refused number, t)

-- a record's line and the table after it are this packet's, and so is the verdict in them
pub record ListedBy (t : Table) (original : ℕ) (s : Bytes) (addresses : Addresses) (protocol : ℕ) (sent : Bytes) : Type 0 where
  pub verdict : Verdict
  pub after : Table
  pub is : listed t original s ≡ (listed_packet addresses protocol sent verdict, after)
  pub own : TablesOwn t addresses.destination protocol sent (verdict, after)

-- ---- a whole capture, a record with its original length and its bytes

unfoldable pub lines : (t : Table) (records : List (ℕ × Bytes)) → List Listed
lines t [] = []
lines t (r ∷ records) = (listed t r.0 r.1).0 ∷ lines (listed t r.0 r.1).1 records

unfoldable pub table_after : (t : Table) (records : List (ℕ × Bytes)) → Table
table_after t [] = t
table_after t (r ∷ records) = table_after (listed t r.0 r.1).1 records

-- the numbers that lines say were accepted of one key, the last first, behind those before
abbrev pub accepted_line : (key : Key) (line : Listed) (before : List ℕ) → List ℕ
accepted_line key (Packet addresses protocol spi number (Verdicts.Accepted rise)) before =
    if same (record { destination = addresses.destination; protocol = protocol; spi = spi }) key then number ∷ before otherwise before
accepted_line key (Packet addresses protocol spi number (Verdicts.Refused n)) before = before
accepted_line key (ShortPacket addresses protocol verdict) before = before
accepted_line key CutShort before = before
accepted_line key NotIpv4 before = before
accepted_line key (Fragment addresses) before = before
accepted_line key (OtherProtocol addresses protocol) before = before
accepted_line key (OtherPorts addresses ports) before = before
accepted_line key (Keepalive addresses) before = before
accepted_line key (Enciphered addresses exchange id) before = before
accepted_line key (Read addresses exchange count) before = before
accepted_line key (Refused addresses number) before = before

unfoldable pub accepted_in : (key : Key) (listing : List Listed) (before : List ℕ) → List ℕ
accepted_in key [] before = before
accepted_in key (line ∷ listing) before = accepted_in key listing (accepted_line key line before)

-- the verdicts of the lines that have one, as numbers and values, with those of later lines behind them
abbrev pub verdict_line : (line : Listed) (later : List Answer) → List Answer
verdict_line (Packet addresses protocol spi number verdict) later = verdict_answer verdict ∷ later
verdict_line (ShortPacket addresses protocol verdict) later = verdict_answer verdict ∷ later
verdict_line CutShort later = later
verdict_line NotIpv4 later = later
verdict_line (Fragment addresses) later = later
verdict_line (OtherProtocol addresses protocol) later = later
verdict_line (OtherPorts addresses ports) later = later
verdict_line (Keepalive addresses) later = later
verdict_line (Enciphered addresses exchange id) later = later
verdict_line (Read addresses exchange count) later = later
verdict_line (Refused addresses number) later = later

unfoldable pub verdicts_in : (listing : List Listed) → List Answer
verdicts_in [] = []
verdicts_in (line ∷ listing) = verdict_line line (verdicts_in listing)

-- ---- the calls of the table that a capture is

-- a packet is shown; where that says 11 its key is added, and where that is done the packet is shown again
abbrev pub after_adding : (outcome : Outcome) (again : Call) → List Call
after_adding Outcomes.Done again = again ∷ []
after_adding (Outcomes.Refused number) again = []

unfoldable pub packet_calls : (t : Table) (destination protocol : ℕ) (s : Bytes) → List Call
packet_calls t destination protocol s =
    shows destination protocol true s
    ∷ (if is_eleven (packet t destination protocol true s).0
    then adds (key_of destination protocol s) ∷ after_adding (added t (key_of destination protocol s)).0 (shows destination protocol true s)
    otherwise [])

unfoldable pub calls_of : (t : Table) (to : ToTable) → List Call
calls_of t nothing = []
calls_of t (ah_or_esp addresses protocol s) = packet_calls t addresses.destination protocol s

unfoldable pub capture_calls : (t : Table) (records : List (ℕ × Bytes)) → List Call
capture_calls t [] = []
capture_calls t (r ∷ records) = calls_of t (to_table r.0 r.1) ++ capture_calls (listed t r.0 r.1).1 records

-- the table after calls
unfoldable pub after_calls : (t : Table) (calls : List Call) → Table
after_calls t [] = t
after_calls t (c ∷ calls) = after_calls (answered t c).1 calls

-- the answers to such calls that are verdicts, in the order of the calls, with later ones behind them: a packet's, unless it is 11, and an
-- adding's where it is refused
abbrev pub verdict_of : (c : Call) (a : Answer) (later : List Answer) → List Answer
verdict_of (shows destination protocol integrity s) a later = if eqb a.number 11 then later otherwise a ∷ later
verdict_of (adds key) a later = if is_done a then later otherwise a ∷ later
verdict_of (removes key) a later = later
verdict_of (sends key) a later = later
verdict_of (asks key) a later = later

unfoldable pub verdicts_of : (past : List Event) (later : List Answer) → List Answer
verdicts_of [] later = later
verdicts_of (e ∷ past) later = verdicts_of past (verdict_of e.call e.answer later)
