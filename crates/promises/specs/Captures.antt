-- Captures, in the words of document 02, "One". What a record is to the table, the lines of a whole capture and the calls that it is stand in
-- crates/capture_history/specs/Capture.antt; proofs in crates/capture_history, capture_record, capture_frame and capture_buffer.
use Rattle.std.specs.Prelude.{ℕ, ◌+◌, ◌*◌, ◌≤◌, ◌≡◌, refl, true, ◌&&◌, List, [], ◌∷◌, ◌++◌, leb, length, drop}
use Rattle.std.proofs.Common.{ap, arith, length-take, length-drop}
use Rattle.wire_read.specs.Wire.{Bytes}
use Rattle.sequence_record.specs.Verdict.{Verdict, Refused}
use Rattle.sequence_packet.specs.Packets.{read}
use Rattle.sequence_table.specs.declared.table.Key.{Key}
use Rattle.sequence_table.specs.Table.{Table, rooms, words, empty, find, packet}
use Rattle.sequence_history.specs.History.{accepted, answered_all, right_all, Distinct}
use Rattle.capture_buffer.specs.Buffer.{Step, begun, ran, holds, fits, brought}
use Rattle.capture_buffer.proofs.Laws as Buffer
use Rattle.capture_frame.specs.declared.Addresses.{Addresses}
use Rattle.capture_frame.specs.declared.Part.{Part}
use Rattle.capture_frame.specs.Frame.{carried, part_of, bytes_of_part}
use Rattle.capture_frame.proofs.Laws as Frame
use Rattle.capture_record.specs.Listed.{Listed, ShortPacket}
use Rattle.capture_record.specs.Listing.{key_of, is_eleven, listed}
use Rattle.capture_record.proofs.Laws.{is_read}
use Rattle.capture_record.proofs.Laws as Record
use Rattle.capture_history.specs.Capture.{nothing, ah_or_esp, to_table, ListedBy, lines, table_after, accepted_in, verdicts_in, capture_calls, after_calls, verdicts_of}
use Rattle.capture_history.proofs.Records as Records
use Rattle.capture_history.proofs.Runs as Runs

-- The verdict listed for AH and ESP is the table's own (after adding where it was absent).
pub listed-verdict : (t : Table) (original : ℕ) (s : Bytes) (addresses : Addresses) (protocol : ℕ) (sent : Bytes) →
    to_table original s ≡ ah_or_esp addresses protocol sent → ListedBy t original s addresses protocol sent
listed-verdict = Records.listed-verdict

-- "Where 11 would stand (the packet reads, and its key has no entry)": nowhere else is a key added, and the key that is added has no entry.
pub eleven_stands : (t : Table) (destination protocol : ℕ) (s : Bytes) →
    is_eleven (packet t destination protocol true s).0 ≡ (is_read (read protocol s) && leb rooms (find t (key_of destination protocol s)))
eleven_stands = Record.eleven_stands

-- A record that is not AH or ESP leaves the table as it was.
pub others_keep : (t : Table) (original : ℕ) (s : Bytes) → to_table original s ≡ nothing → (listed t original s).1 ≡ t
others_keep = Records.others_keep

-- "`AH refused 16` only where the packet has fewer than 12 bytes (ESP: 8)": such a line's verdict is 16, and the table is as it was.
pub short_sixteen : (t : Table) (original : ℕ) (s : Bytes) (addresses : Addresses) (protocol : ℕ) (verdict : Verdict) →
    (listed t original s).0 ≡ ShortPacket addresses protocol verdict → (verdict ≡ Refused 16) × ((listed t original s).1 ≡ t)
short_sixteen = Record.short_sixteen

-- Calls of `list_record` on one table in turn: each keeps its contract, so that the lines are `lines` and the table after them is `table_after`.
pub data ListingRun : (before : Table) (records : List (ℕ × Bytes)) (listing : List Listed) (after : Table) → Type 0 where
  no_record : {t : Table} → ListingRun t [] [] t
  a_record : {before next after : Table} {original : ℕ} {s : Bytes} {line : Listed} {records : List (ℕ × Bytes)} {listing : List Listed} →
      listed before original s ≡ (line, next) → ListingRun next records listing after → ListingRun before ((original, s) ∷ records) (line ∷ listing) after

pub listing-run : {before after : Table} {records : List (ℕ × Bytes)} {listing : List Listed} → ListingRun before records listing after →
    (listing ≡ lines before records) × (after ≡ table_after before records)
unfolding lines table_after
listing-run no_record = (refl, refl)
listing-run (a_record {line = line} is run) = let q = listing-run run in rw is (ap (λ (l : List Listed). line ∷ l) q.0, q.1)

-- A listing is a history of calls: the table after the calls is the table after the listing, and the verdicts among their answers are the
-- listed ones.
module _ (t : Table) (long : length t ≡ rooms * words) (records : List (ℕ × Bytes)) where
  pub listing-table : after_calls t (capture_calls t records) ≡ table_after t records
  listing-table = Runs.listing-table t long records

  pub listing_verdicts : verdicts_of (answered_all t [] (capture_calls t records)) [] ≡ verdicts_in (lines t records)
  listing_verdicts = Runs.listing_verdicts t long records

-- Through a whole capture from the empty table:
module _ (records : List (ℕ × Bytes)) where
  -- every listed verdict is the one worked out afresh from the list of what came before;
  pub capture_right : verdicts_in (lines empty records) ≡ verdicts_of (right_all [] (capture_calls empty records)) []
  capture_right = Runs.capture_right records

  -- the numbers listed as accepted of one key are those accepted in its one life, since a capture removes nothing;
  pub listed-accepted : (key : Key) → accepted_in key (lines empty records) [] ≡ accepted key (answered_all empty [] (capture_calls empty records))
  listed-accepted = Runs.listed-accepted records

  -- `accepted` of one key stays once only.
  pub capture_once : (key : Key) → Distinct (accepted_in key (lines empty records) [])
  capture_once = Runs.capture_once records

-- The parts handed on lie inside the record, with as many bytes as they say.
pub part_inside : (original : ℕ) (s : Bytes) → (part_of (carried original s)).start + (part_of (carried original s)).length ≤ length s
part_inside = Frame.part_inside

pub part-whole : (original : ℕ) (s : Bytes) → length (bytes_of_part s (part_of (carried original s))) ≡ (part_of (carried original s)).length
part-whole original s =
    let part : Part = part_of (carried original s) in
    omega (arith, length-take part.length (drop part.start s), length-drop part.start s, part_inside original s)

-- "The file is read through a 64 KiB buffer": whatever is read, taken and moved, in pieces that fit, what was taken and what is held behind it
-- are together exactly what was read, in its order.
pub nothing_lost : (buffer : Bytes) (steps : List Step) → fits (begun buffer) steps ≡ true →
    (ran (begun buffer) steps).taken_so_far ++ holds (ran (begun buffer) steps) ≡ brought steps
nothing_lost = Buffer.nothing_lost
