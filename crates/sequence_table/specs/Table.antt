-- The table, document 01, "Sequence numbers": "64 entries, keyed by IPv4 destination, protocol and SPI". A room is six words: the mark (0
-- where the room is free, else the protocol plus 1), destination, SPI, highest, window, counter. A call gives its answer and the table after it.
use Rattle.std.specs.Prelude.{ℕ, zero, suc, ◌+◌, ◌*◌, List, [], ◌∷◌, Bool, not, ◌&&◌, get_or, set, replicate, ltb, leb, eqb}
use Rattle.wire_read.specs.Wire.{Bytes}
use Rattle.wire_read.specs.Tests.{if◌then◌otherwise◌}
use Rattle.wire_read.specs.Answer.{Answer, done, refused}
use Rattle.sequence_record.specs.declared.Receive.{Receive}
use Rattle.sequence_record.specs.Verdict.{Verdict, Judged}
use Rattle.sequence_record.specs.Verdict as Verdicts
use Rattle.sequence_packet.specs.Packet.{Packet}
use Rattle.sequence_packet.specs.Packet as Packets
use Rattle.sequence_table.specs.declared.table.Key.{Key}
use Rattle.sequence_table.specs.declared.table.Entry.{Entry}
use Rattle.sequence_table.specs.Outcome.{Outcome}
use Rattle.sequence_table.specs.Outcome as Outcomes
use Rattle.sequence_table.specs.Sending.{Sending}
use Rattle.sequence_table.specs.Sending as Sendings
use Rattle.sequence_table.specs.Counted.{Counted}
use Rattle.sequence_table.specs.Counted as Counts
use Rattle.sequence_record.specs.Receive.{new_receive, judged, loss_line}
use Rattle.sequence_packet.specs.Packets.{known, read}

-- ---- rooms

abbrev pub Table : Type 0
Table = List ℕ

abbrev pub rooms : ℕ
rooms = 64

abbrev pub words : ℕ
words = 6

-- the table with no entry
abbrev pub empty : Table
empty = replicate (rooms * words) 0

-- the word at a place of a room, and the first three by name
abbrev pub word : (t : Table) (room place : ℕ) → ℕ
word t room place = get_or t (room * words + place) 0

abbrev pub mark_in : (t : Table) (room : ℕ) → ℕ
mark_in t room = get_or t (room * words) 0

abbrev pub destination_in : (t : Table) (room : ℕ) → ℕ
destination_in t room = word t room 1

abbrev pub spi_in : (t : Table) (room : ℕ) → ℕ
spi_in t room = word t room 2

-- a room holds a life of the key
unfoldable pub holds : (t : Table) (key : Key) (room : ℕ) → Bool
holds t key room = eqb (spi_in t room) key.spi && (eqb (mark_in t room) (key.protocol + 1) && eqb (destination_in t room) key.destination)

unfoldable pub is_free : (t : Table) (room : ℕ) → Bool
is_free t room = eqb (mark_in t room) 0

-- the first place from i on that passes the test, so many are looked at; the one behind them where none passes
unfoldable pub first_place : (test : ℕ → Bool) (left i : ℕ) → ℕ
first_place test zero i = i
first_place test (suc left) i = if test i then i otherwise first_place test left (i + 1)

-- the key's room, 64 where it has none
unfoldable pub find : (t : Table) (key : Key) → ℕ
find t key = first_place (holds t key) rooms 0

unfoldable pub free : (t : Table) → ℕ
free t = first_place (is_free t) rooms 0

unfoldable pub put_key : (t : Table) (room : ℕ) (key : Key) → Table
put_key t room key = set (set (set t (room * words) (key.protocol + 1)) (room * words + 1) key.destination) (room * words + 2) key.spi

unfoldable pub emptied : (t : Table) (room : ℕ) → Table
emptied t room = set t (room * words) 0

-- ---- entries: one more field is one more word of a room, and is said here

-- an entry from the words of its room, by their places, and its words in that order, from place 3 on
abbrev pub entry_of : (word_at : ℕ → ℕ) → Entry
entry_of word_at = record { receive = record { highest = word_at 3; window = word_at 4 }; counter = word_at 5 }

abbrev pub entry_words : (e : Entry) → List ℕ
entry_words e = e.receive.highest ∷ e.receive.window ∷ e.counter ∷ []

-- a life's entry at its beginning
abbrev pub new_entry : Entry
new_entry = record { receive = new_receive; counter = 0 }

-- an entry with another record, and with another counter
abbrev pub with_receive : (e : Entry) (receive : Receive) → Entry
with_receive e receive = record { receive = receive; counter = e.counter }

abbrev pub with_counter : (e : Entry) (counter : ℕ) → Entry
with_counter e counter = record { receive = e.receive; counter = counter }

-- words written from a place of a room on
abbrev pub put_words : (t : Table) (room place : ℕ) (ws : List ℕ) → Table
put_words t room place [] = t
put_words t room place (w ∷ ws) = put_words (set t (room * words + place) w) room (place + 1) ws

unfoldable pub entry_at : (t : Table) (room : ℕ) → Entry
entry_at t room = entry_of (word t room)

unfoldable pub put_entry : (t : Table) (room : ℕ) (e : Entry) → Table
put_entry t room e = put_words t room 3 (entry_words e)

-- ---- calls

-- "Adding: protocol 10, SPI below 256 11, present 8200, full 8199"; "Freed room is used."
unfoldable pub added : (t : Table) (key : Key) → Outcome × Table
added t key =
    if not (known key.protocol) then (Outcomes.Refused 10, t)
    otherwise if ltb key.spi 256 then (Outcomes.Refused 11, t)
    otherwise if ltb (find t key) rooms then (Outcomes.Refused 8200, t)
    otherwise if leb rooms (free t) then (Outcomes.Refused 8199, t)
    otherwise (Outcomes.Done, put_entry (put_key t (free t) key) (free t) new_entry)

-- "any other call on an absent key 11"
unfoldable pub removed : (t : Table) (key : Key) → Outcome × Table
removed t key =
    if leb rooms (find t key) then (Outcomes.Refused 11, t)
    otherwise (Outcomes.Done, emptied t (find t key))

-- a step of the record in a room
unfoldable pub judged_at : (t : Table) (room : ℕ) (j : Judged) → Verdict × Table
judged_at t room j = (j.verdict, put_entry t room (with_receive (entry_at t room) j.receive))

unfoldable pub packet_read : (t : Table) (destination protocol : ℕ) (integrity : Bool) (p : Packet) → Verdict × Table
packet_read t destination protocol integrity (Packets.Refused number) = (Verdicts.Refused number, t)
packet_read t destination protocol integrity (Packets.Read spi number) =
    at (find t (record { destination = destination; protocol = protocol; spi = spi }))
  where
    at : (room : ℕ) → Verdict × Table
    at room =
        if leb rooms room then (Verdicts.Refused 11, t)
        otherwise judged_at t room (judged (entry_at t room).receive number integrity)

-- "A packet's protocol not 2 or 3: 10. AH .. ESP .. else 16. Then entry 11." Then the step.
unfoldable pub packet : (t : Table) (destination protocol : ℕ) (integrity : Bool) (s : Bytes) → Verdict × Table
packet t destination protocol integrity s = packet_read t destination protocol integrity (read protocol s)

-- "Sending counts from 1; after 4,294,967,295: 8198"
unfoldable pub handed_out : (t : Table) (room : ℕ) (e : Entry) → Sending × Table
handed_out t room e =
    if leb 4294967295 e.counter then (Sendings.Refused 8198, t)
    otherwise (Sendings.Number (e.counter + 1), put_entry t room (with_counter e (e.counter + 1)))

unfoldable pub next_to_send : (t : Table) (key : Key) → Sending × Table
next_to_send t key =
    if leb rooms (find t key) then (Sendings.Refused 11, t)
    otherwise handed_out t (find t key) (entry_at t (find t key))

unfoldable pub loss : (t : Table) (key : Key) → Counted
loss t key =
    if leb rooms (find t key) then Counts.Refused 11
    otherwise Counts.Line (loss_line (entry_at t (find t key)).receive)

-- ---- the paper's number and values for each case

unfoldable pub outcome_answer : (outcome : Outcome) → Answer
outcome_answer Outcomes.Done = done (1 ∷ [])
outcome_answer (Outcomes.Refused number) = refused number

unfoldable pub sending_answer : (sending : Sending) → Answer
sending_answer (Sendings.Number n) = done (n ∷ [])
sending_answer (Sendings.Refused number) = refused number

unfoldable pub counted_answer : (counted : Counted) → Answer
counted_answer (Counts.Line l) = done (l.highest ∷ l.span ∷ l.count ∷ [])
counted_answer (Counts.Refused number) = refused number
