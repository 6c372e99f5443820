-- Sequence numbers by their history: what a call of the table is to be answered, worked out afresh from the list of what came before.
-- Nothing here knows of a window or of rooms.
use Rattle.std.specs.Prelude.{ℕ, zero, suc, ◌+◌, ◌-◌, max, min, ◌≡◌, List, [], ◌∷◌, ◌++◌, Bool, true, false, not, ◌||◌, ◌&&◌, length, get_or, drop, ltb, leb, eqb}
use Rattle.wire_read.specs.Wire.{Bytes}
use Rattle.wire_write.specs.Put.{bytes_of}
use Rattle.wire_read.specs.Tests.{if◌then◌otherwise◌}
use Rattle.wire_read.specs.Answer.{Answer, done, refused}
use Rattle.sequence_record.specs.declared.Receive.{Receive}
use Rattle.sequence_packet.specs.Packet.{Packet, Read, Refused}
use Rattle.sequence_table.specs.declared.table.Key.{Key}
use Rattle.sequence_record.specs.Receive.{new_receive, judged, verdict_answer}
use Rattle.sequence_packet.specs.Packets.{known, read, packet_answer}
use Rattle.sequence_table.specs.Table.{Table, empty, added, removed, packet, next_to_send, loss, outcome_answer, sending_answer, counted_answer}

-- ---- what came before

-- a call of the table; `shows` is a packet and what the caller says of its integrity; `asks` is for the loss line
pub data Call : Type 0 where
  adds : (key : Key) → Call
  removes : (key : Key) → Call
  shows : (destination protocol : ℕ) (integrity : Bool) (s : Bytes) → Call
  sends : (key : Key) → Call
  asks : (key : Key) → Call

-- a call and its answer; what came before is a list of these, the last first
pub record Event : Type 0 where
  pub call : Call
  pub answer : Answer

-- "0 is done"
abbrev pub is_done : (a : Answer) → Bool
is_done a = eqb a.number 0

abbrev pub same : (a b : Key) → Bool
same a b = eqb a.destination b.destination && eqb a.protocol b.protocol && eqb a.spi b.spi

-- the key of a packet, and the number that it carries
abbrev pub key_read : (destination protocol : ℕ) (p : Packet) → Key
key_read destination protocol (Read spi number) = record { destination = destination; protocol = protocol; spi = spi }
key_read destination protocol (Refused number) = record { destination = destination; protocol = protocol; spi = 0 }

abbrev pub number_read : (p : Packet) → ℕ
number_read (Read spi number) = number
number_read (Refused number) = 0

unfoldable pub key_of : (c : Call) → Key
key_of (adds key) = key
key_of (removes key) = key
key_of (shows destination protocol integrity s) = key_read destination protocol (read protocol s)
key_of (sends key) = key
key_of (asks key) = key

-- what a call that was done is to its key: "A life runs from adding to removing"
pub data Deed : Type 0 where
  begins : Deed
  ends : Deed
  accepts : (number : ℕ) → Deed
  hands : (number : ℕ) → Deed
  none : Deed

-- the number that an answer to a sending hands out
abbrev pub number_handed : (a : Answer) → ℕ
number_handed a = get_or a.values 0 0

abbrev pub deed : (c : Call) (a : Answer) → Deed
deed (adds key) a = begins
deed (removes key) a = ends
deed (shows destination protocol integrity s) a = accepts (number_read (read protocol s))
deed (sends key) a = hands (number_handed a)
deed (asks key) a = none

abbrev pub deed_for : (key : Key) (e : Event) → Deed
deed_for key e = if is_done e.answer && same (key_of e.call) key then deed e.call e.answer otherwise none

-- a life of the key runs
abbrev pub lives_after : (d : Deed) (before : Bool) → Bool
lives_after begins before = true
lives_after ends before = false
lives_after (accepts number) before = before
lives_after (hands number) before = before
lives_after none before = before

unfoldable pub lives : (key : Key) (past : List Event) → Bool
lives key [] = false
lives key (e ∷ past) = lives_after (deed_for key e) (lives key past)

-- the numbers accepted in this life, the last first
abbrev pub accepted_after : (d : Deed) (before : List ℕ) → List ℕ
accepted_after begins before = []
accepted_after ends before = []
accepted_after (accepts number) before = number ∷ before
accepted_after (hands number) before = before
accepted_after none before = before

unfoldable pub accepted : (key : Key) (past : List Event) → List ℕ
accepted key [] = []
accepted key (e ∷ past) = accepted_after (deed_for key e) (accepted key past)

-- the numbers handed out for sending in this life, the last first
abbrev pub handed_after : (d : Deed) (before : List ℕ) → List ℕ
handed_after begins before = []
handed_after ends before = []
handed_after (accepts number) before = before
handed_after (hands number) before = number ∷ before
handed_after none before = before

unfoldable pub handed : (key : Key) (past : List Event) → List ℕ
handed key [] = []
handed key (e ∷ past) = handed_after (deed_for key e) (handed key past)

-- document 02, Four: the rises that the acceptances of this life were answered with, the last first
abbrev pub rise_given : (a : Answer) → ℕ
rise_given a = get_or a.values 0 0

abbrev pub rises_after : (d : Deed) (a : Answer) (before : List ℕ) → List ℕ
rises_after begins a before = []
rises_after ends a before = []
rises_after (accepts number) a before = rise_given a ∷ before
rises_after (hands number) a before = before
rises_after none a before = before

unfoldable pub rises : (key : Key) (past : List Event) → List ℕ
rises key [] = []
rises key (e ∷ past) = rises_after (deed_for key e) e.answer (rises key past)

-- the lives that run: one more with each adding that was done, one less with each removing
abbrev pub entries_after : (d : Deed) (before : ℕ) → ℕ
entries_after begins before = before + 1
entries_after ends before = before - 1
entries_after (accepts number) before = before
entries_after (hands number) before = before
entries_after none before = before

unfoldable pub entries : (past : List Event) → ℕ
entries [] = 0
entries (e ∷ past) = entries_after (if is_done e.answer then deed e.call e.answer otherwise none) (entries past)

-- ---- what is right of it

-- "H the highest accepted number of this life, 0 at first"
abbrev pub highest : (numbers : List ℕ) → ℕ
highest [] = 0
highest (n ∷ numbers) = max n (highest numbers)

abbrev pub member : (n : ℕ) (numbers : List ℕ) → Bool
member n [] = false
member n (x ∷ numbers) = eqb n x || member n numbers

abbrev pub one : (b : Bool) → ℕ
one b = if b then 1 otherwise 0

-- f 0 + .. + f (n - 1)
unfoldable pub sum : (f : ℕ → ℕ) (n : ℕ) → ℕ
sum f zero = 0
sum f (suc n) = sum f n + f n

-- "how many of those last numbers were accepted": of H, H - 1, .., so many as the lesser of H and 64 says
abbrev pub recent : (numbers : List ℕ) → ℕ
recent numbers = sum (λ k. one (member (highest numbers - k) numbers)) (min (highest numbers) 64)

-- "number 0, or number plus 64 not above H: 8197; accepted before: 8194; integrity no: 24; else accepted"; document 02, Four: "by how much the
-- highest number rose", which is H after it less H before it
unfoldable pub right_number : (numbers : List ℕ) (number : ℕ) (integrity : Bool) → Answer
right_number numbers number integrity =
    if eqb number 0 || leb (number + 64) (highest numbers) then refused 8197
    otherwise if member number numbers then refused 8194
    otherwise if not integrity then refused 24
    otherwise done ((highest (number ∷ numbers) - highest numbers) ∷ [])

unfoldable pub right_packet : (past : List Event) (destination protocol : ℕ) (integrity : Bool) (p : Packet) → Answer
right_packet past destination protocol integrity (Refused number) = refused number
right_packet past destination protocol integrity (Read spi number) =
    if not (lives (record { destination = destination; protocol = protocol; spi = spi }) past) then refused 11
    otherwise right_number (accepted (record { destination = destination; protocol = protocol; spi = spi }) past) number integrity

unfoldable pub right : (past : List Event) (c : Call) → Answer
-- "Adding: protocol 10, SPI below 256 11, present 8200, full 8199"
right past (adds key) =
    if not (known key.protocol) then refused 10
    otherwise if ltb key.spi 256 then refused 11
    otherwise if lives key past then refused 8200
    otherwise if leb 64 (entries past) then refused 8199
    otherwise done (1 ∷ [])
-- "any other call on an absent key 11"
right past (removes key) =
    if not (lives key past) then refused 11
    otherwise done (1 ∷ [])
-- what the packet itself is refused for, "then entry 11", then its number
right past (shows destination protocol integrity s) = right_packet past destination protocol integrity (read protocol s)
-- "Sending counts from 1; after 4,294,967,295: 8198"
right past (sends key) =
    if not (lives key past) then refused 11
    otherwise if leb 4294967295 (length (handed key past)) then refused 8198
    otherwise done ((length (handed key past) + 1) ∷ [])
-- "A loss line gives H, the lesser of H and 64, and how many of those last numbers were accepted"
right past (asks key) =
    if not (lives key past) then refused 11
    otherwise done (highest (accepted key past) ∷ min (highest (accepted key past)) 64 ∷ recent (accepted key past) ∷ [])

-- ---- runs

-- what the table answers a call by its contracts, and the table after it
unfoldable pub answered : (t : Table) (c : Call) → Answer × Table
answered t (adds key) = (outcome_answer (added t key).0, (added t key).1)
answered t (removes key) = (outcome_answer (removed t key).0, (removed t key).1)
answered t (shows destination protocol integrity s) =
    (verdict_answer (packet t destination protocol integrity s).0, (packet t destination protocol integrity s).1)
answered t (sends key) = (sending_answer (next_to_send t key).0, (next_to_send t key).1)
answered t (asks key) = (counted_answer (loss t key), t)

-- the calls of a run with the table's answers, and with those worked out afresh, behind what came before
unfoldable pub answered_all : (t : Table) (past : List Event) (calls : List Call) → List Event
answered_all t past [] = past
answered_all t past (c ∷ calls) = answered_all (answered t c).1 (record { call = c; answer = (answered t c).0 } ∷ past) calls

unfoldable pub right_all : (past : List Event) (calls : List Call) → List Event
right_all past [] = past
right_all past (c ∷ calls) = right_all (record { call = c; answer = right past c } ∷ past) calls

-- ---- what is said of runs

-- no number stands twice
abbrev pub Distinct : (numbers : List ℕ) → Type 0
Distinct [] = Unit {0}
Distinct (n ∷ numbers) = (member n numbers ≡ false) × Distinct numbers

-- n, n - 1, .., 1
unfoldable pub countdown : (n : ℕ) → List ℕ
countdown zero = []
countdown (suc n) = suc n ∷ countdown n

abbrev pub is_adding : (c : Call) → Bool
is_adding (adds key) = true
is_adding (removes key) = false
is_adding (shows destination protocol integrity s) = false
is_adding (sends key) = false
is_adding (asks key) = false

-- each call of the key but adding was answered as worked out afresh from what came before it; whether an adding finds the table full is no
-- matter of one key
unfoldable pub RightFor : (key : Key) (past : List Event) → Type 0
RightFor key [] = Unit {0}
RightFor key (e ∷ past) = (key_of e.call ≡ key → is_adding e.call ≡ false → e.answer ≡ right past e.call) × RightFor key past

abbrev pub is_showing : (c : Call) → Bool
is_showing (adds key) = false
is_showing (removes key) = false
is_showing (shows destination protocol integrity s) = true
is_showing (sends key) = false
is_showing (asks key) = false

-- each packet of the key that was accepted was answered with H after it less H before it
unfoldable pub RisesFor : (key : Key) (past : List Event) → Type 0
RisesFor key [] = Unit {0}
RisesFor key (e ∷ past) =
    (is_showing e.call ≡ true → is_done e.answer ≡ true → key_of e.call ≡ key →
    e.answer ≡ done ((highest (accepted key (e ∷ past)) - highest (accepted key past)) ∷ []))
    × RisesFor key past

abbrev pub total : (numbers : List ℕ) → ℕ
total [] = 0
total (n ∷ numbers) = n + total numbers

-- packets of the key, each with what is said of its integrity, and the numbers that they carry
pub data Carries (key : Key) : List (Bool × Bytes) → List (Bool × ℕ) → Type 0 where
  no_more : Carries key [] []
  next : {integrity : Bool} {s : Bytes} {number : ℕ} {packets : List (Bool × Bytes)} {numbers : List (Bool × ℕ)} →
      packet_answer (read key.protocol s) ≡ done (key.spi ∷ number ∷ []) → Carries key packets numbers →
      Carries key ((integrity, s) ∷ packets) ((integrity, number) ∷ numbers)

-- what the table answers to packets of one key in turn, and a lent record to their numbers
unfoldable pub table_answers : (t : Table) (key : Key) (packets : List (Bool × Bytes)) → List Answer
table_answers t key [] = []
table_answers t key (p ∷ packets) =
    verdict_answer (packet t key.destination key.protocol p.0 p.1).0
    ∷ table_answers (packet t key.destination key.protocol p.0 p.1).1 key packets

unfoldable pub lent_answers : (r : Receive) (numbers : List (Bool × ℕ)) → List Answer
lent_answers r [] = []
lent_answers r (n ∷ numbers) = verdict_answer (judged r n.1 n.0).verdict ∷ lent_answers (judged r n.1 n.0).receive numbers

-- the lent record after them
unfoldable pub lent_after : (r : Receive) (numbers : List (Bool × ℕ)) → Receive
lent_after r [] = r
lent_after r (n ∷ numbers) = lent_after (judged r n.1 n.0).receive numbers

-- the accepted numbers, the last first, after one more answer and after several: known by the answers alone
abbrev pub accepted_then : (a : Answer) (number : ℕ) (before : List ℕ) → List ℕ
accepted_then a number before = if is_done a then number ∷ before otherwise before

unfoldable pub accepted_by : (answers : List Answer) (numbers : List (Bool × ℕ)) (before : List ℕ) → List ℕ
accepted_by [] numbers before = before
accepted_by (a ∷ answers) [] before = before
accepted_by (a ∷ answers) (n ∷ numbers) before = accepted_by answers numbers (accepted_then a n.1 before)

-- those of a lent record that was new before these steps
abbrev pub lent_accepted : (numbers : List (Bool × ℕ)) → List ℕ
lent_accepted numbers = accepted_by (lent_answers new_receive numbers) numbers []

-- the rises that answers to a lent record's steps carry
unfoldable pub rises_by : (answers : List Answer) → List ℕ
rises_by [] = []
rises_by (a ∷ answers) = if is_done a then rise_given a ∷ rises_by answers otherwise rises_by answers

-- ---- numbers shown to a fresh entry

abbrev one_key : Key
one_key = record { destination = 0x0A000001; protocol = 3; spi = 256 }

-- ESP packets of the key whose integrity holds, with these numbers
unfoldable pub packets_of : (numbers : List ℕ) → List Call
packets_of [] = []
packets_of (n ∷ numbers) = shows 0x0A000001 3 true (bytes_of 4 256 ++ bytes_of 4 n) ∷ packets_of numbers

abbrev first_answer : (past : List Event) → Answer
first_answer [] = done []
first_answer (e ∷ past) = e.answer

-- what a run was answered, in the order of its calls, and behind it what later calls were
unfoldable pub in_turn : (past : List Event) (later : List Answer) → List Answer
in_turn [] later = later
in_turn (e ∷ past) later = in_turn past (e.answer ∷ later)

-- the answers to these numbers in one run, without that to the adding before them; and the loss line after them
unfoldable pub answers_to : (numbers : List ℕ) → List Answer
answers_to numbers = drop 1 (in_turn (answered_all empty [] (adds one_key ∷ packets_of numbers)) [])

unfoldable pub loss_of : (numbers : List ℕ) → Answer
loss_of numbers = first_answer (answered_all empty [] (adds one_key ∷ packets_of numbers ++ (asks one_key ∷ [])))
