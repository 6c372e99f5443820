-- The headers of a capture, document 02, "One": "classic libpcap files (either byte order, microsecond stamps, Ethernet link type)".
-- A file's header is magic (4 bytes), major (2), minor (2), time zone (4), accuracy (4), snap length (4), link type (4); a record's is
-- seconds (4), microseconds (4), captured length (4), original length (4).
use Rattle.std.specs.Prelude.{ℕ, zero, suc, ◌+◌, ◌*◌, ◌%◌, [], ◌∷◌, ◌||◌, ◌&&◌, not, Option, None, Some, Result, Ok, Err, length, get_or, ltb, eqb}
use Rattle.wire_read.specs.Wire.{Bytes, number_at}
use Rattle.wire_read.specs.Tests.{if◌then◌otherwise◌}
use Rattle.wire_read.specs.Answer.{Answer, done, refused}
use Rattle.capture_header.specs.declared.Order.{Order}
use Rattle.capture_header.specs.declared.Order.TheVariants.{Big, Little}
use Rattle.refusal.specs.Numbers.{number}
use Rattle.refusal.specs.declared.Refusal.{Refusal}
use Rattle.capture_header.specs.FileHeader.{FileHeader}
use Rattle.capture_header.specs.FileHeader as Files
use Rattle.capture_header.specs.RecordHeader.{RecordHeader}
use Rattle.capture_header.specs.RecordHeader as Records
use Rattle.capture_header.specs.declared.RecordHeader.{RecordHeader as Fields}
use Rattle.capture_header.specs.declared.HeaderCause.{HeaderCause}
use Rattle.capture_header.specs.declared.HeaderCause.TheVariants as Causes

-- ---- numbers in the file's own order

-- the number that the n bytes at i spell, the lowest first; a byte past the end counts as 0
unfoldable pub lowest_first : (n : ℕ) (s : Bytes) (i : ℕ) → ℕ
lowest_first zero s i = 0
lowest_first (suc n) s i = get_or s i 0 + lowest_first n s (i + 1) * 256

unfoldable pub number_in : (order : Order) (n : ℕ) (s : Bytes) (i : ℕ) → ℕ
number_in Big n s i = number_at n s i
number_in Little n s i = lowest_first n s i

-- ---- the file's header

abbrev pub magic : ℕ
magic = 0xa1b2c3d4

abbrev pub major_in : (order : Order) (s : Bytes) → ℕ
major_in order s = number_in order 2 s 4

abbrev pub minor_in : (order : Order) (s : Bytes) → ℕ
minor_in order s = number_in order 2 s 6

abbrev pub link_type : (order : Order) (s : Bytes) → ℕ
link_type order s = number_in order 4 s 20

-- "version 2.4, the whole 32-bit link type field 1"; "Time zone, accuracy and snap length are not looked at"
unfoldable pub in_order : (order : Order) (s : Bytes) → FileHeader
in_order order s =
    if eqb (major_in order s) 2 && eqb (minor_in order s) 4 && eqb (link_type order s) 1 then Files.Read order
    otherwise Files.Refused 8201

-- "magic a1b2c3d4 in either byte order"; "Fewer bytes or anything else: 8201"
unfoldable pub file_header : (s : Bytes) → FileHeader
file_header s =
    if ltb (length s) 24 then Files.Refused 8201
    otherwise if eqb (number_in Big 4 s 0) magic then in_order Big s
    otherwise if eqb (number_in Little 4 s 0) magic then in_order Little s
    otherwise Files.Refused 8201

-- an answer of the code, in these words
abbrev pub file_header_told : (answer : Result Order Refusal) → FileHeader
file_header_told (Ok order) = Files.Read order
file_header_told (Err refusal) = Files.Refused (number refusal)

-- ---- a record's header

abbrev pub seconds_in : (order : Order) (s : Bytes) → ℕ
seconds_in order s = number_in order 4 s 0

abbrev pub microseconds_in : (order : Order) (s : Bytes) → ℕ
microseconds_in order s = number_in order 4 s 4

abbrev pub captured_in : (order : Order) (s : Bytes) → ℕ
captured_in order s = number_in order 4 s 8

abbrev pub original_in : (order : Order) (s : Bytes) → ℕ
original_in order s = number_in order 4 s 12

-- "A file that ends inside a record header: that record is cut short"; "A captured length over 65,535: 8201, before anything else of that record"
unfoldable pub record_header : (order : Order) (s : Bytes) → RecordHeader
record_header order s =
    if ltb (length s) 16 then Records.CutShort
    otherwise if ltb 65535 (captured_in order s) then Records.Refused 8201
    otherwise Records.Read (seconds_in order s) (microseconds_in order s) (captured_in order s) (original_in order s)

-- an answer of the code, in these words
abbrev pub record_header_told : (answer : Result (Option Fields) Refusal) → RecordHeader
record_header_told (Ok (Some header)) = Records.Read header.seconds header.microseconds header.captured header.original
record_header_told (Ok None) = Records.CutShort
record_header_told (Err refusal) = Records.Refused (number refusal)

-- ---- what a file that is refused is instead

abbrev pub nanoseconds : ℕ
nanoseconds = 0xa1b23c4d

abbrev pub pcapng : ℕ
pcapng = 0x0a0d0d0a

-- of a file with our magic: the version comes first, then the link type, whose high half has the bits on check sequences
unfoldable pub order_cause : (order : Order) (s : Bytes) → Option HeaderCause
order_cause order s =
    if not (eqb (major_in order s) 2 && eqb (minor_in order s) 4) then Some (Causes.Version (major_in order s) (minor_in order s))
    otherwise if eqb (link_type order s) 1 then None
    otherwise if eqb (link_type order s % 65536) 1 then Some Causes.CheckSequences
    otherwise Some (Causes.LinkType (link_type order s % 65536))

unfoldable pub header_cause : (s : Bytes) → Option HeaderCause
header_cause s =
    if ltb (length s) 24 then Some Causes.Short
    otherwise if eqb (number_in Big 4 s 0) pcapng then Some Causes.Pcapng
    otherwise if eqb (number_in Big 4 s 0) nanoseconds || eqb (number_in Little 4 s 0) nanoseconds then Some Causes.Nanoseconds
    otherwise if eqb (number_in Big 4 s 0) magic then order_cause Big s
    otherwise if eqb (number_in Little 4 s 0) magic then order_cause Little s
    otherwise Some Causes.NoCapture

-- ---- the paper's number and values for each case

abbrev pub order_value : (order : Order) → ℕ
order_value Big = 1
order_value Little = 2

unfoldable pub file_header_answer : (header : FileHeader) → Answer
file_header_answer (Files.Read order) = done (order_value order ∷ [])
file_header_answer (Files.Refused number) = refused number

unfoldable pub record_header_answer : (header : RecordHeader) → Answer
record_header_answer (Records.Read seconds microseconds captured original) = done (1 ∷ seconds ∷ microseconds ∷ captured ∷ original ∷ [])
record_header_answer Records.CutShort = done (2 ∷ [])
record_header_answer (Records.Refused number) = refused number

unfoldable pub header_cause_answer : (cause : Option HeaderCause) → Answer
header_cause_answer None = done (1 ∷ [])
header_cause_answer (Some Causes.Short) = done (2 ∷ [])
header_cause_answer (Some Causes.Pcapng) = done (3 ∷ [])
header_cause_answer (Some Causes.Nanoseconds) = done (4 ∷ [])
header_cause_answer (Some (Causes.Version major minor)) = done (5 ∷ major ∷ minor ∷ [])
header_cause_answer (Some Causes.CheckSequences) = done (6 ∷ [])
header_cause_answer (Some (Causes.LinkType number)) = done (7 ∷ number ∷ [])
header_cause_answer (Some Causes.NoCapture) = done (8 ∷ [])
