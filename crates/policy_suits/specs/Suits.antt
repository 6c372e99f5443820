-- Which transform, and which set, suits which line, document 01, "Policy book and choice", with document 02, "Two lifetimes in one offer".
use Rattle.std.specs.Prelude.{ℕ, zero, suc, ◌+◌, ◌-◌, [], Bool, not, ◌||◌, ◌&&◌, length, take, ltb, leb, eqb, Option, None, Some}
use Rattle.wire_read.specs.Wire.{Bytes}
use Rattle.wire_read.specs.Tests.{if◌then◌otherwise◌}
use Rattle.policy_lines.specs.Lines.{main_seconds, quick_protocols, quick_mode, quick_seconds}
use Rattle.sa_attribute.specs.Attributes.{attribute_type, attribute_size, after_attribute, attribute, attribute_count, value}
use Rattle.sa_fields.specs.declared.TransformNumber.{TransformNumber}
use Rattle.sa_fields.specs.Fields.{protocol, transform_count, transform_number, transform_id, attributes_of}
use Rattle.sa_items.specs.Items.{first_item, after_item, proposal, proposal_count, transform}

-- an attribute is there, or is there with this value
unfoldable pub present : (attributetype : ℕ) (attributes : Bytes) → Bool
present attributetype attributes = leb 4 (length (attribute attributetype attributes))

unfoldable pub value_is : (attributetype wanted : ℕ) (attributes : Bytes) → Bool
value_is attributetype wanted attributes = present attributetype attributes && eqb (value (attribute attributetype attributes)) wanted

-- whether the attribute at the front of s is the life type of this value; lifetype is 11 or 1
abbrev pub is_unit : (lifetype unit : ℕ) (s : Bytes) → Bool
is_unit lifetype unit s = eqb (attribute_type s) lifetype && eqb (value s) unit

-- the duration behind it among the first k attributes of s, no bytes where there is none
unfoldable pub find_duration : (k lifetype unit : ℕ) (s : Bytes) → Bytes
find_duration zero lifetype unit s = []
find_duration (suc k) lifetype unit s =
    if ltb (length s) 4 then []
    otherwise if is_unit lifetype unit s then take (attribute_size (after_attribute s)) (after_attribute s)
    otherwise find_duration k lifetype unit (after_attribute s)

-- of life type 1, seconds, and of life type 2, kilobytes
abbrev pub seconds_of : (lifetype : ℕ) (attributes : Bytes) → Bytes
seconds_of lifetype attributes = find_duration 16 lifetype 1 attributes

abbrev pub kilobytes_of : (lifetype : ℕ) (attributes : Bytes) → Bytes
kilobytes_of lifetype attributes = find_duration 16 lifetype 2 attributes

-- "seconds within the line"
unfoldable pub seconds_within : (lifetype longest : ℕ) (attributes : Bytes) → Bool
seconds_within lifetype longest attributes =
    leb 4 (length (seconds_of lifetype attributes)) && leb 1 (value (seconds_of lifetype attributes)) && leb (value (seconds_of lifetype attributes)) longest

-- "and, if present, kilobytes of at least 1"
unfoldable pub has_kilobytes : (lifetype : ℕ) (attributes : Bytes) → Bool
has_kilobytes lifetype attributes = leb 4 (length (kilobytes_of lifetype attributes))

unfoldable pub kilobytes_some : (lifetype : ℕ) (attributes : Bytes) → Bool
kilobytes_some lifetype attributes = not (has_kilobytes lifetype attributes) || leb 1 (value (kilobytes_of lifetype attributes))

-- "exactly": so many attributes, two more with kilobytes, and no more
unfoldable pub nothing_surplus : (wanted lifetype : ℕ) (attributes : Bytes) → Bool
nothing_surplus wanted lifetype attributes = eqb (attribute_count attributes) (if has_kilobytes lifetype attributes then wanted + 2 otherwise wanted)

-- "A main transform suits if its ID is 1 and its attributes are exactly 1=129, 2=20, 3=10, 20=2, 11=1 and 12 from 1 to the line's seconds",
-- "and, if present, kilobytes"
unfoldable pub main_values : (attributes : Bytes) → Bool
main_values attributes = value_is 1 129 attributes && value_is 2 20 attributes && value_is 3 10 attributes && value_is 20 2 attributes

unfoldable pub main_suits : (seconds : ℕ) (t : Bytes) → Bool
main_suits seconds t =
    eqb (transform_id t) 1 && main_values (attributes_of t) && seconds_within 11 seconds (attributes_of t) && kilobytes_some 11 (attributes_of t)
    && nothing_surplus 6 11 (attributes_of t)

-- "A quick one: ID 20 (AH) or 129 (ESP); attributes exactly 4=mode, 1=1, 2 from 1 to the line's seconds, and 5=20, but no 5 in an ESP that
-- goes with AH", "and, if present, kilobytes"
unfoldable pub quick_id : (protocol : ℕ) → ℕ
quick_id protocol = if eqb protocol 2 then 20 otherwise 129

unfoldable pub quick_authentication : (protocols protocol : ℕ) (attributes : Bytes) → Bool
quick_authentication protocols protocol attributes =
    if eqb protocols 2 && eqb protocol 3 then nothing_surplus 3 1 attributes
    otherwise value_is 5 20 attributes && nothing_surplus 4 1 attributes

unfoldable pub quick_suits : (protocols mode seconds protocol : ℕ) (t : Bytes) → Bool
quick_suits protocols mode seconds protocol t =
    eqb (transform_id t) (quick_id protocol) && value_is 4 mode (attributes_of t) && seconds_within 1 seconds (attributes_of t)
    && kilobytes_some 1 (attributes_of t) && quick_authentication protocols protocol (attributes_of t)

-- whether a transform of this protocol suits line i, counted from 0, of the book's quick lines, or of the lines for an exchange
abbrev pub suits_quick_line : (i : ℕ) (book : Bytes) (protocol : ℕ) (t : Bytes) → Bool
suits_quick_line i book protocol t = quick_suits (quick_protocols i book) (quick_mode i book) (quick_seconds i book) protocol t

unfoldable pub suits_line : (exchange i : ℕ) (book : Bytes) (protocol : ℕ) (t : Bytes) → Bool
suits_line exchange i book protocol t =
    if eqb exchange 2 then main_suits (main_seconds i book) t
    otherwise suits_quick_line i book protocol t

-- "each proposal has a suiting transform": whether transform k of a proposal suits the line
unfoldable pub transform_suits : (exchange i : ℕ) (book p : Bytes) (k : ℕ) → Bool
transform_suits exchange i book p k = suits_line exchange i book (protocol p) (transform k p)

-- the lowest transform that suits: numbers rise, so it is the first; counted from 1 among the n from k on, 0 where none does
unfoldable pub lowest_from : (n k exchange i : ℕ) (book p : Bytes) → ℕ
lowest_from zero k exchange i book p = 0
lowest_from (suc n) k exchange i book p =
    if transform_suits exchange i book p k then k + 1
    otherwise lowest_from n (k + 1) exchange i book p

unfoldable pub lowest : (exchange i : ℕ) (book p : Bytes) → ℕ
lowest exchange i book p = lowest_from (transform_count p) 0 exchange i book p

-- whether there is one
abbrev pub has_transform : (exchange i : ℕ) (book p : Bytes) → Bool
has_transform exchange i book p = leb 1 (lowest exchange i book p)

-- the lowest transform that suits, by its number
unfoldable pub lowest_transform : (exchange i : ℕ) (book p : Bytes) → Option TransformNumber
lowest_transform exchange i book p = if has_transform exchange i book p then Some (transform_number (transform (lowest exchange i book p - 1) p)) otherwise None

-- the same among the n transforms that lie in rest, in a proposal of this protocol
unfoldable pub lowest_in : (n exchange i : ℕ) (book : Bytes) (protocol : ℕ) (rest : Bytes) → Option TransformNumber
lowest_in zero exchange i book protocol rest = None
lowest_in (suc n) exchange i book protocol rest =
    if suits_line exchange i book protocol (first_item rest) then Some (transform_number (first_item rest))
    otherwise lowest_in n exchange i book protocol (after_item rest)

-- "its protocols are exactly the line's": 1 in exchange 2, ESP alone, or AH with ESP in either order
unfoldable pub protocols_alone : (wanted : ℕ) (set : Bytes) → Bool
protocols_alone wanted set = eqb (proposal_count set) 1 && eqb (protocol (proposal 0 set)) wanted

unfoldable pub protocols_both : (set : Bytes) → Bool
protocols_both set =
    eqb (proposal_count set) 2
    && (eqb (protocol (proposal 0 set)) 2 && eqb (protocol (proposal 1 set)) 3 || eqb (protocol (proposal 0 set)) 3 && eqb (protocol (proposal 1 set)) 2)

unfoldable pub protocols_suit : (exchange i : ℕ) (book set : Bytes) → Bool
protocols_suit exchange i book set =
    if eqb exchange 2 then protocols_alone 1 set
    otherwise if eqb (quick_protocols i book) 1 then protocols_alone 3 set
    otherwise protocols_both set

-- "A set suits a line if its protocols are exactly the line's and each proposal has a suiting transform"
unfoldable pub set_suits : (exchange i : ℕ) (book set : Bytes) → Bool
set_suits exchange i book set =
    protocols_suit exchange i book set && has_transform exchange i book (proposal 0 set)
    && (eqb (proposal_count set) 1 || has_transform exchange i book (proposal 1 set))
