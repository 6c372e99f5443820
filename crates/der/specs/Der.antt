-- DER elements, document 01, "Identities". An element lies at the front of a list of bytes: its tag, its length, its contents.
use Rattle.std.specs.Prelude.{ℕ, zero, suc, ◌+◌, ◌/◌, ◌%◌, Bool, not, ◌||◌, ◌&&◌, length, get_or, take, drop, ltb, leb, eqb}
use Rattle.wire_read.specs.Wire.{Bytes, number_at}
use Rattle.wire_read.specs.Tests.{if◌then◌otherwise◌}

abbrev pub tag : (s : Bytes) → ℕ
tag s = get_or s 0 0

-- the length's first byte, and the length where it stands in the one or the two bytes behind that
abbrev pub length_byte : (s : Bytes) → ℕ
length_byte s = get_or s 1 0

abbrev pub one_byte_length : (s : Bytes) → ℕ
one_byte_length s = get_or s 2 0

abbrev pub two_byte_length : (s : Bytes) → ℕ
two_byte_length s = number_at 2 s 2

-- "tag with low five bits not 31"
unfoldable pub tag_wrong : (s : Bytes) → Bool
tag_wrong s = eqb (tag s % 32) 31

-- "a constructed one": bit 0x20 of the tag
unfoldable pub constructed : (s : Bytes) → Bool
constructed s = eqb (tag s / 32 % 2) 1

-- "length in the shortest form of at most three bytes": how many bytes tag and length take, 0 where the length is in no such form
unfoldable pub head_size : (s : Bytes) → ℕ
head_size s =
    if ltb (length_byte s) 0x80 then 2
    otherwise if eqb (length_byte s) 0x81 && leb 0x80 (one_byte_length s) then 3
    otherwise if eqb (length_byte s) 0x82 && leb 0x100 (two_byte_length s) then 4
    otherwise 0

-- the length, where it is in such a form
unfoldable pub body_size : (s : Bytes) → ℕ
body_size s =
    if ltb (length_byte s) 0x80 then length_byte s
    otherwise if eqb (length_byte s) 0x81 then one_byte_length s
    otherwise two_byte_length s

unfoldable pub contents : (s : Bytes) → Bytes
contents s = take (body_size s) (drop (head_size s) s)

-- the size of the element by its tag and length; 0 where one of them is wrong, or the contents run past the end
unfoldable pub size : (s : Bytes) → ℕ
size s =
    if tag_wrong s || eqb (head_size s) 0 || ltb (length s) (head_size s + body_size s) then 0
    otherwise head_size s + body_size s

-- "a list holds elements": s is elements and nothing else, at most k of them; element gives the size of the one at the front, 0 where none is
unfoldable pub list : (element : Bytes → ℕ) (k : ℕ) (s : Bytes) → Bool
list element zero s = eqb (length s) 0
list element (suc k) s = eqb (length s) 0 || not (eqb (element s) 0) && list element k (drop (element s) s)

-- "filled exactly by elements": n bytes have no more than n
unfoldable pub filled : (element : Bytes → ℕ) (s : Bytes) → Bool
filled element s = list element (length s) s

-- "An element holds a list of elements": the size of the element at the front of s, 0 where none is; so many levels may be used, its
-- own among them
unfoldable pub element : (levels : ℕ) (s : Bytes) → ℕ
element zero s = 0
element (suc levels) s =
    if constructed s && not (filled (element levels) (contents s)) then 0
    otherwise size s

-- s is one element and nothing else, "depth at most 8 with the outermost at 1"
unfoldable pub is_element : (s : Bytes) → Bool
is_element s = not (eqb (element 8 s) 0) && eqb (element 8 s) (length s)

-- "For type 9 the outer tag is 0x30"
unfoldable pub is_name : (s : Bytes) → Bool
is_name s = is_element s && eqb (tag s) 0x30
