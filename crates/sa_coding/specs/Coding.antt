-- How the attributes of a transform are to be coded, document 01, "SA payload", with document 02, "Two lifetimes in one offer". s begins at an
-- attribute.
use Rattle.std.specs.Prelude.{ℕ, zero, suc, [], ◌++◌, Bool, false, not, ◌||◌, ◌&&◌, length, take, drop, ltb, leb, eqb}
use Rattle.wire_read.specs.Wire.{Bytes, Code, number_at}
use Rattle.wire_read.specs.Tests.{if◌then◌otherwise◌, ◌and_then◌}
use Rattle.sa_attribute.specs.Attributes.{sent_fixed, attribute_type, attribute_size, after_attribute, value_or_length}

-- "Out of bounds"
unfoldable pub out_of_bounds : (s : Bytes) → Bool
out_of_bounds s = ltb (length s) 4 || ltb (length s) (attribute_size s)

-- "Fixed types must be sent fixed .. (exchange 2: 1 to 5, 11, 13, 14, 15, 17, 20; exchange 32: 1, 3 to 8)"
unfoldable pub must_be_fixed : (exchange attributetype : ℕ) → Bool
must_be_fixed exchange attributetype =
    eqb exchange 2
    && (leb 1 attributetype && leb attributetype 5 || eqb attributetype 11 || leb 13 attributetype && leb attributetype 15
    || eqb attributetype 17 || eqb attributetype 20)
    || eqb exchange 32 && (eqb attributetype 1 || leb 3 attributetype && leb attributetype 8)

unfoldable pub fixed_wrong : (exchange : ℕ) (s : Bytes) → Bool
fixed_wrong exchange s = must_be_fixed exchange (attribute_type s) && not (sent_fixed s)

-- "A life duration (12, or 2) in variable form has 1 to 4 bytes"
unfoldable pub is_duration : (exchange attributetype : ℕ) → Bool
is_duration exchange attributetype = eqb exchange 2 && eqb attributetype 12 || eqb exchange 32 && eqb attributetype 2

unfoldable pub duration_wrong : (exchange : ℕ) (s : Bytes) → Bool
duration_wrong exchange s =
    is_duration exchange (attribute_type s) && not (sent_fixed s) && not (leb 1 (value_or_length s) && leb (value_or_length s) 4)

-- a life type is 11, or 1
unfoldable pub is_life_type : (exchange attributetype : ℕ) → Bool
is_life_type exchange attributetype = eqb exchange 2 && eqb attributetype 11 || eqb exchange 32 && eqb attributetype 1

-- the number that all bytes of its value spell, in either form; nothing is cut off
unfoldable pub value_length : (s : Bytes) → ℕ
value_length s = if sent_fixed s then 2 otherwise value_or_length s

unfoldable pub from_value : (s : Bytes) → Bytes
from_value s = if sent_fixed s then drop 2 s otherwise drop 4 s

unfoldable pub whole_value : (s : Bytes) → ℕ
whole_value s = number_at (value_length s) (from_value s) 0

-- "A type occurs at most once in a transform", and of the life types "each life type value": whether a and s are alike in this
unfoldable pub alike : (exchange : ℕ) (a s : Bytes) → Bool
alike exchange a s = eqb (attribute_type a) (attribute_type s) && (not (is_life_type exchange (attribute_type s)) || eqb (whole_value a) (whole_value s))

-- whether one of the first k attributes of before is alike
unfoldable pub repeats : (k exchange : ℕ) (before s : Bytes) → Bool
repeats zero exchange before s = false
repeats (suc k) exchange before s =
    if ltb (length before) 4 then false
    otherwise alike exchange before s || repeats k exchange (after_attribute before) s

-- "each duration must directly follow its life type and no life type stands without one": a duration right behind a life type and nothing else
-- there; any other attribute is no repetition of one before it
unfoldable pub stands_wrong : (exchange : ℕ) (behind_life_type : Bool) (before s : Bytes) → Bool
stands_wrong exchange behind_life_type before s =
    if is_duration exchange (attribute_type s) then not behind_life_type
    otherwise behind_life_type || repeats 16 exchange before s

-- "Out of bounds .. : 15"; "a broken or repeated pair is 15, where the single-type check stood"; "Fixed types must be sent fixed: 13 .. A life
-- duration .. : 13". before is what stands before the attribute, and behind_life_type says whether the last there is a life type
unfoldable pub attribute_code : (exchange : ℕ) (behind_life_type : Bool) (before s : Bytes) → Code
attribute_code exchange behind_life_type before s =
    if out_of_bounds s then 15
    otherwise if stands_wrong exchange behind_life_type before s then 15
    otherwise if fixed_wrong exchange s then 13
    otherwise if duration_wrong exchange s then 13
    otherwise 0

-- behind the last attribute: "no life type stands without" its duration
unfoldable pub last_code : (behind_life_type : Bool) → Code
last_code behind_life_type = if behind_life_type then 15 otherwise 0

-- one attribute after the other, at most k, "or a 17th: 15"
unfoldable pub attributes_from : (k exchange : ℕ) (behind_life_type : Bool) (before s : Bytes) → Code
attributes_from zero exchange behind_life_type before s = if eqb (length s) 0 then last_code behind_life_type otherwise 15
attributes_from (suc k) exchange behind_life_type before s =
    if eqb (length s) 0 then last_code behind_life_type
    otherwise (attribute_code exchange behind_life_type before s
    and_then attributes_from k exchange (is_life_type exchange (attribute_type s)) (before ++ take (attribute_size s) s) (after_attribute s))

-- 0 where the attributes of a transform are lawful, else the refusal
unfoldable pub attributes_code : (exchange : ℕ) (s : Bytes) → Code
attributes_code exchange s = attributes_from 16 exchange false [] s
