-- The body of an identification payload, document 01, "Identities": "Type, protocol, port (1, 1, 2 bytes), then data".
use Rattle.std.specs.Prelude.{ℕ, Bool, false, ◌||◌, ◌&&◌, length, get_or, drop, leb, eqb}
use Rattle.wire_read.specs.Wire.{Bytes, Code, number_at}
use Rattle.wire_read.specs.Tests.{if◌then◌otherwise◌}
use Rattle.der.specs.Der.{is_element, is_name}

abbrev pub identity_type : (s : Bytes) → ℕ
identity_type s = get_or s 0 0

abbrev pub identity_protocol : (s : Bytes) → ℕ
identity_protocol s = get_or s 1 0

abbrev pub identity_port : (s : Bytes) → ℕ
identity_port s = number_at 2 s 2

abbrev pub identity_data : (s : Bytes) → Bytes
identity_data s = drop 4 s

abbrev pub one_to255 : (n : ℕ) → Bool
one_to255 n = leb 1 n && leb n 255

-- "Exchange 2: .. type 1 has 4 bytes, 5 has 16, types 2, 3, 11 have 1 to 255, 9 and 10 hold one DER element", "For type 9 the outer tag
-- is 0x30"
unfoldable pub main_data : (identitytype : ℕ) (s : Bytes) → Bool
main_data identitytype s =
    if eqb identitytype 1 then eqb (length s) 4
    otherwise if eqb identitytype 5 then eqb (length s) 16
    otherwise if eqb identitytype 2 || eqb identitytype 3 || eqb identitytype 11 then one_to255 (length s)
    otherwise if eqb identitytype 9 then is_name s
    otherwise if eqb identitytype 10 then is_element s
    otherwise false

-- "Exchange 32: types 1, 4, 5, 6, 7, 8 with 4, 8, 16, 32, 8, 32"
unfoldable pub quick_data : (identitytype : ℕ) (s : Bytes) → Bool
quick_data identitytype s =
    if eqb identitytype 1 then eqb (length s) 4
    otherwise if eqb identitytype 4 then eqb (length s) 8
    otherwise if eqb identitytype 5 then eqb (length s) 16
    otherwise if eqb identitytype 6 then eqb (length s) 32
    otherwise if eqb identitytype 7 then eqb (length s) 8
    otherwise if eqb identitytype 8 then eqb (length s) 32
    otherwise false

-- "protocol and port 0"
unfoldable pub port_zero : (s : Bytes) → Bool
port_zero s = eqb (identity_protocol s) 0 && eqb (identity_port s) 0

-- what each exchange allows
unfoldable pub lawful : (exchange : ℕ) (s : Bytes) → Bool
lawful exchange s =
    if eqb exchange 2 then port_zero s && main_data (identity_type s) (identity_data s)
    otherwise if eqb exchange 32 then quick_data (identity_type s) (identity_data s)
    otherwise false

-- "fewer: 18 .. Else 18": 0, or the refusal
unfoldable pub identity_code : (exchange : ℕ) (s : Bytes) → Code
identity_code exchange s = if leb 4 (length s) && lawful exchange s then 0 otherwise 18
