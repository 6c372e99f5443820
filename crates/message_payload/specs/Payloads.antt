-- One payload and its body, document 01, "Header and chain". s begins at the payload: next (1 byte), reserved (1), length (2), body.
use Rattle.std.specs.Prelude.{ℕ, Bool, not, ◌||◌, ◌&&◌, length, get_or, take, drop, ltb, leb, eqb}
use Rattle.wire_read.specs.Wire.{Bytes, Code, all_zero, reserved_field, length_field}
use Rattle.wire_read.specs.Tests.{if◌then◌otherwise◌}
use Rattle.identity.specs.Identity.{identity_code}
use Rattle.sa_proposals.specs.Proposals.{offer_code}

-- "Allowed are 1, 4 to 13, 20, 21, 128; with exchange 5 not 1 or 5"
unfoldable pub type_wrong : (exchange payloadtype : ℕ) → Bool
type_wrong exchange payloadtype =
    not (eqb payloadtype 1 || leb 4 payloadtype && leb payloadtype 13 || eqb payloadtype 20 || eqb payloadtype 21 || eqb payloadtype 128)
    || eqb exchange 5 && (eqb payloadtype 1 || eqb payloadtype 5)

-- "length under 4 or past the end"
unfoldable pub length_out : (s : Bytes) → Bool
length_out s = ltb (length_field s) 4 || ltb (length s) (length_field s)

-- "hash 32 bytes"
unfoldable pub hash_code : (body : Bytes) → Code
hash_code body = if eqb (length body) 32 then 0 otherwise 16

-- "nonce 8 to 256"
unfoldable pub nonce_code : (body : Bytes) → Code
nonce_code body = if leb 8 (length body) && leb (length body) 256 then 0 otherwise 16

abbrev pub encoding_field : (body : Bytes) → ℕ
encoding_field body = get_or body 0 0

-- "Certificate: empty 16, then encoding 19"; the table of numbers: "certificate encoding not 4 or 5"
unfoldable pub certificate_code : (body : Bytes) → Code
certificate_code body =
    if eqb (length body) 0 then 16
    otherwise if eqb (encoding_field body) 4 || eqb (encoding_field body) 5 then 0
    otherwise 19

-- "Identity and SA below; a second SA payload is 15 unread. Others are opaque."; offered is whether an SA payload came before
unfoldable pub body_code : (exchange : ℕ) (offered : Bool) (payloadtype : ℕ) (body : Bytes) → Code
body_code exchange offered payloadtype body =
    if eqb payloadtype 1 then (if offered then 15 otherwise offer_code exchange body)
    otherwise if eqb payloadtype 5 then identity_code exchange body
    otherwise if eqb payloadtype 6 then certificate_code body
    otherwise if eqb payloadtype 8 then hash_code body
    otherwise if eqb payloadtype 10 then nonce_code body
    otherwise 0

-- the body of the payload at the front of s
unfoldable pub body_of : (s : Bytes) → Bytes
body_of s = drop 4 (take (length_field s) s)

-- "type: 1; fewer than 4 bytes left: 16; reserved byte nonzero: 16; length under 4 or past the end: 30; then its body"
unfoldable pub payload_code : (exchange : ℕ) (offered : Bool) (payloadtype : ℕ) (s : Bytes) → Code
payload_code exchange offered payloadtype s =
    if type_wrong exchange payloadtype then 1
    otherwise if ltb (length s) 4 then 16
    otherwise if not (eqb (reserved_field s) 0) then 16
    otherwise if length_out s then 30
    otherwise body_code exchange offered payloadtype (body_of s)

-- "After the last: with flag 0 any rest is 30; with flag 1 a rest over 15 bytes is 30, a nonzero byte in it 16"
unfoldable pub rest_code : (flags : ℕ) (rest : Bytes) → Code
rest_code flags rest =
    if eqb (length rest) 0 then 0
    otherwise if eqb flags 0 || ltb 15 (length rest) then 30
    otherwise if all_zero rest then 0
    otherwise 16
