-- The three messages that the ends write, document 01, "Quick mode ends".
use Rattle.std.specs.Prelude.{ℕ, zero, suc, min, ◌+◌, ◌-◌, ◌%◌, [], ◌∷◌, ◌++◌, Bool, ◌||◌, ◌&&◌, length, take, replicate, Option, None, Some, ltb, leb, eqb}
use Rattle.wire_read.specs.Wire.{Bytes}
use Rattle.wire_write.specs.Put.{bytes_of, headed, paste, put}
use Rattle.wire_read.specs.Tests.{if◌then◌otherwise◌}
use Rattle.policy_lines.specs.Lines.{quick_count, quick_protocols, quick_mode, quick_seconds}
use Rattle.policy_suits.specs.Suits.{quick_id}
use Rattle.policy_reply.specs.Reply.{own_spi, proposal_of, set_reply, sa_of}
use Rattle.policy_choice.specs.declared.Transforms.{Transforms}
use Rattle.quick_end.specs.declared.Own.{Own}
use Rattle.quick_write.specs.declared.Proposals.{Proposals}
use Rattle.quick_write.specs.declared.Proposals.TheVariants.{Offer, Reply}

-- the book and the nonce that an end was given
unfoldable pub book_of : (own : Own) → Bytes
book_of own = take own.booksize own.book

unfoldable pub nonce_of : (own : Own) → Bytes
nonce_of own = take (min own.noncesize 256) own.nonce

-- an attribute sent fixed, with a value below 256, as all have but the seconds
unfoldable pub fixed : (attributetype value : ℕ) → Bytes
fixed attributetype value = 0x80 ∷ attributetype ∷ 0 ∷ value ∷ []

-- "5 where there is one": not in an ESP that goes with AH
unfoldable pub authentication : (protocols protocol : ℕ) → Bytes
authentication protocols protocol = if eqb protocols 2 && eqb protocol 3 then [] otherwise fixed 5 20

-- "the suiting attributes with the line's seconds, sent fixed, in the order 4, 5 where there is one, 1, 2"
unfoldable pub attributes : (protocol i : ℕ) (book : Bytes) → Bytes
attributes protocol i book =
    fixed 4 (quick_mode i book)
    ++ (authentication (quick_protocols i book) protocol ++ (fixed 1 1 ++ (0x80 ∷ 2 ∷ bytes_of 2 (quick_seconds i book))))

-- "transform 1": number, ID, reserved, attributes; line i counted from 0
unfoldable pub transform_one : (protocol i : ℕ) (book : Bytes) → Bytes
transform_one protocol i book = headed 0 (1 ∷ quick_id protocol ∷ 0 ∷ 0 ∷ attributes protocol i book)

unfoldable pub line_proposal : (ah esp next protocol i : ℕ) (book : Bytes) → Bytes
line_proposal ah esp next protocol i book = proposal_of next (i + 1) protocol (own_spi ah esp protocol) (transform_one protocol i book)

-- "one set per quick line, numbered from 1, AH before ESP"
unfoldable pub line_set : (ah esp next i : ℕ) (book : Bytes) → Bytes
line_set ah esp next i book =
    if eqb (quick_protocols i book) 1 then line_proposal ah esp next 3 i book
    otherwise line_proposal ah esp 2 2 i book ++ line_proposal ah esp next 3 i book

-- what follows the first of n sets: 2, or 0 where it is the last
unfoldable pub next_set : (n : ℕ) → ℕ
next_set n = if leb n 1 then 0 otherwise 2

-- the sets of the n lines from i on
unfoldable pub line_sets : (n i ah esp : ℕ) (book : Bytes) → Bytes
line_sets zero i ah esp book = []
line_sets (suc n) i ah esp book = line_set ah esp (next_set (suc n)) i book ++ line_sets n (i + 1) ah esp book

-- a book has at most 8 quick lines
unfoldable pub lines : (book : Bytes) → ℕ
lines book = min (quick_count book) 8

unfoldable pub offer_of : (own : Own) → Bytes
offer_of own = line_sets (lines (book_of own)) 0 own.ah own.esp (book_of own)

-- "They write 32 zero hash bytes"
unfoldable pub hash : (next : ℕ) → Bytes
hash next = headed next (replicate 32 0)

-- "Endpoints pad with the fewest zero bytes to 16"
unfoldable pub padding : (size : ℕ) → ℕ
padding size = (16 - size % 16) % 16

unfoldable pub padded : (payloads : Bytes) → Bytes
padded payloads = payloads ++ replicate (padding (length payloads)) 0

-- cookies, first payload (hash), version, exchange 32, flag 1, message ID, length
unfoldable pub header : (own : Own) (id size : ℕ) → Bytes
header own id size = bytes_of 8 own.icookie ++ (bytes_of 8 own.rcookie ++ (8 ∷ 0x11 ∷ 32 ∷ 1 ∷ bytes_of 4 id ++ bytes_of 4 size))

unfoldable pub message_of : (own : Own) (id : ℕ) (payloads : Bytes) → Bytes
message_of own id payloads = header own id (28 + length (padded payloads)) ++ padded payloads

-- writing a message around payloads of this size that stand at byte 28: padding behind them, the header before
unfoldable pub around : (own : Own) (id size : ℕ) (buffer : Bytes) → ℕ × Bytes
around own id size buffer =
    (28 + size + padding size, paste (paste buffer (28 + size) (replicate (padding size) 0)) 0 (header own id (28 + size + padding size)))

-- the nonce, then no or two identities: none where the first is empty
unfoldable pub nonce_and_identities : (nonce first second : Bytes) → Bytes
nonce_and_identities nonce first second =
    if eqb (length first) 0 then headed 0 nonce
    otherwise headed 5 nonce ++ (headed 5 first ++ headed 0 second)

-- "shape 8-1-10, 8-1-10-5-5": hash, SA, nonce, identities
unfoldable pub longer : (own : Own) (id : ℕ) (proposals first second : Bytes) → Bytes
longer own id proposals first second = message_of own id (hash 1 ++ (sa_of 10 proposals ++ nonce_and_identities (nonce_of own) first second))

-- the proposals of a message 1 or 2
unfoldable pub proposals_of : (own : Own) (proposals : Proposals) (set : Bytes) → Bytes
proposals_of own Offer set = offer_of own
proposals_of own (Reply transforms) set = set_reply own.ah own.esp transforms set

-- writing it at the front of a buffer; no end has a set or an identity over 4,096 bytes: one is too long, and nothing is written
unfoldable pub too_long : (set first second : Bytes) → Bool
too_long set first second = ltb 4096 (length set) || ltb 4096 (length first) || ltb 4096 (length second)

abbrev pub written : (put : ℕ × Bytes) → Option ℕ × Bytes
written put = (Some put.0, put.1)

unfoldable pub longer_into : (buffer : Bytes) (own : Own) (id : ℕ) (proposals : Proposals) (set first second : Bytes) → Option ℕ × Bytes
longer_into buffer own id proposals set first second =
    if too_long set first second then (None, buffer)
    otherwise written (put buffer 0 (longer own id (proposals_of own proposals set) first second))

unfoldable pub message_one : (own : Own) (id : ℕ) (first second : Bytes) → Bytes
message_one own id first second = longer own id (proposals_of own Offer []) first second

unfoldable pub message_two : (own : Own) (id : ℕ) (transforms : Transforms) (set first second : Bytes) → Bytes
message_two own id transforms set first second = longer own id (proposals_of own (Reply transforms) set) first second

unfoldable pub message_three : (own : Own) (id : ℕ) → Bytes
message_three own id = message_of own id (hash 0)
