-- The reply, document 01: "The reply repeats numbers and transform bytes as offered, one transform each, next fields and lengths set anew,
-- own SPIs. Alone it is an SA payload, next 0, at a lent buffer's start: 8192, the checks above, then a used own SPI below 256: 11."
use Rattle.std.specs.Prelude.{ℕ, Option, Some, None, Result, Ok, Err, ◌+◌, [], ◌∷◌, ◌++◌, Bool, ◌||◌, ◌&&◌, length, drop, ltb, eqb}
use Rattle.wire_read.specs.Wire.{Bytes}
use Rattle.wire_write.specs.Put.{bytes_of, head, headed, paste}
use Rattle.wire_read.specs.Tests.{if◌then◌otherwise◌}
use Rattle.wire_read.specs.Answer.{Answer, done, refused}
use Rattle.sa_fields.specs.Fields.{proposal_number, protocol}
use Rattle.sa_sets.specs.Sets.{set_numbered}
use Rattle.sa_items.specs.Items.{proposal, transform_numbered}
use Rattle.sa_fields.specs.declared.TransformNumber.{TransformNumber}
use Rattle.policy_choice.specs.Choice.{sa_from, choice}
use Rattle.policy_choice.specs.declared.Transforms.{Transforms}
use Rattle.policy_choice.specs.declared.Transforms.TheVariants.{One, Two}
use Rattle.policy_choice.specs.Choice.{Choice}
use Rattle.policy_choice.specs.Choice as choices
use Rattle.refusal.specs.declared.Refusal.{Refusal}
use Rattle.refusal.specs.Numbers as refusals

-- what is answered, a refusal or how many bytes were written, and what the code says so by
pub data Outcome : Type 0 where
  Refused : (number : ℕ) → Outcome
  Written : (size : ℕ) → Outcome

abbrev pub outcome_told : (answer : Result ℕ Refusal) → Outcome
outcome_told (Ok size) = Written size
outcome_told (Err refusal) = Refused (refusals.number refusal)

-- the own SPI of a protocol, which 1 has none of
unfoldable pub spi_of : (ah esp protocol : ℕ) → Option ℕ
spi_of ah esp protocol = if eqb protocol 2 then Some ah otherwise if eqb protocol 3 then Some esp otherwise None

-- "own SPIs": AH's in a proposal for AH, ESP's in one for ESP, none with exchange 2
unfoldable pub own_spi : (ah esp protocol : ℕ) → Bytes
own_spi ah esp protocol = if eqb protocol 2 then bytes_of 4 ah otherwise if eqb protocol 3 then bytes_of 4 esp otherwise []

-- what a proposal of one transform begins with: next, reserved, length, number, protocol, SPI size, count
unfoldable pub fields : (next size number protocol spi_size : ℕ) → Bytes
fields next size number protocol spi_size = head next size ++ (number ∷ protocol ∷ spi_size ∷ 1 ∷ [])

-- the proposal: then SPI and transform, "next fields and lengths set anew"
unfoldable pub proposal_of : (next number protocol : ℕ) (spi t : Bytes) → Bytes
proposal_of next number protocol spi t =
    fields next (8 + length (spi ++ headed 0 (drop 4 t))) number protocol (length spi) ++ (spi ++ headed 0 (drop 4 t))

-- "repeats numbers and transform bytes as offered"
unfoldable pub proposal_reply : (ah esp next : ℕ) (number : TransformNumber) (p : Bytes) → Bytes
proposal_reply ah esp next number p =
    proposal_of next (proposal_number p).0 (protocol p) (own_spi ah esp (protocol p)) (transform_numbered number p)

-- "one transform each"
unfoldable pub set_reply : (ah esp : ℕ) (transforms : Transforms) (s : Bytes) → Bytes
set_reply ah esp (One t) s = proposal_reply ah esp 0 t (proposal 0 s)
set_reply ah esp (Two t u) s = proposal_reply ah esp 2 t (proposal 0 s) ++ proposal_reply ah esp 0 u (proposal 1 s)

-- an SA payload with these proposals: DOI 1, situation 1
unfoldable pub sa_of : (next : ℕ) (proposals : Bytes) → Bytes
sa_of next proposals = headed next (bytes_of 4 1 ++ (bytes_of 4 1 ++ proposals))

-- "a used own SPI below 256"
unfoldable pub spi_low : (ah esp protocol : ℕ) → Bool
spi_low ah esp protocol = eqb protocol 2 && ltb ah 256 || eqb protocol 3 && ltb esp 256

unfoldable pub spis_low : (ah esp : ℕ) (transforms : Transforms) (s : Bytes) → Bool
spis_low ah esp (One t) s = spi_low ah esp (protocol (proposal 0 s))
spis_low ah esp (Two t u) s = spi_low ah esp (protocol (proposal 0 s)) || spi_low ah esp (protocol (proposal 1 s))

-- what is answered, and the buffer after it: on a refusal nothing is written
unfoldable pub set_replied : (ah esp : ℕ) (transforms : Transforms) (s buffer : Bytes) → Outcome × Bytes
set_replied ah esp transforms s buffer =
    if spis_low ah esp transforms s then (Refused 11, buffer)
    otherwise (Written (length (sa_of 0 (set_reply ah esp transforms s))), paste buffer 0 (sa_of 0 (set_reply ah esp transforms s)))

-- the chosen set, by its number, in the SA payload of a message; a message has at most 32 payloads
unfoldable pub choice_replied : (ah esp : ℕ) (m : Bytes) (chosen : Choice) (buffer : Bytes) → Outcome × Bytes
choice_replied ah esp m (choices.Refused number) buffer = (Refused number, buffer)
choice_replied ah esp m (choices.Chosen number line transforms) buffer = set_replied ah esp transforms (set_numbered number (sa_from 32 0 m)) buffer

unfoldable pub replied : (book m : Bytes) (ah esp : ℕ) (buffer : Bytes) → Outcome × Bytes
replied book m ah esp buffer =
    if ltb (length buffer) 2048 then (Refused 8192, buffer)
    otherwise choice_replied ah esp m (choice book m) buffer

-- the paper's number and values for each case
unfoldable pub reply_answer : (outcome : Outcome) → Answer
reply_answer (Refused number) = refused number
reply_answer (Written size) = done (size ∷ [])
