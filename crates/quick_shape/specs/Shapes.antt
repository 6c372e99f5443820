-- The shape of a message, and what is read by it, document 01, "Quick mode ends".
use Rattle.std.specs.Prelude.{ℕ, [], Bool, ◌||◌, ◌&&◌, length, take, drop, eqb}
use Rattle.wire_read.specs.Wire.{Bytes, equal}
use Rattle.wire_read.specs.Tests.{if◌then◌otherwise◌}
use Rattle.message_chain.specs.Message.{message, payload_at}
use Rattle.message_chain.specs.Message.{Message}
use Rattle.message_chain.specs.Message.{Refused, Read}
use Rattle.policy_choice.specs.Choice.{body_at}
use Rattle.quick_end.specs.declared.Role.{Role}
use Rattle.quick_end.specs.declared.Role.TheVariants.{Initiator, Responder}

-- payload k, counted from 0, is of this type
unfoldable pub type_is : (k : ℕ) (m : Bytes) (payloadtype : ℕ) → Bool
type_is k m payloadtype = eqb (payload_at k m).payloadtype payloadtype

-- "shape 8-1-10, 8-1-10-5-5 or 8 alone": the count of payloads, 0 where the shape is another
unfoldable pub shape : (count : ℕ) (m : Bytes) → ℕ
shape count m =
    if type_is 0 m 8
    && (eqb count 1 || type_is 1 m 1 && type_is 2 m 10 && (eqb count 3 || eqb count 5 && type_is 3 m 5 && type_is 4 m 5))
    then count otherwise 0

-- "either longer shape"
unfoldable pub is_longer : (shape : ℕ) → Bool
is_longer shape = eqb shape 3 || eqb shape 5

-- "'Equal' messages means equal apart from" the 32 hash bytes
unfoldable pub alike : (m n : Bytes) → Bool
alike m n = eqb (length m) (length n) && equal (take 32 m) (take 32 n) && equal (drop 64 m) (drop 64 n)

-- how many payloads a message that reads has, and its shape
unfoldable pub count_of : (read : Message) → ℕ
count_of (Refused number) = 0
count_of (Read exchange count) = count

unfoldable pub shape_of : (m : Bytes) → ℕ
shape_of m = shape (count_of (message m)) m

-- ---- the nonce

-- "hand back the nonce body as it stands in that role's message, or an empty part unless it reads as exchange 32 in either longer shape"
unfoldable pub nonce_read : (m : Bytes) (read : Message) → Bytes
nonce_read m (Refused number) = []
nonce_read m (Read exchange count) = if eqb exchange 32 && is_longer (shape count m) then body_at 2 m otherwise []

unfoldable pub nonce_in : (m : Bytes) → Bytes
nonce_in m = nonce_read m (message m)

unfoldable pub nonce : (role : Role) (one two : Bytes) → Bytes
nonce Initiator one two = nonce_in one
nonce Responder one two = nonce_in two
