-- Why a transform does not suit a line, and why a set does not, document 02, "Say why nothing was chosen": "for every set and line either
-- "suits" or the first failing condition: protocols, then per proposal and transform the ID, a missing attribute, a wrong value, a surplus
-- attribute, a lifetime out of bounds". By the tests of Suits.antt, so that the two cannot part.
use Rattle.std.specs.Prelude.{ℕ, zero, suc, Option, None, Some, ◌+◌, ◌≡◌, List, [], ◌∷◌, Bool, false, not, ◌||◌, ◌&&◌, length, take, ltb, leb, eqb}
use Rattle.wire_read.specs.Wire.{Bytes}
use Rattle.wire_read.specs.Tests.{if◌then◌otherwise◌}
use Rattle.wire_read.specs.Answer.{Answer, done}
use Rattle.policy_lines.specs.Lines.{main_seconds, quick_protocols, quick_mode, quick_seconds}
use Rattle.sa_attribute.specs.Attributes.{attribute_type, attribute_size, after_attribute, attribute, value}
use Rattle.sa_fields.specs.Fields.{transform_id, attributes_of}
use Rattle.policy_suits.specs.Suits.{present, value_is, seconds_of, seconds_within, kilobytes_some, nothing_surplus, quick_id, protocols_suit, set_suits}
use Rattle.policy_cause.specs.declared.Wish.{Wish}
use Rattle.policy_cause.specs.declared.Cause.{Cause}
use Rattle.policy_cause.specs.declared.Cause.TheVariants.{Id, Missing, Value, Surplus, Seconds, Kilobytes}
use Rattle.policy_cause.specs.declared.PairCause.{PairCause}
use Rattle.policy_cause.specs.declared.PairCause.TheVariants as pairs

-- ---- what a line wants

-- of a transform of a proposal of this protocol: its ID, the type of life types, the mode, whether attribute 5 is wanted ("but no 5 in an ESP
-- that goes with AH"), the longest seconds; a main line has no mode and no 5
unfoldable pub wish_of : (exchange i : ℕ) (book : Bytes) (protocol : ℕ) → Wish
wish_of exchange i book protocol =
    if eqb exchange 2 then record { id = 1; lifetype = 11; mode = 0; five = false; longest = main_seconds i book }
    otherwise record {
      id = quick_id protocol;
      lifetype = 1;
      mode = quick_mode i book;
      five = not (eqb (quick_protocols i book) 2 && eqb protocol 3);
      longest = quick_seconds i book;
    }

-- its attributes, each a type and a value, in document 01's order: "1=129, 2=20, 3=10, 20=2, 11=1", or "4=mode, 1=1, .. and 5=20"; the value of
-- a life type is 1, seconds
abbrev pub main_wanted : List (ℕ × ℕ)
main_wanted = (1, 129) ∷ (2, 20) ∷ (3, 10) ∷ (20, 2) ∷ (11, 1) ∷ []

abbrev pub quick_wanted : (mode : ℕ) (five : Bool) → List (ℕ × ℕ)
quick_wanted mode five = (4, mode) ∷ (1, 1) ∷ (if five then (5, 20) ∷ [] otherwise [])

unfoldable pub wanted : (w : Wish) → List (ℕ × ℕ)
wanted w = if eqb w.lifetype 11 then main_wanted otherwise quick_wanted w.mode w.five

-- how many these are, with the duration behind the life type
unfoldable pub wanted_count : (w : Wish) → ℕ
wanted_count w = length (wanted w) + 1

-- ---- the causes of a transform, one after the other

-- "the first failing condition"
infixl 20 ◌or_else◌
unfoldable pub ◌or_else◌ : {Cause : Type 0} (first next : Option Cause) → Option Cause
None or_else next = next
Some cause or_else next = Some cause

-- the first of a list, each with its own
unfoldable pub first_cause : (cause : ℕ × ℕ → Option Cause) (wanted : List (ℕ × ℕ)) → Option Cause
first_cause cause [] = None
first_cause cause (a ∷ wanted) = cause a or_else first_cause cause wanted

-- what is called with a type and a value answers with the cause that is told of them
abbrev pub Tells : (told : ℕ × ℕ → Option Cause) (answers : (attributetype value : ℕ) (cause : Option Cause) → Type 0) → Type 0
Tells told answers =
    (attributetype value : ℕ) (cause : Option Cause) → answers attributetype value cause → cause ≡ told (attributetype, value)

-- "the ID"
unfoldable pub id_cause : (w : Wish) (t : Bytes) → Option Cause
id_cause w t = if eqb (transform_id t) w.id then None otherwise Some (Id (transform_id t) w.id)

-- "a missing attribute": it is not there; of the life type, no pair with seconds is
unfoldable pub is_there : (lifetype attributetype : ℕ) (attributes : Bytes) → Bool
is_there lifetype attributetype attributes =
    if eqb attributetype lifetype then leb 4 (length (seconds_of lifetype attributes)) otherwise present attributetype attributes

unfoldable pub missing_one : (lifetype attributetype : ℕ) (attributes : Bytes) → Option Cause
missing_one lifetype attributetype attributes = if is_there lifetype attributetype attributes then None otherwise Some (Missing attributetype)

unfoldable pub missing_cause : (lifetype : ℕ) (wanted : List (ℕ × ℕ)) (attributes : Bytes) → Option Cause
missing_cause lifetype wanted attributes = first_cause (λ a. missing_one lifetype a.0 attributes) wanted

-- "a wrong value": it has another; never the life type
unfoldable pub value_one : (lifetype attributetype wanted : ℕ) (attributes : Bytes) → Option Cause
value_one lifetype attributetype wanted attributes =
    if eqb attributetype lifetype || value_is attributetype wanted attributes then None
    otherwise Some (Value attributetype (value (attribute attributetype attributes)) wanted)

unfoldable pub value_cause : (lifetype : ℕ) (wanted : List (ℕ × ℕ)) (attributes : Bytes) → Option Cause
value_cause lifetype wanted attributes = first_cause (λ a. value_one lifetype a.0 a.1 attributes) wanted

-- "a surplus attribute": whether the attribute at the front of s is wanted. Of lifetimes the seconds are and the kilobytes may be there; a
-- duration stands right behind its life type, and is as wanted as that
unfoldable pub type_wanted : (attributetype : ℕ) (wanted : List (ℕ × ℕ)) → Bool
type_wanted attributetype [] = false
type_wanted attributetype (a ∷ wanted) = eqb attributetype a.0 || type_wanted attributetype wanted

unfoldable pub is_wanted : (w : Wish) (s : Bytes) → Bool
is_wanted w s =
    if eqb (attribute_type s) w.lifetype then eqb (value s) 1 || eqb (value s) 2
    otherwise eqb (attribute_type s) (w.lifetype + 1) || type_wanted (attribute_type s) (wanted w)

-- the first of the first k attributes of s that is not, no bytes where there is none
unfoldable pub first_surplus : (k : ℕ) (w : Wish) (s : Bytes) → Bytes
first_surplus zero w s = []
first_surplus (suc k) w s =
    if ltb (length s) 4 then []
    otherwise if is_wanted w s then first_surplus k w (after_attribute s)
    otherwise take (attribute_size s) s

unfoldable pub surplus_cause : (w : Wish) (attributes : Bytes) → Option Cause
surplus_cause w attributes =
    if nothing_surplus (wanted_count w) w.lifetype attributes then None
    otherwise Some (Surplus (attribute_type (first_surplus 16 w attributes)) (value (first_surplus 16 w attributes)))

-- "a lifetime out of bounds"
unfoldable pub seconds_cause : (w : Wish) (attributes : Bytes) → Option Cause
seconds_cause w attributes =
    if seconds_within w.lifetype w.longest attributes then None
    otherwise Some (Seconds (value (seconds_of w.lifetype attributes)) w.longest)

unfoldable pub kilobytes_cause : (w : Wish) (attributes : Bytes) → Option Cause
kilobytes_cause w attributes = if kilobytes_some w.lifetype attributes then None otherwise Some Kilobytes

-- of attributes, and of a transform
unfoldable pub attributes_cause : (w : Wish) (attributes : Bytes) → Option Cause
attributes_cause w attributes =
    missing_cause w.lifetype (wanted w) attributes
    or_else value_cause w.lifetype (wanted w) attributes
    or_else surplus_cause w attributes
    or_else seconds_cause w attributes
    or_else kilobytes_cause w attributes

unfoldable pub wish_cause : (w : Wish) (t : Bytes) → Option Cause
wish_cause w t = id_cause w t or_else attributes_cause w (attributes_of t)

-- of a transform of a proposal of this protocol and line i of the exchange's, counted from 0
unfoldable pub transform_cause : (exchange i : ℕ) (book : Bytes) (protocol : ℕ) (t : Bytes) → Option Cause
transform_cause exchange i book protocol t = wish_cause (wish_of exchange i book protocol) t

-- ---- the cause of a pair

-- "for every set and line either "suits" or the first failing condition: protocols, then per proposal and transform .."
unfoldable pub pair_cause : (exchange i : ℕ) (book set : Bytes) → Option PairCause
pair_cause exchange i book set =
    if set_suits exchange i book set then None
    otherwise if protocols_suit exchange i book set then Some pairs.Transforms
    otherwise Some pairs.Protocols

-- ---- what the answers say, by number and values

unfoldable pub cause_values : (cause : Option Cause) → List ℕ
cause_values None = 1 ∷ []
cause_values (Some (Id found wanted)) = 2 ∷ found ∷ wanted ∷ []
cause_values (Some (Missing attributetype)) = 3 ∷ attributetype ∷ []
cause_values (Some (Value attributetype found wanted)) = 4 ∷ attributetype ∷ found ∷ wanted ∷ []
cause_values (Some (Surplus attributetype found)) = 5 ∷ attributetype ∷ found ∷ []
cause_values (Some (Seconds found longest)) = 6 ∷ found ∷ longest ∷ []
cause_values (Some Kilobytes) = 7 ∷ []

unfoldable pub cause_answer : (cause : Option Cause) → Answer
cause_answer cause = done (cause_values cause)

unfoldable pub pair_answer : (cause : Option PairCause) → Answer
pair_answer None = done (1 ∷ [])
pair_answer (Some pairs.Protocols) = done (2 ∷ [])
pair_answer (Some pairs.Transforms) = done (3 ∷ [])
