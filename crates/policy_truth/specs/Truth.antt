-- What each cause says of a transform, document 02: "Each printed cause must be true of that transform". Over the list of what the transform
-- offers and the list of what the line wants, in the words of Suiting.antt and with no search; and with each cause, that no cause before it holds.
use Rattle.std.specs.Prelude.{ℕ, ◌≤◌, ◌≡◌, Option, None, Some, List, ◌∷◌, ◌++◌, eqb}
use Rattle.wire_read.specs.Wire.{Bytes}
use Rattle.wire_read.specs.Tests.{if◌then◌otherwise◌}
use Rattle.policy_lines.specs.Lines.{main_seconds, quick_protocols, quick_mode, quick_seconds}
use Rattle.sa_fields.specs.Fields.{transform_id, attributes_of}
use Rattle.policy_suiting.specs.Suiting.{Offered, single, lifetime, offered_list, PutIn, seconds, kilobytes, main_attributes, quick_attributes, TransformSuits}
use Rattle.policy_cause.specs.declared.Cause.{Cause}
use Rattle.policy_cause.specs.declared.Cause.TheVariants.{Id, Missing, Value, Surplus, Seconds, Kilobytes}

-- ---- what is offered and what is wanted

abbrev pub Among : {A : Type 0} (x : A) (whole : List A) → Type 0
Among {A} x whole = (rest : List A) × PutIn x rest whole

-- attributes are of one kind by their type, lifetimes by the life type's value
pub data OneKind : (x y : Offered) → Type 0 where
  one_type : {attributetype v w : ℕ} → OneKind (single attributetype v) (single attributetype w)
  one_unit : {unit d e : ℕ} → OneKind (lifetime unit d) (lifetime unit e)

-- one of this kind is in the list
abbrev pub There : (x : Offered) (list : List Offered) → Type 0
There x list = (y : Offered) × OneKind x y × Among y list

-- the type that a cause names, a lifetime's is its life type's: 11, or 1; and the value that a surplus attribute is shown with
unfoldable pub life_type_of : (exchange : ℕ) → ℕ
life_type_of exchange = if eqb exchange 2 then 11 otherwise 1

unfoldable pub type_of : (exchange : ℕ) (x : Offered) → ℕ
type_of exchange (single attributetype v) = attributetype
type_of exchange (lifetime unit d) = life_type_of exchange

unfoldable pub value_of : (x : Offered) → ℕ
value_of (single attributetype v) = v
value_of (lifetime unit d) = unit

-- what line i of the exchange's, counted from 0, wants of a transform of a proposal of this protocol, in document 01's order
unfoldable pub wanted_id : (exchange protocol : ℕ) → ℕ
wanted_id exchange protocol = if eqb exchange 2 then 1 otherwise if eqb protocol 2 then 20 otherwise 129

unfoldable pub longest_seconds : (exchange i : ℕ) (book : Bytes) → ℕ
longest_seconds exchange i book = if eqb exchange 2 then main_seconds i book otherwise quick_seconds i book

unfoldable pub wants : (exchange i : ℕ) (book : Bytes) (protocol : ℕ) → List Offered
wants exchange i book protocol =
    if eqb exchange 2 then main_attributes (main_seconds i book)
    otherwise quick_attributes (quick_protocols i book) (quick_mode i book) protocol (quick_seconds i book)

-- ---- the conditions, one after the other

-- each of these is offered, with whatever value
abbrev pub AllThere : (wanted offered : List Offered) → Type 0
AllThere wanted offered = (x : Offered) → Among x wanted → There x offered

-- no attribute is offered with another value than these have
abbrev pub AllRight : (wanted offered : List Offered) → Type 0
AllRight wanted offered = (attributetype v w : ℕ) → Among (single attributetype v) wanted → Among (single attributetype w) offered → w ≡ v

-- of a kind that is wanted, or kilobytes
abbrev pub Allowed : (wanted : List Offered) (x : Offered) → Type 0
Allowed wanted x = There x (kilobytes 0 ∷ wanted)

abbrev pub AllAllowed : (wanted offered : List Offered) → Type 0
AllAllowed wanted offered = (x : Offered) → Among x offered → Allowed wanted x

-- ---- what each cause says

module _ (exchange i : ℕ) (book : Bytes) (protocol : ℕ) (t : Bytes) where
  abbrev wanted : List Offered
  wanted = wants exchange i book protocol

  abbrev offered : List Offered
  offered = offered_list exchange (attributes_of t)

  abbrev longest : ℕ
  longest = longest_seconds exchange i book

  abbrev SameId : Type 0
  SameId = transform_id t ≡ wanted_id exchange protocol

  pub data Says : (cause : Option Cause) → Type 0 where
    suits : TransformSuits exchange i book protocol t → Says None
    -- its ID is not the wanted one
    id : (transform_id t ≡ wanted_id exchange protocol → ⊥) → Says (Some (Id (transform_id t) (wanted_id exchange protocol)))
    -- x is wanted and none of its kind is offered; all that are wanted before it are
    missing : SameId → (before behind : List Offered) (x : Offered) → wanted ≡ before ++ x ∷ behind → AllThere before offered →
        (There x offered → ⊥) → Says (Some (Missing (type_of exchange x)))
    -- an attribute is wanted with one value and offered with another; none that is wanted before it is
    value : SameId → AllThere wanted offered → (before behind : List Offered) (attributetype v found : ℕ) →
        wanted ≡ before ++ single attributetype v ∷ behind → AllRight before offered → Among (single attributetype found) offered →
        (found ≡ v → ⊥) → Says (Some (Value attributetype found v))
    -- x is offered and not wanted; all that are offered before it are
    surplus : SameId → AllThere wanted offered → AllRight wanted offered → (before behind : List Offered) (x : Offered) →
        offered ≡ before ++ x ∷ behind → AllAllowed wanted before → (Allowed wanted x → ⊥) → Says (Some (Surplus (type_of exchange x) (value_of x)))
    -- seconds are offered that are 0 or above the line's
    seconds-out : SameId → AllThere wanted offered → AllRight wanted offered → AllAllowed wanted offered → (found : ℕ) →
        Among (seconds found) offered → (1 ≤ found → found ≤ longest → ⊥) → Says (Some (Seconds found longest))
    -- kilobytes of 0 are offered, and seconds within the line's
    kilobytes-none : SameId → AllThere wanted offered → AllRight wanted offered → AllAllowed wanted offered → (life : ℕ) →
        Among (seconds life) offered → 1 ≤ life → life ≤ longest → Among (kilobytes 0) offered → Says (Some Kilobytes)
