-- What "suits" says, document 01, "Policy book and choice", with document 02, "Two lifetimes in one offer": over the list of what a transform
-- offers and the list of a set's protocols, with no search in it. Promises speak in these words. Suits.antt of policy_suits says the same as the
-- code looks for it; proofs/SuitingLaws.antt shows that the two agree.
use Rattle.std.specs.Prelude.{ℕ, zero, suc, ◌≤◌, ◌<◌, ◌≡◌, List, [], ◌∷◌, ◌++◌, map, ◌&&◌, length, eqb}
use Rattle.wire_read.specs.Wire.{Bytes}
use Rattle.wire_read.specs.Tests.{if◌then◌otherwise◌}
use Rattle.policy_lines.specs.Lines.{main_seconds, quick_protocols, quick_mode, quick_seconds}
use Rattle.sa_attribute.specs.Attributes.{attribute_type, after_attribute, value}
use Rattle.sa_coding.specs.Coding.{is_life_type}
use Rattle.sa_wholes.specs.Wholes.{wholes}
use Rattle.sa_fields.specs.Fields.{protocol, transform_count, transform_number, transform_id, attributes_of}
use Rattle.sa_items.specs.Items.{first_item, after_item, proposal, proposal_count, transform}

-- ---- what is there, as lists

-- what lies one behind the other in s, at most left: tell says of the first what goes into the list, and rest takes it off
unfoldable pub listed : {A : Type 0} (tell : Bytes → A) (rest : Bytes → Bytes) (left : ℕ) (s : Bytes) → List A
listed tell rest zero s = []
listed tell rest (suc left) s = if eqb (length s) 0 then [] otherwise tell s ∷ listed tell rest left (rest s)

-- what a transform offers: an attribute by its type and value, or a lifetime by the life type's value and the duration's, "pairs as wholes"
pub data Offered : Type 0 where
  single : (attributetype value : ℕ) → Offered
  lifetime : (unit duration : ℕ) → Offered

unfoldable pub told : (exchange : ℕ) (w : Bytes) → Offered
told exchange w =
    if is_life_type exchange (attribute_type w) then lifetime (value w) (value (after_attribute w))
    otherwise single (attribute_type w) (value w)

-- what a transform offers, one after the other
unfoldable pub offered_list : (exchange : ℕ) (attributes : Bytes) → List Offered
offered_list exchange attributes = map (told exchange) (wholes exchange attributes)

-- the protocols of a set, proposal by proposal; of an SA payload that reads they are at most 16
unfoldable pub protocol_list : (set : Bytes) → List ℕ
protocol_list set = listed (λ s. protocol (first_item s)) after_item 16 set

-- ---- "exactly", and "order is free"

-- whole is rest with x put in somewhere
pub data PutIn {A : Type 0} (x : A) : (rest whole : List A) → Type 0 where
  at_front : {rest : List A} → PutIn x rest (x ∷ rest)
  behind : {y : A} {rest whole : List A} → PutIn x rest whole → PutIn x (y ∷ rest) (y ∷ whole)

-- found has exactly what is wanted, each as often, in any order
pub data Exactly {A : Type 0} : (wanted found : List A) → Type 0 where
  nothing : Exactly [] []
  one_more : {x : A} {wanted found whole : List A} → Exactly wanted found → PutIn x found whole → Exactly (x ∷ wanted) whole

-- ---- what suits

-- life type 1 is seconds, 2 is kilobytes
abbrev pub seconds : (duration : ℕ) → Offered
seconds duration = lifetime 1 duration

abbrev pub kilobytes : (duration : ℕ) → Offered
kilobytes duration = lifetime 2 duration

-- "1=129, 2=20, 3=10, 20=2, 11=1 and 12"
abbrev pub main_attributes : (life : ℕ) → List Offered
main_attributes life = single 1 129 ∷ single 2 20 ∷ single 3 10 ∷ single 20 2 ∷ seconds life ∷ []

-- "4=mode, 1=1, 2 .., and 5=20, but no 5 in an ESP that goes with AH"; protocols as the line says it: "1 ESP alone, 2 AH with ESP"
abbrev pub quick_attributes : (protocols mode protocol life : ℕ) → List Offered
quick_attributes protocols mode protocol life =
    single 4 mode ∷ seconds life ∷ (if eqb protocols 2 && eqb protocol 3 then [] otherwise single 5 20 ∷ [])

-- "and, if present, kilobytes of at least 1"
pub data IfPresent : (traffic : List Offered) → Type 0 where
  absent : IfPresent []
  at_least_one : {duration : ℕ} → 1 ≤ duration → IfPresent (kilobytes duration ∷ [])

-- its ID is this, and "its attributes are exactly" the wanted ones for a life "from 1 to the line's seconds", "and, if present, kilobytes"
pub record Matches (exchange id longest : ℕ) (wanted : (life : ℕ) → List Offered) (t : Bytes) : Type 0 where
  pub same_id : transform_id t ≡ id
  pub life : ℕ
  pub from_one : 1 ≤ life
  pub to_seconds : life ≤ longest
  pub traffic : List Offered
  pub if_present : IfPresent traffic
  pub attributes : Exactly (traffic ++ wanted life) (offered_list exchange (attributes_of t))

-- "A main transform suits if its ID is 1 and its attributes are exactly .. A quick one: ID 20 (AH) or 129 (ESP); attributes exactly ..":
-- a transform of a proposal of this protocol, and line i of the exchange's, counted from 0
pub data TransformSuits (exchange i : ℕ) (book : Bytes) (protocol : ℕ) (t : Bytes) : Type 0 where
  main : exchange ≡ 2 → Matches 2 1 (main_seconds i book) main_attributes t → TransformSuits exchange i book protocol t
  quick : (exchange ≡ 2 → ⊥) →
      Matches 32 (if eqb protocol 2 then 20 otherwise 129) (quick_seconds i book) (quick_attributes (quick_protocols i book) (quick_mode i book) protocol) t →
      TransformSuits exchange i book protocol t

-- one of a proposal's transforms suits
abbrev pub HasTransform : (exchange i : ℕ) (book p : Bytes) → Type 0
HasTransform exchange i book p = (k : ℕ) × (k < transform_count p) × TransformSuits exchange i book (protocol p) (transform k p)

-- the protocols of a line: 1 in exchange 2; ESP alone, or AH with ESP
unfoldable pub line_protocols : (exchange i : ℕ) (book : Bytes) → List ℕ
line_protocols exchange i book =
    if eqb exchange 2 then 1 ∷ []
    otherwise if eqb (quick_protocols i book) 1 then 3 ∷ []
    otherwise 2 ∷ 3 ∷ []

-- "A set suits a line if its protocols are exactly the line's and each proposal has a suiting transform"
pub record Suits (exchange i : ℕ) (book set : Bytes) : Type 0 where
  pub protocols : Exactly (line_protocols exchange i book) (protocol_list set)
  pub each : (j : ℕ) → j < proposal_count set → HasTransform exchange i book (proposal j set)

-- "lowest transform": this is the number of a transform of the proposal that suits, and none with a lower number does
pub record LowestSuiting (exchange i : ℕ) (book p : Bytes) (number : ℕ) : Type 0 where
  pub k : ℕ
  pub a_transform : k < transform_count p
  pub its_number : (transform_number (transform k p)).0 ≡ number
  pub suits : TransformSuits exchange i book (protocol p) (transform k p)
  pub no_lower : (j : ℕ) → j < transform_count p → (transform_number (transform j p)).0 < number → TransformSuits exchange i book (protocol p) (transform j p) → ⊥
