-- Two lifetimes in one offer, in the words of document 02, "Two": "each duration must directly follow its life type and no life type stands
-- without one, each life type value occurs at most once .. free order holds for pairs as wholes". It is said of each transform of an offer that
-- reads; "suits" is TransformSuits of policy_suiting. Shut out: the core that matches durations and life types by counting them, and the one that
-- wants the seconds first.
use Rattle.std.specs.Prelude.{ℕ, ◌+◌, ◌<◌, ◌≡◌, refl, ◌⊎◌, List, [], ◌++◌, true, false, take}
use Rattle.std.proofs.Common.{inl, inr}
use Rattle.wire_read.specs.Wire.{Bytes}
use Rattle.wire_read.specs.Parts.{skip}
use Rattle.sa_attribute.specs.Attributes.{attribute_type, after_attribute, attribute_count}
use Rattle.sa_coding.specs.Coding.{is_life_type, is_duration, whole_value, attributes_code}
use Rattle.sa_wholes.specs.Wholes.{wholes, joined, Orderly}
use Rattle.sa_wholes.proofs.Wholes.{reads-orderly}
use Rattle.policy_order.proofs.Places as places
use Rattle.sa_transforms.specs.Transforms.{transform_code}
use Rattle.sa_transforms.proofs.Laws.{LawfulTransform}
use Rattle.sa_proposals.specs.Proposals.{offer_code}
use Rattle.sa_proposals.proofs.Laws.{Item}
use Rattle.sa_fields.specs.Fields.{protocol, transform_count, attributes_of}
use Rattle.sa_items.specs.Items.{proposal, proposal_count, transform}
use Rattle.sa_items.proofs.Laws.{transform-lawful}
use Rattle.sa_sets.specs.Sets.{set, set_count}
use Rattle.sa_sets.proofs.Places.{set-lawful}
use Rattle.policy_suiting.specs.Suiting.{Exactly, TransformSuits}
use Rattle.sa_proposals.proofs.Known.{Known, isakmp, ah-of, esp-of, known_of}
use Rattle.policy_order.proofs.FreeOrder as order

-- what begins at attribute j of a transform's attributes s, counted from 0, and its type
abbrev pub attribute_at : (j : ℕ) (s : Bytes) → Bytes
attribute_at j s = skip after_attribute j s

abbrev pub type_at : (j : ℕ) (s : Bytes) → ℕ
type_at j s = attribute_type (attribute_at j s)

-- what `paired`, at the end, shows of the attributes of every transform that reads
pub record Paired (exchange : ℕ) (s : Bytes) : Type 0 where
  -- "each duration must directly follow its life type"
  pub duration-follows : (j : ℕ) → j < attribute_count s → is_duration exchange (type_at j s) ≡ true →
      (i : ℕ) × (j ≡ i + 1) × (is_life_type exchange (type_at i s) ≡ true)
  -- "and no life type stands without one"
  pub life_type_followed : (i : ℕ) → i < attribute_count s → is_life_type exchange (type_at i s) ≡ true →
      (i + 1 < attribute_count s) × (is_duration exchange (type_at (i + 1) s) ≡ true)
  -- "each life type value occurs at most once"
  pub value_once : (i j : ℕ) → i < j → j < attribute_count s → is_life_type exchange (type_at i s) ≡ true → is_life_type exchange (type_at j s) ≡ true →
      whole_value (attribute_at i s) ≡ whole_value (attribute_at j s) → ⊥
  -- document 01, "A type occurs at most once in a transform", of every other type
  pub type_once : (i j : ℕ) → i < j → j < attribute_count s → is_life_type exchange (type_at i s) ≡ false → is_duration exchange (type_at i s) ≡ false →
      type_at i s ≡ type_at j s → ⊥
  -- and behind the attributes that are counted s has no byte
  pub all_counted : attribute_at (attribute_count s) s ≡ []

-- what `in_wholes` shows: s is cut into pairs and single attributes, no two of them alike, and joined they are s
pub record InWholes (exchange : ℕ) (s : Bytes) : Type 0 where
  pub orderly : Orderly exchange (wholes exchange s)
  pub all : joined (wholes exchange s) ≡ s

-- the transform t with these wholes for its attributes
abbrev pub with_wholes : (t : Bytes) (ws : List Bytes) → Bytes
with_wholes t ws = take 8 t ++ joined ws

-- what `free_order` shows of a transform t and u, its wholes in another order: u reads where t does, whatever follows, and suits what t suits
pub record Unchanged (exchange protocol : ℕ) (t u : Bytes) : Type 0 where
  pub reads : (left least : ℕ) (rest : Bytes) → transform_code exchange left least (u ++ rest) ≡ transform_code exchange left least (t ++ rest)
  pub suits_still : (i : ℕ) (book : Bytes) → TransformSuits exchange i book protocol t → TransformSuits exchange i book protocol u
  pub suited_before : (i : ℕ) (book : Bytes) → TransformSuits exchange i book protocol u → TransformSuits exchange i book protocol t

-- ---- proofs

offers_in : {exchange number : ℕ} → Known exchange number → (exchange ≡ 2) ⊎ (exchange ≡ 32)
offers_in isakmp = inl refl
offers_in ah-of = inr refl
offers_in esp-of = inr refl

-- transform n of proposal j in set k of an offer that reads
module _ (exchange : ℕ) (body : Bytes) (reads : offer_code exchange body ≡ 0) (k j n : ℕ) (a_set : k < set_count body)
    (a_proposal : j < proposal_count (set k body)) (a_transform : n < transform_count (proposal j (set k body))) where
  abbrev p : Bytes
  p = proposal j (set k body)

  abbrev t : Bytes
  t = transform n p

  item : Item exchange p
  item = (set-lawful exchange body reads k a_set).lawful j a_proposal

  lawful : LawfulTransform exchange t
  lawful = transform-lawful exchange p item n a_transform

  attributes-read : attributes_code exchange (attributes_of t) ≡ 0
  unfolding attributes_of
  attributes-read = lawful.attributes

  pub paired : Paired exchange (attributes_of t)
  paired = record {
    duration-follows = places.duration-follows exchange (attributes_of t) attributes-read;
    life_type_followed = places.life_type_followed exchange (attributes_of t) attributes-read;
    value_once = places.values_differ exchange (attributes_of t) attributes-read;
    type_once = places.types_differ exchange (attributes_of t) attributes-read;
    all_counted = places.nothing-behind exchange (attributes_of t) attributes-read;
  }

  pub in_wholes : InWholes exchange (attributes_of t)
  in_wholes = let r = reads-orderly exchange (attributes_of t) attributes-read in record { orderly = r.orderly; all = r.all }

  pub free_order : (ws : List Bytes) → Exactly (wholes exchange (attributes_of t)) ws → Unchanged exchange (protocol p) t (with_wholes t ws)
  free_order ws in_order =
      let known = offers_in (known_of exchange _ item.known) in
      record {
        reads = order.reads_order exchange t lawful ws in_order;
        suits_still = λ i book. order.suits_order exchange t lawful ws in_order known i book (protocol p);
        suited_before = λ i book. order.order_suits exchange t lawful ws in_order known i book (protocol p);
      }
