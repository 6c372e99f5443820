-- The attributes of a transform with each life type and its duration as one whole: document 02, "free order holds for pairs as wholes".
use Rattle.std.specs.Prelude.{ℕ, zero, suc, ◌+◌, ◌≤◌, ◌≡◌, List, [], ◌∷◌, ◌++◌, true, false, length, take, drop, eqb}
use Rattle.wire_read.specs.Wire.{Bytes}
use Rattle.wire_read.specs.Tests.{if◌then◌otherwise◌}
use Rattle.sa_attribute.specs.Attributes.{attribute_type, attribute_size, after_attribute}
use Rattle.sa_coding.specs.Coding.{fixed_wrong, duration_wrong, is_life_type, is_duration, alike}

-- the attribute at the front of s, and the duration behind it where it is a life type
unfoldable pub whole_size : (exchange : ℕ) (s : Bytes) → ℕ
whole_size exchange s = if is_life_type exchange (attribute_type s) then attribute_size s + attribute_size (after_attribute s) otherwise attribute_size s

-- the wholes that lie one behind the other in s, at most k
unfoldable pub wholes_from : (k exchange : ℕ) (s : Bytes) → List Bytes
wholes_from zero exchange s = []
wholes_from (suc k) exchange s =
    if eqb (length s) 0 then []
    otherwise take (whole_size exchange s) s ∷ wholes_from k exchange (drop (whole_size exchange s) s)

-- of a transform's attributes; those of one that reads are at most 16
unfoldable pub wholes : (exchange : ℕ) (attributes : Bytes) → List Bytes
wholes exchange attributes = wholes_from 16 exchange attributes

-- the wholes, one behind the other again
unfoldable pub joined : (ws : List Bytes) → Bytes
joined [] = []
joined (w ∷ ws) = w ++ joined ws

-- ---- what the wholes of a transform that reads are

-- the bytes of one attribute, by the size that it states, coded as it must be
pub record One (exchange : ℕ) (a : Bytes) : Type 0 where
  pub long : 4 ≤ length a
  pub size : attribute_size a ≡ length a
  pub fixed : fixed_wrong exchange a ≡ false
  pub duration : duration_wrong exchange a ≡ false

-- an attribute that is neither life type nor duration, or a life type and right behind it a duration
pub data Whole (exchange : ℕ) : (w : Bytes) → Type 0 where
  alone : {a : Bytes} → One exchange a → is_life_type exchange (attribute_type a) ≡ false → is_duration exchange (attribute_type a) ≡ false → Whole exchange a
  pair : {a d : Bytes} → One exchange a → One exchange d → is_life_type exchange (attribute_type a) ≡ true → is_duration exchange (attribute_type d) ≡ true →
      Whole exchange (a ++ d)

-- how many attributes a whole has, and how many they all have
unfoldable pub attributes_in : (exchange : ℕ) (w : Bytes) → ℕ
attributes_in exchange w = if is_life_type exchange (attribute_type w) then 2 otherwise 1

unfoldable pub attributes_of_all : (exchange : ℕ) (ws : List Bytes) → ℕ
attributes_of_all exchange [] = 0
attributes_of_all exchange (w ∷ ws) = attributes_in exchange w + attributes_of_all exchange ws

-- w is alike none of these
pub data Apart (exchange : ℕ) (w : Bytes) : (ws : List Bytes) → Type 0 where
  from_none : Apart exchange w []
  from_one : {v : Bytes} {ws : List Bytes} → alike exchange w v ≡ false → Apart exchange w ws → Apart exchange w (v ∷ ws)

-- each is a whole, and no two of them are alike
pub data Orderly (exchange : ℕ) : (ws : List Bytes) → Type 0 where
  nothing : Orderly exchange []
  one_more : {w : Bytes} {ws : List Bytes} → Whole exchange w → Apart exchange w ws → Orderly exchange ws → Orderly exchange (w ∷ ws)
