-- A law for each way out of the functions that read SPIs and transforms of a set.
use Prim.Native.Nat.{ℕ}
use mathlib.Core.Path.{◌≡◌}
use mathlib.Core.List.{List}
use borrow.Author.Tests.{eq-eqb, ne_eqb}
use Rattle.wire_read.specs.Wire.{number_at}
use Rattle.sa_fields.specs.Fields.{protocol, transform_number}
use Rattle.sa_items.specs.Items.{proposal, proposal_count, transform}
use Rattle.sa_fields.specs.declared.TransformNumber.{TransformNumber}
use Rattle.policy_choice.specs.declared.Transforms.TheVariants.{One, Two}
use Rattle.quick_agreed.specs.Agreed.{spis_of, transforms_in, spi_for, own_spis}
use Rattle.quick_end.specs.declared.Spis.TheVariants.{Alone, Both}

module _ (s p q : List ℕ) (count : ℕ) (ep : p ≡ proposal 0 s) (ec : count ≡ proposal_count s) where
  module _ (first : ℕ) (ef : first ≡ number_at 4 p 8) where
    pub spis_alone : count ≡ 1 → Alone first ≡ spis_of s
    unfolding spis_of
    spis_alone h = rw (← ec, eq-eqb count 1 h, ← ep, ← ef)

    pub spis_both : (count ≡ 1 → ⊥) → q ≡ proposal 1 s → (second : ℕ) → second ≡ number_at 4 q 8 → Both first second ≡ spis_of s
    unfolding spis_of
    spis_both h eq second es = rw (← ec, ne_eqb count 1 h, ← ep, ← ef, ← eq, ← es)

  module _ (t : List ℕ) (et : t ≡ transform 0 p) (first : TransformNumber) (ef : first ≡ transform_number t) where
    pub transforms-one : count ≡ 1 → One first ≡ transforms_in s
    unfolding transforms_in
    transforms-one h = rw (← ec, eq-eqb count 1 h, ← ep, ← et, ← ef)

    pub transforms-two : (count ≡ 1 → ⊥) → q ≡ proposal 1 s → (u : List ℕ) → u ≡ transform 0 q → (second : TransformNumber) → second ≡ transform_number u →
        Two first second ≡ transforms_in s
    unfolding transforms_in
    transforms-two h eq u eu second es = rw (← ec, ne_eqb count 1 h, ← ep, ← et, ← ef, ← eq, ← eu, ← es)

  module _ (ah esp its first : ℕ) (ek : its ≡ protocol p) (ef : first ≡ spi_for ah esp its) where
    pub own_alone : count ≡ 1 → Alone first ≡ own_spis ah esp s
    unfolding own_spis
    own_alone h = rw (← ec, eq-eqb count 1 h, ← ep, ← ek, ← ef)

    pub own-both : (count ≡ 1 → ⊥) → q ≡ proposal 1 s → (other second : ℕ) → other ≡ protocol q → second ≡ spi_for ah esp other →
        Both first second ≡ own_spis ah esp s
    unfolding own_spis
    own-both h eq other second eo es = rw (← ec, ne_eqb count 1 h, ← ep, ← ek, ← ef, ← eq, ← eo, ← es)
