-- The agreed values of a set, document 01, "Quick mode ends".
use Rattle.std.specs.Prelude.{ℕ, eqb}
use Rattle.wire_read.specs.Wire.{Bytes}
use Rattle.wire_read.specs.Tests.{if◌then◌otherwise◌}
use Rattle.sa_fields.specs.Fields.{protocol, transform_number, spi_field}
use Rattle.sa_items.specs.Items.{proposal, proposal_count, transform}
use Rattle.policy_choice.specs.declared.Transforms.{Transforms}
use Rattle.policy_choice.specs.declared.Transforms.TheVariants.{One, Two}
use Rattle.quick_end.specs.declared.Spis.{Spis}
use Rattle.quick_end.specs.declared.Spis.TheVariants.{Alone, Both}

-- the SPIs of a set, and the transforms of a reply
unfoldable pub spis_of : (s : Bytes) → Spis
spis_of s =
    if eqb (proposal_count s) 1 then Alone (spi_field (proposal 0 s))
    otherwise Both (spi_field (proposal 0 s)) (spi_field (proposal 1 s))

unfoldable pub transforms_in : (s : Bytes) → Transforms
transforms_in s =
    if eqb (proposal_count s) 1 then One (transform_number (transform 0 (proposal 0 s)))
    otherwise Two (transform_number (transform 0 (proposal 0 s))) (transform_number (transform 0 (proposal 1 s)))

-- the own SPI for a protocol, and those for a set
unfoldable pub spi_for : (ah esp protocol : ℕ) → ℕ
spi_for ah esp protocol = if eqb protocol 2 then ah otherwise esp

unfoldable pub own_spis : (ah esp : ℕ) (s : Bytes) → Spis
own_spis ah esp s =
    if eqb (proposal_count s) 1 then Alone (spi_for ah esp (protocol (proposal 0 s)))
    otherwise Both (spi_for ah esp (protocol (proposal 0 s))) (spi_for ah esp (protocol (proposal 1 s)))
