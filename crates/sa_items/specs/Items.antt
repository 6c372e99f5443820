-- The proposals of a set and the transforms of a proposal. Of bytes that do not read these give something too, which no rule asks for.
use Rattle.std.specs.Prelude.{ℕ, zero, suc, [], take, drop, eqb}
use Rattle.wire_read.specs.Wire.{Bytes, length_field}
use Rattle.wire_read.specs.Tests.{if◌then◌otherwise◌}
use Rattle.wire_read.specs.Parts.{skip, parts, numbered}
use Rattle.sa_fields.specs.Fields.{number_field}
use Rattle.sa_proposals.specs.Proposals.{transform_bytes}
use Rattle.sa_fields.specs.declared.TransformNumber.{TransformNumber}

-- proposals, and transforms, lie one behind the other, each with its length in its bytes 2 and 3
unfoldable pub first_item : (s : Bytes) → Bytes
first_item s = take (length_field s) s

unfoldable pub after_item : (s : Bytes) → Bytes
after_item s = drop (length_field s) s

-- proposal k of a set, counted from 0, and how many it has
unfoldable pub proposal : (k : ℕ) (set : Bytes) → Bytes
proposal k set = first_item (skip after_item k set)

unfoldable pub proposal_count : (set : Bytes) → ℕ
proposal_count set = parts after_item 16 set

-- transform k of a proposal, counted from 0
unfoldable pub transform : (k : ℕ) (p : Bytes) → Bytes
transform k p = first_item (skip after_item k (transform_bytes p))

-- the transform that has this number
unfoldable pub transform_numbered : (number : TransformNumber) (p : Bytes) → Bytes
transform_numbered number p = numbered first_item after_item 8 number.0 (transform_bytes p)
