-- The word that says whether a packet's integrity holds: `yes` or `no`.
use Rattle.std.specs.Prelude.{[], ◌∷◌, Bool, true, false, Option, Some, None}
use Rattle.wire_read.specs.Tests.{if◌then◌otherwise◌}
use Rattle.wire_read.specs.Wire.{Bytes, equal}

abbrev pub integrity_of : (word : Bytes) → Option Bool
integrity_of word =
    if equal word (121 ∷ 101 ∷ 115 ∷ []) then Some true
    otherwise if equal word (110 ∷ 111 ∷ []) then Some false
    otherwise None
