-- The sets of an SA payload's body that reads. Of any other body these give something too, which no rule asks for.
use Rattle.std.specs.Prelude.{ℕ, zero, suc, ◌+◌, not, ◌||◌, length, take, drop, ltb, eqb}
use Rattle.wire_read.specs.Wire.{Bytes, length_at}
use Rattle.wire_read.specs.Tests.{if◌then◌otherwise◌}
use Rattle.sa_fields.specs.declared.ProposalNumber.{ProposalNumber}
use Rattle.wire_read.specs.Parts.{skip, parts, numbered}
use Rattle.sa_fields.specs.Fields.{number_field, number_field_at}

-- "Proposals with equal number form one set": where the proposals with this number end, of which so many may come from at on
unfoldable pub set_end : (left number : ℕ) (s : Bytes) (at : ℕ) → ℕ
set_end zero number s at = at
set_end (suc left) number s at =
    if ltb (length s) (at + 8) || not (eqb (number_field_at s at) number) then at
    otherwise set_end left number s (at + length_at s at)

-- the set at the front of s, and what follows it
unfoldable pub first_set : (s : Bytes) → Bytes
first_set s = take (set_end 16 (number_field s) s 0) s

unfoldable pub after_set : (s : Bytes) → Bytes
after_set s = drop (set_end 16 (number_field s) s 0) s

-- set k of a body, counted from 0: its proposals as bytes; and how many sets there are
unfoldable pub set : (k : ℕ) (body : Bytes) → Bytes
set k body = first_set (skip after_set k (drop 8 body))

unfoldable pub set_count : (body : Bytes) → ℕ
set_count body = parts after_set 16 (drop 8 body)

-- the set that has this number
unfoldable pub set_numbered : (number : ProposalNumber) (body : Bytes) → Bytes
set_numbered number body = numbered first_set after_set 16 number.0 (drop 8 body)
