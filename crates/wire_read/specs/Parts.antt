-- Bytes in which parts lie one behind the other, where rest takes off the first.
use Rattle.std.specs.Prelude.{ℕ, zero, suc, ◌+◌, [], length, get_or, eqb}
use Rattle.wire_read.specs.Wire.{Bytes}
use Rattle.wire_read.specs.Tests.{if◌then◌otherwise◌}

-- what is left of s after k parts
unfoldable pub skip : (rest : Bytes → Bytes) (k : ℕ) (s : Bytes) → Bytes
skip rest zero s = s
skip rest (suc k) s = skip rest k (rest s)

-- how many parts s has, at most left
unfoldable pub parts : (rest : Bytes → Bytes) (left : ℕ) (s : Bytes) → ℕ
parts rest zero s = 0
parts rest (suc left) s = if eqb (length s) 0 then 0 otherwise 1 + parts rest left (rest s)

-- the first part with this number, of at most left: proposals and transforms have their number in byte 4; no bytes where there is none
unfoldable pub numbered : (first rest : Bytes → Bytes) (left number : ℕ) (s : Bytes) → Bytes
numbered first rest zero number s = []
numbered first rest (suc left) number s = if eqb (get_or s 4 0) number then first s otherwise numbered first rest left number (rest s)
