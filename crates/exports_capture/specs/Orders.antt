-- A file's byte order as a word that another language gives.
use Rattle.std.specs.Prelude.{ℕ, eqb}
use Rattle.wire_read.specs.Tests.{if◌then◌otherwise◌}
use Rattle.capture_header.specs.declared.Order.{Order}
use Rattle.capture_header.specs.declared.Order.TheVariants.{Big, Little}

-- 1 is big-endian, anything else little-endian
abbrev pub order_of : (order : ℕ) → Order
order_of order = if eqb order 1 then Big otherwise Little
