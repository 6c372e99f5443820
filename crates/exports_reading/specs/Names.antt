-- What is answered of bytes that are to be a name or an element: 0, or 18, the refusal of an identity that is not lawful.
use Rattle.std.specs.Prelude.{Bool}
use Rattle.wire_read.specs.Wire.{Code}
use Rattle.wire_read.specs.Tests.{if◌then◌otherwise◌}

unfoldable pub lawful_code : (lawful : Bool) → Code
lawful_code lawful = if lawful then 0 otherwise 18
