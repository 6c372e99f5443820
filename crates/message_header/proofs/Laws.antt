-- What holds of a message whose header is lawful.
use Prim.Native.Nat.{ℕ, ◌≤◌}
use mathlib.Core.Path.{◌≡◌}
use mathlib.Core.List.{List}
use mathlib.Core.Bool.{◌||◌}
use native.Mathlib.Omega.{arith}
use lib.ListN.{length}
use lib.Dec.{ltb}
use borrow.Author.Tests.{ltb-false}
use Rattle.wire_read.proofs.Tests.{neither, passed}
use Rattle.message_header.specs.Header.{length_wrong, header_code}

-- a message whose header is not refused has one
pub header-long : (m : List ℕ) → header_code m ≡ 0 → 28 ≤ length m
unfolding header_code length_wrong
header-long m h =
    let right = passed (length_wrong m) 30 _ (λ z. omega arith) h in
    let short = neither (ltb (length m) 28 || ltb 8192 (length m)) _ right.0 in
    ltb-false (length m) 28 (neither (ltb (length m) 28) (ltb 8192 (length m)) short.0).0
