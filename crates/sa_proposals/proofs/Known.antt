-- The exchanges and their protocols: what a protocol is that is not refused.
use Prim.Native.Nat.{ℕ}
use mathlib.Core.Path.{◌≡◌}
use mathlib.Core.Bool.{true, false, ◌||◌, ◌&&◌}
use lib.Dec.{eqb}
use borrow.Author.Tests.{eqb-true, not-false}
use Rattle.wire_read.proofs.Tests.{both, by_test}
use Rattle.sa_proposals.specs.Proposals.{protocol_wrong}

pub data Known : ℕ → ℕ → Type 0 where
  isakmp : Known 2 1
  ah-of : Known 32 2
  esp-of : Known 32 3

pub known_of : (exchange wanted : ℕ) → protocol_wrong exchange wanted ≡ false → Known exchange wanted
unfolding protocol_wrong
known_of exchange wanted h =
    by_test (eqb exchange 2 && eqb wanted 1)
    (λ e. let two = both (eqb exchange 2) (eqb wanted 1) e in rw (eqb-true exchange 2 two.0, eqb-true wanted 1 two.1) isakmp)
    (λ e.
    let right : (eqb exchange 32 && (eqb wanted 2 || eqb wanted 3)) ≡ true = not-false _ (rw e at h) in
    let two = both (eqb exchange 32) (eqb wanted 2 || eqb wanted 3) right in
    rw (eqb-true exchange 32 two.0) (by_test (eqb wanted 2) (λ f. rw (eqb-true wanted 2 f) ah-of) (λ f. rw (eqb-true wanted 3 (rw f at two).1) esp-of)))
