-- The shape of a message that was read. And "equal" messages, equal apart from the 32 hash bytes: the parts that are the same, and that it
-- is an equivalence.
use Prim.Native.Nat.{ℕ}
use mathlib.Core.Path.{◌≡◌, refl, sym, ◌∙◌}
use mathlib.Core.List.{List}
use mathlib.Core.Bool.{true, ◌&&◌}
use lib.ListN.{length, take, drop}
use lib.Dec.{eqb}
use borrow.Author.Tests.{eqb-true, eq-eqb}
use Rattle.wire_read.specs.Wire.{equal}
use Rattle.wire_read.proofs.Tests.{both}
use Rattle.wire_read.proofs.Laws.{equal-same, equal-true}
use Rattle.message_chain.specs.Message.{message}
use Rattle.message_chain.specs.Message.{Message}
use Rattle.quick_shape.specs.Shapes.{shape, count_of, shape_of, alike}

pub shape-found : (m : List ℕ) (read : Message) → read ≡ message m → (count found : ℕ) → count ≡ count_of read → found ≡ shape count m → found ≡ shape_of m
unfolding shape_of
shape-found m read em count found en ef = rw (← em, ← en) ef

-- what equal messages share
pub record Alike (m n : List ℕ) : Type 0 where
  pub as_long : length m ≡ length n
  pub before : take 32 m ≡ take 32 n
  pub behind : drop 64 m ≡ drop 64 n

module _ (m n : List ℕ) where
  pub alike-says : alike m n ≡ true → Alike m n
  unfolding alike
  alike-says h =
      let outer = both (eqb (length m) (length n) && equal (take 32 m) (take 32 n)) (equal (drop 64 m) (drop 64 n)) h in
      let inner = both (eqb (length m) (length n)) (equal (take 32 m) (take 32 n)) outer.0 in
      record { as_long = eqb-true _ _ inner.0; before = equal-true _ _ inner.1; behind = equal-true _ _ outer.1 }

  pub says-alike : Alike m n → alike m n ≡ true
  unfolding alike
  says-alike a = rw (a.before, a.behind, eq-eqb (length m) (length n) a.as_long, equal-same (take 32 n), equal-same (drop 64 n))

pub alike_same : (m : List ℕ) → alike m m ≡ true
alike_same m = says-alike m m (record { as_long = refl; before = refl; behind = refl })

pub alike_sym : (m n : List ℕ) → alike m n ≡ true → alike n m ≡ true
alike_sym m n h =
    let a = alike-says m n h in
    says-alike n m (record { as_long = sym a.as_long; before = sym a.before; behind = sym a.behind })

pub alike_trans : (k m n : List ℕ) → alike k m ≡ true → alike m n ≡ true → alike k n ≡ true
alike_trans k m n h g =
    let a = alike-says k m h in
    let b = alike-says m n g in
    says-alike k n (record { as_long = a.as_long ∙ b.as_long; before = a.before ∙ b.before; behind = a.behind ∙ b.behind })
