-- A law for each way out of this crate's functions, and for each turn of their loops.
use Prim.Native.Nat.{ℕ}
use mathlib.Core.Path.{◌≡◌, refl, ap}
use mathlib.Core.List.{List, [], ◌∷◌}
use mathlib.Core.Bool.{Bool, ◌&&◌}
use native.Mathlib.Omega.{arith}
use native.Mathlib.Nat.{zero-add}
use lib.Dec.{eqb}
use Rattle.std.specs.Int.{from_be_bytes, w16, w32, w64}
use Rattle.std.specs.List.{list_all}
use Rattle.std.specs.Cmp.Lexicographic.{pointwise}
use Rattle.wire_read.specs.Wire.{number_at, BytesAt, all_zero, equal}
use Rattle.wire_read.proofs.Laws.{number_agree}

-- ---- big-endian numbers

-- what the numbers' own reading of bytes spells
module _ (bytes : List ℕ) where
  pub two-spelled : from_be_bytes w16 bytes ≡ number_at 2 bytes 0
  unfolding number_at
  two-spelled = omega arith

  pub four-spelled : from_be_bytes w32 bytes ≡ number_at 4 bytes 0
  unfolding number_at
  four-spelled = omega arith

  pub eight-spelled : from_be_bytes w64 bytes ≡ number_at 8 bytes 0
  unfolding number_at
  eight-spelled = omega arith

pub same_number : (n : ℕ) (s : List ℕ) (i : ℕ) (bytes : List ℕ) → BytesAt n s i bytes → number_at n bytes 0 ≡ number_at n s i
same_number n s i bytes same = number_agree n bytes s 0 i (λ k b. rw zero-add (same k b))

-- ---- comparisons

-- what the iterator says, and the slices' own comparison
pub all_zero-list_all : (s : List ℕ) → list_all (λ b. eqb b 0) s ≡ all_zero s
unfolding all_zero
all_zero-list_all [] = refl
all_zero-list_all (b ∷ s) = ap (λ (t : Bool). eqb b 0 && t) (all_zero-list_all s)

pub equal-heads : (a b : List ℕ) → pointwise eqb a b ≡ equal a b
unfolding equal
equal-heads [] [] = refl
equal-heads [] (y ∷ b) = refl
equal-heads (x ∷ a) [] = refl
equal-heads (x ∷ a) (y ∷ b) = ap (λ (t : Bool). eqb x y && t) (equal-heads a b)
