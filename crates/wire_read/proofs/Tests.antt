-- Laws of tests: what a Bool that is known says of its parts.
use Prim.Native.Nat.{ℕ}
use mathlib.Core.Path.{◌≡◌, refl, sym, ◌∙◌}
use mathlib.Core.Bool.{Bool, true, false, ◌||◌, ◌&&◌}
use native.Mathlib.Omega.{arith}
use Rattle.wire_read.specs.Tests.{if◌then◌otherwise◌}

-- what cannot be shows anything: where two constructors are said to be equal, `never (cc)`
pub never : {A : Type 0} → ◌≡◌ {A = ℕ} 0 1 → A
never h = absurd (omega arith)

pub clash : {A : Type 0} → false ≡ true → A
clash h = never (cc)

pub both : (a b : Bool) → (a && b) ≡ true → (a ≡ true) × (b ≡ true)
both true b h = (refl, h)
both false b h = clash h

pub neither : (a b : Bool) → (a || b) ≡ false → (a ≡ false) × (b ≡ false)
neither true b h = never (cc)
neither false b h = (refl, h)

-- a test holds or fails, and which is known in each case
pub by_test : {A : Type 0} (b : Bool) → (b ≡ true → A) → (b ≡ false → A) → A
by_test true f g = f refl
by_test false f g = g refl

-- ---- a rule by tests: which line of it decides

module _ {A : Type 0} (test : Bool) (x y : A) where
  pub if_then : test ≡ true → x ≡ (if test then x otherwise y)
  if_then h = rw h

  pub if_else : test ≡ false → (r : A) → r ≡ y → r ≡ (if test then x otherwise y)
  if_else h r e = rw h e

-- the same where a call has answered the test
module _ {A : Type 0} (answered test : Bool) (x y : A) (is : answered ≡ test) where
  pub told_then : answered ≡ true → x ≡ (if test then x otherwise y)
  told_then h = if_then test x y (sym is ∙ h)

  pub told_else : answered ≡ false → (r : A) → r ≡ y → r ≡ (if test then x otherwise y)
  told_else h r e = if_else test x y (sym is ∙ h) r e

-- a line of checks that answers 0 has passed this one, and the lines below it answer 0
pub passed : (test : Bool) (number below : ℕ) → (number ≡ 0 → ⊥) → (if test then number otherwise below) ≡ 0 → (test ≡ false) × (below ≡ 0)
passed true number below h e = absurd (h e)
passed false number below h e = (refl, e)
