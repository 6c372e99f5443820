-- A law for each way out of this crate's functions.
use Prim.Native.Nat.{ℕ}
use mathlib.Core.Path.{◌≡◌}
use mathlib.Core.List.{List}
use mathlib.Core.Bool.{Bool, true, false, ◌&&◌}
use lib.ListN.{length, get_or, drop}
use lib.Dec.{leb}
use borrow.Author.Tests.{ne_eqb}
use Rattle.identity.specs.Identity.{main_data, quick_data, port_zero, lawful, identity_code}

module _ (type : ℕ) (s : List ℕ) (n1 : type ≡ 1 → ⊥) (n5 : type ≡ 5 → ⊥) where
  pub no_main : (type ≡ 2 → ⊥) → (type ≡ 3 → ⊥) → (type ≡ 11 → ⊥) → (type ≡ 9 → ⊥) → (type ≡ 10 → ⊥) → false ≡ main_data type s
  unfolding main_data
  no_main n2 n3 n11 n9 n10 =
      rw (ne_eqb type 1 n1, ne_eqb type 5 n5, ne_eqb type 2 n2, ne_eqb type 3 n3, ne_eqb type 11 n11, ne_eqb type 9 n9, ne_eqb type 10 n10)

  pub no_quick : (type ≡ 4 → ⊥) → (type ≡ 6 → ⊥) → (type ≡ 7 → ⊥) → (type ≡ 8 → ⊥) → false ≡ quick_data type s
  unfolding quick_data
  no_quick n4 n6 n7 n8 = rw (ne_eqb type 1 n1, ne_eqb type 4 n4, ne_eqb type 5 n5, ne_eqb type 6 n6, ne_eqb type 7 n7, ne_eqb type 8 n8)

-- first and data are what the code read of the body
module _ (exchange : ℕ) (s : List ℕ) where
  module _ (first : ℕ) (rest : List ℕ) (r : Bool) (ef : first ≡ get_or s 0 0) (er : rest ≡ drop 4 s) where
    pub lawful-main : exchange ≡ 2 → (z : Bool) → z ≡ port_zero s → r ≡ main_data first rest → (z && r) ≡ lawful exchange s
    unfolding lawful
    lawful-main h z ez e = rw (h, ← ez, ← ef, ← er, e)

    pub lawful-quick : exchange ≡ 32 → r ≡ quick_data first rest → r ≡ lawful exchange s
    unfolding lawful
    lawful-quick h e = rw (h, ← ef, ← er) e

  pub lawful-none : (exchange ≡ 2 → ⊥) → (exchange ≡ 32 → ⊥) → false ≡ lawful exchange s
  unfolding lawful
  lawful-none n2 n32 = rw (ne_eqb exchange 2 n2, ne_eqb exchange 32 n32)

  module _ (l : Bool) (el : l ≡ lawful exchange s) where
    pub identity_done : (leb 4 (length s) && l) ≡ true → 0 ≡ identity_code exchange s
    unfolding identity_code
    identity_done h = rw (← el, h)

    pub identity_wrong : (leb 4 (length s) && l) ≡ false → 18 ≡ identity_code exchange s
    unfolding identity_code
    identity_wrong h = rw (← el, h)
