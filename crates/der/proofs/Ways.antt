-- A law for each way out of this crate's functions: what the definitions say under the tests that the code makes.
use Prim.Native.Nat.{ℕ, zero, suc, ◌+◌, ◌-◌, ◌≤◌, ◌<◌}
use mathlib.Core.Path.{◌≡◌, refl, sym, ap, ◌∙◌}
use mathlib.Core.List.{List}
use mathlib.Core.Bool.{Bool, true, false, not, ◌||◌, ◌&&◌}
use native.Mathlib.Omega.{arith}
use lib.ListN.{length, get_or, take, drop, length-drop}
use lib.Dec.{ltb, leb, eqb}
use borrow.Author.Tests.{lt-ltb, le-ltb, ne_eqb, eq-eqb, eqb-true, eqb-false}
use Rattle.wire_read.specs.Wire.{number_at}
use Rattle.wire_read.specs.Tests.{if◌then◌otherwise◌}
use Rattle.der.specs.Der.{tag_wrong, constructed, head_size, body_size, contents, size, filled, element}
use Rattle.der.proofs.Laws.{filled_none, filled-step}

-- ---- head and body

module _ (s : List ℕ) (first : ℕ) (read : first ≡ get_or s 1 0) where
  pub head-short : first < 0x80 → 2 ≡ head_size s
  unfolding head_size
  head-short h = rw (← read, lt-ltb first 0x80 h)

  pub body-short : first < 0x80 → first ≡ body_size s
  unfolding body_size
  body-short h = rw (← read, lt-ltb first 0x80 h)

  module _ (long : 0x80 ≤ first) where
    pub body_middle : first ≡ 0x81 → (n : ℕ) → n ≡ get_or s 2 0 → n ≡ body_size s
    unfolding body_size
    body_middle e n en = rw (← read, le-ltb first 0x80 long, eq-eqb first 0x81 e) en

    pub body-long : (first ≡ 0x81 → ⊥) → (n : ℕ) → n ≡ number_at 2 s 2 → n ≡ body_size s
    unfolding body_size
    body-long h n en = rw (← read, le-ltb first 0x80 long, ne_eqb first 0x81 h) en

    module _ (second : ℕ) (is2 : second ≡ get_or s 2 0) where
      pub head_middle : (eqb first 0x81 && leb 0x80 second) ≡ true → 3 ≡ head_size s
      unfolding head_size
      head_middle h = rw (← read, ← is2, le-ltb first 0x80 long, h)

      module _ (not2 : (eqb first 0x81 && leb 0x80 second) ≡ false) (both : ℕ) (is3 : both ≡ number_at 2 s 2) where
        pub head-long : (eqb first 0x82 && leb 0x100 both) ≡ true → 4 ≡ head_size s
        unfolding head_size
        head-long h = rw (← read, ← is2, ← is3, le-ltb first 0x80 long, not2, h)

        pub head-none : (eqb first 0x82 && leb 0x100 both) ≡ false → 0 ≡ head_size s
        unfolding head_size
        head-none h = rw (← read, ← is2, ← is3, le-ltb first 0x80 long, not2, h)

module _ (s : List ℕ) (h b : ℕ) (t : Bool) (eh : h ≡ head_size s) (eb : b ≡ body_size s) (et : t ≡ tag_wrong s) where
  pub size_none : (t || eqb h 0 || ltb (length s) (h + b)) ≡ true → 0 ≡ size s
  unfolding size
  size_none g = rw (← eh, ← eb, ← et, g)

  pub size-some : (t || eqb h 0 || ltb (length s) (h + b)) ≡ false → h + b ≡ size s
  unfolding size
  size-some g = rw (← eh, ← eb, ← et, g)

-- ---- element

-- one level, with the code's own levels - 1
element-step : (levels : ℕ) (s : List ℕ) → (levels ≡ 0 → ⊥) →
    element levels s ≡ (if constructed s && not (filled (element (levels - 1)) (contents s)) then 0 otherwise size s)
unfolding element
element-step zero s h = absurd (h refl)
element-step (suc levels) s h = let i : suc levels - 1 ≡ levels = omega arith in rw i

if_same : (b : Bool) (n : ℕ) → n ≡ (if b then n otherwise n)
if_same true n = refl
if_same false n = refl

module _ (levels : ℕ) (s : List ℕ) where
  pub element_deep : levels ≡ 0 → 0 ≡ element levels s
  unfolding element
  element_deep z = rw z

  module _ (may : levels ≡ 0 → ⊥) (n : ℕ) (is : n ≡ size s) where
    pub element_wrong : n ≡ 0 → 0 ≡ element levels s
    element_wrong z = rw (element-step levels s may, ← is, z) (if_same (constructed s && not (filled (element (levels - 1)) (contents s))) 0)

    module _ (b : Bool) (con : b ≡ constructed s) where
      pub element-plain : b ≡ false → n ≡ element levels s
      element-plain z = rw (element-step levels s may, ← is, ← con, z)

      module _ (yes : b ≡ true) (h z : ℕ) (rest body : List ℕ) (r : Bool) (eh : h ≡ head_size s) (ez : z ≡ body_size s) (er : rest ≡ drop h s)
          (eb : body ≡ take z rest) (ef : r ≡ filled (element (levels - 1)) body) where
        inside : contents s ≡ body
        unfolding contents
        inside = cc

        pub element-filled : r ≡ true → n ≡ element levels s
        element-filled w = rw (element-step levels s may, inside, ← is, ← con, ← ef, yes, w)

        pub element_unfilled : r ≡ false → 0 ≡ element levels s
        element_unfilled w = rw (element-step levels s may, inside, ← is, ← con, ← ef, yes, w)

-- ---- list: what is left decides

module _ (levels : ℕ) (s rest : List ℕ) (so_far : filled (element levels) rest ≡ filled (element levels) s) where
  module _ (empty : Bool) (tested : empty ≡ eqb (length rest) 0) where
    pub list-end : empty ≡ true → true ≡ filled (element levels) s
    list-end h = sym (filled_none (element levels) rest (eqb-true (length rest) 0 (sym tested ∙ h))) ∙ so_far

    module _ (more : empty ≡ false) (n : ℕ) (is : n ≡ element levels rest) where
      some_left : length rest ≡ 0 → ⊥
      some_left = eqb-false (length rest) 0 (sym tested ∙ more)

      step : filled (element levels) s ≡ (not (eqb n 0) && filled (element levels) (drop n rest))
      step = sym so_far ∙ filled-step (element levels) rest some_left ∙ rw (← is)

      pub list-stop : n ≡ 0 → false ≡ filled (element levels) s
      list-stop z = rw (step, z)

      module _ (one : n ≡ 0 → ⊥) (t : List ℕ) (e : t ≡ drop n rest) where
        pub list_on : filled (element levels) t ≡ filled (element levels) s
        list_on = ap (filled (element levels)) e ∙ sym (step ∙ rw (ne_eqb n 0 one))

        pub list-shorter : length t < length rest
        list-shorter = omega (arith, some_left, one, ap length e, length-drop n rest)
