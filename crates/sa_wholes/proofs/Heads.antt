-- An attribute's own bytes decide what is read at its place: whatever follows them, a ++ r reads at its front as a does.
use Prim.Native.Nat.{ℕ, min, ◌+◌, ◌%◌, ◌≤◌}
use mathlib.Core.Path.{◌≡◌, ap, ◌∙◌}
use mathlib.Core.List.{List, ◌++◌}
use mathlib.Core.Bool.{false}
use native.Mathlib.Omega.{arith}
use lib.ListN.{length, take, length-append, get_or-append}
use lib.Seq.{take-append_seam, drop-append_seam}
use borrow.Author.Tests.{le-ltb}
use Rattle.wire_read.specs.Wire.{number_at}
use Rattle.wire_read.proofs.Tests.{by_test}
use Rattle.wire_read.proofs.Laws.{number_append, number-drop}
use Rattle.sa_attribute.specs.Attributes.{sent_fixed, attribute_type, attribute_size, after_attribute, value}
use Rattle.sa_coding.specs.Coding.{out_of_bounds, fixed_wrong, duration_wrong, value_length, from_value, whole_value, alike}

module _ (a r : List ℕ) (long : 4 ≤ length a) where
  pub type_head : attribute_type (a ++ r) ≡ attribute_type a
  unfolding attribute_type
  type_head = ap (λ (n : ℕ). n % 0x8000) (number_append 2 a r 0 (omega arith))

  pub form_head : sent_fixed (a ++ r) ≡ sent_fixed a
  unfolding sent_fixed
  form_head = rw (get_or-append a r 0 0 (omega arith))

  pub length_head : number_at 2 (a ++ r) 2 ≡ number_at 2 a 2
  length_head = number_append 2 a r 2 (omega arith)

  pub size-head : attribute_size (a ++ r) ≡ attribute_size a
  unfolding attribute_size
  size-head = rw (form_head, length_head)

  pub fixed-head : (exchange : ℕ) → fixed_wrong exchange (a ++ r) ≡ fixed_wrong exchange a
  unfolding fixed_wrong
  fixed-head exchange = rw (type_head, form_head)

  pub duration-head : (exchange : ℕ) → duration_wrong exchange (a ++ r) ≡ duration_wrong exchange a
  unfolding duration_wrong
  duration-head exchange = rw (type_head, form_head, length_head)

size-variable : (a : List ℕ) → sent_fixed a ≡ false → attribute_size a ≡ 4 + number_at 2 a 2
unfolding attribute_size
size-variable a e = rw e

-- where a is as long as it says, all of it is one attribute
module _ (a r : List ℕ) (long : 4 ≤ length a) (whole : attribute_size a ≡ length a) where
  own-size : attribute_size (a ++ r) ≡ length a
  own-size = size-head a r long ∙ whole

  pub take_head : take (attribute_size (a ++ r)) (a ++ r) ≡ a
  take_head = rw own-size (take-append_seam a r)

  pub after-head : after_attribute (a ++ r) ≡ r
  unfolding after_attribute
  after-head = rw own-size (drop-append_seam a r)

  pub bounds_head : out_of_bounds (a ++ r) ≡ false
  unfolding out_of_bounds
  bounds_head =
      rw (own-size, le-ltb (length (a ++ r)) 4 (omega (arith, length-append a r))) (le-ltb (length (a ++ r)) (length a) (omega (arith, length-append a r)))

  pub value-head : value (a ++ r) ≡ value a
  unfolding value
  value-head =
      rw (form_head a r long, length_head a r long)
      (by_test (sent_fixed a) (λ e. rw e)
      (λ e. rw e (number_append (min (number_at 2 a 2) 4) a r 4 (omega (arith, size-variable a e)))))

  pub whole-value-head : whole_value (a ++ r) ≡ whole_value a
  unfolding whole_value value_length from_value
  whole-value-head =
      rw (form_head a r long, length_head a r long)
      (by_test (sent_fixed a)
      (λ e. rw (e, number-drop 2 2 (a ++ r) 0, number-drop 2 2 a 0) (number_append 2 a r 2 (omega arith)))
      (λ e.
      let n : ℕ = number_at 2 a 2 in
      rw (e, number-drop n 4 (a ++ r) 0, number-drop n 4 a 0) (number_append n a r 4 (omega (arith, size-variable a e)))))

  pub alike-head : (exchange : ℕ) (v : List ℕ) → alike exchange (a ++ r) v ≡ alike exchange a v
  unfolding alike
  alike-head exchange v = rw (type_head a r long, whole-value-head)

  pub head-alike : (exchange : ℕ) (v : List ℕ) → alike exchange v (a ++ r) ≡ alike exchange v a
  unfolding alike
  head-alike exchange v = rw (type_head a r long, whole-value-head)
