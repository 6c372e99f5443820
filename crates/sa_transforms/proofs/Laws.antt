-- What transforms that read consist of: one behind the other, with rising numbers, each with attributes that read. And when one reads.
use Prim.Native.Nat.{ℕ, suc, ◌+◌, ◌≤◌}
use mathlib.Core.Path.{◌≡◌, sym, ◌∙◌}
use mathlib.Core.List.{List}
use mathlib.Core.Bool.{false, not, ◌||◌}
use native.Mathlib.Omega.{arith}
use lib.ListN.{length, get_or, take, drop}
use lib.Seq.{length-take-le, get_or-take, take-length, drop-length}
use lib.Dec.{ltb, eqb}
use borrow.Author.Tests.{ltb-false, le-ltb, eqb-true, eqb-false, not-false}
use Rattle.wire_read.specs.Wire.{number_at}
use Rattle.wire_read.proofs.Tests.{neither, by_test, passed}
use Rattle.wire_read.proofs.Laws.{number-take}
use Rattle.sa_coding.specs.Coding.{attributes_code}
use Rattle.sa_transforms.specs.Transforms.{next_wanted, transform_wrong, transform_code, transforms_code}

-- bytes that are one transform, by the length that it states
pub record LawfulTransform (exchange : ℕ) (t : List ℕ) : Type 0 where
  pub long : 8 ≤ length t
  pub lies : number_at 2 t 2 ≡ length t
  pub reserved : get_or t 1 0 ≡ 0
  pub also_reserved : number_at 2 t 6 ≡ 0
  pub attributes : attributes_code exchange (drop 8 t) ≡ 0

-- what the checks on its first bytes leave
record Fits (s : List ℕ) : Type 0 where
  pub long : 8 ≤ number_at 2 s 2
  pub within : number_at 2 s 2 ≤ length s
  pub reserved : get_or s 1 0 ≡ 0
  pub also_reserved : number_at 2 s 6 ≡ 0

transform-fits : (left : ℕ) (s : List ℕ) → transform_wrong left s ≡ false → Fits s
unfolding transform_wrong
transform-fits left s w =
    let ends = neither _ (ltb (length s) (number_at 2 s 2)) w in
    let long = neither _ (ltb (number_at 2 s 2) 8) ends.0 in
    let last = neither _ (not (eqb (number_at 2 s 6) 0)) long.0 in
    let first = neither (ltb (length s) 8 || not (eqb (get_or s 0 0) (next_wanted left))) (not (eqb (get_or s 1 0) 0)) last.0 in
    record {
      long = ltb-false _ _ long.1;
      within = ltb-false _ _ ends.1;
      reserved = eqb-true _ _ (not-false _ first.1);
      also_reserved = eqb-true _ _ (not-false _ last.1);
    }

-- the transform at the front of what has passed, and its number
pub first-transform : (exchange left least : ℕ) (s : List ℕ) → transform_code exchange left least s ≡ 0 →
    LawfulTransform exchange (take (number_at 2 s 2) s) × (least ≤ get_or s 4 0) × (get_or (take (number_at 2 s 2) s) 4 0 ≡ get_or s 4 0)
unfolding transform_code
first-transform exchange left least s h =
    let right = passed (transform_wrong left s) 15 _ (λ z. omega arith) h in
    let low = passed (ltb (get_or s 4 0) least) 15 _ (λ z. omega arith) right.1 in
    let f = transform-fits left s right.0 in
    let n : ℕ = number_at 2 s 2 in
    let size : length (take n s) ≡ n = length-take-le n s f.within in
    let long : 8 ≤ n = f.long in (
      record {
        long = omega arith;
        lies = number-take 2 n s 2 (omega arith) ∙ sym size;
        reserved = get_or-take n s 1 0 (omega arith) ∙ f.reserved;
        also_reserved = number-take 2 n s 6 (omega arith) ∙ f.also_reserved;
        attributes = low.1;
      },
      ltb-false _ _ low.0,
      get_or-take n s 4 0 (omega arith),
    )

pub after-transform : (left exchange least : ℕ) (s : List ℕ) → transforms_code (suc left) exchange least s ≡ 0 →
    (transform_code exchange left least s ≡ 0) × (transforms_code left exchange (get_or s 4 0 + 1) (drop (number_at 2 s 2) s) ≡ 0)
unfolding transforms_code
after-transform left exchange least s h =
    let code : ℕ = transform_code exchange left least s in
    by_test (eqb code 0) (λ e. (eqb-true code 0 e, rw e at h)) (λ e. absurd (eqb-false code 0 e (rw e at h)))

-- one that is alone, and so the last
module _ (exchange : ℕ) (t : List ℕ) (l : LawfulTransform exchange t) (last : get_or t 0 0 ≡ 0) where
  transform-right : transform_wrong 0 t ≡ false
  unfolding transform_wrong next_wanted
  transform-right =
      let e : number_at 2 t 2 ≡ length t = l.lies in
      let within : ltb (length t) (length t) ≡ false = le-ltb (length t) (length t) (omega arith) in
      rw (e, le-ltb (length t) 8 l.long, last, l.reserved, l.also_reserved, within)

  transform_code_lem : transform_code exchange 0 0 t ≡ 0
  unfolding transform_code
  transform_code_lem = rw (transform-right, le-ltb (get_or t 4 0) 0 (omega arith), l.lies, take-length t) l.attributes

  pub one-transform : transforms_code 1 exchange 0 t ≡ 0
  unfolding transforms_code
  one-transform = rw (transform_code_lem, l.lies, drop-length t)
