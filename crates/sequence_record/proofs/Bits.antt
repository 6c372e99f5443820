-- The binary digits of a word: of a word in which one digit is set, of a shift to the left that drops what goes past the top, and of
-- a shifted window.
use mathlib.Core.Path.{◌≡◌, refl, sym, ap, ap₂, ◌∙◌}
use Prim.Native.Nat.{ℕ, zero, suc, ◌+◌, ◌-◌, ◌*◌, ◌/◌, ◌%◌, ◌^◌, ◌≤◌, ◌<◌}
use native.Mathlib.Nat.{pow-suc, mul_comm, mul-one, add-zero, add-suc, zero-div, mod-lt, div-div-eq-div-mul}
use native.Mathlib.Omega.{arith}
use lib.Dec.{ltb, lit<}
use lib.Pow.{field, mod-mod-pow, pow_pos}
use lib.Bits.{shifted_half, shifted_even}
use borrow.Author.Tests.{lt-ltb}
use Rattle.wire_read.proofs.Tests.{by_test}
use Rattle.sequence_record.specs.Receive.{bit, shifted}

bit-zero : (w : ℕ) → bit w 0 ≡ w % 2
bit-zero w = omega arith

bit-suc : (w k : ℕ) → bit w (suc k) ≡ bit (w / 2) k
bit-suc w k = ap (λ (x : ℕ). x % 2) (ap (λ (x : ℕ). w / x) (pow-suc 2 k ∙ mul_comm (2 ^ k) 2) ∙ sym (div-div-eq-div-mul w 2 (2 ^ k)))

-- ---- one digit is set, by a sum

pub set_lt : (m k w : ℕ) → k < m → w < 2 ^ m → bit w k ≡ 0 → w + 2 ^ k < 2 ^ m
set_lt zero k w h l e = omega arith
set_lt (suc m) zero w h l e = let z : w % 2 ≡ 0 = sym (bit-zero w) ∙ e in omega arith
set_lt (suc m) (suc k) w h l e =
    let ih : w / 2 + 2 ^ k < 2 ^ m = set_lt m k (w / 2) (omega arith) (omega arith) (sym (bit-suc w k) ∙ e) in
    omega arith

half_set : (w k : ℕ) → (w + 2 ^ suc k) / 2 ≡ w / 2 + 2 ^ k
half_set w k = omega arith

pub set_same : (k w : ℕ) → bit w k ≡ 0 → bit (w + 2 ^ k) k ≡ 1
set_same zero w e = let z : w % 2 ≡ 0 = sym (bit-zero w) ∙ e in bit-zero (w + 1) ∙ omega arith
set_same (suc k) w e =
    bit-suc (w + 2 ^ suc k) k ∙ ap (λ (x : ℕ). bit x k) (half_set w k) ∙ set_same k (w / 2) (sym (bit-suc w k) ∙ e)

pub set_other : (k j w : ℕ) → (j ≡ k → ⊥) → bit w k ≡ 0 → bit (w + 2 ^ k) j ≡ bit w j
set_other zero zero w d e = absurd (d refl)
set_other zero (suc j) w d e =
    let z : w % 2 ≡ 0 = sym (bit-zero w) ∙ e in
    let half : (w + 1) / 2 ≡ w / 2 = omega arith in
    bit-suc (w + 1) j ∙ ap (λ (x : ℕ). bit x j) half ∙ sym (bit-suc w j)
set_other (suc k) zero w d e =
    let even : (w + 2 ^ suc k) % 2 ≡ w % 2 = omega arith in
    bit-zero (w + 2 ^ suc k) ∙ even ∙ sym (bit-zero w)
set_other (suc k) (suc j) w d e =
    bit-suc (w + 2 ^ suc k) j ∙ ap (λ (x : ℕ). bit x j) (half_set w k)
    ∙ set_other k j (w / 2) (λ q. d (ap suc q)) (sym (bit-suc w k) ∙ e) ∙ sym (bit-suc w j)

-- ---- a shift to the left, in a word of m digits

mul_low : (d j w : ℕ) → j < d → bit (w * 2 ^ d) j ≡ 0
mul_low zero j w h = omega arith
mul_low (suc d) zero w h = bit-zero (w * 2 ^ suc d) ∙ shifted_even w d
mul_low (suc d) (suc j) w h = bit-suc (w * 2 ^ suc d) j ∙ ap (λ (x : ℕ). bit x j) (shifted_half w d) ∙ mul_low d j w (omega arith)

mul_high : (d j w : ℕ) → bit (w * 2 ^ d) (j + d) ≡ bit w j
mul_high zero j w = ap₂ bit (mul-one w) (add-zero j)
mul_high (suc d) j w =
    ap (bit (w * 2 ^ suc d)) (add-suc j d) ∙ bit-suc (w * 2 ^ suc d) (j + d) ∙ ap (λ (x : ℕ). bit x (j + d)) (shifted_half w d) ∙ mul_high d j w

mod_bit : (m j x : ℕ) → j < m → bit (x % 2 ^ m) j ≡ bit x j
mod_bit m j x h =
    let a : ℕ = m - suc j in
    let e : m ≡ a + 1 + j = omega arith in
    ap (λ (n : ℕ). bit (x % 2 ^ n) j) e ∙ ap (λ (y : ℕ). y % 2) (field x (a + 1) j) ∙ mod-mod-pow (x / 2 ^ j) a 1

shl_low : (m d j w : ℕ) → j < m → j < d → bit (w * 2 ^ d % 2 ^ m) j ≡ 0
shl_low m d j w h l = mod_bit m j (w * 2 ^ d) h ∙ mul_low d j w l

shl_high : (m d j w : ℕ) → j < m → d ≤ j → bit (w * 2 ^ d % 2 ^ m) j ≡ bit w (j - d)
shl_high m d j w h l =
    let e : j ≡ (j - d) + d = omega arith in
    mod_bit m j (w * 2 ^ d) h ∙ ap (bit (w * 2 ^ d)) e ∙ mul_high d (j - d) w

-- ---- a shifted window

pub zero_bit : (k : ℕ) → bit 0 k ≡ 0
zero_bit k = ap (λ (x : ℕ). x % 2) (zero-div (2 ^ k))

pub shifted_lt : (w d : ℕ) → shifted w d < 2 ^ 64
shifted_lt w d = by_test (ltb d 64) (λ e. rw e (mod-lt (w * 2 ^ d) (pow_pos 64))) (λ e. rw e (lit< tt))

pub shifted_low : (w d k : ℕ) → k < 64 → k < d → bit (shifted w d) k ≡ 0
shifted_low w d k h l = by_test (ltb d 64) (λ e. rw e (shl_low 64 d k w h l)) (λ e. rw e (zero_bit k))

pub shifted-high : (w d k : ℕ) → k < 64 → d ≤ k → bit (shifted w d) k ≡ bit w (k - d)
shifted-high w d k h l = rw (lt-ltb d 64 (omega arith)) (shl_high 64 d k w h l)
