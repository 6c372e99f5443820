-- A number's digits as they are found, the last one first: each stands in front of those behind it.
use Prim.Native.Nat.{ℕ, zero, suc, ◌+◌, ◌-◌, ◌/◌, ◌%◌, ◌^◌, ◌≤◌, ◌<◌}
use mathlib.Core.Path.{◌≡◌, sym, ap, ◌∙◌}
use mathlib.Core.List.{[], ◌∷◌, ◌++◌, append-nil, append_assoc}
use native.Mathlib.Omega.{arith, pow_step}
use native.Mathlib.Numerals.{add-one}
use lib.ListN.{length, drop, set, length-set}
use lib.Seq.{drop-cons, drop-length, drop-set-lt, get_or-set_same}
use Rattle.wire_read.specs.Wire.{Bytes}
use Rattle.wire_read.proofs.Tests.{never}
use Rattle.bench_words.specs.Say.{Said, decimal_text}
use Rattle.bench_words.proofs.SayLaws.{said-text, one_digit, more_digits}
use Rattle.capture_words.specs.Texts.{marked_text}

-- what is set at a place stands in front of what is behind it
set_front : (text : Bytes) (at b : ℕ) → at < length text → drop at (set text at b) ≡ b ∷ drop (suc at) text
set_front text at b h =
    let inside : at < length (set text at b) = omega (arith, length-set text at b) in
    rw (drop-cons (set text at b) at 0 inside, get_or-set_same text at b 0 h, drop-set-lt (suc at) text at b (omega arith))

-- a number of two digits and more, for which there is room, has room without its last one
room-left : (rest at : ℕ) → 9 < rest → rest < 10 ^ at → (1 < at) × (rest / 10 < 10 ^ (at - 1))
room-left rest zero h g = absurd (omega (arith, pow_step 10 0))
room-left rest (suc zero) h g = absurd (omega (arith, pow_step 10 0))
room-left rest (suc (suc k)) h g =
    let less : suc (suc k) - 1 ≡ suc k = omega arith in
    (omega arith, rw less (omega (arith, pow_step 10 (suc k))))

-- the number's text is that of what is left of it, and then what stands behind at; there is room for what is left and a mark
abbrev pub Spelled : (n rest at : ℕ) (text : Bytes) → Type 0
Spelled n rest at text = (0 < at) × (at ≤ 20) × (length text ≡ 21) × (rest < 10 ^ at) × (decimal_text rest ++ drop (at + 1) text ≡ decimal_text n)

pub spelled-start : (n : ℕ) (text : Bytes) → length text ≡ 21 → decimal_text n ++ drop 21 text ≡ decimal_text n
spelled-start n text e = ap (λ (k : ℕ). decimal_text n ++ drop k text) (sym e) ∙ rw (drop-length text, append-nil)

module _ (n rest at : ℕ) (text : Bytes) (so_far : Spelled n rest at text) where
  next : drop (at + 1) text ≡ drop (suc at) text
  next = ap (λ (k : ℕ). drop k text) (add-one at)

  pub spelled-on : 9 < rest → Spelled n (rest / 10) (at - 1) (set text at (48 + rest % 10))
  spelled-on h =
      let left = room-left rest at h so_far.3 in
      let here : at - 1 + 1 ≡ at = omega arith in (
        omega arith,
        omega arith,
        omega (arith, length-set text at (48 + rest % 10)),
        left.1,
        rw (here, set_front text at (48 + rest % 10) (omega arith))
            (sym (append_assoc (decimal_text (rest / 10)) ((48 + rest % 10) ∷ []) (drop (suc at) text))
            ∙ ap (λ (t : Bytes). t ++ drop (suc at) text) (sym (more_digits rest h))
            ∙ ap (λ (t : Bytes). decimal_text rest ++ t) (sym next)
            ∙ so_far.4),
      )

  pub spelled-end : (mark : ℕ) → rest ≤ 9 → drop (at - 1) (set (set text at (48 + rest)) (at - 1) mark) ≡ marked_text mark n
  spelled-end mark h =
      let here : suc (at - 1) ≡ at = omega arith in
      let fits : at - 1 < length (set text at (48 + rest)) = omega (arith, length-set text at (48 + rest)) in
      rw (set_front (set text at (48 + rest)) (at - 1) mark fits, here, set_front text at (48 + rest) (omega arith), ← add-one at)
      (ap (λ (t : Bytes). mark ∷ t) (ap (λ (t : Bytes). t ++ drop (at + 1) text) (sym (one_digit rest (omega arith))) ∙ so_far.4))

-- ---- what is said of it

tail_of : (text : Bytes) (at mark : ℕ) (behind : Bytes) → drop at text ≡ mark ∷ behind → drop (suc at) text ≡ behind
tail_of [] zero mark behind e = never (cc)
tail_of [] (suc at) mark behind e = never (cc)
tail_of (x ∷ text) zero mark behind e = cc
tail_of (x ∷ text) (suc at) mark behind e = tail_of text at mark behind e

module _ (l m text part : Bytes) (said r mark n at : ℕ) (spelled : drop at text ≡ marked_text mark n) where
  pub marked-said : part ≡ drop at text → Said l said part r m → Said l said (marked_text mark n) r m
  marked-said e p = said-text l m said r part (marked_text mark n) p (e ∙ spelled)

  pub digits_said : part ≡ drop (at + 1) text → Said l said part r m → Said l said (decimal_text n) r m
  digits_said e p =
      said-text l m said r part (decimal_text n) p (e ∙ ap (λ (k : ℕ). drop k text) (add-one at) ∙ tail_of text at mark (decimal_text n) spelled)
