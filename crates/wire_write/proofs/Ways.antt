-- A law for each way out of this crate's functions, and for each turn of their loop.
use Prim.Native.Nat.{ℕ, min, ◌+◌, ◌-◌, ◌/◌, ◌%◌, ◌≤◌, ◌<◌}
use mathlib.Core.Path.{◌≡◌, sym, ap, ◌∙◌}
use mathlib.Core.List.{List, [], ◌∷◌}
use native.Mathlib.Omega.{arith}
use lib.ListN.{length, get_or, set, drop, drop_of_length-le}
use lib.Dec.{leb}
use borrow.Author.Tests.{leb-true, leb-false}
use Rattle.wire_read.proofs.Tests.{by_test}
use Rattle.wire_read.proofs.Laws.{part-next}
use Rattle.wire_write.specs.Put.{bytes_of, paste}
use Rattle.wire_write.proofs.Laws.{two_bytes, paste_past}

-- ---- the loop of put_bytes, which begins at `at` or, where that lies past the end, at the end

pub paste-begin : (buffer bytes : List ℕ) (i from : ℕ) → from ≡ min i (length buffer) → paste buffer from bytes ≡ paste buffer i bytes
paste-begin buffer bytes i from is =
    by_test (leb i (length buffer))
    (λ e. let inside = leb-true i (length buffer) e in let here : from ≡ i = omega arith in rw here)
    (λ e.
    let past = leb-false i (length buffer) e in
    paste_past buffer from bytes (omega arith) ∙ sym (paste_past buffer i bytes (omega arith)))

-- to is the place of the next byte, and goal what the buffer is to be
module _ (buffer bytes goal : List ℕ) (i to : ℕ) (so_far : paste buffer to (drop i bytes) ≡ goal) where
  pub paste-full : length buffer ≤ to → buffer ≡ goal
  paste-full h = sym (paste_past buffer to (drop i bytes) h) ∙ so_far

  pub paste-end : length bytes ≤ i → buffer ≡ goal
  unfolding paste
  paste-end h = rw drop_of_length-le at so_far

  pub paste-on : i < length bytes → paste (set buffer to (get_or bytes i 0)) (to + 1) (drop (i + 1) bytes) ≡ goal
  unfolding paste
  paste-on h = sym (ap (paste buffer to) (part-next bytes i h)) ∙ so_far

  pub paste-done : (n from size : ℕ) → to ≡ from + i → size ≡ length buffer → n ≡ min (length bytes) (size - from) → n ≤ i → buffer ≡ goal
  paste-done n from size et es en h =
      by_test (leb (length bytes) i)
      (λ e. paste-end (leb-true (length bytes) i e))
      (λ e. let more = leb-false (length bytes) i e in paste-full (omega arith))

-- the two bytes that a length has room for
pub low_bytes : (size : ℕ) (bytes : List ℕ) → bytes ≡ size % 65536 / 256 % 256 ∷ size % 65536 % 256 ∷ [] →
    get_or bytes 0 0 ∷ get_or bytes 1 0 ∷ [] ≡ bytes_of 2 size
low_bytes size bytes e =
    let high : size % 65536 / 256 % 256 ≡ size / 256 % 256 = omega arith in
    let low : size % 65536 % 256 ≡ size % 256 = omega arith in
    rw (e, two_bytes size, high, low)
