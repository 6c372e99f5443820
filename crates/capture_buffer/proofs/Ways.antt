-- A law for each way out of this crate's functions.
use Prim.Native.Nat.{ℕ, min, ◌+◌, ◌-◌, ◌≤◌, ◌<◌}
use mathlib.Core.Path.{◌≡◌, sym, ap, ◌∙◌}
use mathlib.Core.List.{List, ◌++◌}
use native.Mathlib.Omega.{arith}
use lib.ListN.{length, take, drop, length-take, length-drop}
use lib.Seq.{take_all}
use lib.Dec.{leb}
use borrow.Author.Tests.{leb-true, leb-false}
use Rattle.std.specs.List.{copy_within}
use Rattle.std.proofs.lemmas.Slice.{between_is}
use Rattle.wire_read.proofs.Tests.{by_test}
use Rattle.wire_write.specs.Put.{paste}
use Rattle.wire_write.proofs.Laws.{paste-fits}
use Rattle.capture_buffer.specs.Buffer.{held_in, taken, grown, settled}
use Rattle.capture_buffer.specs.declared.Held.{Held}
use Rattle.capture_buffer.proofs.Laws.{drop-most}

pub held-part : (buffer t r : List ℕ) (held : Held) → t ≡ take held.to buffer → r ≡ drop held.from t → r ≡ held_in buffer held
held-part buffer t r held et er = rw et at er

pub taken-from : (held : Held) (n k : ℕ) → k ≡ min (held.from + n) held.to → record { from = k; to = held.to } ≡ taken held n
unfolding taken
taken-from held n k e = ap (λ (i : ℕ). record { from = i; to = held.to }) e

pub grown-to : (buffer : List ℕ) (held : Held) (got k : ℕ) → k ≡ min (held.to + got) (length buffer) →
    record { from = held.from; to = k } ≡ grown buffer held got
unfolding grown
grown-to buffer held got k e = ap (λ (i : ℕ). record { from = held.from; to = i }) e

-- ---- moving: what lies from `from` to `end`

take-most : (k : ℕ) (s : List ℕ) → take (min k (length s)) s ≡ take k s
take-most k s =
    by_test (leb k (length s))
    (λ e. let least : min k (length s) ≡ k = omega (arith, leb-true k (length s) e) in ap (λ (i : ℕ). take i s) least)
    (λ e.
    let past : length s < k = leb-false k (length s) e in
    let least : min k (length s) ≡ length s = omega arith in
    let all : take (length s) s ≡ s = take_all (length s) s (omega arith) in
    let more : take k s ≡ s = take_all k s (omega arith) in
    ap (λ (i : ℕ). take i s) least ∙ all ∙ sym more)

module _ (buffer : List ℕ) (held : Held) (from end : ℕ) (ends : end ≡ min held.to (length buffer)) (begins : from ≡ min held.from end) where
  moved : take (end - from) (drop from buffer) ≡ held_in buffer held
  moved =
      let cut : take end buffer ≡ take held.to buffer = ap (λ (i : ℕ). take i buffer) ends ∙ take-most held.to buffer in
      let size : length (take held.to buffer) ≤ end = omega (arith, length-take held.to buffer) in
      between_is buffer from end
      ∙ ap (drop from) cut
      ∙ ap (λ (i : ℕ). drop i (take held.to buffer)) begins
      ∙ drop-most held.from end (take held.to buffer) size

  pub settled-by : (after : List ℕ) → after ≡ copy_within buffer from end 0 → settled buffer held ≡ (record { from = 0; to = end - from }, after)
  unfolding settled
  settled-by after copied =
      let size : length (held_in buffer held) ≡ end - from =
      omega (arith, length-drop held.from (take held.to buffer), length-take held.to buffer) in
      let behind : 0 + length (held_in buffer held) ≡ 0 + (end - from) = omega arith in
      let written : paste buffer 0 (held_in buffer held) ≡ after =
      paste-fits buffer 0 (held_in buffer held) (omega (arith, size))
      ∙ ap (λ (n : ℕ). held_in buffer held ++ drop n buffer) behind
      ∙ ap (λ (s : List ℕ). s ++ drop (0 + (end - from)) buffer) (sym moved)
      ∙ sym copied in
      rw (size, written)
