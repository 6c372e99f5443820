-- Parts of at most 4,096 bytes are written.
use Prim.Native.Nat.{ℕ, ◌≤◌}
use mathlib.Core.Path.{◌≡◌, sym, ap, ◌∙◌}
use mathlib.Core.List.{List}
use lib.ListN.{length}
use borrow.Author.Tests.{le-ltb}
use Rattle.wire_write.specs.Put.{put}
use Rattle.wire_read.proofs.Tests.{never}
use Rattle.quick_write.specs.Messages.{proposals_of, longer, too_long, written, longer_into}
use Rattle.quick_write.specs.declared.Proposals.{Proposals}
use Rattle.std.specs.Prelude.{Option, None, Some}
use Rattle.quick_end.specs.declared.Own.{Own}

module _ (l : List ℕ) (own : Own) (id : ℕ) (proposals : Proposals) (set first second : List ℕ) (s : length set ≤ 4096) (f : length first ≤ 4096)
    (g : length second ≤ 4096) where
  fits : longer_into l own id proposals set first second ≡ written (put l 0 (longer own id (proposals_of own proposals set) first second))
  unfolding longer_into too_long
  fits = rw (le-ltb 4096 (length set) s, le-ltb 4096 (length first) f, le-ltb 4096 (length second) g)

  module _ (w : Option ℕ) (b : List ℕ) (e : longer_into l own id proposals set first second ≡ (w, b)) where
    pub longer-written : (n : ℕ) → w ≡ Some n → put l 0 (longer own id (proposals_of own proposals set) first second) ≡ (n, b)
    unfolding put
    longer-written n h =
        let both = sym fits ∙ e in
        let size = ap (λ (p : Option ℕ × List ℕ). p.0) both in
        let buffer = ap (λ (p : Option ℕ × List ℕ). p.1) both in
        cc

    pub longer_never : {A : Type 0} → w ≡ None → A
    longer_never h = let size = ap (λ (p : Option ℕ × List ℕ). p.0) (sym fits ∙ e) in never (cc)
