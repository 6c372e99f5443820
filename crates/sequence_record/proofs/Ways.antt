-- A law for each way out of this crate's functions: what the definitions say under the tests that the code makes.
use Prim.Native.Nat.{ℕ, ◌+◌, ◌-◌, ◌*◌, ◌/◌, ◌%◌, ◌^◌, ◌≤◌, ◌<◌}
use mathlib.Core.Path.{◌≡◌, sym, ap, ◌∙◌}
use mathlib.Core.Bool.{Bool, true, false, not}
use native.Mathlib.Nat.{max-eq_left, max-eq_right, sub_self, mul-one, one-mul, mod-eq_of_lt, le_of_lt}
use native.Mathlib.Omega.{arith}
use lib.Dec.{leb, eqb, lit<}
use lib.Pow.{pow-lt}
use borrow.Author.Tests.{lt-ltb, le-ltb, le-leb, lt-leb, ne_eqb, eqb-false, leb-false}
use Rattle.wire_read.proofs.Tests.{neither}
use Rattle.sequence_record.specs.Receive.{bit, behind, accepted_before, shifted, rise, with_number, judged}
use Rattle.sequence_record.specs.declared.Receive.{Receive}
use Rattle.sequence_record.specs.Verdict.{Accepted, Refused}
use Rattle.sequence_record.proofs.Bits.{set_lt, shifted_lt, shifted_low}

pub far : (w places : ℕ) → 64 ≤ places → 0 ≡ shifted w places
far w places h = rw (le-ltb places 64 h)

pub near : (w places : ℕ) → places < 64 → w * 2 ^ places % 2 ^ 64 ≡ shifted w places
near w places h = rw (lt-ltb places 64 h)

one_shl : (k : ℕ) → k < 64 → 1 * 2 ^ k % 2 ^ 64 ≡ 2 ^ k
one_shl k h = ap (λ (x : ℕ). x % 2 ^ 64) (one-mul (2 ^ k)) ∙ mod-eq_of_lt (pow-lt h)

-- a digit that is not 1 is 0
not-one : (x : ℕ) → (x % 2 ≡ 1 → ⊥) → x % 2 ≡ 0
not-one x h = omega arith

module _ (r : Receive) (n : ℕ) (integrity : Bool) where
  -- a number above the highest: neither behind the window nor accepted before
  module _ (l : r.highest < n) where
    ahead : behind r.highest n ≡ false
    ahead = let d : n ≡ 0 → ⊥ = omega arith in rw (ne_eqb n 0 d, lt-leb (n + 64) r.highest (omega arith))

    unseen : accepted_before r n ≡ false
    unseen = rw (lt-leb n r.highest l)

    pub above_broken : not integrity ≡ true → record { receive = r; verdict = Refused 24 } ≡ judged r n integrity
    unfolding judged
    above_broken h = rw (ahead, unseen, h)

    module _ (s : ℕ) (es : s ≡ shifted r.window (n - r.highest)) where
      pub above_fits : s + 1 < 2 ^ 64
      above_fits =
          rw es (set_lt 64 0 (shifted r.window (n - r.highest)) (lit< tt) (shifted_lt r.window (n - r.highest))
          (shifted_low r.window (n - r.highest) 0 (lit< tt) (omega arith)))

      above_with-number : record { highest = n; window = s + 1 } ≡ with_number r n
      above_with-number = rw (es, max-eq_left (le_of_lt l), sub_self n)

      above_rise : n - r.highest ≡ rise r n
      above_rise = rw (max-eq_left (le_of_lt l))

      pub above_accepted : not integrity ≡ false →
          record { receive = record { highest = n; window = s + 1 }; verdict = Accepted (n - r.highest) } ≡ judged r n integrity
      unfolding judged
      above_accepted h = rw (ahead, unseen, h, above_with-number, above_rise)

  -- a number that is not above it
  module _ (l : n ≤ r.highest) (b : Bool) (eb : b ≡ behind r.highest n) where
    pub refused-behind : b ≡ true → record { receive = r; verdict = Refused 8197 } ≡ judged r n integrity
    unfolding judged
    refused-behind h = rw (← eb, h)

    module _ (live : b ≡ false) where
      pub within : r.highest - n < 64
      within = omega (arith, leb-false (n + 64) r.highest (neither (eqb n 0) (leb (n + 64) r.highest) (sym eb ∙ live)).1)

      pub refused_again : eqb (bit r.window (r.highest - n)) 1 ≡ true → record { receive = r; verdict = Refused 8194 } ≡ judged r n integrity
      unfolding judged
      refused_again h = rw (← eb, live, le-leb n r.highest l, h)

      module _ (unmarked : eqb (bit r.window (r.highest - n)) 1 ≡ false) where
        pub refused_broken : not integrity ≡ true → record { receive = r; verdict = Refused 24 } ≡ judged r n integrity
        unfolding judged
        refused_broken h = rw (← eb, live, le-leb n r.highest l, unmarked, h)

        clear : bit r.window (r.highest - n) ≡ 0
        clear = not-one (r.window / 2 ^ (r.highest - n)) (eqb-false (bit r.window (r.highest - n)) 1 unmarked)

        module _ (f : r.window < 2 ^ 64) where
          pub late_fits : r.window + 1 * 2 ^ (r.highest - n) % 2 ^ 64 < 2 ^ 64
          late_fits = rw (one_shl (r.highest - n) within) (set_lt 64 (r.highest - n) r.window within f clear)

          late_rise : 0 ≡ rise r n
          late_rise = rw (max-eq_right l, sub_self r.highest)

          late_with-number : record { highest = r.highest; window = r.window + 1 * 2 ^ (r.highest - n) % 2 ^ 64 } ≡ with_number r n
          late_with-number = rw (max-eq_right l, sub_self r.highest, one_shl (r.highest - n) within, mul-one r.window, mod-eq_of_lt f)

          pub late_accepted : not integrity ≡ false →
              record { receive = record { highest = r.highest; window = r.window + 1 * 2 ^ (r.highest - n) % 2 ^ 64 }; verdict = Accepted 0 }
              ≡ judged r n integrity
          unfolding judged
          late_accepted h = rw (← eb, live, le-leb n r.highest l, unmarked, h, late_with-number, late_rise)
