-- A law for each way out of this crate's functions: what the definitions say under the tests that the code makes.
use Rattle.std.specs.Prelude.{Option, None, Some}
use Rattle.std.specs.Int.{swap_bytes, w16, w32}
use Prim.Native.Nat.{ℕ, ◌+◌, ◌*◌, ◌%◌, ◌≤◌, ◌<◌}
use mathlib.Core.Path.{◌≡◌, ◌∙◌}
use mathlib.Core.List.{List}
use mathlib.Core.Bool.{true, false, not, ◌||◌, ◌&&◌}
use native.Mathlib.Omega.{arith}
use native.Mathlib.Nat.{add-zero, add_assoc}
use lib.ListN.{length, get_or}
use lib.Dec.{eqb}
use borrow.Author.Tests.{lt-ltb, le-ltb, eq-eqb, ne_eqb}
use Rattle.wire_read.specs.Wire.{number_at}
use Rattle.capture_header.specs.Headers.{lowest_first, number_in, magic, major_in, minor_in, link_type, in_order, file_header}
use Rattle.capture_header.specs.Headers.{seconds_in, microseconds_in, captured_in, original_in, record_header, nanoseconds, pcapng, order_cause, header_cause}
use Rattle.capture_header.specs.declared.Order.{Order}
use Rattle.capture_header.specs.declared.Order.TheVariants.{Big, Little}
use Rattle.capture_header.specs.FileHeader.{FileHeader}
use Rattle.capture_header.specs.FileHeader as Files
use Rattle.capture_header.specs.RecordHeader as Records
use Rattle.capture_header.specs.declared.HeaderCause.{HeaderCause}
use Rattle.capture_header.specs.declared.HeaderCause.TheVariants as Causes

-- ---- numbers in the file's own order

module _ (order : Order) (s : List ℕ) (i a : ℕ) where
  pub highest-first : (n : ℕ) → order ≡ Big → a ≡ number_at n s i → a ≡ number_in order n s i
  unfolding number_in
  highest-first n e h = rw e h

  -- a is what the bytes spell the highest first
  module _ (e : order ≡ Little) (fits : (k : ℕ) → get_or s k 0 < 256) (r : ℕ) where
    pub two-lowest-first : a ≡ number_at 2 s i → r ≡ swap_bytes w16 a → r ≡ number_in order 2 s i
    unfolding number_in lowest_first number_at
    two-lowest-first ea er =
        let spelled : a ≡ get_or s i 0 * 256 + get_or s (i + 1) 0 = ea ∙ rw add-zero (omega arith) in
        rw e (omega (arith, er, spelled, fits i, fits (i + 1)))

    pub four_lowest-first : a ≡ number_at 4 s i → r ≡ swap_bytes w32 a → r ≡ number_in order 4 s i
    unfolding number_in lowest_first number_at
    four_lowest-first ea er =
        let spelled : a ≡ get_or s i 0 * 16777216 + get_or s (i + 1) 0 * 65536 + get_or s (i + 2) 0 * 256 + get_or s (i + 3) 0 =
        ea ∙ rw add-zero (omega arith) in
        rw (e, add_assoc i 1 1, add_assoc i 2 1) (omega (arith, er, spelled, fits i, fits (i + 1), fits (i + 2), fits (i + 3)))

-- ---- the file's header

module _ (order : Order) (s : List ℕ) (major minor link : ℕ) (e₁ : major ≡ major_in order s) (e₂ : minor ≡ minor_in order s) (e₃ : link ≡ link_type order s) where
  pub in_order_read : (eqb major 2 && eqb minor 4 && eqb link 1) ≡ true → Files.Read order ≡ in_order order s
  unfolding in_order
  in_order_read h = rw (← e₁, ← e₂, ← e₃, h)

  pub in_order_refused : (eqb major 2 && eqb minor 4 && eqb link 1) ≡ false → Files.Refused 8201 ≡ in_order order s
  unfolding in_order
  in_order_refused h = rw (← e₁, ← e₂, ← e₃, h)

  -- what it is instead
  pub cause_version : not (eqb major 2 && eqb minor 4) ≡ true → Some (Causes.Version major minor) ≡ order_cause order s
  unfolding order_cause
  cause_version h = rw (← e₁, ← e₂, h)

  module _ (h : not (eqb major 2 && eqb minor 4) ≡ false) where
    pub cause_nothing : link ≡ 1 → None ≡ order_cause order s
    unfolding order_cause
    cause_nothing e = rw (← e₁, ← e₂, h, ← e₃, eq-eqb link 1 e)

    module _ (other : link ≡ 1 → ⊥) where
      pub cause_check_sequences : link % 65536 ≡ 1 → Some Causes.CheckSequences ≡ order_cause order s
      unfolding order_cause
      cause_check_sequences e = rw (← e₁, ← e₂, h, ← e₃, ne_eqb link 1 other, eq-eqb (link % 65536) 1 e)

      pub cause_link_type : (link % 65536 ≡ 1 → ⊥) → Some (Causes.LinkType (link % 65536)) ≡ order_cause order s
      unfolding order_cause
      cause_link_type e = rw (← e₁, ← e₂, h, ← e₃, ne_eqb link 1 other, ne_eqb (link % 65536) 1 e)

module _ (s : List ℕ) where
  pub file_short : length s < 24 → Files.Refused 8201 ≡ file_header s
  unfolding file_header
  file_short h = rw (lt-ltb (length s) 24 h)

  pub cause_short : length s < 24 → Some Causes.Short ≡ header_cause s
  unfolding header_cause
  cause_short h = rw (lt-ltb (length s) 24 h)

  module _ (long : 24 ≤ length s) (big : ℕ) (eb : big ≡ number_in Big 4 s 0) where
    pub file_big : big ≡ magic → (r : FileHeader) → r ≡ in_order Big s → r ≡ file_header s
    unfolding file_header
    file_big e r er = rw (le-ltb (length s) 24 long, ← eb, eq-eqb big magic e) er

    module _ (little : ℕ) (el : little ≡ number_in Little 4 s 0) where
      module _ (other : big ≡ magic → ⊥) where
        pub file_little : little ≡ magic → (r : FileHeader) → r ≡ in_order Little s → r ≡ file_header s
        unfolding file_header
        file_little e r er = rw (le-ltb (length s) 24 long, ← eb, ne_eqb big magic other, ← el, eq-eqb little magic e) er

        pub file_other : (little ≡ magic → ⊥) → Files.Refused 8201 ≡ file_header s
        unfolding file_header
        file_other e = rw (le-ltb (length s) 24 long, ← eb, ne_eqb big magic other, ← el, ne_eqb little magic e)

      pub cause_pcapng : big ≡ pcapng → Some Causes.Pcapng ≡ header_cause s
      unfolding header_cause
      cause_pcapng e = rw (le-ltb (length s) 24 long, ← eb, eq-eqb big pcapng e)

      module _ (other : big ≡ pcapng → ⊥) where
        pub cause_nanoseconds : (eqb big nanoseconds || eqb little nanoseconds) ≡ true → Some Causes.Nanoseconds ≡ header_cause s
        unfolding header_cause
        cause_nanoseconds e = rw (le-ltb (length s) 24 long, ← eb, ← el, ne_eqb big pcapng other, e)

        module _ (micro : (eqb big nanoseconds || eqb little nanoseconds) ≡ false) (r : Option HeaderCause) where
          pub cause_big : big ≡ magic → r ≡ order_cause Big s → r ≡ header_cause s
          unfolding header_cause
          cause_big e er = rw (le-ltb (length s) 24 long, ← eb, ← el, ne_eqb big pcapng other, micro, eq-eqb big magic e) er

          pub cause_little : (big ≡ magic → ⊥) → little ≡ magic → r ≡ order_cause Little s → r ≡ header_cause s
          unfolding header_cause
          cause_little h e er = rw (le-ltb (length s) 24 long, ← eb, ← el, ne_eqb big pcapng other, micro, ne_eqb big magic h, eq-eqb little magic e) er

        pub cause_none : (eqb big nanoseconds || eqb little nanoseconds) ≡ false → (big ≡ magic → ⊥) → (little ≡ magic → ⊥) →
            Some Causes.NoCapture ≡ header_cause s
        unfolding header_cause
        cause_none micro h e = rw (le-ltb (length s) 24 long, ← eb, ← el, ne_eqb big pcapng other, micro, ne_eqb big magic h, ne_eqb little magic e)

-- ---- a record's header

module _ (order : Order) (s : List ℕ) where
  pub record_cut_short : length s < 16 → Records.CutShort ≡ record_header order s
  unfolding record_header
  record_cut_short h = rw (lt-ltb (length s) 16 h)

  module _ (long : 16 ≤ length s) (captured : ℕ) (e₃ : captured ≡ captured_in order s) where
    pub record_refused : 65535 < captured → Records.Refused 8201 ≡ record_header order s
    unfolding record_header
    record_refused h = rw (le-ltb (length s) 16 long, ← e₃, lt-ltb 65535 captured h)

    pub record_read : captured ≤ 65535 → (seconds microseconds original : ℕ) → seconds ≡ seconds_in order s → microseconds ≡ microseconds_in order s →
        original ≡ original_in order s → Records.Read seconds microseconds captured original ≡ record_header order s
    unfolding record_header
    record_read h seconds microseconds original e₁ e₂ e₄ = rw (le-ltb (length s) 16 long, ← e₃, le-ltb 65535 captured h, e₁, e₂, e₄)
