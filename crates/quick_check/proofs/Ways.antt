-- A law for each way out of the functions that read.
use Prim.Native.Nat.{ℕ, ◌≤◌, ◌<◌}
use mathlib.Core.Path.{◌≡◌}
use mathlib.Core.List.{List}
use mathlib.Core.Bool.{Bool, true, false, not, ◌&&◌}
use lib.ListN.{length, get_or}
use lib.Dec.{eqb}
use borrow.Author.Tests.{eq-eqb, ne_eqb, lt-ltb, le-ltb}
use Rattle.wire_read.specs.Wire.{number_at}
use Rattle.message_chain.specs.Message.{Message}
use Rattle.message_chain.specs.Message.{Refused, Read}
use Rattle.quick_end.specs.Fresh.{is_idle, is_initiator}
use Rattle.quick_shape.specs.Shapes.{shape}
use Rattle.quick_check.specs.Checks.{cookies_not_own, quick_code, read_code}
use Rattle.quick_end.specs.declared.State.{State}
use Rattle.quick_end.specs.declared.Own.{Own}

-- ---- the checks

module _ (own : Own) (state : State) (id exchange count : ℕ) (m : List ℕ) where
  pub quick-exchange : (exchange ≡ 32 → ⊥) → 7 ≡ quick_code own state id exchange count m
  unfolding quick_code
  quick-exchange h = rw (ne_eqb exchange 32 h)

  module _ (quick : exchange ≡ 32) (flags : ℕ) (ef : flags ≡ get_or m 19 0) where
    pub quick_flags : (flags ≡ 1 → ⊥) → 8 ≡ quick_code own state id exchange count m
    unfolding quick_code
    quick_flags h = rw (eq-eqb exchange 32 quick, ← ef, ne_eqb flags 1 h)

    module _ (flagged : flags ≡ 1) (idle first : Bool) (ei : idle ≡ is_idle state) (er : first ≡ is_initiator own.role) where
      pub quick-begins : (first && idle) ≡ true → 8195 ≡ quick_code own state id exchange count m
      unfolding quick_code
      quick-begins h = rw (eq-eqb exchange 32 quick, ← ef, eq-eqb flags 1 flagged, ← er, ← ei, h)

      module _ (answers : (first && idle) ≡ false) (wrong : Bool) (ew : wrong ≡ cookies_not_own own m) where
        pub quick-cookies : wrong ≡ true → 4 ≡ quick_code own state id exchange count m
        unfolding quick_code
        quick-cookies h = rw (eq-eqb exchange 32 quick, ← ef, eq-eqb flags 1 flagged, ← er, ← ei, answers, ← ew, h)

        module _ (known : wrong ≡ false) (told : ℕ) (et : told ≡ number_at 4 m 20) where
          pub quick-id : (not idle && not (eqb told id)) ≡ true → 9 ≡ quick_code own state id exchange count m
          unfolding quick_code
          quick-id h = rw (eq-eqb exchange 32 quick, ← ef, eq-eqb flags 1 flagged, ← er, ← ei, answers, ← ew, known, ← et, h)

          module _ (same : (not idle && not (eqb told id)) ≡ false) (found : ℕ) (es : found ≡ shape count m) where
            pub quick-shape : found ≡ 0 → 16 ≡ quick_code own state id exchange count m
            unfolding quick_code
            quick-shape h = rw (eq-eqb exchange 32 quick, ← ef, eq-eqb flags 1 flagged, ← er, ← ei, answers, ← ew, known, ← et, same, ← es, eq-eqb found 0 h)

            module _ (shaped : found ≡ 0 → ⊥) where
              pub quick-long : 2048 < length m → 30 ≡ quick_code own state id exchange count m
              unfolding quick_code
              quick-long h =
                  rw (eq-eqb exchange 32 quick, ← ef, eq-eqb flags 1 flagged, ← er, ← ei, answers, ← ew, known, ← et, same, ← es)
                  (rw (ne_eqb found 0 shaped, lt-ltb 2048 (length m) h))

              pub quick_passed : length m ≤ 2048 → 0 ≡ quick_code own state id exchange count m
              unfolding quick_code
              quick_passed h =
                  rw (eq-eqb exchange 32 quick, ← ef, eq-eqb flags 1 flagged, ← er, ← ei, answers, ← ew, known, ← et, same, ← es)
                  (rw (ne_eqb found 0 shaped, le-ltb 2048 (length m) h))
