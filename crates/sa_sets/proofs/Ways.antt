-- A law for each way out of the functions on sets.
use Prim.Native.Nat.{ℕ, zero, suc, ◌+◌, ◌-◌, ◌≤◌}
use mathlib.Core.Path.{◌≡◌, refl}
use mathlib.Core.List.{List}
use mathlib.Core.Bool.{true, false, not, ◌||◌}
use native.Mathlib.Omega.{arith}
use lib.ListN.{length, get_or, take, drop}
use lib.Dec.{ltb, eqb}
use borrow.Author.Tests.{lt-ltb}
use Rattle.wire_read.specs.Wire.{number_at}
use Rattle.wire_read.specs.Tests.{if◌then◌otherwise◌}
use Rattle.wire_read.specs.Parts.{skip, parts, numbered}
use Rattle.sa_fields.specs.declared.ProposalNumber.{ProposalNumber}
use Rattle.sa_sets.specs.Sets.{set_end, first_set, after_set, set, set_count, set_numbered}

module _ (s r : List ℕ) (number end : ℕ) (en : number ≡ get_or s 4 0) (ee : end ≡ set_end 16 number s 0) where
  pub set_first : r ≡ take end s → r ≡ first_set s
  unfolding first_set
  set_first er = rw (← en, ← ee) er

  pub set_after : r ≡ drop end s → r ≡ after_set s
  unfolding after_set
  set_after er = rw (← en, ← ee) er

module _ (body all : List ℕ) (ea : all ≡ drop 8 body) where
  pub set_at : (k : ℕ) (rest r : List ℕ) → r ≡ first_set rest → rest ≡ skip after_set k all → r ≡ set k body
  unfolding set
  set_at k rest r er es = rw (← ea, ← es) er

  pub sets_counted : (r : ℕ) → r ≡ parts after_set 16 all → r ≡ set_count body
  unfolding set_count
  sets_counted r er = rw (← ea) er

  pub set-of-number : (number : ProposalNumber) (r : List ℕ) → r ≡ numbered first_set after_set 16 number.0 all → r ≡ set_numbered number body
  unfolding set_numbered
  set-of-number number r er = rw (← ea) er

end_step : (left number : ℕ) (s : List ℕ) (at : ℕ) → (left ≡ 0 → ⊥) →
    set_end left number s at
    ≡ (if ltb (length s) (at + 8) || not (eqb (get_or s (at + 4) 0) number) then at
    otherwise set_end (left - 1) number s (at + number_at 2 s (at + 2)))
unfolding set_end
end_step zero number s at h = absurd (h refl)
end_step (suc left) number s at h = let i : suc left - 1 ≡ left = omega arith in rw i

module _ (left number : ℕ) (s : List ℕ) (at : ℕ) where
  pub end-out : left ≡ 0 → at ≡ set_end left number s at
  unfolding set_end
  end-out z = rw z

  module _ (may : left ≡ 0 → ⊥) where
    pub end_past : length s ≤ at → at ≡ set_end left number s at
    end_past h = rw (end_step left number s at may, lt-ltb (length s) (at + 8) (omega arith))

    module _ (b : ℕ) (eb : b ≡ get_or s (at + 4) 0) where
      pub end-other : (ltb (length s) (at + 8) || not (eqb b number)) ≡ true → at ≡ set_end left number s at
      end-other h = rw (end_step left number s at may, ← eb, h)

      pub end_on : (ltb (length s) (at + 8) || not (eqb b number)) ≡ false → (n r : ℕ) → n ≡ number_at 2 s (at + 2) →
          r ≡ set_end (left - 1) number s (at + n) → r ≡ set_end left number s at
      end_on h n r en e = rw (end_step left number s at may, ← eb, h, ← en) e
