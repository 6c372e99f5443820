-- A law for each way out of this crate's functions.
use Prim.Native.Nat.{ℕ, zero, suc, ◌+◌, ◌-◌, ◌≤◌, ◌<◌}
use mathlib.Core.Path.{◌≡◌, refl, ◌∙◌}
use mathlib.Core.List.{List}
use mathlib.Core.Bool.{Bool, true, false, not, ◌||◌}
use native.Mathlib.Omega.{arith}
use native.Mathlib.Nat.{sub-zero}
use lib.ListN.{length, get_or, drop}
use lib.Dec.{eqb}
use borrow.Author.Tests.{ne_eqb}
use Rattle.wire_read.specs.Wire.{number_at}
use Rattle.wire_read.specs.Tests.{if◌then◌otherwise◌}
use Rattle.message_header.specs.Header.{header_code}
use Rattle.message_payload.specs.Payloads.{payload_code, rest_code}
use Rattle.message_chain.proofs.Laws.{count-more}
use Rattle.message_chain.specs.Message.{Reading, chain, reading, exchange_and_count, message, walk, payload_at}
use Rattle.message_chain.specs.declared.Payload.{Payload}
use Rattle.message_chain.specs.Message.{Message}
use Rattle.message_chain.specs.Message.{Refused, Read}

-- ---- the chain

count_if : (exchange n : ℕ) (t : Bool) (r q : Reading) →
    exchange_and_count exchange n (if t then r otherwise q) ≡ (if t then exchange_and_count exchange n r otherwise exchange_and_count exchange n q)
count_if exchange n true r q = refl
count_if exchange n false r q = refl

-- what is counted of a chain that may go on: where it starts does not matter
module _ (exchange flags : ℕ) where
  chain-step : (n left : ℕ) (offered : Bool) (type start : ℕ) (s : List ℕ) → (left ≡ 0 → ⊥) →
      exchange_and_count exchange n (chain left exchange flags offered type start s)
      ≡ (if not (eqb (payload_code exchange offered type s) 0) then Refused (payload_code exchange offered type s)
      otherwise if not (eqb (get_or s 0 0) 0)
      then exchange_and_count exchange (n + 1)
      (chain (left - 1) exchange flags (offered || eqb type 1) (get_or s 0 0) (start + number_at 2 s 2) (drop (number_at 2 s 2) s))
      otherwise if not (eqb (rest_code flags (drop (number_at 2 s 2) s)) 0) then Refused (rest_code flags (drop (number_at 2 s 2) s))
      otherwise Read exchange (n + 1))
  unfolding chain exchange_and_count
  chain-step n zero offered type start s h = absurd (h refl)
  chain-step n (suc left) offered type start s h =
      let i : suc left - 1 ≡ left = omega arith in
      let one : n + 1 + 0 ≡ n + 1 = omega arith in
      rw (i, count_if, count-more, count_if, count_if, one)

  none-start : (n : ℕ) (offered : Bool) (type i j : ℕ) (s : List ℕ) →
      exchange_and_count exchange n (chain 0 exchange flags offered type i s) ≡ exchange_and_count exchange n (chain 0 exchange flags offered type j s)
  unfolding chain
  none-start n offered type i j s = refl

  same_start : (n left : ℕ) (offered : Bool) (type i j : ℕ) (s : List ℕ) →
      exchange_and_count exchange n (chain left exchange flags offered type i s) ≡ exchange_and_count exchange n (chain left exchange flags offered type j s)
  same_start n zero offered type i j s = none-start n offered type i j s
  same_start n (suc left) offered type i j s =
      let e : suc left - 1 ≡ left = omega arith in
      let next = same_start (n + 1) left (offered || eqb type 1) (get_or s 0 0) (i + number_at 2 s 2) (j + number_at 2 s 2) (drop (number_at 2 s 2) s) in
      let some : suc left ≡ 0 → ⊥ = λ z. omega arith in
      rw (chain-step n (suc left) offered type i s some, chain-step n (suc left) offered type j s some, e, next)

module _ (left exchange flags : ℕ) (offered : Bool) (type : ℕ) (s : List ℕ) where
  pub chain-none : left ≡ 0 → Refused 16 ≡ exchange_and_count exchange (32 - left) (chain left exchange flags offered type 0 s)
  unfolding chain exchange_and_count
  chain-none z = rw z

  module _ (few : left ≤ 32) (may : left ≡ 0 → ⊥) (code : ℕ) (ec : code ≡ payload_code exchange offered type s) where
    pub chain-refused : (code ≡ 0 → ⊥) → Refused code ≡ exchange_and_count exchange (32 - left) (chain left exchange flags offered type 0 s)
    chain-refused h = rw (chain-step exchange flags (32 - left) left offered type 0 s may, ← ec, ne_eqb code 0 h)

    module _ (fine : code ≡ 0) (next n : ℕ) (rest : List ℕ) (ex : next ≡ get_or s 0 0) (el : n ≡ number_at 2 s 2) (er : rest ≡ drop n s) where
      pub chain-on : (next ≡ 0 → ⊥) → (r : Message) →
          r ≡ exchange_and_count exchange (32 - (left - 1)) (chain (left - 1) exchange flags (offered || eqb type 1) next 0 rest) →
          r ≡ exchange_and_count exchange (32 - left) (chain left exchange flags offered type 0 s)
      chain-on h r e =
          let one : 32 - left + 1 ≡ 32 - (left - 1) = omega arith in
          rw (chain-step exchange flags (32 - left) left offered type 0 s may, ← ec, fine, ← ex, ne_eqb next 0 h, ← el, ← er, one)
          (e ∙ same_start exchange flags (32 - (left - 1)) (left - 1) (offered || eqb type 1) next 0 (0 + n) rest)

      module _ (last : next ≡ 0) (code2 : ℕ) (er2 : code2 ≡ rest_code flags rest) where
        pub chain-rest : (code2 ≡ 0 → ⊥) → Refused code2 ≡ exchange_and_count exchange (32 - left) (chain left exchange flags offered type 0 s)
        chain-rest h = rw (chain-step exchange flags (32 - left) left offered type 0 s may, ← ec, fine, ← ex, last, ← el, ← er, ← er2, ne_eqb code2 0 h)

        pub chain-end : code2 ≡ 0 → Read exchange (33 - left) ≡ exchange_and_count exchange (32 - left) (chain left exchange flags offered type 0 s)
        chain-end h =
            let one : 33 - left ≡ 32 - left + 1 = omega arith in
            rw (chain-step exchange flags (32 - left) left offered type 0 s may, ← ec, fine, ← ex, last, ← el, ← er, ← er2, h, one)

-- ---- the message

module _ (m : List ℕ) (code : ℕ) (ec : code ≡ header_code m) where
  pub read-refused : (code ≡ 0 → ⊥) → Refused code ≡ message m
  unfolding message reading exchange_and_count
  read-refused h = rw (← ec, ne_eqb code 0 h)

  pub read-chain : code ≡ 0 → (exchange flags type : ℕ) (rest : List ℕ) (r : Message) → exchange ≡ get_or m 18 0 → flags ≡ get_or m 19 0 →
      type ≡ get_or m 16 0 → rest ≡ drop 28 m →
      r ≡ exchange_and_count exchange (32 - 32) (chain 32 exchange flags false type 0 rest) → r ≡ message m
  unfolding message reading
  read-chain h exchange flags type rest r ex ef et er e =
      rw (← ec, h, ← ex, ← ef, ← et, ← er) (e ∙ same_start exchange flags 0 32 false type 0 28 rest)

-- ---- payload k

pub walk-begin : (k type : ℕ) (m : List ℕ) → type ≡ get_or m 16 0 → walk (k - 0) type 28 m ≡ payload_at k m
unfolding payload_at
walk-begin k type m e = rw (sub-zero k, e)

module _ (k i type start : ℕ) (m : List ℕ) (goal : Payload) (so_far : walk (k - i) type start m ≡ goal) where
  pub walk-on : i < k → (next n : ℕ) → next ≡ get_or m start 0 → n ≡ number_at 2 m (start + 2) → walk (k - (i + 1)) next (start + n) m ≡ goal
  unfolding walk
  walk-on h next n ex el =
      let e : k - i ≡ suc (k - (i + 1)) = omega arith in
      rw (ex, el) (rw e at so_far)

  pub walk_end : k ≤ i → (n : ℕ) → n ≡ number_at 2 m (start + 2) → record { payloadtype = type; start = start; length = n } ≡ goal
  unfolding walk
  walk_end h n el =
      let e : k - i ≡ 0 = omega arith in
      rw el (rw e at so_far)
