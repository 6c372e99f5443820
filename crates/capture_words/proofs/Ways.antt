-- What is said piece by piece is said as one; then a law for each way out of a function that goes by cases.
use Prim.Native.Nat.{ℕ, ◌+◌, ◌-◌, ◌/◌, ◌%◌, ◌≤◌, ◌<◌}
use mathlib.Core.Path.{◌≡◌, refl}
use mathlib.Core.List.{[], ◌∷◌, ◌++◌}
use native.Mathlib.Omega.{arith}
use native.Mathlib.Numerals.{add-one}
use lib.ListN.{length}
use borrow.Author.Tests.{lt-ltb, le-ltb, eq-eqb, ne_eqb}
use Rattle.wire_read.specs.Wire.{Bytes}
use Rattle.wire_write.specs.Put.{paste}
use Rattle.message_chain.specs.declared.Payload.{Payload}
use Rattle.message_chain.specs.Message.{payload_at}
use Rattle.policy_choice.specs.Choice.{choice_by}
use Rattle.policy_choice.specs.declared.Choice.{Choice as Chosen}
use Rattle.std.specs.Prelude.{Result}
use Rattle.sequence_record.specs.Verdict.{Verdict}
use Rattle.capture_frame.specs.declared.Addresses.{Addresses}
use Rattle.capture_record.specs.declared.Listed.{Listed as CodeListed}
use Rattle.capture_record.specs.Listed.{listed_by}
use Rattle.capture_record.specs.Listing.{ah_protocol}
use Rattle.bench_words.specs.Say.{Said, hex_digit_ascii, decimal_text, number_text, verdict_text}
use Rattle.bench_words.proofs.SayLaws.{said-on, said-both, said-text}
use Rattle.capture_words.specs.Texts.{marked_text, counted_text, six_digits, hex_digits, address_text, addressed_text, enciphered_text, payload_text, payloads_text, read_text, named_text, spi_text, packet_text, what_text, choice_text}

-- ---- pieces

module _ (a b c d : Bytes) (at r s t : ℕ) (u v w : Bytes) (first : Said a at u r b) (second : Said b r v s c) (third : Said c s w t d) where
  three : Said a at (u ++ v ++ w) t d
  three = said-on a c d at s t (u ++ v) w (said-on a b c at r s u v first second) third

  pub said-three : (text : Bytes) → u ++ v ++ w ≡ text → Said a at text t d
  said-three text e = said-text a d at t (u ++ v ++ w) text three e

  four : (f : Bytes) (i : ℕ) (x : Bytes) → Said d t x i f → Said a at (u ++ v ++ w ++ x) i f
  four f i x fourth = said-on a d f at t i (u ++ v ++ w) x three fourth

-- ---- digits

module _ (n r : ℕ) where
  pub decimal_glyph : r ≡ 48 + n % 10 → r ≡ hex_digit_ascii (n % 10)
  decimal_glyph e = rw (lt-ltb (n % 10) 10 (omega arith)) e

  pub hex_low : n % 16 < 10 → r ≡ 48 + n % 16 → r ≡ hex_digit_ascii (n % 16)
  hex_low h e = rw (lt-ltb (n % 16) 10 h) e

  pub hex-high : 10 ≤ n % 16 → r ≡ 97 + (n % 16 - 10) → r ≡ hex_digit_ascii (n % 16)
  hex-high h e = rw (le-ltb (n % 16) 10 h) (omega arith)

module _ (l m : Bytes) (at r n : ℕ) where
  pub hex-said : (a b c d e f g h : ℕ) → a ≡ hex_digit_ascii (n / 268435456 % 16) → b ≡ hex_digit_ascii (n / 16777216 % 16) → c ≡ hex_digit_ascii (n / 1048576 % 16) →
      d ≡ hex_digit_ascii (n / 65536 % 16) → e ≡ hex_digit_ascii (n / 4096 % 16) → f ≡ hex_digit_ascii (n / 256 % 16) → g ≡ hex_digit_ascii (n / 16 % 16) → h ≡ hex_digit_ascii (n % 16) →
      Said l at (a ∷ b ∷ c ∷ d ∷ e ∷ f ∷ g ∷ h ∷ []) r m → Said l at (hex_digits n) r m
  hex-said a b c d e f g h ea eb ec ed ee ef eg eh p =
      let two : n / 16 / 16 ≡ n / 256 = omega arith in
      let three : n / 256 / 16 ≡ n / 4096 = omega arith in
      let four : n / 4096 / 16 ≡ n / 65536 = omega arith in
      let five : n / 65536 / 16 ≡ n / 1048576 = omega arith in
      let six : n / 1048576 / 16 ≡ n / 16777216 = omega arith in
      let seven : n / 16777216 / 16 ≡ n / 268435456 = omega arith in
      said-text l m at r _ (hex_digits n) p (rw (two, three, four, five, six, seven, ea, eb, ec, ed, ee, ef, eg, eh))

  pub six_said : (a b c d e f : ℕ) → a ≡ hex_digit_ascii (n / 100000 % 10) → b ≡ hex_digit_ascii (n / 10000 % 10) → c ≡ hex_digit_ascii (n / 1000 % 10) →
      d ≡ hex_digit_ascii (n / 100 % 10) → e ≡ hex_digit_ascii (n / 10 % 10) → f ≡ hex_digit_ascii (n % 10) → n < 1000000 →
      Said l at (a ∷ b ∷ c ∷ d ∷ e ∷ f ∷ []) r m → Said l at (six_digits n) r m
  unfolding six_digits
  six_said a b c d e f ea eb ec ed ee ef h p =
      let two : n / 10 / 10 ≡ n / 100 = omega arith in
      let three : n / 100 / 10 ≡ n / 1000 = omega arith in
      let four : n / 1000 / 10 ≡ n / 10000 = omega arith in
      let five : n / 10000 / 10 ≡ n / 100000 = omega arith in
      said-text l m at r _ (six_digits n) p (rw (lt-ltb n 1000000 h, two, three, four, five, ea, eb, ec, ed, ee, ef))

  pub more-said : 1000000 ≤ n → Said l at (decimal_text n) r m → Said l at (six_digits n) r m
  unfolding six_digits
  more-said h p = rw (le-ltb n 1000000 h) p

-- ---- of four pieces

module _ (a b c d f : Bytes) (at r s t i : ℕ) where
  pub address_said : (n : ℕ) → Said a at (decimal_text (n / 16777216)) r b → Said b r (marked_text 46 (n / 65536 % 256)) s c →
      Said c s (marked_text 46 (n / 256 % 256)) t d → Said d t (marked_text 46 (n % 256)) i f → Said a at (address_text n) i f
  address_said n first second third fourth = four a b c d at r s t _ _ _ first second third f i _ fourth

  module _ (addresses : Addresses) where
    pub enciphered_said : (exchange id : ℕ) →
        Said a at (addressed_text addresses (32 ∷ 101 ∷ 110 ∷ 99 ∷ 105 ∷ 112 ∷ 104 ∷ 101 ∷ 114 ∷ 101 ∷ 100 ∷
        32 ∷ 101 ∷ 120 ∷ 99 ∷ 104 ∷ 97 ∷ 110 ∷ 103 ∷ 101 ∷ [])) r b →
        Said b r (number_text exchange) s c → Said c s (32 ∷ 105 ∷ 100 ∷ 32 ∷ []) t d → Said d t (hex_digits id) i f →
        Said a at (enciphered_text addresses exchange id) i f
    enciphered_said exchange id first second third fourth = four a b c d at r s t _ _ _ first second third f i _ fourth

    pub read-said : (exchange count : ℕ) (m : Bytes) → Said a at (addressed_text addresses (32 ∷ 101 ∷ 120 ∷ 99 ∷ 104 ∷ 97 ∷ 110 ∷ 103 ∷ 101 ∷ [])) r b →
        Said b r (number_text exchange) s c → Said c s (counted_text (32 ∷ 112 ∷ 97 ∷ 121 ∷ 108 ∷ 111 ∷ 97 ∷ 100 ∷ 115 ∷ []) count) t d →
        Said d t (payloads_text count m) i f → Said a at (read_text addresses exchange count m) i f
    read-said exchange count m first second third fourth = four a b c d at r s t _ _ _ first second third f i _ fourth

    pub packet-said : (protocol spi number : ℕ) (verdict : Verdict) → Said a at (named_text addresses protocol) r b → Said b r (spi_text spi number) s c →
        Said c s (32 ∷ []) t d → Said d t (verdict_text verdict) i f → Said a at (packet_text addresses protocol spi number verdict) i f
    packet-said protocol spi number verdict first second third fourth = four a b c d at r s t _ _ _ first second third f i _ fourth

-- ---- by cases

module _ (l m : Bytes) (at r : ℕ) where
  pub ah-said : (addresses : Addresses) (protocol : ℕ) → protocol ≡ 2 → Said l at (addressed_text addresses (32 ∷ 65 ∷ 72 ∷ 32 ∷ [])) r m →
      Said l at (named_text addresses protocol) r m
  unfolding named_text
  ah-said addresses protocol h p = rw (eq-eqb protocol ah_protocol h) p

  pub esp-said : (addresses : Addresses) (protocol : ℕ) → (protocol ≡ 2 → ⊥) → Said l at (addressed_text addresses (32 ∷ 69 ∷ 83 ∷ 80 ∷ 32 ∷ [])) r m →
      Said l at (named_text addresses protocol) r m
  unfolding named_text
  esp-said addresses protocol h p = rw (ne_eqb protocol ah_protocol h) p

  module _ {R : Type 0} (numbered : R → ℕ) where
    pub what-said : (listed is : CodeListed R) (msg text : Bytes) → listed ≡ is → Said l at text r m → text ≡ what_text (listed_by numbered is) msg →
        Said l at (what_text (listed_by numbered listed) msg) r m
    what-said listed is msg text h p e = rw h (said-text l m at r text (what_text (listed_by numbered is) msg) p e)

    pub choice-said : (choice is : Result Chosen R) (text : Bytes) → choice ≡ is → Said l at text r m → text ≡ choice_text (choice_by numbered is) →
        Said l at (choice_text (choice_by numbered choice)) r m
    choice-said choice is text h p e = rw h (said-text l m at r text (choice_text (choice_by numbered is)) p e)

-- ---- payloads

pub payloads-start : (l msg : Bytes) (r : ℕ) → r ≤ length l → Said l r (payloads_text 0 msg) r l
unfolding payloads_text paste
payloads-start l msg r h = (refl, omega arith)

module _ (l m n : Bytes) (at r s k : ℕ) (msg : Bytes) where
  pub payloads-on : (p : Payload) → Said l at (payloads_text k msg) r m → p ≡ payload_at k msg → Said m r (payload_text p) s n →
      Said l at (payloads_text (k + 1) msg) s n
  unfolding payloads_text
  payloads-on p before e next = rw (add-one k) (said-both l m n at r s (payloads_text k msg) (payload_text p) _ before next (rw e))

  pub payloads-end : (count : ℕ) → Said l at [] r m → Said m r (payloads_text k msg) s n → k ≤ count → count ≤ k → Said l at (payloads_text count msg) s n
  payloads-end count none all h g = let e : k ≡ count = omega arith in said-both l m n at r s [] (payloads_text k msg) _ none all (rw e)
