-- A law for each way out of this crate's functions: what is listed of a record as it is given.
use Prim.Native.Nat.{ℕ}
use mathlib.Core.Path.{◌≡◌, refl}
use mathlib.Core.List.{List, [], ◌∷◌}
use lib.ListN.{get_or}
use Rattle.exports_words.specs.Given.{given, left, words}
use Rattle.std.specs.Prelude.{Result, Ok, Err}
use Rattle.refusal.specs.Numbers.{number}
use Rattle.refusal.specs.declared.Refusal.{Refusal}
use Rattle.sequence_record.specs.Verdict.{Verdict, verdict_told}
use Rattle.sequence_record.specs.Verdict as Verdicts
use Rattle.sequence_record.specs.Receive.{verdict_answer}
use Rattle.sequence_table.specs.Table.{Table}
use Rattle.capture_frame.specs.declared.Addresses.{Addresses}
use Rattle.capture_frame.specs.Frame.{address_values}
use Rattle.capture_record.specs.declared.Listed.{Listed as CodeListed}
use Rattle.capture_record.specs.Listed.{listed_told, Listed, CutShort, NotIpv4, Fragment, OtherProtocol, OtherPorts, Keepalive, Enciphered, Read, Refused, ShortPacket, Packet}
use Rattle.capture_record.specs.Listing.{verdict_values, listed_answer}
use Rattle.exports_record.specs.Listings.{listed_given}

-- ---- a packet's verdict

module _ (verdict : Result ℕ Refusal) where
  pub verdict-accepted : (rise : ℕ) → verdict ≡ Ok rise → 0 ∷ rise ∷ [] ≡ words 2 (verdict_values (verdict_told verdict))
  unfolding words verdict_answer
  verdict-accepted rise is = rw is

  pub verdict-refused : (refusal : Refusal) → verdict ≡ Err refusal → (n : ℕ) → n ≡ number refusal →
      n ∷ 0 ∷ [] ≡ words 2 (verdict_values (verdict_told verdict))
  unfolding words verdict_answer
  verdict-refused refusal is n en = rw (is, en)

-- the verdict's two words behind the others, of a packet too short for an SPI and a number and of any other
short-ends : (verdict : Verdict) (addresses : Addresses) (protocol : ℕ) →
    10 ∷ address_values addresses (protocol ∷ get_or (words 2 (verdict_values verdict)) 0 0 ∷ get_or (words 2 (verdict_values verdict)) 1 0 ∷ 0 ∷ 0 ∷ [])
    ≡ words 8 (listed_answer (ShortPacket addresses protocol verdict)).values
unfolding words verdict_answer listed_answer
short-ends (Verdicts.Accepted rise) addresses protocol = refl
short-ends (Verdicts.Refused number) addresses protocol = refl

packet-ends : (verdict : Verdict) (addresses : Addresses) (protocol spi n : ℕ) →
    11 ∷ address_values addresses (protocol ∷ spi ∷ n ∷ get_or (words 2 (verdict_values verdict)) 0 0 ∷ get_or (words 2 (verdict_values verdict)) 1 0 ∷ [])
    ≡ words 8 (listed_answer (Packet addresses protocol spi n verdict)).values
unfolding words verdict_answer listed_answer
packet-ends (Verdicts.Accepted rise) addresses protocol spi n = refl
packet-ends (Verdicts.Refused refusal) addresses protocol spi n = refl

module _ (verdict : Verdict) (v : List ℕ) (is : v ≡ words 2 (verdict_values verdict)) (addresses : Addresses) (protocol : ℕ) where
  pub short-words : 10 ∷ address_values addresses (protocol ∷ get_or v 0 0 ∷ get_or v 1 0 ∷ 0 ∷ 0 ∷ []) ≡ words 8 (listed_answer (ShortPacket addresses protocol verdict)).values
  short-words = rw is (short-ends verdict addresses protocol)

  pub packet-words : (spi n : ℕ) →
      11 ∷ address_values addresses (protocol ∷ spi ∷ n ∷ get_or v 0 0 ∷ get_or v 1 0 ∷ []) ≡ words 8 (listed_answer (Packet addresses protocol spi n verdict)).values
  packet-words spi n = rw is (packet-ends verdict addresses protocol spi n)

-- ---- what is listed

pub listed_form : (listed form : CodeListed Refusal) → listed ≡ form → (ws : List ℕ) → ws ≡ words 8 (listed_answer (listed_told form)).values →
    ws ≡ words 8 (listed_answer (listed_told listed)).values
listed_form listed form is ws are = rw (is, are)

-- every form has values
listed-done : (listed : Listed) (out : List ℕ) → given 8 (listed_answer listed) out ≡ (0, words 8 (listed_answer listed).values)
unfolding given left listed_answer
listed-done CutShort out = refl
listed-done NotIpv4 out = refl
listed-done (Fragment addresses) out = refl
listed-done (OtherProtocol addresses protocol) out = refl
listed-done (OtherPorts addresses ports) out = refl
listed-done (Keepalive addresses) out = refl
listed-done (Enciphered addresses exchange id) out = refl
listed-done (Read addresses exchange count) out = refl
listed-done (Refused addresses number) out = refl
listed-done (ShortPacket addresses protocol verdict) out = refl
listed-done (Packet addresses protocol spi n verdict) out = refl

pub listed-given : (said : Listed × Table) (listed : Listed) (after : Table) → said ≡ (listed, after) → (ws : List ℕ) →
    ws ≡ words 8 (listed_answer listed).values → (out : List ℕ) → listed_given said out ≡ ((0, ws), after)
unfolding listed_given
listed-given said listed after is ws are out = rw (is, are, listed-done listed out)
