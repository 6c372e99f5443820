-- A law for each way out of this crate's functions: what the definitions say under the tests that the code makes.
use Prim.Native.Nat.{ℕ, ◌+◌, ◌*◌, ◌≤◌, ◌<◌}
use mathlib.Core.Path.{◌≡◌}
use mathlib.Core.List.{List}
use mathlib.Core.Bool.{true, false, ◌&&◌}
use lib.ListN.{length}
use lib.Dec.{leb, eqb}
use borrow.Author.Tests.{le-leb, lt-leb, ne_eqb}
use Rattle.sequence_packet.specs.Packets.{ah_length_field, ah_reserved, ah_spi, ah_number, esp_spi, esp_number, ah, esp, read}
use Rattle.sequence_packet.specs.Packet.{Packet}
use Rattle.sequence_packet.specs.Packet as Packets

module _ (s : List ℕ) (l z : ℕ) (el : l ≡ ah_length_field s) (ez : z ≡ ah_reserved s) where
  pub ah-read : (leb 12 (length s) && eqb z 0 && leb 12 ((l + 2) * 4) && leb ((l + 2) * 4) (length s)) ≡ true →
      (a n : ℕ) → a ≡ ah_spi s → n ≡ ah_number s → Packets.Read a n ≡ ah s
  unfolding ah
  ah-read h a n ea en = rw (← el, ← ez, h, ea, en)

  pub ah-refused : (leb 12 (length s) && eqb z 0 && leb 12 ((l + 2) * 4) && leb ((l + 2) * 4) (length s)) ≡ false → Packets.Refused 16 ≡ ah s
  unfolding ah
  ah-refused h = rw (← el, ← ez, h)

module _ (s : List ℕ) where
  pub esp-read : 8 ≤ length s → (a n : ℕ) → a ≡ esp_spi s → n ≡ esp_number s → Packets.Read a n ≡ esp s
  unfolding esp
  esp-read h a n ea en = rw (le-leb 8 (length s) h, ea, en)

  pub esp-refused : length s < 8 → Packets.Refused 16 ≡ esp s
  unfolding esp
  esp-refused h = rw (lt-leb 8 (length s) h)

  module _ (protocol : ℕ) where
    pub read-ah : protocol ≡ 2 → (p : Packet) → p ≡ ah s → p ≡ read protocol s
    unfolding read
    read-ah e p ep = rw e ep

    pub read-esp : protocol ≡ 3 → (p : Packet) → p ≡ esp s → p ≡ read protocol s
    unfolding read
    read-esp e p ep = rw e ep

    pub read_unknown : (protocol ≡ 2 → ⊥) → (protocol ≡ 3 → ⊥) → Packets.Refused 10 ≡ read protocol s
    unfolding read
    read_unknown no_ah no_esp = rw (ne_eqb protocol 2 no_ah, ne_eqb protocol 3 no_esp)
