-- A law for each way out of this crate's functions.
use Prim.Native.Nat.{ℕ, ◌-◌, ◌≤◌, ◌<◌}
use mathlib.Core.Path.{◌≡◌}
use mathlib.Core.List.{List, [], ◌∷◌}
use mathlib.Core.Bool.{Bool, true, false}
use lib.ListN.{length, take, drop}
use Rattle.std.specs.Prelude.{Result, Ok, Err}
use borrow.Author.Tests.{lt-ltb, le-ltb}
use Rattle.wire_read.specs.Wire.{equal}
use Rattle.port4500.specs.Port.{Keepalive, KeyExchange, Esp, Refused, marker, datagram, datagram_told, handed_on}
use Rattle.refusal.specs.declared.Refusal.{Refusal}
use Rattle.port4500.specs.declared.Datagram.{Datagram as Lawful}
use Rattle.port4500.specs.declared.Datagram.TheVariants as Codes

module _ (s : List ℕ) (k : Bool) (ek : k ≡ equal s (255 ∷ [])) where
  pub keepalive : k ≡ true → Keepalive ≡ datagram s
  unfolding datagram
  keepalive h = rw (← ek, h)

  module _ (other : k ≡ false) where
    pub short : length s < 4 → Refused 16 ≡ datagram s
    unfolding datagram
    short h = rw (← ek, other, lt-ltb (length s) 4 h)

    module _ (long : 4 ≤ length s) (t : List ℕ) (m : Bool) (et : t ≡ take 4 s) (em : m ≡ equal t marker) where
      marked : m ≡ equal (take 4 s) marker
      marked = cc

      pub key_exchange : m ≡ true → KeyExchange 4 (length s - 4) ≡ datagram s
      unfolding datagram
      key_exchange h = rw (← ek, other, le-ltb (length s) 4 long, ← marked, h)

      pub esp : m ≡ false → Esp (length s) ≡ datagram s
      unfolding datagram
      esp h = rw (← ek, other, le-ltb (length s) 4 long, ← marked, h)

-- ---- what is handed on: r is what the code read, t the part that it takes

module _ (s : List ℕ) (r : Result Lawful Refusal) (read : datagram_told r ≡ datagram s) where
  module _ (d : Lawful) (is : r ≡ Ok d) where
    pub rest-handed : (start n : ℕ) → d ≡ Codes.KeyExchange start n → (t : List ℕ) → t ≡ drop start s → t ≡ handed_on (datagram s) s
    unfolding handed_on
    rest-handed start n e t et = rw (← read, is, e) et

    pub whole-handed : (n : ℕ) → d ≡ Codes.Esp n → s ≡ handed_on (datagram s) s
    unfolding handed_on
    whole-handed n e = rw (← read, is, e)

    pub keepalive-handed : d ≡ Codes.Keepalive → [] ≡ handed_on (datagram s) s
    unfolding handed_on
    keepalive-handed e = rw (← read, is, e)

  pub refused-handed : (refusal : Refusal) → r ≡ Err refusal → [] ≡ handed_on (datagram s) s
  unfolding handed_on
  refused-handed refusal e = rw (← read, e)
