-- A law for each way out of the functions that read by the shape.
use Prim.Native.Nat.{ℕ}
use mathlib.Core.Path.{◌≡◌}
use mathlib.Core.List.{List}
use mathlib.Core.Bool.{Bool, true, false, ◌||◌, ◌&&◌}
use lib.ListN.{length, take, drop}
use lib.Dec.{eqb}
use Rattle.wire_read.specs.Wire.{equal}
use Rattle.message_chain.specs.Message.{message}
use Rattle.message_chain.specs.Message.{Message}
use Rattle.message_chain.specs.Message.{Refused, Read}
use Rattle.policy_choice.specs.Choice.{body_at}
use Rattle.quick_end.specs.declared.Role.{Role}
use Rattle.quick_end.specs.declared.Role.TheVariants.{Initiator, Responder}
use Rattle.quick_shape.specs.Shapes.{type_is, shape, is_longer, alike, count_of, shape_of, nonce_read, nonce_in, nonce}

-- ---- shape

module _ (count : ℕ) (m : List ℕ) (k1 k2 k3 k4 k0 : Bool) (e1 : k1 ≡ type_is 1 m 1) (e2 : k2 ≡ type_is 2 m 10) (e3 : k3 ≡ type_is 3 m 5)
    (e4 : k4 ≡ type_is 4 m 5) (e0 : k0 ≡ type_is 0 m 8) where
  pub shape-known : (k0 && (eqb count 1 || k1 && k2 && (eqb count 3 || eqb count 5 && k3 && k4))) ≡ true → count ≡ shape count m
  unfolding shape
  shape-known h = rw (← e0, ← e1, ← e2, ← e3, ← e4, h)

  pub shape-other : (k0 && (eqb count 1 || k1 && k2 && (eqb count 3 || eqb count 5 && k3 && k4))) ≡ false → 0 ≡ shape count m
  unfolding shape
  shape-other h = rw (← e0, ← e1, ← e2, ← e3, ← e4, h)

pub shape-read : (m : List ℕ) (c : Message) (count r : ℕ) → r ≡ shape count m → count ≡ count_of c → c ≡ message m → r ≡ shape_of m
unfolding shape_of
shape-read m c count r er en ec = rw (← ec, ← en) er

-- ---- equal messages

pub both-alike : (m n a b d e : List ℕ) (front behind : Bool) → front ≡ equal a b → a ≡ take 32 m → b ≡ take 32 n → behind ≡ equal d e → d ≡ drop 64 m →
    e ≡ drop 64 n → (eqb (length m) (length n) && front && behind) ≡ alike m n
unfolding alike
both-alike m n a b d e front behind ef ea eb eh ed ee = rw (← ea, ← eb, ← ef, ← ed, ← ee, ← eh)

-- ---- the nonce

module _ (role : Role) (one two r : List ℕ) where
  pub nonce-one : role ≡ Initiator → r ≡ nonce_in one → r ≡ nonce role one two
  unfolding nonce
  nonce-one h e = rw h e

  pub nonce-two : role ≡ Responder → r ≡ nonce_in two → r ≡ nonce role one two
  unfolding nonce
  nonce-two h e = rw h e

module _ (m r : List ℕ) where
  pub nonce-refused : (number : ℕ) → Refused number ≡ message m → r ≡ take 0 m → r ≡ nonce_in m
  unfolding nonce_in nonce_read
  nonce-refused number ec e = rw (← ec) e

  module _ (exchange count : ℕ) (ec : Read exchange count ≡ message m) (found : ℕ) (es : found ≡ shape count m) (longer : Bool)
      (el : longer ≡ is_longer found) where
    pub nonce-body : (eqb exchange 32 && longer) ≡ true → r ≡ body_at 2 m → r ≡ nonce_in m
    unfolding nonce_in nonce_read
    nonce-body h e = rw (← ec, ← es, ← el, h) e

    pub nonce-other : (eqb exchange 32 && longer) ≡ false → r ≡ take 0 m → r ≡ nonce_in m
    unfolding nonce_in nonce_read
    nonce-other h e = rw (← ec, ← es, ← el, h) e
