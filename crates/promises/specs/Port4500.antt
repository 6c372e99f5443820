-- Port 4500: an answer's number and values are its own, and what is handed on lies where the answer says.
use Rattle.std.specs.Prelude.{ℕ, ◌-◌, ◌≡◌, refl, [], ◌∷◌, ◌++◌, Bool, true, false, length, get_or, take, drop, ltb, eqb}
use Rattle.std.proofs.Common.{sym, ap, ◌∙◌, take-append-drop, length-drop}
use Rattle.wire_read.specs.Wire.{Bytes, equal}
use Rattle.wire_read.specs.Tests.{if◌then◌otherwise◌}
use Rattle.wire_read.specs.Answer.{Answer, done}
use Rattle.wire_read.proofs.Tests.{never}
use Rattle.wire_read.proofs.Laws.{equal-true}
use Rattle.port4500.specs.Port.{marker, datagram, handed_on, datagram_answer}
use Rattle.port4500.specs.Port.{Datagram}
use Rattle.port4500.specs.Port.{Keepalive, KeyExchange, Esp, Refused}

-- the answer that a number and values stand for
abbrev meant : (a : Answer) → Datagram
meant a =
    if eqb (length a.values) 0 then Refused a.number
    otherwise if eqb (get_or a.values 0 0) 1 then Keepalive
    otherwise if eqb (get_or a.values 0 0) 2 then KeyExchange (get_or a.values 1 0) (get_or a.values 2 0)
    otherwise Esp (get_or a.values 1 0)

meant-answer : (x : Datagram) → meant (datagram_answer x) ≡ x
unfolding datagram_answer
meant-answer Keepalive = refl
meant-answer (KeyExchange start length) = refl
meant-answer (Esp length) = refl
meant-answer (Refused number) = refl

-- no two answers have the same number and values
pub answer-own : (x y : Datagram) → datagram_answer x ≡ datagram_answer y → x ≡ y
answer-own x y h = sym (meant-answer x) ∙ ap meant h ∙ meant-answer y

-- what each answer says of the datagram
data Says (s : Bytes) : Datagram → Type 0 where
  keepalive : Says s Keepalive
  short : Says s (Refused 16)
  behind : take 4 s ≡ marker → Says s (KeyExchange 4 (length s - 4))
  esp : Says s (Esp (length s))

says : (s : Bytes) → Says s (datagram s)
unfolding datagram
says s = by_tests (equal s (255 ∷ [])) (ltb (length s) 4) (equal (take 4 s) marker) refl
  where
    by_tests : (a b c : Bool) → equal (take 4 s) marker ≡ c →
        Says s (if a then Keepalive otherwise if b then Refused 16 otherwise if c then KeyExchange 4 (length s - 4) otherwise Esp (length s))
    by_tests true b c e = keepalive
    by_tests false true c e = short
    by_tests false false true e = behind (equal-true (take 4 s) marker e)
    by_tests false false false e = esp

-- a key exchange is the marker and then what is handed on, which lies where the answer says
pub record Handed (s : Bytes) (start n : ℕ) (rest : Bytes) : Type 0 where
  pub marked : s ≡ marker ++ rest
  pub lies : rest ≡ drop start s
  pub long : length rest ≡ n

pub key_exchange-handed : (s : Bytes) (start n : ℕ) → datagram_answer (datagram s) ≡ done (2 ∷ start ∷ n ∷ []) → Handed s start n (handed_on (datagram s) s)
unfolding handed_on datagram_answer
key_exchange-handed s start n h = of (says s) (answer-own (datagram s) (KeyExchange start n) h)
  where
    of : {d : Datagram} → Says s d → d ≡ KeyExchange start n → Handed s start n (handed_on d s)
    of keepalive h = never (cc)
    of short h = never (cc)
    of (behind m) h =
        let at : 4 ≡ start = cc in
        let size : length s - 4 ≡ n = cc in
        record {
          marked = sym (ap (λ (l : Bytes). l ++ drop 4 s) (sym m) ∙ take-append-drop 4 s);
          lies = ap (λ (k : ℕ). drop k s) at;
          long = length-drop 4 s ∙ size;
        }
    of esp h = never (cc)

-- an ESP packet is handed on whole
pub esp-handed : (s : Bytes) (n : ℕ) → datagram_answer (datagram s) ≡ done (3 ∷ n ∷ []) → (handed_on (datagram s) s ≡ s) × (length s ≡ n)
unfolding handed_on datagram_answer
esp-handed s n h = of (says s) (answer-own (datagram s) (Esp n) h)
  where
    of : {d : Datagram} → Says s d → d ≡ Esp n → (handed_on d s ≡ s) × (length s ≡ n)
    of keepalive h = never (cc)
    of short h = never (cc)
    of (behind m) h = never (cc)
    of esp h = (refl, cc)
