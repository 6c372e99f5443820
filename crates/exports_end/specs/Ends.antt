-- A quick mode end as the 398 bytes that a caller lends: 32 of its progress, then 366 of what it is given once. Numbers are big-endian, and
-- any bytes are some end's.
use Rattle.std.specs.Prelude.{ℕ, List, [], ◌∷◌, ◌++◌, get_or, drop, replicate, eqb}
use Rattle.wire_read.specs.Wire.{Bytes, number_at}
use Rattle.wire_read.specs.Tests.{if◌then◌otherwise◌}
use Rattle.wire_write.specs.Put.{bytes_of, paste}
use Rattle.policy_choice.specs.declared.Transforms.{Transforms}
use Rattle.policy_choice.specs.declared.Transforms.TheVariants.{One, Two}
use Rattle.quick_end.specs.declared.Role.{Role}
use Rattle.quick_end.specs.declared.Role.TheVariants.{Initiator, Responder}
use Rattle.quick_end.specs.declared.State.{State}
use Rattle.quick_end.specs.declared.State.TheVariants.{Idle, Sent, Half, Open, GivenUp}
use Rattle.quick_end.specs.declared.Spis.{Spis}
use Rattle.quick_end.specs.declared.Spis.TheVariants.{Alone, Both}
use Rattle.quick_end.specs.declared.Agreed.{Agreed}
use Rattle.quick_end.specs.declared.Progress.{Progress}
use Rattle.quick_end.specs.declared.Own.{Own}
use Rattle.quick_end.specs.declared.End.{End}

-- ---- numbers for what has none

unfoldable pub state_number : (state : State) → ℕ
state_number Idle = 0
state_number Sent = 1
state_number Half = 2
state_number Open = 3
state_number GivenUp = 4

unfoldable pub state_of : (number : ℕ) → State
state_of number =
    if eqb number 0 then Idle
    otherwise if eqb number 1 then Sent
    otherwise if eqb number 2 then Half
    otherwise if eqb number 3 then Open
    otherwise GivenUp

unfoldable pub role_number : (role : Role) → ℕ
role_number Initiator = 0
role_number Responder = 1

unfoldable pub role_of : (number : ℕ) → Role
role_of number = if eqb number 0 then Initiator otherwise Responder

-- how many, the first, and the second or 0
unfoldable pub transforms_values : (transforms : Transforms) → List ℕ
transforms_values (One first) = 1 ∷ first.0 ∷ 0 ∷ []
transforms_values (Two first second) = 2 ∷ first.0 ∷ second.0 ∷ []

unfoldable pub spis_values : (spis : Spis) → List ℕ
spis_values (Alone first) = 1 ∷ first ∷ 0 ∷ []
spis_values (Both first second) = 2 ∷ first ∷ second ∷ []

-- ---- the bytes of an end

-- how many (1 byte), the first (4), the second (4)
unfoldable pub spis_bytes : (spis : Spis) → Bytes
spis_bytes spis = get_or (spis_values spis) 0 0 ∷ bytes_of 4 (get_or (spis_values spis) 1 0) ++ bytes_of 4 (get_or (spis_values spis) 2 0)

-- set (1), transforms (3), SPIs of the initiator (9), of the responder (9)
unfoldable pub agreed_bytes : (agreed : Agreed) → Bytes
agreed_bytes agreed = agreed.set.0 ∷ transforms_values agreed.transforms ++ spis_bytes agreed.initiator ++ spis_bytes agreed.responder

-- state (1), sends (1), id (4), sentsize (2), gotsize (2), and what is agreed (22)
unfoldable pub progress_bytes : (progress : Progress) → Bytes
progress_bytes progress =
    state_number progress.state ∷ progress.sends
    ∷ bytes_of 4 progress.id ++ bytes_of 2 progress.sentsize ++ bytes_of 2 progress.gotsize ++ agreed_bytes progress.agreed

-- role (1), booksize (1), noncesize (2), cookies (8, 8), own SPIs of AH and ESP (4, 4), book (82), nonce (256)
unfoldable pub own_bytes : (own : Own) → Bytes
own_bytes own =
    role_number own.role ∷ own.booksize
    ∷ bytes_of 2 own.noncesize ++ bytes_of 8 own.icookie ++ bytes_of 8 own.rcookie ++ bytes_of 4 own.ah ++ bytes_of 4 own.esp
    ++ own.book ++ own.nonce

unfoldable pub end_bytes : (end : End) → Bytes
end_bytes end = progress_bytes end.progress ++ own_bytes end.own

-- ---- the end of bytes

-- two where they say 2, else one
unfoldable pub transforms_of : (s : Bytes) → Transforms
transforms_of s = if eqb (get_or s 0 0) 2 then Two (record { 0 = get_or s 1 0 }) (record { 0 = get_or s 2 0 }) otherwise One (record { 0 = get_or s 1 0 })

unfoldable pub spis_in : (s : Bytes) → Spis
spis_in s = if eqb (get_or s 0 0) 2 then Both (number_at 4 s 1) (number_at 4 s 5) otherwise Alone (number_at 4 s 1)

unfoldable pub agreed_of : (s : Bytes) → Agreed
agreed_of s = record {
  set = record { 0 = get_or s 0 0 };
  transforms = transforms_of (drop 1 s);
  initiator = spis_in (drop 4 s);
  responder = spis_in (drop 13 s);
}

unfoldable pub progress_of : (s : Bytes) → Progress
progress_of s = record {
  state = state_of (get_or s 0 0);
  sends = get_or s 1 0;
  id = number_at 4 s 2;
  sentsize = number_at 2 s 6;
  gotsize = number_at 2 s 8;
  agreed = agreed_of (drop 10 s);
}

unfoldable pub own_in : (s : Bytes) → Own
own_in s = record {
  role = role_of (get_or s 0 0);
  icookie = number_at 8 s 4;
  rcookie = number_at 8 s 12;
  ah = number_at 4 s 20;
  esp = number_at 4 s 24;
  booksize = get_or s 1 0;
  book = paste (replicate 82 0) 0 (drop 28 s);
  noncesize = number_at 2 s 2;
  nonce = paste (replicate 256 0) 0 (drop 110 s);
}

unfoldable pub end_of : (s : Bytes) → End
end_of s = record { own = own_in (drop 32 s); progress = progress_of s }
