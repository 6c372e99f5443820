-- What an end is asked, and a fresh one, document 01, "Quick mode ends".
use Rattle.std.specs.Prelude.{ℕ, [], Bool, true, false, not, ◌||◌, ◌&&◌, length, replicate, Result, Ok, Err, ltb, leb, eqb}
use Rattle.wire_read.specs.Wire.{Bytes, Code}
use Rattle.wire_write.specs.Put.{paste}
use Rattle.wire_read.specs.Tests.{if◌then◌otherwise◌}
use Rattle.policy_book.specs.Book.{book_in_front}
use Rattle.policy_lines.specs.Lines.{book_size}
use Rattle.policy_choice.specs.declared.Transforms.TheVariants.{One}
use Rattle.quick_end.specs.declared.Role.{Role}
use Rattle.quick_end.specs.declared.Role.TheVariants.{Initiator, Responder}
use Rattle.quick_end.specs.declared.State.{State}
use Rattle.quick_end.specs.declared.State.TheVariants.{Idle, Sent, Half, Open, GivenUp}
use Rattle.quick_end.specs.declared.Own.{Own}
use Rattle.quick_end.specs.declared.Spis.TheVariants.{Alone}
use Rattle.quick_end.specs.declared.Progress.{Progress}
use Rattle.quick_end.specs.declared.End.{End}
use Rattle.refusal.specs.declared.Refusal.{Refusal}
use Rattle.refusal.specs.Numbers.{number}

unfoldable pub is_idle : (state : State) → Bool
is_idle Idle = true
is_idle Sent = false
is_idle Half = false
is_idle Open = false
is_idle GivenUp = false

unfoldable pub is_initiator : (role : Role) → Bool
is_initiator Initiator = true
is_initiator Responder = false

unfoldable pub is_given_up : (state : State) → Bool
is_given_up GivenUp = true
is_given_up Idle = false
is_given_up Sent = false
is_given_up Half = false
is_given_up Open = false

-- ---- a fresh end

-- "given cookies (zero: 4), book, its AH and ESP SPIs (11), its nonce (16), in that order"
unfoldable pub fresh_code : (icookie rcookie : ℕ) (book : Bytes) (ah esp : ℕ) (nonce : Bytes) → Code
fresh_code icookie rcookie book ah esp nonce =
    if eqb icookie 0 || eqb rcookie 0 then 4
    otherwise if not (book_in_front book && eqb (book_size book) (length book)) then 8193
    otherwise if ltb ah 256 || ltb esp 256 then 11
    otherwise if not (leb 8 (length nonce) && leb (length nonce) 256) then 16
    otherwise 0

-- nothing is agreed, nothing was sent
unfoldable pub idle : Progress
idle = record {
  state = Idle;
  sends = 0;
  id = 0;
  sentsize = 0;
  gotsize = 0;
  agreed = record { set = record { 0 = 0 }; transforms = One (record { 0 = 0 }); initiator = Alone 0; responder = Alone 0 };
}

unfoldable pub own_of : (role : Role) (icookie rcookie : ℕ) (book : Bytes) (ah esp : ℕ) (nonce : Bytes) → Own
own_of role icookie rcookie book ah esp nonce = record {
  role = role;
  icookie = icookie;
  rcookie = rcookie;
  ah = ah;
  esp = esp;
  booksize = length book;
  book = paste (replicate 82 0) 0 book;
  noncesize = length nonce;
  nonce = paste (replicate 256 0) 0 nonce;
}

-- a number, 0 for done, and the end
pub record Made : Type 0 where
  pub number : ℕ
  pub end : End

-- a refusal comes with an end that holds nothing but its role
unfoldable pub fresh : (role : Role) (icookie rcookie : ℕ) (book : Bytes) (ah esp : ℕ) (nonce : Bytes) → Made
fresh role icookie rcookie book ah esp nonce =
    if eqb (fresh_code icookie rcookie book ah esp nonce) 0
    then record { number = 0; end = record { own = own_of role icookie rcookie book ah esp nonce; progress = idle } }
    otherwise record { number = fresh_code icookie rcookie book ah esp nonce; end = record { own = own_of role 0 0 [] 0 0 []; progress = idle } }

-- an end that is made, or the refusal: its number, and an end that holds nothing
abbrev pub made_told : (role : Role) (answer : Result End Refusal) → Made
made_told role (Ok end) = record { number = 0; end = end }
made_told role (Err refusal) = record { number = number refusal; end = record { own = own_of role 0 0 [] 0 0 []; progress = idle } }
