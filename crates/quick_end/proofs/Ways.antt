-- A law for each way out of the functions that make an end.
use Prim.Native.Nat.{ℕ, ◌≤◌}
use denote.Enum.Bare.{sameb}
use mathlib.Core.Path.{◌≡◌, refl, sym, ap, ◌∙◌}
use mathlib.Core.List.{List}
use mathlib.Core.Bool.{Bool, true, false, not, ◌||◌, ◌&&◌}
use native.Mathlib.Omega.{arith}
use lib.ListN.{length, replicate}
use lib.Dec.{eqb, ltb, leb}
use Rattle.std.specs.Prelude.{Result, Ok, Err}
use Rattle.std.specs.Result.{IsErrAnd}
use Rattle.refusal.specs.declared.Refusal.{Refusal}
use Rattle.refusal.specs.Numbers.{number}
use Rattle.refusal.proofs.Laws.{number-not_zero}
use Rattle.wire_write.specs.Put.{paste}
use Rattle.policy_lines.specs.Lines.{book_size}
use Rattle.policy_book.specs.Book.{book_in_front}
use Rattle.policy_book.proofs.Laws.{book-short}
use Rattle.quick_end.proofs.Laws.{Lawful, fresh-lawful}
use Rattle.quick_end.specs.Fresh.{is_idle, is_initiator, is_given_up, fresh_code, idle, own_of, made_told, fresh}
use Rattle.quick_end.specs.contracts.Role as roles
use Rattle.quick_end.specs.contracts.State as states
use Rattle.quick_end.specs.declared.Role.{Role}
use Rattle.quick_end.specs.declared.Role.TheVariants.{Initiator, Responder}
use Rattle.quick_end.specs.declared.State.{State}
use Rattle.quick_end.specs.declared.State.TheVariants.{Idle, Sent, Half, Open, GivenUp}
use Rattle.quick_end.specs.declared.Own.{Own}
use Rattle.quick_end.specs.declared.Progress.{Progress}
use Rattle.quick_end.specs.declared.End.{End}

-- ---- what an end is asked: equality with a variant, as the derive has it

pub idle-same : (state : State) → sameb states.the_type state Idle ≡ is_idle state
unfolding is_idle
idle-same Idle = refl
idle-same Sent = refl
idle-same Half = refl
idle-same Open = refl
idle-same GivenUp = refl

pub given_up-same : (state : State) → sameb states.the_type state GivenUp ≡ is_given_up state
unfolding is_given_up
given_up-same Idle = refl
given_up-same Sent = refl
given_up-same Half = refl
given_up-same Open = refl
given_up-same GivenUp = refl

pub initiator-same : (role : Role) → sameb roles.the_type role Initiator ≡ is_initiator role
unfolding is_initiator
initiator-same Initiator = refl
initiator-same Responder = refl

-- ---- a fresh end

pub own-made : (role : Role) (icookie rcookie : ℕ) (book : List ℕ) (ah esp : ℕ) (nonce own-book own-nonce : List ℕ) →
    own-book ≡ paste (replicate 82 0) 0 book → own-nonce ≡ paste (replicate 256 0) 0 nonce →
    record {
      role = role;
      icookie = icookie;
      rcookie = rcookie;
      ah = ah;
      esp = esp;
      booksize = length book;
      book = own-book;
      noncesize = length nonce;
      nonce = own-nonce;
    } ≡ own_of role icookie rcookie book ah esp nonce
unfolding own_of
own-made role icookie rcookie book ah esp nonce own-book own-nonce eb en = rw (eb, en)

module _ (icookie rcookie : ℕ) (book : List ℕ) (ah esp : ℕ) (nonce : List ℕ) where
  pub fresh-cookies : (eqb icookie 0 || eqb rcookie 0) ≡ true → 4 ≡ fresh_code icookie rcookie book ah esp nonce
  unfolding fresh_code
  fresh-cookies h = rw h

  module _ (cookies : (eqb icookie 0 || eqb rcookie 0) ≡ false) (front : Bool) (size : ℕ) (ef : front ≡ book_in_front book) (es : size ≡ book_size book) where
    pub fresh-book : not (front && eqb size (length book)) ≡ true → 8193 ≡ fresh_code icookie rcookie book ah esp nonce
    unfolding fresh_code
    fresh-book h = rw (cookies, ← ef, ← es, h)

    module _ (lawful : not (front && eqb size (length book)) ≡ false) where
      pub fresh-spi : (ltb ah 256 || ltb esp 256) ≡ true → 11 ≡ fresh_code icookie rcookie book ah esp nonce
      unfolding fresh_code
      fresh-spi h = rw (cookies, ← ef, ← es, lawful, h)

      module _ (spis : (ltb ah 256 || ltb esp 256) ≡ false) where
        pub fresh-nonce : not (leb 8 (length nonce) && leb (length nonce) 256) ≡ true → 16 ≡ fresh_code icookie rcookie book ah esp nonce
        unfolding fresh_code
        fresh-nonce h = rw (cookies, ← ef, ← es, lawful, spis, h)

        pub fresh_passed : not (leb 8 (length nonce) && leb (length nonce) 256) ≡ false → 0 ≡ fresh_code icookie rcookie book ah esp nonce
        unfolding fresh_code
        fresh_passed h = rw (cookies, ← ef, ← es, lawful, spis, h)

  module _ (passes : 0 ≡ fresh_code icookie rcookie book ah esp nonce) where
    its : Lawful icookie rcookie book ah esp nonce
    its = fresh-lawful icookie rcookie book ah esp nonce (sym passes)

    pub book-fits : length book ≤ 82
    book-fits = book-short book its.book-lawful its.book-whole

    pub nonce-fits : length nonce ≤ 256
    nonce-fits = its.nonce-short

  module _ (role : Role) where
    pub fresh-made : 0 ≡ fresh_code icookie rcookie book ah esp nonce → (own : Own) → own ≡ own_of role icookie rcookie book ah esp nonce →
        (p : Progress) → p ≡ idle → made_told role (Ok (record { own = own; progress = p })) ≡ fresh role icookie rcookie book ah esp nonce
    unfolding fresh
    fresh-made passes own eo p ep = rw (← passes, eo, ep)

    pub fresh-refused : (refusal : Refusal) → number refusal ≡ fresh_code icookie rcookie book ah esp nonce →
        made_told role (Err refusal) ≡ fresh role icookie rcookie book ah esp nonce
    unfolding fresh
    fresh-refused refusal en = rw (← en, number-not_zero refusal)

-- what a `?` hands on is told as the refusal that it was given
pub made-handed_on : (role : Role) (answer : Result End Refusal) (given : Refusal) → IsErrAnd answer (λ refusal. refusal ≡ given) →
    made_told role answer ≡ made_told role (Err given)
made-handed_on role (Ok made) given same = absurd same
made-handed_on role (Err refusal) given same = ap (λ (r : Refusal). made_told role (Err r)) same
