-- A law for each way out of the functions of begin.
use Prim.Native.Nat.{ℕ, ◌≤◌}
use mathlib.Core.Path.{◌≡◌, refl, sym, ap, ◌∙◌}
use mathlib.Core.List.{List}
use mathlib.Core.Bool.{Bool, true, false, not, ◌||◌, ◌&&◌}
use native.Mathlib.Omega.{arith}
use lib.ListN.{length, get_or, take, drop, length-drop}
use lib.Dec.{eqb, leb}
use borrow.Author.Tests.{eq-eqb, ne_eqb, eqb-true, not-false}
use Rattle.std.specs.Prelude.{Option, None, Some, Result, Ok, Err}
use Rattle.std.specs.Result.{is_ok}
use Rattle.refusal.specs.declared.Refusal.{Refusal}
use Rattle.refusal.specs.Numbers.{number, coded}
use Rattle.refusal.proofs.Laws.{number-not_zero}
use Rattle.wire_write.specs.Put.{put}
use Rattle.wire_read.specs.Tests.{if◌then◌otherwise◌}
use Rattle.wire_write.proofs.Laws.{put-size, put-made}
use Rattle.wire_read.proofs.Tests.{clash, both, by_test, passed}
use Rattle.identity.specs.Identity.{identity_code, lawful, quick_data}
use Rattle.quick_write.specs.Messages.{book_of, lines, proposals_of, longer_into, message_one}
use Rattle.quick_write.proofs.Laws.{longer-written, longer_never}
use Rattle.quick_end.specs.Fresh.{is_idle, is_initiator, is_given_up}
use Rattle.quick_step.specs.Steps.{small, after_step, stepped, with_progress}
use Rattle.quick_begin.specs.Begin.{identities_wrong, begin_code, begun}
use Rattle.quick_end.specs.declared.State.TheVariants.{Sent}
use Rattle.quick_write.specs.declared.Proposals.TheVariants.{Offer}
use Rattle.quick_end.specs.declared.Own.{Own}
use Rattle.quick_end.specs.declared.Progress.{Progress}
use Rattle.quick_end.specs.declared.End.{End}
use Rattle.quick_step.specs.Steps.{Send, Refused}

-- a check lets pass where its number is 0
ok-coded : (answer : Result Unit Refusal) → is_ok answer ≡ eqb (coded answer) 0
ok-coded (Ok passed) = refl
ok-coded (Err refusal) = sym (number-not_zero refusal)

pub wrong_identities : (first second : List ℕ) (x y : Result Unit Refusal) (a b : Bool) → coded x ≡ identity_code 32 first → a ≡ is_ok x →
    coded y ≡ identity_code 32 second → b ≡ is_ok y →
    not (eqb (length first) 0 && eqb (length second) 0 || a && b) ≡ identities_wrong first second
unfolding identities_wrong
wrong_identities first second x y a b ex ea ey eb = rw (ea, eb, ok-coded x, ok-coded y, ex, ey)

-- ---- an identity is short

picked : {A : Type 0} (t a b : Bool) → (if t then a otherwise b) ≡ true → (a ≡ true → A) → (b ≡ true → A) → A
picked true a b e f g = f e
picked false a b e f g = g e

data_few : (type : ℕ) (s : List ℕ) → quick_data type s ≡ true → length s ≤ 32
unfolding quick_data
data_few type s h =
    picked (eqb type 1) _ _ h (λ e. omega (arith, eqb-true (length s) 4 e))
    (λ h4. picked (eqb type 4) _ _ h4 (λ e. omega (arith, eqb-true (length s) 8 e))
    (λ h5. picked (eqb type 5) _ _ h5 (λ e. omega (arith, eqb-true (length s) 16 e))
    (λ h6. picked (eqb type 6) _ _ h6 (λ e. omega (arith, eqb-true (length s) 32 e))
    (λ h7. picked (eqb type 7) _ _ h7 (λ e. omega (arith, eqb-true (length s) 8 e))
    (λ h8. picked (eqb type 8) _ _ h8 (λ e. omega (arith, eqb-true (length s) 32 e)) (λ e. clash e))))))

identity_few : (s : List ℕ) → identity_code 32 s ≡ 0 → length s ≤ 36
unfolding identity_code lawful
identity_few s h =
    by_test (leb 4 (length s) && quick_data (get_or s 0 0) (drop 4 s))
    (λ e. omega (arith, data_few (get_or s 0 0) (drop 4 s) (both (leb 4 (length s)) _ e).1, length-drop 4 s))
    (λ e. absurd (omega (arith, (rw e at h))))

wrong_few : (first second : List ℕ) → identities_wrong first second ≡ false → (length first ≤ 36) × (length second ≤ 36)
unfolding identities_wrong
wrong_few first second h =
    by_test (eqb (length first) 0 && eqb (length second) 0)
    (λ e.
    let none = both (eqb (length first) 0) (eqb (length second) 0) e in
    (omega (arith, eqb-true (length first) 0 none.0), omega (arith, eqb-true (length second) 0 none.1)))
    (λ e.
    let lawful-two = not-false (eqb (identity_code 32 first) 0 && eqb (identity_code 32 second) 0) (rw e at h) in
    let two = both (eqb (identity_code 32 first) 0) (eqb (identity_code 32 second) 0) lawful-two in
    (identity_few first (eqb-true (identity_code 32 first) 0 two.0), identity_few second (eqb-true (identity_code 32 second) 0 two.1)))

-- ---- begin

module _ (e : End) (id : ℕ) (first second : List ℕ) (tight : Bool) where
  pub begin-small : tight ≡ true → 8192 ≡ begin_code e id first second tight
  unfolding begin_code
  begin-small h = rw h

  module _ (roomy : tight ≡ false) (up : Bool) (eu : up ≡ is_given_up e.progress.state) where
    pub begin-up : up ≡ true → 8196 ≡ begin_code e id first second tight
    unfolding begin_code
    begin-up h = rw (roomy, ← eu, h)

    module _ (on : up ≡ false) (begins rests : Bool) (eb : begins ≡ is_initiator e.own.role) (er : rests ≡ is_idle e.progress.state) where
      pub begin-other : not (begins && rests) ≡ true → 8195 ≡ begin_code e id first second tight
      unfolding begin_code
      begin-other h = rw (roomy, ← eu, on, ← eb, ← er, h)

      module _ (may : not (begins && rests) ≡ false) where
        pub begin-id : id ≡ 0 → 9 ≡ begin_code e id first second tight
        unfolding begin_code
        begin-id h = rw (roomy, ← eu, on, ← eb, ← er, may, eq-eqb id 0 h)

        module _ (named : id ≡ 0 → ⊥) (wrong : Bool) (ew : wrong ≡ identities_wrong first second) where
          pub begin_identities : wrong ≡ true → 18 ≡ begin_code e id first second tight
          unfolding begin_code
          begin_identities h = rw (roomy, ← eu, on, ← eb, ← er, may, ne_eqb id 0 named, ← ew, h)

          module _ (right : wrong ≡ false) (book : List ℕ) (n : ℕ) (ek : book ≡ take e.own.booksize e.own.book) (en : n ≡ lines book) where
            pub begin-lines : n ≡ 0 → 14 ≡ begin_code e id first second tight
            unfolding begin_code book_of
            begin-lines h = rw (roomy, ← eu, on, ← eb, ← er, may, ne_eqb id 0 named, ← ew, right, ← ek, ← en, eq-eqb n 0 h)

            pub begin_passed : (n ≡ 0 → ⊥) → 0 ≡ begin_code e id first second tight
            unfolding begin_code book_of
            begin_passed h = rw (roomy, ← eu, on, ← eb, ← er, may, ne_eqb id 0 named, ← ew, right, ← ek, ← en, ne_eqb n 0 h)

  module _ (passes : 0 ≡ begin_code e id first second tight) where
    few : (length first ≤ 36) × (length second ≤ 36)
    unfolding begin_code
    few =
        let roomy = passed tight 8192 _ (λ z. omega arith) (sym passes) in
        let on = passed (is_given_up e.progress.state) 8196 _ (λ z. omega arith) roomy.1 in
        let may = passed (not (is_initiator e.own.role && is_idle e.progress.state)) 8195 _ (λ z. omega arith) on.1 in
        let named = passed (eqb id 0) 9 _ (λ z. omega arith) may.1 in
        wrong_few first second (passed (identities_wrong first second) 18 _ (λ z. omega arith) named.1).0

    pub few-first : length first ≤ 36
    few-first = few.0

    pub few-second : length second ≤ 36
    few-second = few.1

module _ (e : End) (id : ℕ) (first second sent got output : List ℕ) (tight : Bool) (et : tight ≡ small sent got output) where
  pub begin-refused : (refusal : Refusal) → number refusal ≡ begin_code e id first second tight →
      begun e id first second sent got output ≡ after_step (stepped e (Refused (number refusal))) sent got output
  unfolding begun
  begin-refused refusal ec = rw (← et, ← ec, number-not_zero refusal)

  -- the record of an end that has sent message 1
  abbrev sent-at : (size : ℕ) → Progress
  sent-at size = record { state = Sent; sends = 1; id = id; sentsize = size; gotsize = e.progress.gotsize; agreed = e.progress.agreed }

  pub begin-sent : 0 ≡ begin_code e id first second tight → (b c : List ℕ) (n k : ℕ) →
      put sent 0 (message_one e.own id first second) ≡ (n, b) → put output 0 (message_one e.own id first second) ≡ (k, c) →
      begun e id first second sent got output ≡ after_step (stepped (with_progress (sent-at k) e) (Send k)) b got c
  unfolding begun
  begin-sent passes b c n k eb ek =
      let size = put-size output c 0 k _ ek in
      let in_sent = put-made sent b 0 n _ eb in
      let in_output = put-made output c 0 k _ ek in
      rw (← et, ← passes, size, in_sent, in_output)

-- ---- message 1 is written

module _ (buffer b none first second : List ℕ) (own : Own) (id : ℕ) (w : Option ℕ) (en : none ≡ take 0 first) (f : length first ≤ 36) (g : length second ≤ 36)
    (e : longer_into buffer own id Offer none first second ≡ (w, b)) where
  empty : length none ≤ 4096
  empty = omega (arith, ap length en)

  pub one_written : (n : ℕ) → w ≡ Some n → put buffer 0 (message_one own id first second) ≡ (n, b)
  unfolding message_one proposals_of
  one_written n h = longer-written buffer own id Offer none first second empty (omega arith) (omega arith) w b e n h

  pub one_never : w ≡ None → put buffer 0 (message_one own id first second) ≡ (0, b)
  one_never h = longer_never buffer own id Offer none first second empty (omega arith) (omega arith) w b e h
