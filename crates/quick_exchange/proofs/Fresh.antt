-- What an end holds that `fresh` has made: its numbers, book and nonce as they were given, in state Idle.
use Prim.Native.Nat.{ℕ, min, ◌<◌, ◌≤◌}
use mathlib.Core.Path.{◌≡◌, refl, ap, subst}
use mathlib.Core.List.{List}
use native.Mathlib.Omega.{arith}
use lib.ListN.{length, take, replicate, length-replicate}
use lib.Dec.{eqb}
use borrow.Author.Tests.{eqb-true, eqb-false}
use Rattle.wire_write.specs.Put.{paste}
use Rattle.wire_read.proofs.Tests.{by_test}
use Rattle.wire_write.proofs.Laws.{paste_inside}
use Rattle.quick_write.specs.Messages.{book_of, nonce_of}
use Rattle.policy_book.proofs.Laws.{book-short}
use Rattle.quick_end.proofs.Laws.{fresh-lawful}
use Rattle.quick_end.specs.Fresh.{fresh_code, idle, own_of, fresh}
use Rattle.quick_end.specs.declared.Role.{Role}
use Rattle.quick_end.specs.declared.State.TheVariants.{Idle}
use Rattle.quick_end.specs.Fresh.{Made}
use Rattle.quick_end.specs.declared.End.{End}
use Rattle.quick_exchange.proofs.MessageShapes.{Fit}
use Rattle.quick_exchange.specs.Exchange.{FreshEnd}

-- the front of a buffer of zeros that takes it whole
front_of : (n : ℕ) (s : List ℕ) → length s ≤ n → take (length s) (paste (replicate n 0) 0 s) ≡ s
front_of n s h = paste_inside (replicate n 0) 0 s (omega (arith, length-replicate {A = ℕ} n 0))

module _ (role : Role) (icookie rcookie : ℕ) (book : List ℕ) (ah esp : ℕ) (nonce : List ℕ) where
  book_back : length book ≤ 82 → book_of (own_of role icookie rcookie book ah esp nonce) ≡ book
  unfolding book_of own_of
  book_back short = front_of 82 book short

  nonce_back : length nonce ≤ 256 → nonce_of (own_of role icookie rcookie book ah esp nonce) ≡ nonce
  unfolding nonce_of own_of
  nonce_back short = let e : min (length nonce) 256 ≡ length nonce = omega arith in rw e (front_of 256 nonce short)

  own_fit : icookie < 18446744073709551616 → rcookie < 18446744073709551616 → ah < 4294967296 → esp < 4294967296 →
      fresh_code icookie rcookie book ah esp nonce ≡ 0 →
      Fit (own_of role icookie rcookie book ah esp nonce) × (nonce_of (own_of role icookie rcookie book ah esp nonce) ≡ nonce)
  unfolding own_of
  own_fit ci cr ca ce h =
      let l = fresh-lawful icookie rcookie book ah esp nonce h in
      let b = book_back (book-short book l.book-lawful l.book-whole) in
      let n = nonce_back l.nonce-short in (
        record {
          icookie = (l.icookie-some, ci);
          rcookie = (l.rcookie-some, cr);
          book = (rw b l.book-lawful, rw b l.book-whole);
          ah = (l.ah-high, ca);
          esp = (l.esp-high, ce);
          nonce = (rw n l.nonce-long, rw n l.nonce-short);
        },
        n,
      )

-- what a fresh end holds
pub record Holds (role : Role) (icookie rcookie ah esp : ℕ) (nonce : List ℕ) (end : End) : Type 0 where
  pub fit : Fit end.own
  pub its_role : end.own.role ≡ role
  pub its_icookie : end.own.icookie ≡ icookie
  pub its_rcookie : end.own.rcookie ≡ rcookie
  pub its_ah : end.own.ah ≡ ah
  pub its_esp : end.own.esp ≡ esp
  pub its_nonce : nonce_of end.own ≡ nonce
  pub is-idle : end.progress.state ≡ Idle

pub fresh_fit : (role : Role) (icookie rcookie : ℕ) (end : End) → icookie < 18446744073709551616 → rcookie < 18446744073709551616 →
    (f : FreshEnd role icookie rcookie end) →
    Holds role icookie rcookie f.ah f.esp f.nonce end
unfolding fresh own_of idle
fresh_fit role icookie rcookie end ci cr f =
    let code : ℕ = fresh_code icookie rcookie f.book f.ah f.esp f.nonce in
    let made = f.made in
    by_test (eqb code 0)
    (λ z.
    let own = own_fit role icookie rcookie f.book f.ah f.esp f.nonce ci cr f.ah-fits f.esp-fits (eqb-true code 0 z) in
    subst (λ (e : End). Holds role icookie rcookie f.ah f.esp f.nonce e) (ap (λ (m : Made). m.end) (rw z at made))
    (record { fit = own.0; its_role = refl; its_icookie = refl; its_rcookie = refl; its_ah = refl; its_esp = refl; its_nonce = own.1; is-idle = refl }))
    (λ z. absurd (eqb-false code 0 z (ap (λ (m : Made). m.number) (rw z at made))))
