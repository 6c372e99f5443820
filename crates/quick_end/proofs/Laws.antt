-- What the checks of a fresh end let pass.
use Prim.Native.Nat.{ℕ, ◌≤◌}
use mathlib.Core.Path.{◌≡◌}
use mathlib.Core.List.{List}
use mathlib.Core.Bool.{true, not, ◌||◌, ◌&&◌}
use native.Mathlib.Omega.{arith}
use lib.ListN.{length}
use lib.Dec.{eqb, ltb, leb}
use borrow.Author.Tests.{eqb-true, eqb-false, leb-true, ltb-false, not-false}
use Rattle.wire_read.proofs.Tests.{both, neither, passed}
use Rattle.policy_lines.specs.Lines.{book_size}
use Rattle.policy_book.specs.Book.{book_in_front}
use Rattle.quick_end.specs.Fresh.{fresh_code}

pub record Lawful (icookie rcookie : ℕ) (book : List ℕ) (ah esp : ℕ) (nonce : List ℕ) : Type 0 where
  pub icookie-some : icookie ≡ 0 → ⊥
  pub rcookie-some : rcookie ≡ 0 → ⊥
  pub book-lawful : book_in_front book ≡ true
  pub book-whole : book_size book ≡ length book
  pub ah-high : 256 ≤ ah
  pub esp-high : 256 ≤ esp
  pub nonce-long : 8 ≤ length nonce
  pub nonce-short : length nonce ≤ 256

pub fresh-lawful : (icookie rcookie : ℕ) (book : List ℕ) (ah esp : ℕ) (nonce : List ℕ) → fresh_code icookie rcookie book ah esp nonce ≡ 0 →
    Lawful icookie rcookie book ah esp nonce
unfolding fresh_code
fresh-lawful icookie rcookie book ah esp nonce h =
    let cookies = passed (eqb icookie 0 || eqb rcookie 0) 4 _ (λ z. omega arith) h in
    let read = passed (not (book_in_front book && eqb (book_size book) (length book))) 8193 _ (λ z. omega arith) cookies.1 in
    let spis = passed (ltb ah 256 || ltb esp 256) 11 _ (λ z. omega arith) read.1 in
    let sized = passed (not (leb 8 (length nonce) && leb (length nonce) 256)) 16 _ (λ z. omega arith) spis.1 in
    let none = neither (eqb icookie 0) (eqb rcookie 0) cookies.0 in
    let lawful = both (book_in_front book) (eqb (book_size book) (length book)) (not-false _ read.0) in
    let high = neither (ltb ah 256) (ltb esp 256) spis.0 in
    let nonces = both (leb 8 (length nonce)) (leb (length nonce) 256) (not-false _ sized.0) in
    record {
      icookie-some = eqb-false icookie 0 none.0;
      rcookie-some = eqb-false rcookie 0 none.1;
      book-lawful = lawful.0;
      book-whole = eqb-true _ _ lawful.1;
      ah-high = ltb-false ah 256 high.0;
      esp-high = ltb-false esp 256 high.1;
      nonce-long = leb-true _ _ nonces.0;
      nonce-short = leb-true _ _ nonces.1;
    }
