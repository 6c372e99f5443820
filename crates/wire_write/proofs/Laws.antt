-- The laws of specs/Put.antt that writers cite: the bytes of a number, and what a written buffer holds.
use Prim.Native.Nat.{ℕ, zero, suc, ◌+◌, ◌/◌, ◌%◌, ◌^◌, ◌≤◌, ◌<◌}
use mathlib.Core.Path.{◌≡◌, refl, sym, ap, ◌∙◌}
use mathlib.Core.Logic.{◌⊎◌, inl, inr, ⊎_elim}
use mathlib.Core.List.{List, [], ◌∷◌, ◌++◌, append_assoc}
use native.Mathlib.Omega.{arith, pow_step}
use native.Mathlib.Numerals.{add-one}
use native.Mathlib.Nat.{zero-add}
use lib.ListN.{length, get_or, take, drop, set, length-set, length-append}
use lib.Seq.{set_comm, get_or-drop, get_or-take, get_or-append-add, get_or-set_other, set_out, sets, sets-eq, take_at, drop_at, take-set-le, drop-set-lt, length-take-le}
use Rattle.wire_read.specs.Wire.{number_at}
use Rattle.wire_read.proofs.Laws.{number_agree, number_append, number-append_add}
use Rattle.wire_write.specs.Put.{bytes_of, head, headed, paste, put}

-- ---- numbers

-- the bytes that spell a 16-, a 32- and a 64-bit number
pub two_bytes : (x : ℕ) → bytes_of 2 x ≡ x / 256 % 256 ∷ x % 256 ∷ []
unfolding bytes_of
two_bytes x = refl

pub four_bytes_lem : (x : ℕ) → bytes_of 4 x ≡ x / 16777216 % 256 ∷ x / 65536 % 256 ∷ x / 256 % 256 ∷ x % 256 ∷ []
unfolding bytes_of
four_bytes_lem x =
    let second : x / 256 / 256 ≡ x / 65536 = omega arith in
    let first : x / 256 / 256 / 256 ≡ x / 16777216 = omega arith in
    rw (first, second)

abbrev pub eight_bytes : ℕ → List ℕ
eight_bytes x =
    x / 72057594037927936 % 256 ∷ x / 281474976710656 % 256 ∷ x / 1099511627776 % 256 ∷ x / 4294967296 % 256
    ∷ x / 16777216 % 256 ∷ x / 65536 % 256 ∷ x / 256 % 256 ∷ x % 256 ∷ []

pub eight_bytes_lem : (x : ℕ) → bytes_of 8 x ≡ eight_bytes x
unfolding bytes_of
eight_bytes_lem x =
    let e2 : x / 256 / 256 ≡ x / 65536 = omega arith in
    let e3 : x / 256 / 256 / 256 ≡ x / 16777216 = omega arith in
    let e4 : x / 256 / 256 / 256 / 256 ≡ x / 4294967296 = omega arith in
    let e5 : x / 256 / 256 / 256 / 256 / 256 ≡ x / 1099511627776 = omega arith in
    let e6 : x / 256 / 256 / 256 / 256 / 256 / 256 ≡ x / 281474976710656 = omega arith in
    let e7 : x / 256 / 256 / 256 / 256 / 256 / 256 / 256 ≡ x / 72057594037927936 = omega arith in
    rw (e7, e6, e5, e4, e3, e2)

pub length_bytes_of : (n x : ℕ) → length (bytes_of n x) ≡ n
unfolding bytes_of
length_bytes_of zero x = refl
length_bytes_of (suc n) x = length-append (bytes_of n (x / 256)) (x % 256 ∷ []) ∙ omega (arith, length_bytes_of n (x / 256))

-- n bytes hold every number below 256 to the n
pub number-bytes_of : (n x : ℕ) → x < 256 ^ n → number_at n (bytes_of n x) 0 ≡ x
unfolding number_at bytes_of
number-bytes_of zero x h = omega arith
number-bytes_of (suc n) x h =
    let small : x / 256 < 256 ^ n = omega (arith, pow_step 256 n) in
    let high : number_at n (bytes_of n (x / 256) ++ (x % 256 ∷ [])) 0 ≡ x / 256 =
    number_append n (bytes_of n (x / 256)) (x % 256 ∷ []) 0 (omega (arith, length_bytes_of n (x / 256))) ∙ number-bytes_of n (x / 256) small in
    let low : get_or (bytes_of n (x / 256) ++ (x % 256 ∷ [])) (0 + n) 0 ≡ x % 256 =
    ap (λ (k : ℕ). get_or (bytes_of n (x / 256) ++ (x % 256 ∷ [])) k 0) (omega (arith, length_bytes_of n (x / 256)))
    ∙ get_or-append-add (bytes_of n (x / 256)) (x % 256 ∷ []) 0 0 in
    rw (high, low) (omega arith)

-- ---- what begins with its length

pub length_head : (next size : ℕ) → length (head next size) ≡ 4
unfolding head
length_head next size = omega (arith, length_bytes_of 2 size)

pub length_headed : (next : ℕ) (rest : List ℕ) → length (headed next rest) ≡ 4 + length rest
unfolding headed
length_headed next rest = length-append (head next (4 + length rest)) rest ∙ omega (arith, length_head next (4 + length rest))

-- it is as long as it says
pub headed-lies : (next : ℕ) (rest : List ℕ) → 4 + length rest < 65536 → number_at 2 (headed next rest) 2 ≡ 4 + length rest
unfolding headed head
headed-lies next rest h =
    number-append_add 2 (next ∷ 0 ∷ []) (bytes_of 2 (4 + length rest) ++ rest) 0
    ∙ number_append 2 (bytes_of 2 (4 + length rest)) rest 0 (omega (arith, length_bytes_of 2 (4 + length rest)))
    ∙ number-bytes_of 2 (4 + length rest) (omega arith)

-- ---- a written buffer

pub length_paste : (l : List ℕ) (i : ℕ) (xs : List ℕ) → length (paste l i xs) ≡ length l
unfolding paste
length_paste l i [] = refl
length_paste l i (x ∷ xs) = length_paste (set l i x) (i + 1) xs ∙ length-set l i x

pub paste_past : (l : List ℕ) (i : ℕ) (xs : List ℕ) → length l ≤ i → paste l i xs ≡ l
unfolding paste
paste_past l i [] h = refl
paste_past l i (x ∷ xs) h = rw set_out (paste_past l (i + 1) xs (omega arith))

-- a run written behind another is both written as one
pub paste-append : (l : List ℕ) (i : ℕ) (xs ys : List ℕ) → paste (paste l i xs) (i + length xs) ys ≡ paste l i (xs ++ ys)
unfolding paste
paste-append l i [] ys = ap (λ (k : ℕ). paste l k ys) (omega arith)
paste-append l i (x ∷ xs) ys = ap (λ (k : ℕ). paste (paste (set l i x) (i + 1) xs) k ys) (omega arith) ∙ paste-append (set l i x) (i + 1) xs ys

-- and so is a run written before another that stands there already
set-paste : (l : List ℕ) (i x j : ℕ) (ys : List ℕ) → i < j → set (paste l j ys) i x ≡ paste (set l i x) j ys
unfolding paste
set-paste l i x j [] h = refl
set-paste l i x j (y ∷ ys) h = set-paste (set l j y) i x (j + 1) ys (omega arith) ∙ ap (λ (k : List ℕ). paste k (j + 1) ys) (set_comm l j i y x (omega arith))

pub paste_before : (l : List ℕ) (i : ℕ) (xs ys : List ℕ) → paste (paste l (i + length xs) ys) i xs ≡ paste l i (xs ++ ys)
unfolding paste
paste_before l i [] ys = ap (λ (k : ℕ). paste l k ys) (omega arith)
paste_before l i (x ∷ xs) ys =
    ap (λ (k : List ℕ). paste k (i + 1) xs) (set-paste l i x (i + length (x ∷ xs)) ys (omega arith))
    ∙ ap (λ (k : ℕ). paste (paste (set l i x) k ys) (i + 1) xs) (omega arith)
    ∙ paste_before (set l i x) (i + 1) xs ys

-- a run that fits, as the three parts of the buffer
paste-sets : (l : List ℕ) (i : ℕ) (xs : List ℕ) → paste l i xs ≡ sets l i xs
unfolding paste
paste-sets l i [] = refl
paste-sets l i (x ∷ xs) = paste-sets (set l i x) (i + 1) xs ∙ ap (λ (k : ℕ). sets (set l i x) k xs) (add-one i)

pub paste-fits : (l : List ℕ) (i : ℕ) (xs : List ℕ) → i + length xs ≤ length l → paste l i xs ≡ take i l ++ (xs ++ drop (i + length xs) l)
paste-fits l i xs h = paste-sets l i xs ∙ sets-eq xs l i h ∙ append_assoc (take i l) xs (drop (i + length xs) l)

pub take-paste : (n : ℕ) (l : List ℕ) (i : ℕ) (xs : List ℕ) → n ≤ i → take n (paste l i xs) ≡ take n l
unfolding paste
take-paste n l i [] h = refl
take-paste n l i (x ∷ xs) h = take-paste n (set l i x) (i + 1) xs (omega arith) ∙ take-set-le n l i x h

pub drop-paste : (n : ℕ) (l : List ℕ) (i : ℕ) (xs : List ℕ) → i + length xs ≤ n → drop n (paste l i xs) ≡ drop n l
unfolding paste
drop-paste n l i [] h = refl
drop-paste n l i (x ∷ xs) h = drop-paste n (set l i x) (i + 1) xs (omega arith) ∙ drop-set-lt n l i x (omega arith)

-- what was written stands there, and all else as it was
pub paste_inside : (l : List ℕ) (i : ℕ) (xs : List ℕ) → i + length xs ≤ length l → take (length xs) (drop i (paste l i xs)) ≡ xs
paste_inside l i xs h =
    let at : length (take i l) ≡ i = length-take-le i l (omega arith) in
    rw (paste-fits l i xs h, drop_at (take i l) (xs ++ drop (i + length xs) l) i at) (take_at xs (drop (i + length xs) l) (length xs) refl)

pub get_or-paste : (l : List ℕ) (i : ℕ) (xs : List ℕ) (k : ℕ) → i + length xs ≤ length l → k < length xs → get_or (paste l i xs) (i + k) 0 ≡ get_or xs k 0
get_or-paste l i xs k h g =
    sym (get_or-drop i (paste l i xs) k 0) ∙ sym (get_or-take (length xs) (drop i (paste l i xs)) k 0 g) ∙ ap (λ (s : List ℕ). get_or s k 0) (paste_inside l i xs h)

pub get_or-paste-other : (l : List ℕ) (i : ℕ) (xs : List ℕ) (k : ℕ) → (k < i) ⊎ (i + length xs ≤ k) → get_or (paste l i xs) k 0 ≡ get_or l k 0
unfolding paste
get_or-paste-other l i [] k h = refl
get_or-paste-other l i (x ∷ xs) k h =
    get_or-paste-other (set l i x) (i + 1) xs k (⊎_elim (λ w. inl (omega arith)) (λ w. inr (omega arith)) h)
    ∙ get_or-set_other l i k x 0 (⊎_elim (λ w e. omega arith) (λ w e. omega arith) h)

-- a written number reads back, and one beside what is written stays
pub number-written : (n x : ℕ) (l : List ℕ) (i : ℕ) → x < 256 ^ n → i + n ≤ length l → number_at n (paste l i (bytes_of n x)) i ≡ x
number-written n x l i h g =
    number_agree n (paste l i (bytes_of n x)) (bytes_of n x) i 0
    (λ k b. rw zero-add (get_or-paste l i (bytes_of n x) k (omega (arith, length_bytes_of n x)) (omega (arith, length_bytes_of n x))))
    ∙ number-bytes_of n x h

pub number-kept : (n : ℕ) (l : List ℕ) (i : ℕ) (xs : List ℕ) (j : ℕ) → (j + n ≤ i) ⊎ (i + length xs ≤ j) → number_at n (paste l i xs) j ≡ number_at n l j
number-kept n l i xs j h =
    number_agree n (paste l i xs) l j j (λ k b. get_or-paste-other l i xs (j + k) (⊎_elim (λ w. inl (omega arith)) (λ w. inr (omega arith)) h))

-- ---- writing one run beside another

pub put-size : (l b : List ℕ) (i n : ℕ) (xs : List ℕ) → put l i xs ≡ (n, b) → length xs ≡ n
unfolding put
put-size l b i n xs e = ap (λ (p : ℕ × List ℕ). p.0) e

pub put-made : (l b : List ℕ) (i n : ℕ) (xs : List ℕ) → put l i xs ≡ (n, b) → paste l i xs ≡ b
unfolding put
put-made l b i n xs e = ap (λ (p : ℕ × List ℕ). p.1) e

module _ (l b c : List ℕ) (i n : ℕ) where
  pub put-after : (xs ys : List ℕ) (m : ℕ) → put l i xs ≡ (n, b) → put b (i + n) ys ≡ (m, c) → put l i (xs ++ ys) ≡ (n + m, c)
  unfolding put
  put-after xs ys m e f =
      let en : length xs ≡ n = ap (λ (p : ℕ × List ℕ). p.0) e in
      let eb : paste l i xs ≡ b = ap (λ (p : ℕ × List ℕ). p.1) e in
      let em : length ys ≡ m = ap (λ (p : ℕ × List ℕ). p.0) f in
      let ec : paste b (i + n) ys ≡ c = ap (λ (p : ℕ × List ℕ). p.1) f in
      rw (length-append xs ys, ← paste-append l i xs ys, en, em, eb, ec)

  pub put_before : (xs ys : List ℕ) → put l (i + length xs) ys ≡ (n, b) → c ≡ paste b i xs → put l i (xs ++ ys) ≡ (length xs + n, c)
  unfolding put
  put_before xs ys e f =
      let en : length ys ≡ n = ap (λ (p : ℕ × List ℕ). p.0) e in
      let eb : paste l (i + length xs) ys ≡ b = ap (λ (p : ℕ × List ℕ). p.1) e in
      rw (length-append xs ys, ← paste_before l i xs ys, en, eb, ← f)

  -- a head written last, or first
  pub put-head-last : (next : ℕ) (rest : List ℕ) → put l (i + 4) rest ≡ (n, b) → c ≡ paste b i (head next (4 + n)) → put l i (headed next rest) ≡ (4 + n, c)
  unfolding put headed
  put-head-last next rest e f =
      let en : length rest ≡ n = ap (λ (p : ℕ × List ℕ). p.0) e in
      rw en (put_before (head next (4 + n)) rest (rw (length_head next (4 + n)) e) f ∙ ap (λ (k : ℕ). (k + n, c)) (length_head next (4 + n)))

  pub put-head-first : (next : ℕ) (rest : List ℕ) → b ≡ paste l i (head next (4 + length rest)) → c ≡ paste b (i + 4) rest →
      put l i (headed next rest) ≡ (4 + length rest, c)
  unfolding put headed
  put-head-first next rest e f =
      let four : length (head next (4 + length rest)) ≡ 4 = length_head next (4 + length rest) in
      rw (length-append (head next (4 + length rest)) rest, ← paste-append l i (head next (4 + length rest)) rest, four, ← e, ← f)

  -- and nowhere
  pub put-headed_past : (next : ℕ) (rest : List ℕ) → length l ≤ i → put l i (headed next rest) ≡ (4 + length rest, l)
  unfolding put
  put-headed_past next rest h = rw (length_headed next rest, paste_past l i (headed next rest) h)
