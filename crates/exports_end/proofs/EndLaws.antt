-- Every end encodes to bytes that decode to it again, and a progress that is written over an end's bytes changes its progress alone. A
-- number reads back where it fits its type.
use Prim.Native.Nat.{ℕ, ◌+◌, ◌^◌, ◌<◌}
use mathlib.Core.Path.{◌≡◌, refl, sym, ap, ◌∙◌}
use mathlib.Core.List.{List, [], ◌∷◌, ◌++◌, append_assoc, append-nil}
use native.Mathlib.Omega.{arith}
use lib.ListN.{length, drop, replicate, length-append, length-replicate, drop_of_length-le}
use lib.Seq.{drop_at}
use Rattle.wire_read.specs.Wire.{Bytes, number_at}
use Rattle.wire_write.specs.Put.{bytes_of, paste}
use Rattle.wire_read.proofs.Laws.{number_append, number-append_add}
use Rattle.wire_write.proofs.Laws.{length_bytes_of, number-bytes_of, paste-append, paste_past, paste-fits}
use Rattle.policy_choice.specs.declared.Transforms.{Transforms}
use Rattle.policy_choice.specs.declared.Transforms.TheVariants.{One, Two}
use Rattle.quick_end.specs.declared.Role.{Role}
use Rattle.quick_end.specs.declared.Role.TheVariants.{Initiator, Responder}
use Rattle.quick_end.specs.declared.State.{State}
use Rattle.quick_end.specs.declared.State.TheVariants.{Idle, Sent, Half, Open, GivenUp}
use Rattle.quick_end.specs.declared.Spis.{Spis}
use Rattle.quick_end.specs.declared.Spis.TheVariants.{Alone, Both}
use Rattle.quick_end.specs.declared.Progress.{Progress}
use Rattle.quick_end.specs.declared.End.{End}
use Rattle.exports_end.specs.Ends.{state_number, state_of, role_number, role_of, transforms_values, spis_values, spis_bytes, agreed_bytes, progress_bytes, own_bytes, end_bytes, transforms_of, spis_in, agreed_of, progress_of, own_in, end_of}
use Rattle.exports_end.proofs.Ways.{length_progress, length_own}

-- ---- what fits its type

unfoldable pub HeldSpis : (spis : Spis) → Type 0
HeldSpis (Alone first) = first < 4294967296
HeldSpis (Both first second) = (first < 4294967296) × (second < 4294967296)

pub record HeldProgress (p : Progress) : Type 0 where
  pub id-fits : p.id < 4294967296
  pub sentsize_fits : p.sentsize < 65536
  pub gotsize_fits : p.gotsize < 65536
  pub initiator-fits : HeldSpis p.agreed.initiator
  pub responder-fits : HeldSpis p.agreed.responder

pub record HeldEnd (end : End) : Type 0 where
  pub progress-fits : HeldProgress end.progress
  pub noncesize_fits : end.own.noncesize < 65536
  pub icookie-fits : end.own.icookie < 18446744073709551616
  pub rcookie-fits : end.own.rcookie < 18446744073709551616
  pub ah-fits : end.own.ah < 4294967296
  pub esp-fits : end.own.esp < 4294967296
  pub book-whole : length end.own.book ≡ 82
  pub nonce-whole : length end.own.nonce ≡ 256

-- ---- a part and what lies behind it

state_again : (state : State) → state_of (state_number state) ≡ state
unfolding state_of state_number
state_again Idle = refl
state_again Sent = refl
state_again Half = refl
state_again Open = refl
state_again GivenUp = refl

role_again : (role : Role) → role_of (role_number role) ≡ role
unfolding role_of role_number
role_again Initiator = refl
role_again Responder = refl

transforms_again : (transforms : Transforms) (rest : Bytes) → transforms_of (transforms_values transforms ++ rest) ≡ transforms
unfolding transforms_of transforms_values
transforms_again (One first) rest = refl
transforms_again (Two first second) rest = refl

-- a number, wherever it stands
stands : (n x : ℕ) (before rest : List ℕ) → x < 256 ^ n → number_at n (before ++ (bytes_of n x ++ rest)) (length before + 0) ≡ x
stands n x before rest h =
    number-append_add n before (bytes_of n x ++ rest) 0 ∙ number_append n (bytes_of n x) rest 0 (omega (arith, length_bytes_of n x)) ∙ number-bytes_of n x h

spis_again : (spis : Spis) → HeldSpis spis → (rest : Bytes) → spis_in (spis_bytes spis ++ rest) ≡ spis
unfolding HeldSpis spis_in spis_bytes spis_values bytes_of
spis_again (Alone first) h rest = ap Alone (stands 4 first (1 ∷ []) (bytes_of 4 0 ++ rest) h)
spis_again (Both first second) h rest =
    let one : number_at 4 (spis_bytes (Both first second) ++ rest) 1 ≡ first = stands 4 first (2 ∷ []) (bytes_of 4 second ++ rest) h.0 in
    let two : number_at 4 (spis_bytes (Both first second) ++ rest) 5 ≡ second = stands 4 second (2 ∷ bytes_of 4 first) rest h.1 in
    cc

module _ (set : ℕ) (i r : Spis) (hi : HeldSpis i) (hr : HeldSpis r) (rest : Bytes) where
  agreed_parts : (t : Transforms) → agreed_of (set ∷ transforms_values t ++ spis_bytes i ++ spis_bytes r ++ rest) ≡
      record { set = record { 0 = set }; transforms = t; initiator = i; responder = r }
  unfolding agreed_of transforms_values transforms_of spis_bytes bytes_of
  agreed_parts (One first) = rw (spis_again i hi (spis_bytes r ++ rest), spis_again r hr rest)
  agreed_parts (Two first second) = rw (spis_again i hi (spis_bytes r ++ rest), spis_again r hr rest)

progress-bytes_again : (p : Progress) → HeldProgress p → (rest : Bytes) → progress_of (progress_bytes p ++ rest) ≡ p
unfolding progress_of progress_bytes agreed_bytes bytes_of
progress-bytes_again p h rest =
    let sizes = bytes_of 2 p.sentsize ++ bytes_of 2 p.gotsize in
    let after = agreed_bytes p.agreed ++ rest in
    let id : number_at 4 (progress_bytes p ++ rest) 2 ≡ p.id = stands 4 p.id (state_number p.state ∷ p.sends ∷ []) (sizes ++ after) h.id-fits in
    let sent : number_at 2 (progress_bytes p ++ rest) 6 ≡ p.sentsize =
    stands 2 p.sentsize (state_number p.state ∷ p.sends ∷ bytes_of 4 p.id) (bytes_of 2 p.gotsize ++ after) h.sentsize_fits in
    let got : number_at 2 (progress_bytes p ++ rest) 8 ≡ p.gotsize =
    stands 2 p.gotsize (state_number p.state ∷ p.sends ∷ bytes_of 4 p.id ++ bytes_of 2 p.sentsize) after h.gotsize_fits in
    let agreed = agreed_parts p.agreed.set.0 p.agreed.initiator p.agreed.responder h.initiator-fits h.responder-fits rest p.agreed.transforms in
    rw (state_again p.state, id, sent, got, agreed)

-- ---- what an end is given once

-- bytes written over as many others
paste-whole : (l xs : List ℕ) → length l ≡ length xs → paste l 0 xs ≡ xs
paste-whole l xs e =
    let none : drop (0 + length xs) l ≡ [] = drop_of_length-le l {i = 0 + length xs} (omega arith) in
    paste-fits l 0 xs (omega arith) ∙ rw none (append-nil xs)

-- an array filled from its start with bytes that begin with it
filled : (n : ℕ) (xs ys : List ℕ) → length xs ≡ n → paste (replicate n 0) 0 (xs ++ ys) ≡ xs
filled n xs ys e =
    let long : length {A = ℕ} (replicate n 0) ≡ length xs = length-replicate {A = ℕ} n 0 ∙ sym e in
    let whole : paste (replicate n 0) 0 xs ≡ xs = paste-whole (replicate n 0) xs long in
    sym (paste-append (replicate n 0) 0 xs ys) ∙ rw whole (paste_past xs (0 + length xs) ys (omega arith))

own-bytes_again : (end : End) → HeldEnd end → (rest : Bytes) → own_in (own_bytes end.own ++ rest) ≡ end.own
unfolding own_in own_bytes bytes_of
own-bytes_again end h rest =
    let own = end.own in
    let first : List ℕ = role_number own.role ∷ own.booksize ∷ [] in
    let arrays : List ℕ = own.book ++ own.nonce ++ rest in
    let spis : List ℕ = bytes_of 4 own.ah ++ bytes_of 4 own.esp in
    let size : number_at 2 (own_bytes own ++ rest) 2 ≡ own.noncesize =
    stands 2 own.noncesize first (bytes_of 8 own.icookie ++ bytes_of 8 own.rcookie ++ spis ++ arrays) h.noncesize_fits in
    let icookie : number_at 8 (own_bytes own ++ rest) 4 ≡ own.icookie =
    stands 8 own.icookie (first ++ bytes_of 2 own.noncesize) (bytes_of 8 own.rcookie ++ spis ++ arrays) h.icookie-fits in
    let rcookie : number_at 8 (own_bytes own ++ rest) 12 ≡ own.rcookie =
    stands 8 own.rcookie (first ++ bytes_of 2 own.noncesize ++ bytes_of 8 own.icookie) (spis ++ arrays) h.rcookie-fits in
    let before : List ℕ = first ++ bytes_of 2 own.noncesize ++ bytes_of 8 own.icookie ++ bytes_of 8 own.rcookie in
    let ah : number_at 4 (own_bytes own ++ rest) 20 ≡ own.ah = stands 4 own.ah before (bytes_of 4 own.esp ++ arrays) h.ah-fits in
    let esp : number_at 4 (own_bytes own ++ rest) 24 ≡ own.esp = stands 4 own.esp (before ++ bytes_of 4 own.ah) arrays h.esp-fits in
    let book : paste (replicate 82 0) 0 arrays ≡ own.book =
    rw (append_assoc own.book own.nonce rest) (filled 82 own.book (own.nonce ++ rest) h.book-whole) in
    let behind : drop 82 arrays ≡ own.nonce ++ rest =
    rw (append_assoc own.book own.nonce rest) (drop_at own.book (own.nonce ++ rest) 82 h.book-whole) in
    let nonce : paste (replicate 256 0) 0 (drop 82 arrays) ≡ own.nonce = rw behind (filled 256 own.nonce rest h.nonce-whole) in
    rw (role_again own.role, size, icookie, rcookie, ah, esp, book, nonce)

-- ---- the end

length_end : (end : End) → HeldEnd end → length (end_bytes end) ≡ 398
unfolding end_bytes
length_end end h = length-append (progress_bytes end.progress) (own_bytes end.own) ∙ omega (arith, length_progress end.progress, length_own end.own h.book-whole h.nonce-whole)

pub end_again : (end : End) → HeldEnd end → (s : Bytes) → length s ≡ 398 → end_of (paste s 0 (end_bytes end)) ≡ end
unfolding end_of end_bytes
end_again end h s long =
    let p = progress_bytes end.progress in
    let o = own_bytes end.own in
    let whole : paste s 0 (p ++ o) ≡ p ++ o = paste-whole s (p ++ o) (long ∙ sym (length_end end h)) in
    let own : own_in o ≡ end.own = ap own_in (sym (append-nil o)) ∙ own-bytes_again end h [] in
    rw (whole, drop_at p o 32 (length_progress end.progress), own, progress-bytes_again end.progress h.progress-fits o)

pub progress_again : (p : Progress) → HeldProgress p → (s : Bytes) → length s ≡ 398 →
    end_of (paste s 0 (progress_bytes p)) ≡ record { own = (end_of s).own; progress = p }
unfolding end_of
progress_again p h s long =
    let size : 0 + length (progress_bytes p) ≡ 32 = omega (arith, length_progress p) in
    let over : paste s 0 (progress_bytes p) ≡ progress_bytes p ++ drop 32 s =
    paste-fits s 0 (progress_bytes p) (omega arith) ∙ ap (λ (n : ℕ). progress_bytes p ++ drop n s) size in
    rw (over, drop_at (progress_bytes p) (drop 32 s) 32 (length_progress p), progress-bytes_again p h (drop 32 s))
